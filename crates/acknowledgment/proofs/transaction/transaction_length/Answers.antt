-- `acknowledgment::transaction::transaction_length` meets its contract: the lengths of its parts.
use Rattle.acknowledgment.proofs.Transactions.{length_made}
use Rattle.acknowledgment.proofs.transaction.transaction_length.Goals as goal

pub returns : goal.returns
returns c =
    λ ss m.
    length_made _ _ ss _ c.add_beginning-n.ensures.count m.text.count c.saturating_add-n.ensures c.add_ending.ensures.count
