-- `verdicts::field_at` meets its contract.
use Rattle.verdicts.proofs.field_at.Goals as goal

pub returns : goal.returns
returns c = rw (← c.find_near.ensures) c.part.ensures
