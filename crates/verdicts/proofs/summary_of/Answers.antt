-- `verdicts::summary_of` meets its contract.
use mathlib.Core.Path.{◌∙◌}
use Rattle.verdicts.proofs.Laws.{summary_made}
use Rattle.verdicts.proofs.summary_of.Goals as goal

pub returns : goal.returns
returns c =
    summary_made _ _ _ _ c.group_codes-codes.ensures (c.byte.ensures ∙ c.verdict_of-verdict.ensures) c.included_sets.ensures (rw (← c.byte.ensures) at c.allowed_sets.ensures)
