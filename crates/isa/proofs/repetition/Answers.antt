-- `isa::repetition` meets its contract.
use Rattle.std.proofs.Common.{sym, ◌∙◌}
use borrow.Author.Tests.{eq-eqb, ne_eqb}
use Rattle.rules.specs.Cutting.{repetition_in}
use Rattle.text.proofs.Loops.{and_false}
use Rattle.isa.proofs.repetition.Goals as goal
use Rattle.isa.proofs.repetition.Goals.{else-isa11-ne85-via-else-isa11-ne85, else-isa11-ne85-via-then-isa11-ne85+else-knows_repetition}

pub returns-then-knows_repetition : goal.returns-then-knows_repetition
unfolding repetition_in
returns-then-knows_repetition c =
    rw (
      ← c.isa_field.ensures,
      sym c.knows_repetition.ensures ∙ c.if-knows_repetition.true,
      ← c.byte_at-isa11.ensures,
      ne_eqb _ 85 c.if-isa11-ne85.true,
    )

pub returns-else-isa11-ne85 : goal.returns-else-isa11-ne85
unfolding repetition_in
returns-else-isa11-ne85 c =
    elim c.else-isa11-ne85.branch [
      | else-isa11-ne85-via-then-isa11-ne85+else-knows_repetition w ↦ rw (← w.isa_field.ensures, sym w.knows_repetition.ensures ∙ w.if-knows_repetition.false)
      | else-isa11-ne85-via-else-isa11-ne85 w ↦ rw (← c.byte_at-isa11.ensures, eq-eqb _ 85 w.if-isa11-ne85.false, and_false _)
    ]
