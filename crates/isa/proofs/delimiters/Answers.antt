-- `isa::delimiters` meets its contract.
use Rattle.rules.specs.Cutting.{delimiters}
use Rattle.isa.proofs.delimiters.Goals as goal

pub returns : goal.returns
unfolding delimiters
returns c =
    rw (
      ← c.byte_at.ensures,
      ← c.byte_at-2.ensures,
      ← c.byte_at-3.ensures,
      ← c.repetition.ensures,
    )
    c.new.ensures
