-- The text of a number that may be left out.
use Rattle.std.specs.Prelude.{ℕ, [], eqb, if◌then◌else◌}
use Rattle.rules.specs.Base.{Bytes}
use Rattle.rules.specs.Numbers.{decimal}

-- nothing for 0
abbrev pub optional : ℕ → Bytes
optional n = if eqb n 0 then [] else decimal n
