-- What the first line of an input calls for.
use Rattle.std.specs.Prelude.{◌+◌, length, if◌then◌else◌, Option, None, Some}
use Rattle.rules.specs.Base.{Bytes}
use Rattle.rules.specs.Program.{Input, parted, is_call, call_on}
use Rattle.exchange.specs.declared.first_line.FirstLine.{FirstLine}

-- the numbers on a line, and the place after its LF
abbrev pub line_on : Bytes → Option FirstLine
line_on l = if is_call l then Some (record { call = call_on l; interchange = length l + 1 }) else None

abbrev pub line_for : Option Input → Option FirstLine
line_for None = None
line_for (Some i) = line_on i.line

unfoldable pub line_in : Bytes → Option FirstLine
line_in input = line_for (parted input)
