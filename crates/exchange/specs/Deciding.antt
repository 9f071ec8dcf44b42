-- How much of an input decides what is printed for it.
use Rattle.std.specs.Prelude.{ℕ, ◌+◌}

-- the longest first line, its LF, and an interchange that is too long by one byte
abbrev pub deciding : ℕ
deciding = 23 + 1 + 65537
