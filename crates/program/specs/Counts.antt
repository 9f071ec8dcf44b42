-- How many bytes were read.
use Rattle.std.specs.Prelude.{ℕ, List, ◌≤◌, ◌≡◌, length, take}

-- so many bytes at the start of a buffer: `&xs[..n]` lies within it, and has n bytes
abbrev pub IsPrefixLen : ℕ → List ℕ → Type 0
IsPrefixLen n xs = (n ≤ length xs) × (n ≡ length (take n xs))
