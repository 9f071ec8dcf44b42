-- What a writer of segments promises: their text, and how many they are.
use Rattle.std.specs.Prelude.{◌≡◌, List, ◌+◌, length}
use Rattle.rules.specs.Base.{Bytes}
use Rattle.rules.specs.Cutting.{Segment}
use Rattle.rules.specs.Response.{out}
use Rattle.rules.specs.declared.Delimiters.{Delimiters}
use Rattle.writing.specs.Over.{sat, Wrote, From}
use Rattle.notes.specs.declared.Told.{Told}

-- The segments ss were written after what t has: their text after its text, which leaves o as o'; r has the length and the number of all.
pub record Adds (d : Delimiters) (ss : List Segment) (t r : Told) (o o' : Bytes) : Type 0 where
  pub text : From t.length (out d ss) r.length o o'
  pub number : r.segments ≡ sat (t.segments + length ss)

-- The segments ss were written: their text over the start of o, which leaves o'; r has its length and their number.
pub record Tells (d : Delimiters) (ss : List Segment) (r : Told) (o o' : Bytes) : Type 0 where
  pub text : Wrote (out d ss) r.length o o'
  pub number : r.segments ≡ sat (length ss)
