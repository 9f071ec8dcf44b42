-- What the writers of the response promise.
use Rattle.std.specs.Prelude.{ℕ, ◌≡◌, List, [], ◌∷◌, length}
use Rattle.rules.specs.Base.{Bytes, ascii}
use Rattle.rules.specs.Cutting.{Segment, field, isa}
use Rattle.rules.specs.Numbers.{padded}
use Rattle.rules.specs.Response.{out, isa_out, gs_out, st_out, se_out, ge_out, iea_out}
use Rattle.rules.specs.declared.Call.{Call}
use Rattle.rules.specs.declared.Delimiters.{Delimiters}
use Rattle.verdicts.specs.Verdicts.{summary_out}
use Rattle.verdicts.specs.declared.Summary.{Summary}
use Rattle.writing.specs.Over.{sat, From}
use Rattle.notes.specs.Saying.{Tells}
use Rattle.notes.specs.declared.Told.{Told}

-- The segments ss were written after n bytes of o, which leaves o': r has the length so far and their number.
pub record TellsFrom (n : ℕ) (d : Delimiters) (ss : List Segment) (r : Told) (o o' : Bytes) : Type 0 where
  pub text : From n (out d ss) r.length o o'
  pub number : r.segments ≡ sat (length ss)

-- These segments come to r, their length and their number.
abbrev pub Measures : Delimiters → List Segment → Told → Type 0
Measures d ss r = Tells d ss r [] []

-- ISA and GS of the response: what comes before the 997s
unfoldable pub opening : Delimiters → Bytes → Segment → Call → List Segment
opening d i gs call = isa_out d (isa i) call ∷ gs_out gs call ∷ []

-- GE and IEA: what comes after them, by the number of groups
unfoldable pub closing : ℕ → ℕ → List Segment
closing groups control = ge_out groups control ∷ iea_out 1 control ∷ []

-- ST and AK1 of the 997 with this number, by GS of its group: what comes before the blocks of the sets
unfoldable pub beginning : Segment → ℕ → List Segment
beginning gs n = st_out (padded 4 n) ∷ (ascii "AK1" ∷ field gs 1 ∷ field gs 6 ∷ []) ∷ []

-- AK9 and SE: what comes after them, by the summary of the group and SE01
unfoldable pub ending : Summary → ℕ → ℕ → List Segment
ending summary count n = summary_out summary ∷ se_out count (padded 4 n) ∷ []
