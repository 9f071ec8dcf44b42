-- Syntax notes: whether one is broken at a place, by an element that it asks for or by one that it shuts out.
use Rattle.std.specs.Prelude.{ℕ, Bool, true, false, List, if◌then◌else◌}
use Rattle.rules.specs.Base.{any}
use Rattle.rules.specs.Cutting.{Segment}
use Rattle.rules.specs.Elements.{lacking, excluded}
use Rattle.rules.specs.Tables.{Syntax}
use Rattle.rules.specs.declared.Relation.{Relation}
use Rattle.rules.specs.declared.Relation.TheVariants.{P, R, E, C, L}

-- only E shuts out what is present, and the others ask for what is absent
abbrev pub is_e : Relation → Bool
is_e E = true
is_e P = false
is_e R = false
is_e C = false
is_e L = false

-- the note is broken at place n: it shuts out what is present, or asks for what is absent
abbrev pub breaks : Bool → Segment → ℕ → Syntax → Bool
breaks true s n c = excluded s c.relation c.places n
breaks false s n c = lacking s c.relation c.places n

-- the code that the notes give place n, which is present or absent; 0 for none
abbrev pub note_code_by : Bool → List Syntax → Segment → ℕ → ℕ
note_code_by present notes s n = if any (breaks present s n) notes then (if present then 10 else 2) else 0
