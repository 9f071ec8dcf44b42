-- The notes of a set, one event after the other.
use Rattle.std.specs.Prelude.{ℕ, List, [], ◌∷◌, ◌++◌, map}
use Rattle.rules.specs.Base.{Bytes, ascii}
use Rattle.rules.specs.Cutting.{Segment}
use Rattle.rules.specs.Numbers.{decimal}
use Rattle.rules.specs.Elements.{Finding}
use Rattle.rules.specs.Segments.{Note}
use Rattle.rules.specs.Response.{ak4}

-- an AK3 by its id, position and codes, or an AK4
pub data Event : Type 0 where
  Line : Bytes → ℕ → List ℕ → Event
  Element : Finding → Event

-- each note, and then its findings
unfoldable pub flat : List Note → List Event
flat [] = []
flat (n ∷ ns) = Line n.id n.position n.codes ∷ (map Element n.findings ++ flat ns)

-- the segment that an event is written as
abbrev pub written : Event → Segment
written (Line id position codes) = ascii "AK3" ∷ id ∷ decimal position ∷ [] ∷ map decimal codes
written (Element f) = ak4 f
