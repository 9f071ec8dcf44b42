-- Which places of a segment are present, as bits, and whether a syntax note is broken anywhere by what is present.
use Rattle.std.specs.Prelude.{ℕ, ◌+◌, ◌*◌, ◌/◌, ◌%◌, ◌^◌, Bool, false, not, ◌&&◌, List, [], ◌∷◌, length, drop, ◌==◌, nat_lt, slice_index, if◌then◌else◌}
use Rattle.rules.specs.Base.{any, all}
use Rattle.rules.specs.Tables.{Syntax}
use Rattle.rules.specs.declared.Relation.{Relation}
use Rattle.rules.specs.declared.Relation.TheVariants.{P, R, E, C, L}
use Rattle.elements.specs.declared.Marks.{Marks}

-- no place so far: the next is place 1
abbrev pub no_marks : Marks
no_marks = record { bits = 0; next = 2 }

-- one place more, which is present or absent
unfoldable pub marked_with : Marks → Bool → Marks
marked_with m present = record {
  bits = if present then (m.bits + m.next) % 2 ^ 64 else m.bits;
  next = m.next % 9223372036854775808 * 2;
}

-- place n is present, by its bit
unfoldable pub marked : Marks → ℕ → Bool
marked m n = m.bits / 2 ^ (n % 64) % 2 == 1

module _ (has : ℕ → Bool) where
  -- two of the places are present
  unfoldable pub two : List ℕ → Bool
  two [] = false
  two (p ∷ ps) = let later = two ps in if has p then any has ps else later

  -- the relation between the places is broken
  abbrev pub broken_by : Relation → List ℕ → Bool
  broken_by P ps = any has ps && not (all has ps)
  broken_by R ps = nat_lt 0 (length ps) && not (any has ps)
  broken_by E ps = two ps
  broken_by C ps = has (slice_index ps 0) && not (all has ps)
  broken_by L ps = nat_lt 1 (length ps) && (has (slice_index ps 0) && not (any has (drop 1 ps)))

  abbrev pub breaks_note : Syntax → Bool
  breaks_note c = broken_by c.relation c.places
