-- Control numbers in buckets. The sets of a bucket are a tree: from each set four links lead to sets after it, and the next two bits of the number that is looked for tell which to take.
-- The sets of a group are numbered from first on, and starts has their places.
use Rattle.std.specs.Prelude.{ℕ, zero, suc, ◌+◌, ◌*◌, ◌/◌, ◌%◌, ◌^◌, ◌-◌, Bool, true, false, Option, None, Some, List, [], ◌∷◌, leb, get_or, set}
use Rattle.rules.specs.Base.{Bytes, same}
use Rattle.rules.specs.declared.Delimiters.{Delimiters}
use Rattle.sets.specs.Places.{control_at}

-- the bucket of a control number, one of 1024
unfoldable pub bucket_from : ℕ → Bytes → ℕ
bucket_from n [] = n
bucket_from n (b ∷ bs) = bucket_from ((n * 10 + b) % 1024) bs

abbrev pub bucket_of : Bytes → ℕ
bucket_of = bucket_from 0

-- pair i of a control number's bits, from the lowest of its first byte on; 0 past the end
unfoldable pub bits_at : Bytes → ℕ → ℕ
bits_at c i = get_or c (i / 4) 0 / 2 ^ (2 * (i % 4)) % 4

-- the place of the link from set k that the bits b take, after those of the buckets
abbrev pub slot_of : ℕ → ℕ → ℕ
slot_of k b = 1024 + 4 * k + b

-- what is found at a slot, by whether its link leads nowhere and whether the set that it leads to has the number; r is what is found from there on.
-- It is the slot of the link to enter the number by, None where a set has it.
abbrev pub found_at : Bool → Bool → ℕ → Option ℕ → Option ℕ
found_at true q slot r = Some slot
found_at false true slot r = None
found_at false false slot r = r

-- What is found from a slot on by pairs i and up. A link is one past the set that it leads to; it leads nowhere where that is no set after the last one, so the search ends whatever the links are.
unfoldable pub walk : ℕ → Delimiters → Bytes → ℕ → List ℕ → List ℕ → Bytes → ℕ → ℕ → ℕ → Option ℕ
walk zero d body first starts links c slot last i = Some slot
walk (suc f) d body first starts links c slot last i =
    let link = get_or links slot 0 in
    let r = walk f d body first starts links c (slot_of (link - 1) (bits_at c i)) link (i + 1) in
    found_at (leb link last) (same c (control_at d body (get_or starts (link - 1 - first) 0))) slot r

-- what is found from the bucket of a control number on, where a link to a set before the first leads nowhere; that many steps are enough, since a link has 16 bits
unfoldable pub search : Delimiters → Bytes → ℕ → List ℕ → List ℕ → Bytes → Option ℕ
search d body first starts links c = walk 65536 d body first starts links c (bucket_of c) first 0

-- the links after set n was looked for, and entered where its number is new
abbrev pub linked_by : Option ℕ → ℕ → List ℕ → List ℕ
linked_by None n links = links
linked_by (Some slot) n links = set links slot (n + 1)
