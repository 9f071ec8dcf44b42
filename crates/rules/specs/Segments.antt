-- "Notes on segments (AK3)": the walk of a set through its table.
use Rattle.std.specs.Prelude.{ℕ, ◌+◌, Bool, ◌&&◌, not, List, [], ◌∷◌, ◌++◌, map, ltb, eqb, length, get_or, if◌then◌else◌, Option, None, Some}
use Rattle.std.proofs.Math.Seq.{slice}
use Rattle.rules.specs.Base.{Bytes, ◌⇒◌, every, null, all, between, is_upper_or_digit, ascii, same, member, keep}
use Rattle.rules.specs.Cutting.{Segment, field}
use Rattle.rules.specs.Tables.{Entry, Table, entry, O}
use Rattle.rules.specs.Elements.{Finding, findings}
use Rattle.rules.specs.declared.Delimiters.{Delimiters}

-- one AK3 with the AK4 under it
pub record Note : Type 0 where
  pub id : Bytes
  pub position : ℕ
  pub codes : List ℕ
  pub findings : List Finding

-- where in its table a set has come to: the index of the present entry, and how often that has been used
pub record Present : Type 0 where
  pub index : ℕ
  pub used : ℕ

-- how a segment stands to the table and the present entry
pub data Standing : Type 0 where
  -- not in the directory; in it, but not in the table
  unknown unlisted : Standing
  -- its entry, by the index, is before the present one; is the present one; is later
  before again later : ℕ → Standing

-- what stands past the last entry
abbrev pub no_entry : Entry
no_entry = entry [] O 0 [] []

-- the entry at an index
abbrev pub entry_at : Table → ℕ → Entry
entry_at t k = get_or t.entries k no_entry

-- the index of the entry with this id, where there is one; the first of the list has index k
unfoldable pub index_from : ℕ → Bytes → List Entry → Option ℕ
index_from k id [] = None
index_from k id (e ∷ es) = let r = index_from (k + 1) id es in if same e.id id then Some k else r

-- the index against that of the present entry
abbrev pub compared : ℕ → Option ℕ → Standing
compared present None = unlisted
compared present (Some k) = if ltb k present then before k else (if eqb k present then again k else later k)

-- how a segment with this id stands
unfoldable pub standing : Table → Present → Bytes → Standing
standing t p id = if member id t.directory then compared p.index (index_from 0 id t.entries) else unknown

-- the code of the standing itself, 0 for none
abbrev pub own_code : Table → Present → Standing → ℕ
own_code t p unknown = 1
own_code t p unlisted = 6
own_code t p (before k) = 7
own_code t p (again k) = if ltb (entry_at t k).most (p.used + 1) then 5 else 0
own_code t p (later k) = 0

-- the present entry after a segment: it stays, has one use more, or is the segment's own, used once
abbrev pub moved : Present → Standing → Present
moved p unknown = p
moved p unlisted = p
moved p (before k) = p
moved p (again k) = record { index = k; used = p.used + 1 }
moved p (later k) = record { index = k; used = 1 }

-- the entries that a segment passes over: those between the present one and its own
abbrev pub skipped : Table → Present → Standing → List Entry
skipped t p unknown = []
skipped t p unlisted = []
skipped t p (before k) = []
skipped t p (again k) = []
skipped t p (later k) = slice (p.index + 1) k t.entries

-- what is found in the elements, by the segment's entry; nothing where it has none
abbrev pub findings_by : Delimiters → Table → Standing → Segment → List Finding
findings_by d t unknown s = []
findings_by d t unlisted s = []
findings_by d t (before k) s = findings d (entry_at t k) s
findings_by d t (again k) s = findings d (entry_at t k) s
findings_by d t (later k) s = findings d (entry_at t k) s

-- one AK3 at position n for each mandatory entry passed over
unfoldable pub missing : ℕ → List Entry → List Note
missing n es =
    map (λ e. record { id = e.id; position = n; codes = 3 ∷ []; findings = [] }) (keep (λ e. e.mandatory) es)

-- an id as it is echoed: two or three uppercase letters or digits, else ZZZ
unfoldable pub echoed : Bytes → Bytes
echoed id = if between 2 3 (length id) && all is_upper_or_digit id then id else ascii "ZZZ"

-- an AK3 where there are codes
abbrev pub noted : Bytes → ℕ → List ℕ → List Finding → List Note
noted id n [] fs = []
noted id n (c ∷ cs) fs = record { id = id; position = n; codes = c ∷ cs; findings = fs } ∷ []

-- the AK3 of a segment at position n with its own code c and its findings, which add code 8
unfoldable pub segment_note : ℕ → ℕ → Bytes → List Finding → List Note
segment_note n c id fs = noted (echoed id) n (every ((not (eqb c 0) ⇒ c) ∷ (not (null fs) ⇒ 8) ∷ [])) fs

-- the AK3 of the segments from position n on; after the last, where the trailer is missing, those of the step for SE, but none for SE itself
unfoldable pub walk : Delimiters → Table → Bool → Present → ℕ → List Segment → List Note
walk d t closed p n [] = if closed then [] else missing n (skipped t p (standing t p (ascii "SE")))
walk d t closed p n (s ∷ ss) =
    let st = standing t p (field s 0) in
    missing n (skipped t p st)
    ++ segment_note n (own_code t p st) (field s 0) (findings_by d t st s)
    ++ walk d t closed (moved p st) (n + 1) ss

-- all AK3 of a set: the header, at position 1, is the first use of the first entry, ST; the walk goes on from there with those after it
unfoldable pub notes_of : Delimiters → Table → Bool → Segment → List Segment → List Note
notes_of d t closed header after =
    segment_note 1 0 (field header 0) (findings d (entry_at t 0) header)
    ++ walk d t closed (record { index = 0; used = 1 }) 2 after
