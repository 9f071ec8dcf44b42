-- Where the parts of an interchange lie, as offsets.
use Rattle.std.specs.Prelude.{ℕ, zero, suc, ◌+◌, Bool, ◌&&◌, List, [], ◌∷◌, ltb, leb, length, drop, if◌then◌else◌, Option, None, Some, is_some, unwrap_or}
use Rattle.rules.specs.Base.{Bytes, ascii, member}
use Rattle.rules.specs.Cutting.{Segment, is_named, pieces, split, segments}
use Rattle.rules.specs.Groups.{Group, is_ge}
use Rattle.rules.specs.Refusals.{is_envelope}
use Rattle.rules.specs.declared.Delimiters.{Delimiters}
use Rattle.text.specs.Text.{index_of, part}
use Rattle.envelope.specs.declared.GroupAt.{GroupAt}
use Rattle.envelope.specs.declared.GroupsEnd.{GroupsEnd}
use Rattle.envelope.specs.declared.Envelope.{Envelope}

-- where the segment that starts at an offset ends
abbrev pub end_of : Delimiters → Bytes → ℕ → ℕ
end_of d i at = at + index_of d.terminator (drop at i)

-- the segment that starts at an offset
unfoldable pub segment_at : Delimiters → Bytes → ℕ → Segment
segment_at d i at = split d.element (part i at (end_of d i at))

abbrev pub is_envelope_name : Bytes → Bool
is_envelope_name id = member id (ascii "ISA" ∷ ascii "GS" ∷ ascii "GE" ∷ ascii "IEA" ∷ [])

-- how many bytes the pieces before the first of the envelope take, with their terminators
unfoldable pub until_envelope : ℕ → List Bytes → ℕ
until_envelope e [] = 0
until_envelope e (p ∷ ps) = let r = until_envelope e ps in if is_envelope (split e p) then 0 else length p + 1 + r

-- where GE ends, if it stands at an offset
unfoldable pub trailer_at : Delimiters → Bytes → ℕ → Option ℕ
trailer_at d i at = if is_ge (segment_at d i at) then Some (end_of d i at) else None

-- where what follows a body is due that ends at an offset, with GE or nothing there
abbrev pub after_trailer : ℕ → Option ℕ → ℕ
after_trailer at None = at
after_trailer at (Some end) = end + 1

-- where the segment after the one at an offset starts; past the end there is none, and the offset stays
abbrev pub start_after : Delimiters → Bytes → ℕ → ℕ
start_after d i at = if ltb at (length i) then end_of d i at + 1 else at

-- the group whose GS starts at an offset and whose body ends at another, with GE or nothing there
unfoldable pub group_ending : Delimiters → Bytes → ℕ → ℕ → GroupAt
group_ending d i at ends =
    let ge = trailer_at d i ends in
    record {
      gs = at;
      gs_end = end_of d i at;
      body = start_after d i at;
      body_end = ends;
      ge_end = unwrap_or ge ends;
      closed = is_some ge;
      next = after_trailer ends ge;
    }

-- where the body that starts at an offset ends: at the first segment of the envelope
abbrev pub body_end : Delimiters → Bytes → ℕ → ℕ
body_end d i body = body + until_envelope d.element (pieces d.terminator (drop body i))

-- the group whose GS starts at an offset
unfoldable pub group_starting : Delimiters → Bytes → ℕ → GroupAt
group_starting d i at = group_ending d i at (body_end d i (start_after d i at))

-- the group at an offset, where GS stands there
unfoldable pub next_group : Delimiters → Bytes → ℕ → Option GroupAt
next_group d i at = if is_named (ascii "GS") (segment_at d i at) then Some (group_starting d i at) else None

-- the group after another, which has to have its GE
abbrev pub group_after : Delimiters → Bytes → GroupAt → Option GroupAt
group_after d i g = if g.closed then next_group d i g.next else None

-- so many groups, and IEA is due at an offset
abbrev pub ended_at : ℕ → ℕ → Option GroupsEnd
ended_at n at = Some (record { groups = n; iea = at })

-- Where the groups from a step on end, which is at an offset: their number, and where IEA is due. As many as limit may come; n came before.
unfoldable pub groups_end : ℕ → Delimiters → Bytes → ℕ → ℕ → Option GroupAt → Option GroupsEnd
groups_end zero d i n at None = ended_at n at
groups_end zero d i n at (Some g) = None
groups_end (suc limit) d i n at None = ended_at n at
groups_end (suc limit) d i n at (Some g) = groups_end limit d i (n + 1) g.next (group_after d i g)

-- the envelope with this first group and this number of groups, where IEA stands at an offset and nothing follows it
unfoldable pub envelope_ending : Delimiters → Bytes → GroupAt → ℕ → ℕ → Option Envelope
envelope_ending d i first groups iea =
    if is_named (ascii "IEA") (segment_at d i iea) && leb (length i) (end_of d i iea + 1)
    then Some (record { first = first; groups = groups; iea = iea; iea_end = end_of d i iea })
    else None

abbrev pub envelope_to : Delimiters → Bytes → GroupAt → Option GroupsEnd → Option Envelope
envelope_to d i first (Some e) = envelope_ending d i first e.groups e.iea
envelope_to d i first None = None

abbrev pub envelope_from : ℕ → Delimiters → Bytes → Option GroupAt → Option Envelope
envelope_from limit d i None = None
envelope_from limit d i (Some first) = envelope_to d i first (groups_end limit d i 0 first.gs (Some first))

-- the groups start at the second segment: 1 to limit of them one after the other, then IEA, and nothing after it
unfoldable pub envelope_of : ℕ → Delimiters → Bytes → Option Envelope
envelope_of limit d i = envelope_from limit d i (next_group d i (end_of d i 0 + 1))

-- the GE between two offsets, where the group has one
abbrev pub trailer_in : Delimiters → Bytes → ℕ → ℕ → Bool → Option Segment
trailer_in d i at end closed = if closed then Some (split d.element (part i at end)) else None

-- the group at a place
abbrev pub group_at : Delimiters → Bytes → GroupAt → Group
group_at d i g = record {
  header = split d.element (part i g.gs g.gs_end);
  body = segments d (part i g.body g.body_end);
  trailer = trailer_in d i g.body_end g.ge_end g.closed;
}
