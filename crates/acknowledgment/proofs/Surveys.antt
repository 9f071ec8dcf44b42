-- The look at the sets of a group, set by set.
use Rattle.std.specs.Prelude.{if◌then◌else◌, Option, Some, is_none}
use mathlib.Core.Path.{◌≡◌, refl, sym, ap, ◌∙◌}
use mathlib.Core.Bool.{Bool, true, false}
use mathlib.Core.List.{List, [], ◌∷◌, ◌++◌}
use Prim.Native.Nat.{ℕ, suc, ◌+◌, ◌-◌, ◌<◌, ◌≤◌}
use native.Mathlib.Numerals.{add-one}
use native.Mathlib.Omega.{arith}
use borrow.Author.Count.{below_none, below_more}
use lib.ListN.{length, take, drop, get_or, set, length-set}
use lib.Seq.{take-suc-set, take-set-le, get_or-set_same, get_or-set_other}
use Rattle.rules.specs.Base.{Bytes, member, keep}
use Rattle.rules.specs.Cutting.{segments}
use Rattle.rules.specs.Tables.{Table}
use Rattle.rules.specs.Sets.{Set, SetReport, sets_of, outside, control_of, accepted}
use Rattle.rules.specs.Groups.{accepted_in}
use Rattle.rules.specs.Refusals.{good_st}
use Rattle.rules.specs.Response.{block}
use Rattle.rules.specs.declared.Delimiters.{Delimiters}
use Rattle.rules.proofs.Lengths.{either}
use Rattle.rules.proofs.Logic.{all_head, all_tail}
use Rattle.rules.proofs.Facts.{reports_count}
use Rattle.text.specs.Text.{index_of}
use Rattle.tables.specs.Reading.{Guide}
use Rattle.guides.specs.declared.Scope.{Scope}
use Rattle.segments.proofs.Pieces.{segments_at, segments_none}
use Rattle.sets.specs.Places.{set_at, control_at, controls_at}
use Rattle.sets.specs.declared.SetAt.{SetAt}
use Rattle.sets.proofs.Sets.{SetIs, set_next, clean_starts}
use Rattle.sets.proofs.Refused.{good}
use Rattle.register.specs.Trees.{slot_of, search, linked_by}
use Rattle.register.proofs.Entered.{Linked, Entered, entered_none, entered_finds, entered_inside, entered_next}
use Rattle.writing.specs.Over.{sat}
use Rattle.notes.specs.declared.Told.{Told}
use Rattle.acknowledgment.specs.Writers.{Measures}
use Rattle.acknowledgment.specs.declared.set_block.Mark.{Mark}
use Rattle.acknowledgment.specs.declared.set_block.Mark.TheVariants.{Accepted}
use Rattle.acknowledgment.specs.Surveys.{Room, EnteredNext, set_here, report_at, reports, remaining, is_accepted, MarkIs, Marked, Headed, Seen, acceptances, Surveyed, Open, Cleared}
use Rattle.acknowledgment.proofs.Reports.{remaining_all, remaining_none, remaining_next, drop_next, mark_accepts}
use Rattle.acknowledgment.proofs.Turns.{Sofar, sofar_end, sofar_measured, seen_next}

-- 1. A set is entered.
module _ {d : Delimiters} {body : Bytes} {first : ℕ} {starts links : List ℕ} {k at : ℕ} {control : Bytes} {r : Option ℕ}
    (e : Entered d body first starts links k) (room : Room first starts links k at)
    (p : control ≡ control_at d body at) (q : r ≡ search d body first (set starts k at) links control) where
  searched : r ≡ search d body first (set starts k at) links (control_at d body at)
  searched = rw (← p) q

  pub slot_inside : {slot : ℕ} → r ≡ Some slot → slot < length links
  slot_inside = entered_inside e (omega (arith, room.number)) room.start room.link at r searched

  pub entered_so : EnteredNext d body first starts k at (is_none r) (set starts k at) (linked_by r (first + k) links)
  entered_so = record {
    repeated = entered_finds e (omega (arith, room.number)) room.start room.link at r searched;
    stored = refl;
    entered = entered_next e (omega (arith, room.number)) room.start room.link at r searched;
  }

-- 2. The loop.
-- one more where the first is accepted
accepted_next : (r : SetReport) (rs : List SetReport) (a : ℕ) (b : Bool) → b ≡ accepted r
    → (if b then a + 1 else a) + accepted_in rs ≡ a + accepted_in (r ∷ rs)
unfolding keep
accepted_next r rs a true e = rw (← e) (omega arith)
accepted_next r rs a false e = rw (← e)

-- one more where the last mark says so
accepting_next : (ms : List Mark) (m : Mark) (a : ℕ) → a ≡ acceptances ms → (if is_accepted m then a + 1 else a) ≡ acceptances (ms ++ m ∷ [])
unfolding acceptances
accepting_next [] m a e = rw e (go (is_accepted m))
  where
    go : (b : Bool) → (if b then 0 + 1 else 0) ≡ (if b then 1 else 0)
    go true = refl
    go false = refl
accepting_next (x ∷ ms) m a e = rw e (go (is_accepted x) (is_accepted m) (acceptances ms) _ (accepting_next ms m (acceptances ms) refl))
  where
    go : (b c : Bool) (r s : ℕ) → (if c then r + 1 else r) ≡ s
        → (if c then (if b then suc r else r) + 1 else (if b then suc r else r)) ≡ (if b then suc s else s)
    go true true r s p = omega (arith, p)
    go true false r s p = omega (arith, p)
    go false true r s p = p
    go false false r s p = p

-- Of k sets of a group, a are accepted; the next one starts at a place.
pub record Seeing (d : Delimiters) (table : Set → Option Table) (body : Bytes) (first : ℕ) (starts : List ℕ) (marks : List Mark) (links : List ℕ) (k a at : ℕ) : Type 0 where
  pub rest : drop k (reports d table body) ≡ remaining d table body (take k starts) at
  pub received : k + length (sets_of (segments d (drop at body))) ≡ length (sets_of (segments d body))
  pub allowed : a + accepted_in (remaining d table body (take k starts) at) ≡ accepted_in (reports d table body)
  pub clean : outside (segments d (drop at body)) ≡ false
  pub headers : good d (sets_of (segments d (drop at body))) ≡ true
  pub seen : (j : ℕ) → j < k → Seen d table body (take j starts) j (get_or starts j 0) (get_or marks j Accepted)
  pub entered : Entered d body first starts links k
  pub few : first + length (sets_of (segments d body)) < 65535
  pub among : a ≤ k
  pub counted : a ≡ acceptances (take k marks)
  pub places : length (sets_of (segments d body)) < length starts
  pub marked : length (sets_of (segments d body)) < length marks
  pub linked : slot_of (first + length (sets_of (segments d body))) 0 ≤ length links

pub seeing_start : {d : Delimiters} (table : Set → Option Table) {body : Bytes} {valid : List Bool} {rows : Guide} {scope : Scope} {first : ℕ} {starts : List ℕ} {marks : List Mark} {links : List ℕ}
    → Open d body valid rows scope → Cleared d body first starts marks links → Seeing d table body first starts marks links 0 0 0
unfolding acceptances
seeing_start {d} table {body} {first = first} {starts = starts} {links = links} o c = record {
  rest = sym (remaining_all d table body);
  received = omega arith;
  allowed = rw (remaining_all d table body) (omega arith);
  clean = o.passed.clean;
  headers = o.passed.headers;
  seen = below_none _;
  entered = entered_none d body first starts links c.none;
  few = c.few;
  among = omega arith;
  counted = refl;
  places = c.places;
  marked = c.marked;
  linked = c.linked;
}

module _ {d : Delimiters} {table : Set → Option Table} {body : Bytes} {first : ℕ} {starts : List ℕ} {marks : List Mark} {links : List ℕ} {k a at : ℕ}
    (s : Seeing d table body first starts marks links k a at) where
  -- the set at the place
  pub seeing_set : {r : SetAt} → at < length body → r ≡ set_at d body at → SetIs d body at r
  seeing_set h q = set_next d body at _ h q s.clean

  -- its header can be answered
  pub seeing_headed : at < length body → Headed d body at
  unfolding sets_of
  seeing_headed h =
      let end = at + index_of d.terminator (drop at body) in
      let z : end - at ≡ index_of d.terminator (drop at body) = omega arith in
      let here = rw z at (segments_at d body at end h refl) in
      let st = clean_starts _ _ (rw here at s.clean) in
      record { inside = h; named = st; good = all_head (λ x. good_st d x.header) _ _ (rw (here, st) at s.headers) }

  -- there is room for it
  pub seeing_room : {r : SetAt} → SetIs d body at r → (first + k < 65534) × ((k < length starts) × (k < length marks))
  seeing_room i =
      let more = ap length i.first in
      (omega (arith, s.received, s.few), (omega (arith, s.received, s.places), omega (arith, s.received, s.marked)))

  pub seeing_enter : at < length body → length body ≤ 65536 → (Entered d body first starts links k) × Room first starts links k at
  seeing_enter h short =
      let room = seeing_room (seeing_set h refl) in (
        s.entered,
        record {
          start = room.1.0;
          link = omega (arith, s.linked, ap length (seeing_set h refl).first, s.received);
          number = omega (arith, room.0);
          place = omega arith;
        },
      )

  -- what was seen stays so
  seen_stays : (m : Mark) (j : ℕ) → j < k
      → Seen d table body (take j (set starts k at)) j (get_or (set starts k at) j 0) (get_or (set marks k m) j Accepted)
  seen_stays m j h =
      rw (
        take-set-le j starts k at (omega arith),
        get_or-set_other starts k j at 0 (λ e. omega arith),
        get_or-set_other marks k j m Accepted (λ e. omega arith),
      )
      (s.seen j h)

  seen_here : (m : Mark) → (k < length starts) × (k < length marks) → at < length body → Marked d table body at (controls_at d body (take k starts)) m
      → Seen d table body (take k (set starts k at)) k (get_or (set starts k at) k 0) (get_or (set marks k m) k Accepted)
  seen_here m room h e =
      rw (
        take-set-le k starts k at (omega arith),
        get_or-set_same starts k at 0 room.0,
        get_or-set_same marks k m Accepted room.1,
      )
      (record { headed = seeing_headed h; clean = s.clean; rest = s.rest; marked = e })

  -- its mark is right after those before it
  pub seeing_marked : {starts' links' : List ℕ} {repeated : Bool} {m : Mark} → at < length body
      → EnteredNext d body first starts k at repeated starts' links' → MarkIs repeated (report_at d table body at []) m
      → Marked d table body at (controls_at d body (take k starts)) m
  seeing_marked h e f = rw ((seeing_set h refl).control, ← e.repeated) f

  -- its control number was used before or not
  pub seeing_used : {starts' links' : List ℕ} {repeated : Bool} → at < length body → EnteredNext d body first starts k at repeated starts' links'
      → repeated ≡ member (control_of (set_here d body at)) (controls_at d body (take k starts))
  seeing_used h e = rw (seeing_set h refl).control e.repeated

  -- its block is measured
  pub seeing_measured : {m : Mark} {n l n' l' : ℕ} {told : Told} → at < length body → Marked d table body at (controls_at d body (take k starts)) m
      → Measures d (block (report_at d table body at (controls_at d body (take k starts)))) told
      → n' ≡ sat (n + told.length) → l' ≡ sat (l + told.segments)
      → Sofar d (reports d table body) [] [] n l k → Sofar d (reports d table body) [] [] n' l' (k + 1)
  seeing_measured {m = m} h marked w nn ll sofar =
      let here : Seen d table body (take k starts) k at m = record { headed = seeing_headed h; clean = s.clean; rest = s.rest; marked = marked } in
      sofar_measured sofar (seen_next here) w nn ll

  pub seeing_turn : {starts' links' : List ℕ} {repeated : Bool} {m : Mark} {a' : ℕ} → at < length body
      → EnteredNext d body first starts k at repeated starts' links' → MarkIs repeated (report_at d table body at []) m
      → a' ≡ (if is_accepted m then a + 1 else a) → length links' ≡ length links
      → Seeing d table body first starts' (set marks k m) links' (k + 1) a' (set_at d body at).end
  seeing_turn {starts'} {links'} {repeated} {m} {a'} h e f g p =
      let i = seeing_set h refl in
      let room = seeing_room i in
      let earlier = controls_at d body (take k starts) in
      let marks_here = seeing_marked h e f in
      let next = remaining_next d table body (take k starts) at i in
      let more : take (k + 1) (set starts k at) ≡ take k starts ++ at ∷ [] = rw add-one (take-suc-set starts k at room.1.0) in
      let marked : take (k + 1) (set marks k m) ≡ take k marks ++ m ∷ [] = rw add-one (take-suc-set marks k m room.1.1) in
      let onward = remaining d table body (take k starts ++ at ∷ []) (set_at d body at).end in
      record {
        rest = rw (e.stored, more) (drop_next k (reports d table body) _ _ (s.rest ∙ next));
        received = omega (arith, ap length i.first, s.received);
        allowed =
            rw (e.stored, more, g)
            (accepted_next (report_at d table body at earlier) onward a (is_accepted m) (mark_accepts d (table (set_here d body at)) (set_here d body at) earlier marks_here) ∙ (rw next at s.allowed));
        clean = sym i.strays ∙ s.clean;
        headers = all_tail (λ x. good_st d x.header) _ _ (rw i.first at s.headers);
        seen = rw e.stored (below_more _ k (seen_stays m) (seen_here m room.1 h marks_here));
        entered = e.entered;
        few = s.few;
        among = rw g (either (λ (x : ℕ). x ≤ k + 1) (is_accepted m) (omega (arith, s.among)) (omega (arith, s.among)));
        counted = rw (g, marked) (accepting_next (take k marks) m a s.counted);
        places = rw (e.stored, length-set starts k at) s.places;
        marked = rw (length-set marks k m) s.marked;
        linked = rw p s.linked;
      }

  pub seeing_end : {n l : ℕ} → length body ≤ at → Sofar d (reports d table body) [] [] n l k
      → (Surveyed d table body starts marks (record { sets = record { received = k; accepted = a }; blocks = record { length = n; segments = l } }))
      × Linked links (first + k)
  unfolding sets_of keep
  seeing_end h sofar =
      let received : k ≡ length (sets_of (segments d body)) = omega (arith, rw (segments_none d body at h) at s.received) in (
        record {
          looked = record {
            received = received ∙ sym (reports_count d table [] (sets_of (segments d body)));
            stored = omega (arith, s.places);
            marked = omega (arith, s.marked);
            seen = s.seen;
          };
          allowed = omega (arith, rw (remaining_none d table body (take k starts) at h) at s.allowed);
          counted = s.counted;
          measured = sofar_end sofar (omega (arith, received, reports_count d table [] (sets_of (segments d body))));
        },
        s.entered.links_so,
      )
