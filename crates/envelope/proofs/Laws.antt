-- What the steps and an envelope are of their interchange: which groups stand at their places, and where refusal 7 is due.
use mathlib.Core.Path.{◌≡◌, refl, sym, ap, subst, ◌∙◌}
use mathlib.Core.Bool.{Bool, true, false, ◌&&◌, true≢false, false≢true}
use mathlib.Core.List.{List, [], ◌∷◌, ◌++◌}
use Rattle.std.specs.Prelude.{Option, None, Some, is_some, unwrap_or, option_to_list}
use Prim.Native.Nat.{ℕ, zero, suc, ◌+◌, ◌-◌, ◌<◌, ◌≤◌}
use native.Mathlib.Nat.{add-zero, sub_self}
use native.Mathlib.Omega.{arith}
use borrow.Author.Tests.{ltb-true, ltb-false, lt-ltb, le-leb, lt-leb, leb-true}
use lib.Dec.{ltb, leb}
use lib.ListN.{length, drop, get_or, length-take}
use Rattle.rules.specs.Base.{Bytes, ascii, same, null, all, front, last}
use Rattle.rules.specs.Cutting.{Segment, field, is_named, pieces, split, segments}
use Rattle.rules.specs.Groups.{Group, cut_after_ge, groups_of, is_ge}
use Rattle.rules.specs.Refusals.{is_envelope, enveloped}
use Rattle.rules.specs.declared.Delimiters.{Delimiters}
use Rattle.rules.proofs.Logic.{all_append, same→eq, last_snoc}
use Rattle.rules.proofs.SetLaws.{is_outer, Optional, missing, there}
use Rattle.segments.proofs.Pieces.{WholePart, whole_empty, whole_next, pieces_at, pieces_none, segments_at, segments_none, segments_rest, segments_part}
use Rattle.segments.proofs.Fields.{field_first, field_at}
use Rattle.text.specs.Text.{index_of, part}
use Rattle.envelope.specs.Places.{end_of, segment_at, until_envelope, trailer_at, after_trailer, start_after, body_end, group_ending, group_starting, next_group, ended_at, groups_end, envelope_ending, envelope_to, envelope_from, envelope_of, trailer_in, group_at}
use Rattle.envelope.specs.declared.GroupAt.{GroupAt}
use Rattle.envelope.specs.declared.GroupsEnd.{GroupsEnd}
use Rattle.envelope.specs.declared.Envelope.{Envelope}
use Rattle.envelope.proofs.Places.{part_past, part_length, named_within, until_here, until_later, count_none}
use Rattle.envelope.proofs.Steps.{is_gs, is_iea, groups_from, closes, iea_gs, last_append, none_closes, full_closes, closed_groups, closed_closes, open_groups, open_closes, enveloped_from, enveloped_none, last_rest}

-- 1. The segments from an offset on: the first, those after it, and whether there is one.
module _ (d : Delimiters) (i : Bytes) (at : ℕ) where
  segments_from : at < length i → segments d (drop at i) ≡ segment_at d i at ∷ segments d (drop (end_of d i at + 1) i)
  unfolding segment_at
  segments_from h = segments_at d i at (end_of d i at) h refl

  name_at : field (get_or (segments d (drop at i)) 0 []) 0 ≡ field (segment_at d i at) 0
  unfolding segment_at split
  name_at = go (ltb at (length i)) refl
    where
      go : (c : Bool) → ltb at (length i) ≡ c → field (get_or (segments d (drop at i)) 0 []) 0 ≡ field (segment_at d i at) 0
      go true k = rw (segments_from (ltb-true at (length i) k))
      go false k =
          let l = ltb-false at (length i) k in
          rw (segments_none d i at l, part_past i at (end_of d i at) l)

  named_at : (name : Bytes) → is_named name (get_or (segments d (drop at i)) 0 []) ≡ is_named name (segment_at d i at)
  named_at name = ap (λ (id : Bytes). same id name) name_at

  rest_at : drop 1 (segments d (drop at i)) ≡ segments d (drop (end_of d i at + 1) i)
  rest_at = go (ltb at (length i)) refl
    where
      go : (c : Bool) → ltb at (length i) ≡ c → drop 1 (segments d (drop at i)) ≡ segments d (drop (end_of d i at + 1) i)
      go true k = rw (segments_from (ltb-true at (length i) k))
      go false k =
          let l = ltb-false at (length i) k in
          rw (segments_none d i at l, segments_none d i (end_of d i at + 1) (omega arith))

  some_at : {s : Segment} {ss : List Segment} → segments d (drop at i) ≡ s ∷ ss → at < length i
  some_at e = go (ltb at (length i)) refl
    where
      go : (c : Bool) → ltb at (length i) ≡ c → at < length i
      go true k = ltb-true at (length i) k
      go false k = absurd (true≢false (ap null (sym (segments_none d i at (ltb-false at (length i) k)) ∙ e)))

  null_at : null (segments d (drop at i)) ≡ leb (length i) at
  null_at = go (ltb at (length i)) refl
    where
      go : (c : Bool) → ltb at (length i) ≡ c → null (segments d (drop at i)) ≡ leb (length i) at
      go true k = let l = ltb-true at (length i) k in rw (segments_from l, lt-leb (length i) at l)
      go false k = let l = ltb-false at (length i) k in rw (segments_none d i at l, le-leb (length i) at l)

-- 2. What lies between an offset and the first segment of the envelope from it on.
record Inside (d : Delimiters) (i : Bytes) (start at : ℕ) : Type 0 where
  whole : WholePart d.terminator i start at
  outer : all is_outer (segments d (part i start at)) ≡ true

record Stopped (d : Delimiters) (i : Bytes) (start at : ℕ) : Type 0 where
  passed : Inside d i start at
  stops : null (segments d (drop at i)) ≡ false → is_envelope (get_or (segments d (drop at i)) 0 []) ≡ true

inside_empty : (d : Delimiters) (i : Bytes) (at : ℕ) → Inside d i at at
unfolding segments pieces all
inside_empty d i at = record { whole = whole_empty; outer = rw sub_self }

some_within : (t : ℕ) (i : Bytes) (at : ℕ) (p : Bytes) (ps : List Bytes) → p ∷ ps ≡ pieces t (drop at i) → at < length i
some_within t i at p ps q = go (ltb at (length i)) refl
  where
    go : (c : Bool) → ltb at (length i) ≡ c → at < length i
    go true k = ltb-true at (length i) k
    go false k = absurd (false≢true (ap null (q ∙ pieces_none t i at (ltb-false at (length i) k))))

module _ (d : Delimiters) (i : Bytes) (start : ℕ) where
  inside_next : (at : ℕ) → at < length i → is_envelope (segment_at d i at) ≡ false → Inside d i start at → Inside d i start (end_of d i at + 1)
  unfolding segment_at all
  inside_next at h g w =
      record {
        whole = whole_next w.whole h refl;
        outer = rw (segments_part d w.whole h refl) (all_append is_outer (segments d (part i start at)) _ w.outer (rw g));
      }

  walk : (ps : List Bytes) (at : ℕ) → ps ≡ pieces d.terminator (drop at i) → Inside d i start at
      → Stopped d i start (at + until_envelope d.element (pieces d.terminator (drop at i)))
  unfolding until_envelope segments segment_at
  walk [] at q w = rw (← q, add-zero) (record { passed = w; stops = λ n. absurd (true≢false (rw (← q) at n)) })
  walk (p ∷ ps) at q w =
      let more = q ∙ pieces_at t i at (end_of d i at) here refl in
      let tail : ps ≡ pieces t (drop (end_of d i at + 1) i) = cc in
      go (is_envelope (segment_at d i at)) refl (walk ps (end_of d i at + 1) tail)
    where
      t : ℕ
      t = d.terminator

      here : at < length i
      here = some_within t i at p ps q

      go : (c : Bool) → is_envelope (segment_at d i at) ≡ c
          → (Inside d i start (end_of d i at + 1) → Stopped d i start (end_of d i at + 1 + until_envelope d.element (pieces t (drop (end_of d i at + 1) i))))
          → Stopped d i start (at + until_envelope d.element (pieces t (drop at i)))
      go true g next =
          rw (until_here d.element t i at (end_of d i at) here refl g)
          (record { passed = w; stops = λ n. rw (segments_from d i at here) g })
      go false g next = rw (until_later d.element t i at (end_of d i at) here refl g) (next (inside_next at here g w))

  stopped : Stopped d i start (body_end d i start)
  stopped = walk (pieces d.terminator (drop start i)) start refl (inside_empty d i start)

-- 3. GE or nothing, and what follows.
record Trailed (d : Delimiters) (i : Bytes) (at : ℕ) (ge : Option ℕ) : Type 0 where
  cut : segments d (drop at i) ≡ option_to_list (trailer_in d i at (unwrap_or ge at) (is_some ge)) ++ segments d (drop (after_trailer at ge) i)
  named : Optional is_ge (trailer_in d i at (unwrap_or ge at) (is_some ge))
  onward : at ≤ after_trailer at ge

trailed : (d : Delimiters) (i : Bytes) (at : ℕ) → Trailed d i at (trailer_at d i at)
unfolding trailer_at segment_at same
trailed d i at = go (is_ge (segment_at d i at)) refl
  where
    go : (c : Bool) → is_ge (segment_at d i at) ≡ c → Trailed d i at (trailer_at d i at)
    go true g =
        let within = named_within (ascii "GE") d.element i at (end_of d i at) refl g in
        rw g
        (record {
          cut = segments_from d i at within;
          named = there g;
          onward = omega arith;
        })
    go false g =
        rw g
        (record { cut = refl; named = missing; onward = omega arith })

-- without GE nothing was passed
untrailed : (d : Delimiters) (i : Bytes) (at : ℕ) → is_some (trailer_at d i at) ≡ false → (after_trailer at (trailer_at d i at) ≡ at) × (is_ge (segment_at d i at) ≡ false)
unfolding trailer_at
untrailed d i at c = go (is_ge (segment_at d i at)) refl
  where
    go : (b : Bool) → is_ge (segment_at d i at) ≡ b → (after_trailer at (trailer_at d i at) ≡ at) × (is_ge (segment_at d i at) ≡ false)
    go true q = absurd (true≢false (rw q at c))
    go false q = (rw q, q)

-- 4. One step.
-- A group was found at an offset: its parts lie one after the other, they are what is cut there, and the next may stand where it ends.
pub record GroupFound (d : Delimiters) (i : Bytes) (at : ℕ) (g : GroupAt) : Type 0 where
  pub starts : g.gs ≡ at
  pub header_before : at + 3 ≤ g.body
  pub body_after : g.body ≡ end_of d i at + 1
  pub body_ordered : g.body ≤ g.body_end
  pub body_before : g.body_end ≤ g.next
  pub named : is_gs (group_at d i g).header ≡ true
  pub inside : all is_outer (group_at d i g).body ≡ true
  pub closes : Optional is_ge (group_at d i g).trailer
  pub cut : segments d (drop at i)
      ≡ (group_at d i g).header ∷ ((group_at d i g).body ++ (option_to_list (group_at d i g).trailer ++ segments d (drop g.next i)))

-- a trailer that is there is GE
ge_named : (d : Delimiters) (i : Bytes) (g : GroupAt) → Optional is_ge (group_at d i g).trailer → g.closed ≡ true
    → is_ge (split d.element (part i g.body_end g.ge_end)) ≡ true
ge_named d i g o q = named_one (rw q at o)
  where
    named_one : {s : Segment} → Optional is_ge (Some s) → is_ge s ≡ true
    named_one (there e) = e

-- an id is no longer than its segment
id_short : (e : ℕ) (s : Bytes) → length (field (split e s) 0) ≤ length s
id_short e s = omega (arith, ap length (field_at (field_first {e = e} {s = s}) refl), length-take (0 + index_of e (drop 0 s) - 0) (drop 0 s))

module _ (d : Delimiters) (i : Bytes) (at : ℕ) where
  -- what was found is the group there, and its GS stands there
  found_by : {g : GroupAt} → next_group d i at ≡ Some g → (is_gs (segment_at d i at) ≡ true) × (g ≡ group_starting d i at)
  unfolding next_group
  found_by {g} p = go (is_gs (segment_at d i at)) refl
    where
      go : (b : Bool) → is_gs (segment_at d i at) ≡ b → (is_gs (segment_at d i at) ≡ true) × (g ≡ group_starting d i at)
      go true q = (q, cc (rw q at p))
      go false q = absurd (cc (rw q at p))

  module _ (g : is_gs (segment_at d i at) ≡ true) where
    -- GS has at least two bytes, and the body starts after its terminator
    gs_within : at < length i
    unfolding segment_at same
    gs_within = named_within (ascii "GS") d.element i at (end_of d i at) refl g

    gs_long : at + 2 ≤ end_of d i at
    unfolding segment_at
    gs_long =
        omega (
          arith,
          id_short d.element (part i at (end_of d i at)),
          ap length (same→eq (field (segment_at d i at) 0) (ascii "GS") g),
          part_length d.element d.terminator i at (end_of d i at) gs_within refl,
        )

    body_at : start_after d i at ≡ end_of d i at + 1
    body_at = rw (lt-ltb at (length i) gs_within)

    found : GroupFound d i at (group_starting d i at)
    unfolding group_starting group_ending segment_at
    found =
        let body = start_after d i at in
        let s = stopped d i body in
        let t = trailed d i (body_end d i body) in
        record {
          starts = refl;
          header_before = omega (arith, gs_long, body_at);
          body_after = body_at;
          body_ordered = s.passed.whole.ordered;
          body_before = t.onward;
          named = g;
          inside = s.passed.outer;
          closes = t.named;
          cut =
              segments_from d i at gs_within
              ∙ ap (λ (l : List Segment). segment_at d i at ∷ l)
              (ap (λ (n : ℕ). segments d (drop n i)) (sym body_at) ∙ segments_rest d s.passed.whole
              ∙ ap (λ (l : List Segment). segments d (part i body (body_end d i body)) ++ l) t.cut);
        }

  -- A step says what stands there. Shut out: a body that goes past a segment of the envelope, and a GE or a next place of another group.
  pub next_found : {g : GroupAt} → next_group d i at ≡ Some g → GroupFound d i at g
  next_found p = let f = found_by p in rw f.1 (found f.0)

  -- it is the group that starts there
  pub found_starts : {g : GroupAt} → next_group d i at ≡ Some g → group_starting d i at ≡ g
  found_starts p = sym (found_by p).1

  -- the group again, by where its body ended
  pub group_again : {g : GroupAt} → next_group d i at ≡ Some g → group_ending d i at g.body_end ≡ g
  unfolding group_starting group_ending
  group_again p = rw (found_by p).1

  -- nothing was found: GS does not stand there
  none_by : next_group d i at ≡ None → is_gs (segment_at d i at) ≡ false
  unfolding next_group
  none_by p = go (is_gs (segment_at d i at)) refl
    where
      go : (b : Bool) → is_gs (segment_at d i at) ≡ b → is_gs (segment_at d i at) ≡ false
      go true q = absurd (cc (rw q at p))
      go false q = q

  none_at : is_gs (segment_at d i at) ≡ false → next_group d i at ≡ None
  unfolding next_group
  none_at q = rw q

  -- after a group without GE comes another segment of the envelope, or none
  open_stops : {g : GroupAt} → next_group d i at ≡ Some g → g.closed ≡ false
      → (null (segments d (drop g.next i)) ≡ false → is_envelope (get_or (segments d (drop g.next i)) 0 []) ≡ true)
      × (is_ge (get_or (segments d (drop g.next i)) 0 []) ≡ false)
  unfolding group_starting group_ending
  open_stops {g} p c =
      let f = found_by p in
      let body = start_after d i at in
      let t = untrailed d i (body_end d i body) (sym (ap (λ (x : GroupAt). x.closed) f.1) ∙ c) in
      rw (f.1, t.0) ((stopped d i body).stops, named_at d i (body_end d i body) (ascii "GE") ∙ t.1)

-- two ends of groups that are one
ended_same : {n at m iea : ℕ} → ended_at n at ≡ ended_at m iea → (n ≡ m) × (at ≡ iea)
ended_same {n} {at} p =
    let part = λ (f : GroupsEnd → ℕ). ap (λ e. f (unwrap_or e (record { groups = n; iea = at }))) p in
    (part (λ e. e.groups), part (λ e. e.iea))

-- 5. The groups from a step on, one after the other; something follows the last.
pub data Groups (d : Delimiters) (i : Bytes) : Option GroupAt → List Group → Type 0 where
  no_group : Groups d i None []
  a_group : {g : GroupAt} {gs : List Group} → g.next < length i → Groups d i (next_group d i g.next) gs → Groups d i (Some g) (group_at d i g ∷ gs)

module _ (d : Delimiters) (i : Bytes) where
  -- IEA stands where the groups end, and nothing after it
  abbrev ended : Option GroupsEnd → Bool
  ended (Some e) = is_iea (segment_at d i e.iea) && leb (length i) (end_of d i e.iea + 1)
  ended None = false

  -- the same over segments
  alone_at : (n at : ℕ) → is_iea (get_or (segments d (drop at i)) 0 []) && null (drop 1 (segments d (drop at i))) ≡ ended (ended_at n at)
  alone_at n at = rw (named_at d i at (ascii "IEA"), rest_at d i at, null_at d i (end_of d i at + 1))

  -- one step of it, by what was found
  module _ (at : ℕ) {g : GroupAt} (p : next_group d i at ≡ Some g) where
    found_cut : (c : Bool) → g.closed ≡ c
        → segments d (drop at i)
        ≡ (group_at d i g).header ∷ ((group_at d i g).body ++ (option_to_list (trailer_in d i g.body_end g.ge_end c) ++ segments d (drop g.next i)))
    found_cut c q = (next_found d i at p).cut ∙ rw q

    found_full : closes 0 (segments d (drop at i)) ≡ false
    found_full = let f = next_found d i at p in rw f.cut (full_closes (group_at d i g).header _ f.named)

    found_closed : (limit : ℕ) → g.closed ≡ true → closes (suc limit) (segments d (drop at i)) ≡ closes limit (segments d (drop g.next i))
    found_closed limit q =
        let f = next_found d i at p in
        rw (found_cut true q)
        (closed_closes (group_at d i g).header (group_at d i g).body f.named f.inside _ (ge_named d i g f.closes q) limit _)

    found_open : (limit n : ℕ) → g.closed ≡ false → closes (suc limit) (segments d (drop at i)) ≡ ended (ended_at n g.next)
    found_open limit n q =
        let f = next_found d i at p in
        let stops = open_stops d i at p q in
        rw (found_cut false q)
        (open_closes (group_at d i g).header (group_at d i g).body f.named f.inside limit _ stops.0 stops.1 ∙ alone_at n g.next)

  -- the steps find what check 7 asks
  closes_is : (limit n at : ℕ) → closes limit (segments d (drop at i)) ≡ ended (groups_end limit d i n at (next_group d i at))
  unfolding groups_end
  closes_is zero n at = go (next_group d i at) refl
    where
      go : (w : Option GroupAt) → next_group d i at ≡ w → closes 0 (segments d (drop at i)) ≡ ended (groups_end 0 d i n at w)
      go None q = none_closes 0 _ (named_at d i at (ascii "GS") ∙ none_by d i at q) ∙ alone_at n at
      go (Some g) q = found_full at q
  closes_is (suc limit) n at = go (next_group d i at) refl (λ next. closes_is limit (n + 1) next)
    where
      go : (w : Option GroupAt) → next_group d i at ≡ w
          → ((next : ℕ) → closes limit (segments d (drop next i)) ≡ ended (groups_end limit d i (n + 1) next (next_group d i next)))
          → closes (suc limit) (segments d (drop at i)) ≡ ended (groups_end (suc limit) d i n at w)
      go None q rest = none_closes (suc limit) _ (named_at d i at (ascii "GS") ∙ none_by d i at q) ∙ alone_at n at
      go (Some g) q rest = by g.closed refl
        where
          by : (c : Bool) → g.closed ≡ c → closes (suc limit) (segments d (drop at i)) ≡ ended (groups_end (suc limit) d i n at (Some g))
          by true k = found_closed at q limit k ∙ rest g.next ∙ rw k
          by false k = found_open at q limit (n + 1) k ∙ rw (k, count_none d i (n + 1) g.next limit)

  -- where the groups end at IEA, and nothing follows it, they are the groups of these segments
  record Ran (n at m iea : ℕ) : Type 0 where
    groups : Groups d i (next_group d i at) (groups_from (segments d (drop at i)))
    counted : m ≡ n + length (groups_from (segments d (drop at i)))
    trailer : last [] (segments d (drop at i)) ≡ segment_at d i iea

  module _ (iea : ℕ) (named : is_iea (segment_at d i iea) ≡ true) (l : length i ≤ end_of d i iea + 1) where
    iea_within : iea < length i
    unfolding segment_at same
    iea_within = named_within (ascii "IEA") d.element i iea (end_of d i iea) refl named

    iea_alone : segments d (drop iea i) ≡ segment_at d i iea ∷ []
    iea_alone =
        segments_from d i iea iea_within
        ∙ ap (λ (m : List Segment). segment_at d i iea ∷ m) (segments_none d i (end_of d i iea + 1) l)

    no_more : Groups d i (next_group d i iea) []
    no_more = rw (none_at d i iea (iea_gs (segment_at d i iea) named)) no_group

    ran_none : (n : ℕ) → Ran n iea n iea
    unfolding last front cut_after_ge
    ran_none n = record {
      groups = rw (ap groups_from iea_alone) no_more;
      counted = rw (iea_alone, add-zero);
      trailer = rw iea_alone;
    }

    at_once : (n at : ℕ) {m : ℕ} → ended_at n at ≡ ended_at m iea → Ran n at m iea
    at_once n at {m} e = let same = ended_same e in rw (same.0, same.1) (ran_none m)

    ran_open : (n at : ℕ) {g : GroupAt} → next_group d i at ≡ Some g → g.closed ≡ false → g.next ≡ iea → Ran n at (n + 1) iea
    unfolding last
    ran_open n at {g} p q e =
        let f = next_found d i at p in
        let gs = (group_at d i g).header in
        let xs = (group_at d i g).body in
        let cut : segments d (drop at i) ≡ gs ∷ (xs ++ segment_at d i iea ∷ []) = found_cut at p false q ∙ rw (e, iea_alone) in
        let one : groups_from (segments d (drop at i)) ≡ group_at d i g ∷ [] = ap groups_from cut ∙ open_groups gs xs f.named f.inside _ ∙ rw q in
        record {
          groups = rw (p, one) (a_group {g = g} {gs = []} (rw e iea_within) (rw e no_more));
          counted = rw one;
          trailer = ap (last []) cut ∙ last_snoc gs xs (segment_at d i iea);
        }

    ran_closed : (n at : ℕ) {g : GroupAt} {m : ℕ} → next_group d i at ≡ Some g → g.closed ≡ true → Ran (n + 1) g.next m iea → Ran n at m iea
    unfolding last same
    ran_closed n at {g} {m} p q r = go (segments d (drop g.next i)) refl
      where
        gs : Segment
        gs = (group_at d i g).header

        xs : List Segment
        xs = (group_at d i g).body

        go : (rest : List Segment) → segments d (drop g.next i) ≡ rest → Ran n at m iea
        go [] e = absurd (false≢true (ap (λ (t : List Segment). is_iea (last [] t)) (sym e) ∙ ap is_iea r.trailer ∙ named))
        go (z ∷ zs) e =
            let f = next_found d i at p in
            let ge = split d.element (part i g.body_end g.ge_end) in
            let cut : segments d (drop at i) ≡ gs ∷ (xs ++ ge ∷ (z ∷ zs)) = found_cut at p true q ∙ rw e in
            let more : groups_from (segments d (drop at i)) ≡ group_at d i g ∷ groups_from (segments d (drop g.next i)) =
            ap groups_from cut ∙ closed_groups gs xs f.named f.inside ge (ge_named d i g f.closes q) z zs ∙ rw (q, e) in
            record {
              groups = rw (p, more) (a_group (some_at d i g.next e) r.groups);
              counted = rw more (omega (arith, r.counted));
              trailer = ap (last []) cut ∙ last_append gs xs ge (z ∷ zs) ∙ ap (last []) (sym e) ∙ r.trailer;
            }

    ran : (limit n at m : ℕ) → groups_end limit d i n at (next_group d i at) ≡ ended_at m iea → Ran n at m iea
    unfolding groups_end
    ran zero n at m e = go (next_group d i at) refl
      where
        go : (w : Option GroupAt) → next_group d i at ≡ w → Ran n at m iea
        go None q = at_once n at (rw q at e)
        go (Some g) q = absurd (cc (rw q at e))
    ran (suc limit) n at m e = go (next_group d i at) refl (λ next. ran limit (n + 1) next m)
      where
        go : (w : Option GroupAt) → next_group d i at ≡ w
            → ((next : ℕ) → groups_end limit d i (n + 1) next (next_group d i next) ≡ ended_at m iea → Ran (n + 1) next m iea) → Ran n at m iea
        go None q rest = at_once n at (rw q at e)
        go (Some g) q rest = by g.closed refl
          where
            by : (c : Bool) → g.closed ≡ c → Ran n at m iea
            by true k = ran_closed n at q k (rest g.next (rw (q, k) at e))
            by false k =
                let same = ended_same (sym (count_none d i (n + 1) g.next limit) ∙ rw (q, k) at e) in
                rw (← same.0) (ran_open n at q k same.1)

-- 6. What an envelope is of its interchange: check 7 passes, and the steps from its first group on give the groups.
pub record EnvelopeIs (limit : ℕ) (d : Delimiters) (i : Bytes) (e : Envelope) : Type 0 where
  pub envelope : enveloped limit (segments d i) ≡ true
  pub starts : next_group d i (end_of d i 0 + 1) ≡ Some e.first
  pub groups : Groups d i (Some e.first) (groups_of (segments d i))
  pub counted : e.groups ≡ length (groups_of (segments d i))
  pub trailer : last [] (segments d i) ≡ split d.element (part i e.iea e.iea_end)

abbrev Is : ℕ → Delimiters → Bytes → Option Envelope → Type 0
Is limit d i (Some e) = EnvelopeIs limit d i e
Is limit d i None = enveloped limit (segments d i) ≡ false

module _ (limit : ℕ) (d : Delimiters) (i : Bytes) where
  abbrev start : ℕ
  start = end_of d i 0 + 1

  -- the first group is due at the second segment
  rest_is : drop 1 (segments d i) ≡ segments d (drop start i)
  rest_is = rest_at d i 0

  second : is_gs (get_or (drop 1 (segments d i)) 0 []) ≡ is_gs (segment_at d i start)
  second = rw rest_is (named_at d i start (ascii "GS"))

  module _ {first : GroupAt} (p : next_group d i start ≡ Some first) where
    gs_second : is_gs (get_or (drop 1 (segments d i)) 0 []) ≡ true
    gs_second = second ∙ (found_by d i start p).0

    enveloped_is : {r : Option GroupsEnd} → groups_end limit d i 0 start (next_group d i start) ≡ r → enveloped limit (segments d i) ≡ ended d i r
    enveloped_is q = enveloped_from (segments d i) limit gs_second ∙ rw rest_is (closes_is d i limit 0 start) ∙ ap (ended d i) q

    whole : (n iea : ℕ) → groups_end limit d i 0 start (next_group d i start) ≡ ended_at n iea
        → is_iea (segment_at d i iea) ≡ true → leb (length i) (end_of d i iea + 1) ≡ true
        → EnvelopeIs limit d i (record { first = first; groups = n; iea = iea; iea_end = end_of d i iea })
    unfolding groups_of segment_at
    whole n iea q named l =
        let r = ran d i iea named (leb-true (length i) (end_of d i iea + 1) l) limit 0 start n q in
        record {
          envelope = enveloped_is q ∙ rw (named, l);
          starts = p;
          groups = rw (rest_is, ← p) r.groups;
          counted = rw rest_is (omega (arith, r.counted));
          trailer = last_rest (segments d i) gs_second ∙ rw rest_is r.trailer;
        }

    ending : (n iea : ℕ) → groups_end limit d i 0 start (next_group d i start) ≡ ended_at n iea → Is limit d i (envelope_ending d i first n iea)
    unfolding envelope_ending
    ending n iea q = go (is_iea (segment_at d i iea)) (leb (length i) (end_of d i iea + 1)) refl refl
      where
        go : (a b : Bool) → is_iea (segment_at d i iea) ≡ a → leb (length i) (end_of d i iea + 1) ≡ b → Is limit d i (envelope_ending d i first n iea)
        go true true named l = rw (named, l) (whole n iea q named l)
        go true false named l = rw (named, l) (enveloped_is q ∙ rw (named, l))
        go false b named l = rw named (enveloped_is q ∙ rw named)

    due : (r : Option GroupsEnd) → groups_end limit d i 0 start (next_group d i start) ≡ r → Is limit d i (envelope_to d i first r)
    due (Some e) q = ending e.groups e.iea q
    due None q = enveloped_is q

  from : (w : Option GroupAt) → next_group d i start ≡ w → Is limit d i (envelope_from limit d i w)
  from None q = enveloped_none (segments d i) limit (second ∙ none_by d i start q)
  from (Some first) q = due q (groups_end limit d i 0 first.gs (Some first)) (rw (q, (next_found d i start q).starts))

  envelope_is : Is limit d i (envelope_of limit d i)
  unfolding envelope_of
  envelope_is = from (next_group d i start) refl

  -- A whole envelope has the groups of the interchange, from its first on, their number and IEA. Shut out: a walk that loses a group,
  -- takes another first one, or counts wrong.
  pub whole_is : {e : Envelope} → envelope_of limit d i ≡ Some e → EnvelopeIs limit d i e
  whole_is p = subst (Is limit d i) p envelope_is

  -- A broken one is refused with 7. Shut out: a walk that stops at a sound group, and a limit that is one too low.
  pub broken_is : envelope_of limit d i ≡ None → enveloped limit (segments d i) ≡ false
  broken_is p = subst (Is limit d i) p envelope_is
