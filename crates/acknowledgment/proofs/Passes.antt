-- The two passes over the groups of an interchange: what holds after some of them.
use Prim.Native.Nat.{ℕ, ◌+◌, ◌-◌, ◌*◌, ◌≤◌, ◌<◌}
use mathlib.Core.Path.{◌≡◌, refl, sym, ap, ◌∙◌}
use mathlib.Core.Bool.{Bool, ◌&&◌, false≢true}
use mathlib.Core.List.{List, [], ◌∷◌, ◌++◌, map, append-nil}
use native.Mathlib.Nat.{add_assoc}
use native.Mathlib.Omega.{arith}
use Rattle.std.specs.Prelude.{Option, None, Some, Ok, Err}
use Rattle.std.proofs.lemmas.List.{drop-take}
use borrow.Rule.Slice.PartMut.{mid_of, put_mid}
use borrow.Author.Tests.{leb-true, ne_eqb}
use lib.Dec.{leb}
use lib.ListN.{length, take, drop, length-take, length-drop, length-append, drop_of_length-le}
use lib.Seq.{take_at, drop_at, length-take-le}
use Rattle.rules.specs.Base.{Bytes, ascii, null, all, last, between, first}
use Rattle.rules.specs.Cutting.{is_named, segments}
use Rattle.rules.specs.Sets.{sets_of}
use Rattle.rules.specs.Groups.{Group, groups_of, group_report}
use Rattle.rules.specs.Refusals.{is_whole_group, enveloped, header_rules, answer_rules, set_rules, group_rules, groups_rules}
use Rattle.rules.specs.Response.{out, transaction_sets}
use Rattle.rules.specs.declared.Delimiters.{Delimiters}
use Rattle.rules.proofs.Logic.{and_left, and_right, silent}
use Rattle.rules.proofs.Cuts.{out_append}
use Rattle.rules.proofs.Facts.{reports_count}
use Rattle.rules.proofs.Lengths.{length_out_append}
use Rattle.look.specs.Bytes.{valid_bytes}
use Rattle.tables.specs.Reading.{Guide}
use Rattle.guides.specs.Encoded.{directory_rows}
use Rattle.guides.proofs.Chosen.{all_rows}
use Rattle.envelope.specs.Places.{group_at, next_group}
use Rattle.envelope.specs.declared.GroupAt.{GroupAt}
use Rattle.envelope.specs.declared.Envelope.{Envelope}
use Rattle.envelope.proofs.Laws.{Groups, no_group, a_group, GroupFound, next_found}
use Rattle.refusals.specs.Checks.{group_check}
use Rattle.rules.specs.Refused.{refused}
use Rattle.rules.specs.declared.Refusal.{Refusal}
use Rattle.refusals.proofs.Laws.{group_sound, group_refused, groups_first}
use Rattle.sets.proofs.Refused.{passed}
use Rattle.sets.proofs.Number.{sets_number}
use Rattle.register.proofs.Entered.{Linked}
use Rattle.verdicts.specs.declared.Tally.{Tally}
use Rattle.writing.specs.Over.{sat, From}
use Rattle.writing.proofs.Laws.{Owes, all as owes-all, pay, done, kept}
use Rattle.acknowledgment.specs.Entries.{body_of, table_of, transaction_of, Answerable, GroupEntries, Surveyable, SurveyedGroup, groups_by, acknowledgments, Entries, no_entry, entries_of, Sound, Enterable, Writable, WroteGroup, Recorded}
use Rattle.acknowledgment.specs.declared.set_block.Mark.{Mark}
use Rattle.acknowledgment.specs.declared.transaction.GroupSurvey.{GroupSurvey}
use Rattle.acknowledgment.specs.declared.transaction.Progress.{Progress}
use Rattle.acknowledgment.proofs.Recorded.{part_all, take_less, group_stays}

-- 1. The next group of those that are left.
-- It is at g, which starts at an offset.
record Next (d : Delimiters) (i : Bytes) (at : ℕ) (g : GroupAt) (left : List Group) : Type 0 where
  rest : List Group
  found : next_group d i at ≡ Some g
  is : left ≡ group_at d i g ∷ rest
  within : g.next < length i
  steps : Groups d i (next_group d i g.next) rest

-- There is one.
record SomeNext (d : Delimiters) (i : Bytes) (at : ℕ) (left : List Group) : Type 0 where
  group : GroupAt
  next : Next d i at group left

-- none is left
empty : (gs : List Group) → length gs ≤ 0 → gs ≡ []
empty [] h = refl
empty (g ∷ gs) h = absurd (omega arith)

none_of : {d : Delimiters} {i : Bytes} {s : Option GroupAt} {gs : List Group} → Groups d i s gs → gs ≡ [] → s ≡ None
none_of no_group e = refl
none_of (a_group h steps) e = absurd (false≢true (ap null e))

next_of : {d : Delimiters} {i : Bytes} {at : ℕ} {s : Option GroupAt} {left : List Group} → Groups d i s left → next_group d i at ≡ s → 0 < length left → SomeNext d i at left
next_of no_group e h = absurd (omega arith)
next_of (a_group {g} {gs} within steps) e h = record { group = g; next = record { rest = gs; found = e; is = refl; within = within; steps = steps } }

-- 2. Lists that agree up to some entry.
module _ {A : Type 0} where
  -- a list with another one from k on
  put_rest : (k : ℕ) (xs ys : List A) → put_mid k (length xs - k) xs ys ≡ take k xs ++ ys
  put_rest k xs ys =
      ap (λ (l : List A). take k xs ++ (ys ++ l)) (drop_of_length-le (drop k xs) {i = length xs - k} (simp length-drop (omega arith)))
      ∙ ap (λ (l : List A). take k xs ++ l) (append-nil ys)

  -- what stands from k on, and before, in such a list
  drop_rest : (k : ℕ) (xs ys : List A) → k ≤ length xs → drop k (put_mid k (length xs - k) xs ys) ≡ ys
  drop_rest k xs ys h = ap (drop k) (put_rest k xs ys) ∙ drop_at (take k xs) ys k (length-take-le k xs h)

  take_rest : (k : ℕ) (xs ys : List A) → k ≤ length xs → take k (put_mid k (length xs - k) xs ys) ≡ take k xs
  take_rest k xs ys h = ap (take k) (put_rest k xs ys) ∙ take_at (take k xs) ys k (length-take-le k xs h)

  length_rest : (k : ℕ) (xs ys : List A) → k ≤ length xs → length ys ≡ length xs - k → length (put_mid k (length xs - k) xs ys) ≡ length xs
  length_rest k xs ys h e = ap length (put_rest k xs ys) ∙ omega (arith, length-append (take k xs) ys, length-take-le k xs h)

  -- lists that agree up to k + n agree up to n from k on
  agree_from : (k n : ℕ) (xs ys : List A) → take (k + n) xs ≡ take (k + n) ys → take n (drop k xs) ≡ take n (drop k ys)
  agree_from k n xs ys e = sym (drop-take k n xs) ∙ ap (drop k) e ∙ drop-take k n ys

-- 3. The first pass.
-- where none of 9 to 13 applies to a group, none of 11 to 13 does
sets_pass : (d : Delimiters) (g : Group) → first (group_rules d g) ≡ 0 → first (set_rules d g.body) ≡ 0
unfolding group_rules header_rules answer_rules set_rules first
sets_pass d g e = let s = silent (group_rules d g) tt e in rw (s.1.1.0, s.1.1.1.0, s.1.1.1.1.0)

-- The groups that are left start at a place. Those before it have these entries, and none of 9 to 13 applies to them; their 997s have n bytes.
-- There is room for as many entries as size.
pub record Surveying (d : Delimiters) (i : Bytes) (e : Envelope) (size : ℕ) (starts : List ℕ) (marks : List Mark) (links : List ℕ) (at groups entries n : ℕ) : Type 0 where
  pub left : List Group
  pub steps : Groups d i (next_group d i at) left
  pub counted : groups + length left ≡ e.groups
  pub passed : first (groups_rules d (groups_by d i)) ≡ first (groups_rules d left)
  pub measured : sat (n + length (out d (transaction_sets (groups + 1) (map (group_report d) left)))) ≡ sat (length (out d (acknowledgments d i)))
  pub owed : (S : List ℕ) (M : List Mark) → take entries S ≡ take entries starts → take entries M ≡ take entries marks
      → Entries d i S M entries (next_group d i at) left → Entries d i S M 0 (Some e.first) (groups_by d i)
  pub linked : Linked links entries
  pub long : n < 18446744073709551616
  pub room : 12 * entries ≤ at + 12 * groups
  pub most : length i + 192 < 12 * size + 12
  pub few : size ≤ 5477
  pub stored : length starts ≡ size
  pub marked : length marks ≡ size
  pub slots : length links ≡ 1024 + 4 * size

-- the first group is where the first step finds it
first_found : {d : Delimiters} {i : Bytes} {e : Envelope} → Sound d i e → next_group d i e.first.gs ≡ Some e.first
first_found {d} {i} s = ap (next_group d i) (next_found d i _ s.envelope.starts).starts ∙ s.envelope.starts

-- at most sixteen groups
pub at_most : {d : Delimiters} {i : Bytes} {e : Envelope} → Sound d i e → e.groups ≤ 16
unfolding enveloped
at_most {d} {i} s =
    let gs = groups_of (segments d i) in
    let named = is_named (ascii "IEA") (last [] (segments d i)) in
    let within = and_right named (between 1 16 (length gs)) (and_left (named && between 1 16 (length gs)) (all is_whole_group gs) s.envelope.envelope) in
    rw s.envelope.counted (leb-true (length gs) 16 (and_right (leb 1 (length gs)) (leb (length gs) 16) within))

pub surveying_start : {d : Delimiters} {i : Bytes} {e : Envelope} {valid : List Bool} {ids : List (List ℕ)} {rows : Guide} {starts : List ℕ} {marks : List Mark} {links : List ℕ}
    → Enterable d i e valid ids rows starts marks links → Surveying d i e (length starts) starts marks links e.first.gs 0 0 0
surveying_start {d} {i} {e} p =
    let found = first_found p.sound in
    let room = p.room in
    record {
      left = groups_by d i;
      steps = rw found p.sound.envelope.groups;
      counted = omega (arith, p.sound.envelope.counted);
      passed = refl;
      measured = omega arith;
      owed = λ S M x y entries. rw found at entries;
      linked = record { linked = λ s. omega (arith, room.none s); unlinked = λ s h. room.none s };
      long = omega arith;
      room = omega arith;
      most = room.places;
      few = room.few;
      stored = refl;
      marked = room.marked;
      slots = room.linked;
    }

module _ {d : Delimiters} {i : Bytes} {e : Envelope} {size : ℕ} {starts : List ℕ} {marks : List Mark} {links : List ℕ} {at groups entries n : ℕ}
    (s : Surveying d i e size starts marks links at groups entries n) where
  -- a group is left
  surveying_next : groups < e.groups → SomeNext d i at s.left
  surveying_next h = next_of s.steps refl (omega (arith, s.counted))

  -- it is refused: that is the first refusal of all groups
  pub surveying_refused : {r : Refusal} → groups < e.groups → group_check d i at ≡ Err r
      → (r ≡ refused (first (groups_rules d (groups_by d i)))) × (first (groups_rules d (groups_by d i)) ≡ 0 → ⊥)
  surveying_refused h q =
      let x = surveying_next h in
      let due = group_refused d i at x.next.found q in
      let same : first (groups_rules d (groups_by d i)) ≡ first (group_rules d (group_at d i x.group)) =
      s.passed ∙ ap (λ (l : List Group). first (groups_rules d l)) x.next.is ∙ groups_first d (group_at d i x.group) x.next.rest ∙ rw (ne_eqb (first (group_rules d (group_at d i x.group))) 0 due.1) in
      (due.0 ∙ ap refused (sym same), λ z. due.1 (sym same ∙ z))

  -- it is not refused
  module _ {g : GroupAt} (h : groups < e.groups) (sound : Sound d i e) (q : group_check d i at ≡ Ok g) where
    passes : Next d i at g s.left × (first (group_rules d (group_at d i g)) ≡ 0)
    passes =
        let x = surveying_next h in
        let none = group_sound d i at x.next.found q in
        rw none.0 (x.next, none.1)

    abbrev x : Next d i at g s.left
    x = passes.0

    abbrev sets : ℕ
    sets = length (sets_of (segments d (body_of i g)))

    found : GroupFound d i at g
    found = next_found d i at x.found

    answerable : Answerable d i g
    answerable = record {
      ordered = found.body_ordered;
      inside = omega (arith, found.body_before, x.within);
      passed = passed d _ (sets_pass d (group_at d i g) passes.1);
      short = sound.short;
      apart = sound.apart;
    }

    body_long : length (body_of i g) ≡ g.body_end - g.body
    body_long = simp (length-take, length-drop) (omega (arith, found.body_ordered, found.body_before, x.within))

    -- there is room for its sets, and for one entry more
    room_left : entries + sets < size
    room_left =
        omega (
          arith,
          sets_number d (body_of i g) answerable.passed.headers,
          body_long,
          found.header_before,
          found.body_ordered,
          found.body_before,
          x.within,
          s.room,
          s.most,
          at_most sound,
        )

    pub entries_inside : entries < size
    entries_inside = omega (arith, room_left)

    pub surveyable : {valid : List Bool} {ids : List (List ℕ)} {rows : Guide} → valid ≡ valid_bytes d → ids ≡ directory_rows → rows ≡ all_rows
        → Surveyable d i g valid ids rows entries (mid_of entries (length starts - entries) starts) (mid_of entries (length marks - entries) marks) links
    surveyable v j r = record {
      answerable = answerable;
      bytes = v;
      directory = j;
      tables = r;
      cleared = record {
        none = s.linked;
        places = rw (part_all entries starts, length-drop) (omega (arith, room_left, s.stored));
        marked = rw (part_all entries marks, length-drop) (omega (arith, room_left, s.marked));
        linked = omega (arith, room_left, s.slots);
        few = omega (arith, room_left, s.few);
      };
      small = omega (arith, body_long, found.header_before, found.body_ordered, found.body_before, x.within, sound.short);
    }

    -- its entries are there too
    pub entries_next : {s' : List ℕ} {m' : List Mark} {l' : List ℕ} {r : GroupSurvey} → SurveyedGroup d i g entries s' m' l' r → entries + r.entries ≤ size
    entries_next w =
        omega (
          arith,
          room_left,
          w.number,
          w.recorded.looked.received,
          reports_count d (table_of d i g) [] (sets_of (segments d (body_of i g))),
        )

    -- after it was looked at
    pub surveying_turn : {s' : List ℕ} {m' : List Mark} {l' : List ℕ} {r : GroupSurvey} {n' : ℕ} → SurveyedGroup d i g entries s' m' l' r
        → length s' ≡ length (mid_of entries (length starts - entries) starts) → length m' ≡ length (mid_of entries (length marks - entries) marks) → length l' ≡ length links
        → n' ≡ sat (n + r.length)
        → Surveying d i e size (put_mid entries (length starts - entries) starts s') (put_mid entries (length marks - entries) marks m') l' g.next (groups + 1) (entries + r.entries) n'
    unfolding transaction_sets
    surveying_turn {s'} {m'} {l'} {r} {n'} w p₁ p₂ p₃ joined =
        let k = entries + r.entries in
        let ks : entries ≤ length starts = omega (arith, room_left, s.stored) in
        let km : entries ≤ length marks = omega (arith, room_left, s.marked) in
        let ls : length s' ≡ length starts - entries = p₁ ∙ ap length (part_all entries starts) ∙ length-drop entries starts in
        let lm : length m' ≡ length marks - entries = p₂ ∙ ap length (part_all entries marks) ∙ length-drop entries marks in
        let starts' = put_mid entries (length starts - entries) starts s' in
        let marks' = put_mid entries (length marks - entries) marks m' in
        record {
          left = x.rest;
          steps = x.steps;
          counted = omega (arith, s.counted, ap length x.is);
          passed = s.passed ∙ ap (λ (l : List Group). first (groups_rules d l)) x.is ∙ groups_first d (group_at d i g) x.rest ∙ rw passes.1;
          measured =
              omega (
                arith,
                joined,
                w.length (groups + 1),
                rw x.is at s.measured,
                length_out_append d (transaction_of d i g (groups + 1)) (transaction_sets (groups + 1 + 1) (map (group_report d) x.rest)),
              );
          owed = λ S M a b rest.
              s.owed S M
              (take_less entries k S starts' (omega arith) a ∙ take_rest entries starts s' ks)
              (take_less entries k M marks' (omega arith) b ∙ take_rest entries marks m' km)
              (rw (x.found, x.is)
              (entries_of
              (group_stays w.recorded
              (agree_from entries (w.sets.received + 1) S starts' (rw w.number at a) ∙ ap (take (w.sets.received + 1)) (drop_rest entries starts s' ks))
              (agree_from entries (w.sets.received + 1) M marks' (rw w.number at b) ∙ ap (take (w.sets.received + 1)) (drop_rest entries marks m' km)))
              (rw (w.number, ← add_assoc entries w.sets.received 1) at rest)));
          linked = w.linked;
          long = omega (arith, joined);
          room =
              omega (
                arith,
                w.number,
                w.recorded.looked.received,
                reports_count d (table_of d i g) [] (sets_of (segments d (body_of i g))),
                sets_number d (body_of i g) answerable.passed.headers,
                body_long,
                found.header_before,
                found.body_ordered,
                found.body_before,
                x.within,
                s.room,
              );
          most = s.most;
          few = s.few;
          stored = length_rest entries starts s' ks ls ∙ s.stored;
          marked = length_rest entries marks m' km lm ∙ s.marked;
          slots = p₃ ∙ s.slots;
        }

  -- all groups were looked at
  pub surveying_end : e.groups ≤ groups
      → (first (groups_rules d (groups_by d i)) ≡ 0)
      × ((n ≡ sat (length (out d (acknowledgments d i)))) × Entries d i starts marks 0 (Some e.first) (groups_by d i))
  unfolding groups_rules first transaction_sets out
  surveying_end h =
      let none : s.left ≡ [] = empty s.left (omega (arith, s.counted)) in (
        rw none at s.passed,
        (omega (arith, s.long, rw none at s.measured), s.owed starts marks refl refl (rw (none, none_of s.steps none) no_entry)),
      )

-- 4. The second pass.
-- The entries that are left, and the next group.
pub record NextEntries (d : Delimiters) (i : Bytes) (starts : List ℕ) (marks : List Mark) (k at : ℕ) (left : List Group) : Type 0 where
  pub group : GroupAt
  pub rest : List Group
  pub sets : Tally
  pub found : next_group d i at ≡ Some group
  pub is : left ≡ group_at d i group ∷ rest
  pub recorded : GroupEntries d i group sets (drop k starts) (drop k marks)
  pub entries : Entries d i starts marks (k + sets.received + 1) (next_group d i group.next) rest

next_entries : {d : Delimiters} {i : Bytes} {starts : List ℕ} {marks : List Mark} {k at : ℕ} {s : Option GroupAt} {left : List Group} → Entries d i starts marks k s left
    → next_group d i at ≡ s → 0 < length left → NextEntries d i starts marks k at left
next_entries no_entry e h = absurd (omega arith)
next_entries (entries_of {g = g} {gs} {sets} recorded entries) e h =
    record { group = g; rest = gs; sets = sets; found = e; is = refl; recorded = recorded; entries = entries }

-- The 997s of the groups that are left are still owed: o is the buffer before the first was written, after n bytes, and o₁ the present one.
pub record Writing (d : Delimiters) (i : Bytes) (e : Envelope) (starts : List ℕ) (marks : List Mark) (n : ℕ) (p : Progress) (o o₁ : Bytes) : Type 0 where
  pub left : List Group
  pub entries : Entries d i starts marks p.entry (next_group d i p.at) left
  pub counted : p.number + length left ≡ e.groups + 1
  pub text : Owes (out d (transaction_sets p.number (map (group_report d) left))) p.length o₁ n (out d (acknowledgments d i)) o
  pub long : p.length < 18446744073709551616
  pub stays : length o₁ ≡ length o
  pub small : length o < 9223372036854775808

pub writing_start : {d : Delimiters} {i : Bytes} {e : Envelope} {ids : List (List ℕ)} {rows : Guide} {starts : List ℕ} {marks : List Mark} {n : ℕ} {o : Bytes}
    → Recorded d i e ids rows starts marks → n < 18446744073709551616 → length o < 9223372036854775808
    → Writing d i e starts marks n (record { at = e.first.gs; entry = 0; number = 1; length = n }) o o
writing_start {d} {i} {n = n} {o} r h small = record {
  left = groups_by d i;
  entries = rw (first_found r.sound) r.entries;
  counted = omega (arith, r.sound.envelope.counted);
  text = owes-all n _ o;
  long = h;
  stays = refl;
  small = small;
}

module _ {d : Delimiters} {i : Bytes} {e : Envelope} {starts : List ℕ} {marks : List Mark} {n : ℕ} {p : Progress} {o o₁ : Bytes}
    (w : Writing d i e starts marks n p o o₁) where
  -- a group is left
  pub writing_next : p.number ≤ e.groups → NextEntries d i starts marks p.entry p.at w.left
  writing_next h = next_entries w.entries refl (omega (arith, w.counted))

  pub writable : {ids : List (List ℕ)} {rows : Guide} → Recorded d i e ids rows starts marks → p.number ≤ e.groups → Writable d i p ids rows starts marks
  writable r h =
      let x = writing_next h in
      record {
        directory = r.directory;
        tables = r.tables;
        number = omega (arith, at_most r.sound);
        few = r.few;
        group = x.group;
        found = x.found;
        sets = x.sets;
        recorded = x.recorded;
      }

  -- after its 997 was written
  pub writing_turn : (x : NextEntries d i starts marks p.entry p.at w.left) {r : Progress} {o₂ : Bytes}
      → WroteGroup d i p x.group x.sets r o₁ o₂ → Writing d i e starts marks n r o o₂
  unfolding transaction_sets
  writing_turn x {r} {o₂} f = record {
    left = x.rest;
    entries = rw (f.at, f.entry) x.entries;
    counted = omega (arith, f.number, w.counted, ap length x.is);
    text =
        rw f.number
        (pay w.text f.text
        (ap (λ (l : List Group). out d (transaction_sets p.number (map (group_report d) l))) x.is
        ∙ out_append d (transaction_of d i x.group p.number) (transaction_sets (p.number + 1) (map (group_report d) x.rest))));
    long = omega (arith, f.text.count);
    stays = kept f.text ∙ w.stays;
    small = w.small;
  }

  -- all 997s were written
  pub writing_end : e.groups < p.number → From n (out d (acknowledgments d i)) p.length o o₁
  unfolding transaction_sets out
  writing_end h =
      let none : w.left ≡ [] = empty w.left (omega (arith, w.counted)) in
      done w.text (rw none) w.long (omega (arith, w.stays, w.small))
