-- The entries of a group: its sets as surveyed, and the one that ends them.
use Rattle.std.specs.Prelude.{if◌then◌else◌}
use Prim.Native.Nat.{ℕ, zero, suc, ◌+◌, ◌-◌, ◌≤◌, ◌<◌}
use mathlib.Core.Path.{◌≡◌, refl, sym, ap, ◌∙◌}
use mathlib.Core.Bool.{Bool, true, false}
use mathlib.Core.List.{List, [], ◌∷◌}
use native.Mathlib.Numerals.{add-one}
use native.Mathlib.Omega.{arith}
use Rattle.std.proofs.lemmas.List.{take_rest}
use lib.ListN.{length, take, drop, get_or, set, length-set, length-take, drop_of_length-le}
use lib.Seq.{drop-cons, take-take, take-set-le, get_or-take, get_or-set_same, get_or-set_other}
use Rattle.rules.specs.Base.{Bytes}
use Rattle.rules.specs.Sets.{SetReport, accepted}
use Rattle.rules.specs.Groups.{accepted_in}
use Rattle.rules.specs.declared.Delimiters.{Delimiters}
use Rattle.verdicts.specs.declared.Tally.{Tally}
use Rattle.envelope.specs.declared.GroupAt.{GroupAt}
use Rattle.acknowledgment.specs.declared.set_block.Mark.{Mark}
use Rattle.acknowledgment.specs.declared.set_block.Mark.TheVariants.{Accepted, GroupEnd}
use Rattle.acknowledgment.specs.Surveys.{reports, mark_by, is_accepted, is_end, MarkIs, Looked, acceptances, tally_from, tally_of}
use Rattle.acknowledgment.specs.Entries.{body_of, table_of, Answerable, GroupEntries}

-- 1. The mark that ends a group is no set's.
mark_other : (repeated quiet clean : Bool) → is_end (mark_by repeated quiet clean) ≡ false
mark_other true true clean = refl
mark_other true false clean = refl
mark_other false true true = refl
mark_other false true false = refl
mark_other false false true = refl
mark_other false false false = refl

-- any other mark is none of an end, or of an accepted set
pub not_end : (m : Mark) → (m ≡ GroupEnd → ⊥) → is_end m ≡ false
not_end GroupEnd h = absurd (h refl)
not_end _ h = refl

pub not_accepted : (m : Mark) → (m ≡ Accepted → ⊥) → is_accepted m ≡ false
not_accepted Accepted h = absurd (h refl)
not_accepted _ h = refl

mark_set : {repeated : Bool} {r : SetReport} {m : Mark} → MarkIs repeated r m → is_end m ≡ false
mark_set {repeated} {r} m = rw m.marked (mark_other repeated m.quiet (accepted r))

tally_ends : (ms : List Mark) (n r a : ℕ) → n < length ms → ((k : ℕ) → k < n → is_end (get_or ms k Accepted) ≡ false) → get_or ms n Accepted ≡ GroupEnd
    → tally_from r a ms ≡ record { received = r + n; accepted = a + acceptances (take n ms) }
unfolding tally_from acceptances
tally_ends [] n r a h f e = absurd (omega arith)
tally_ends (m ∷ ms) zero r a h f e = let z : r + 0 ≡ r = omega arith in let y : a + 0 ≡ a = omega arith in rw (e, z, y)
tally_ends (m ∷ ms) (suc n) r a h f e = rw (f 0 (omega arith)) (go (is_accepted m) (λ b. tally_ends ms n (r + 1) b (omega arith) (λ k l. f (suc k) (omega arith)) e))
  where
    go : (b : Bool)
        → ((a : ℕ) → tally_from (r + 1) a ms ≡ record { received = r + 1 + n; accepted = a + acceptances (take n ms) })
        → tally_from (r + 1) (if b then a + 1 else a) ms
        ≡ record { received = r + suc n; accepted = a + (if b then suc (acceptances (take n ms)) else acceptances (take n ms)) }
    go true next =
        let x : r + 1 + n ≡ r + suc n = omega arith in
        let y : a + 1 + acceptances (take n ms) ≡ a + suc (acceptances (take n ms)) = omega arith in
        rw (x, y) at (next (a + 1))
    go false next = let x : r + 1 + n ≡ r + suc n = omega arith in rw x at (next a)

-- up to it the sets of a group are counted
pub tally_is : {d : Delimiters} {i : Bytes} {g : GroupAt} {sets : Tally} {starts : List ℕ} {marks : List Mark} → GroupEntries d i g sets starts marks → tally_of marks ≡ sets
tally_is {sets = sets} {marks = marks} e =
    let n : 0 + sets.received ≡ sets.received = omega arith in
    let a : 0 + acceptances (take sets.received marks) ≡ sets.accepted = omega (arith, e.counted) in
    tally_ends marks sets.received 0 0 e.marked (λ k l. mark_set (e.looked.seen k l).marked) e.ended ∙ rw (n, a)

-- one mark after the other
mark_left : (ms : List Mark) (k : ℕ) → k < length ms → drop k ms ≡ get_or ms k Accepted ∷ drop (k + 1) ms
mark_left ms k h = rw add-one (drop-cons ms k Accepted h)

module _ (ms : List Mark) (k r a : ℕ) where
  pub tally_stops : k < length ms → is_end (get_or ms k Accepted) ≡ true → tally_from r a (drop k ms) ≡ record { received = r; accepted = a }
  unfolding tally_from
  tally_stops h e = rw (mark_left ms k h, e)

  pub tally_mark : {a' : ℕ} → k < length ms → is_end (get_or ms k Accepted) ≡ false → a' ≡ (if is_accepted (get_or ms k Accepted) then a + 1 else a)
      → tally_from r a (drop k ms) ≡ tally_from (r + 1) a' (drop (k + 1) ms)
  unfolding tally_from
  tally_mark h e g = rw (mark_left ms k h, e, g)

  pub tally_none : length ms ≤ k → tally_from r a (drop k ms) ≡ record { received = r; accepted = a }
  unfolding tally_from
  tally_none h = rw (drop_of_length-le ms {i = k} h)

-- 2. The entry after those of the sets is stored.
module _ {d : Delimiters} {i : Bytes} {g : GroupAt} {sets : Tally} {starts : List ℕ} {marks : List Mark} (a : Answerable d i g)
    (s : Looked d (table_of d i g) (body_of i g) starts marks sets.received) where
  pub group_ended : sets.accepted ≡ accepted_in (reports d (table_of d i g) (body_of i g)) → sets.accepted ≡ acceptances (take sets.received marks)
      → sets.received < length starts → sets.received < length marks
      → GroupEntries d i g sets (set starts sets.received (length (body_of i g))) (set marks sets.received GroupEnd)
  group_ended allowed counted h k =
      let n = sets.received in
      let x = length (body_of i g) in
      record {
        answerable = a;
        looked = record {
          received = s.received;
          stored = rw (length-set starts n x) s.stored;
          marked = rw (length-set marks n GroupEnd) s.marked;
          seen = λ k h.
              rw (
                take-set-le k starts n x (omega arith),
                get_or-set_other starts n k x 0 (λ e. omega arith),
                get_or-set_other marks n k GroupEnd Accepted (λ e. omega arith),
              )
              (s.seen k h);
        };
        allowed = allowed;
        counted = rw (take-set-le n marks n GroupEnd (omega arith)) counted;
        stored = rw (length-set starts n x) h;
        marked = rw (length-set marks n GroupEnd) k;
        ended = get_or-set_same marks n GroupEnd Accepted k;
        ends = get_or-set_same starts n x 0 h;
      }

-- 3. The entries of a group stay where the lists stay up to its last.
module _ {A : Type 0} where
  -- the part of a list from k on
  pub part_all : (k : ℕ) (xs : List A) → take (length xs - k) (drop k xs) ≡ drop k xs
  part_all k xs = take_rest xs k

  pub take_less : (j n : ℕ) (xs ys : List A) → j ≤ n → take n xs ≡ take n ys → take j xs ≡ take j ys
  take_less j n xs ys h e = sym (take-take j n xs h) ∙ ap (take j) e ∙ take-take j n ys h

  get_d_less : (j n : ℕ) (xs ys : List A) (d : A) → j < n → take n xs ≡ take n ys → get_or xs j d ≡ get_or ys j d
  get_d_less j n xs ys d h e = sym (get_or-take n xs j d h) ∙ ap (λ (l : List A). get_or l j d) e ∙ get_or-take n ys j d h

  inside_less : (n : ℕ) (xs ys : List A) → n < length xs → take (n + 1) ys ≡ take (n + 1) xs → n < length ys
  inside_less n xs ys h e =
      omega (arith, length-take (n + 1) ys, length-take (n + 1) xs, ap length e)

pub group_stays : {d : Delimiters} {i : Bytes} {g : GroupAt} {sets : Tally} {starts S : List ℕ} {marks M : List Mark} → GroupEntries d i g sets starts marks
    → take (sets.received + 1) S ≡ take (sets.received + 1) starts → take (sets.received + 1) M ≡ take (sets.received + 1) marks
    → GroupEntries d i g sets S M
group_stays {sets = sets} {starts} {S} {marks} {M} e p q =
    let n = sets.received in
    let hs = inside_less n starts S e.stored p in
    let hm = inside_less n marks M e.marked q in
    record {
      answerable = e.answerable;
      looked = record {
        received = e.looked.received;
        stored = omega arith;
        marked = omega arith;
        seen = λ k h.
            rw (
              take_less k (n + 1) S starts (omega arith) p,
              get_d_less k (n + 1) S starts 0 (omega arith) p,
              get_d_less k (n + 1) M marks Accepted (omega arith) q,
            )
            (e.looked.seen k h);
      };
      allowed = e.allowed;
      counted = rw (take_less n (n + 1) M marks (omega arith) q) e.counted;
      stored = hs;
      marked = hm;
      ended = get_d_less n (n + 1) M marks Accepted (omega arith) q ∙ e.ended;
      ends = get_d_less n (n + 1) S starts 0 (omega arith) p ∙ e.ends;
    }
