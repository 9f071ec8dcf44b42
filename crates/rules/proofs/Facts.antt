-- What the definitions promise: one outcome for each call, a verdict by the codes alone, and counts that count.
use Rattle.std.specs.Prelude.{if◌then◌else◌, Option, Err}
use mathlib.Core.Path.{◌≡◌, refl, sym, ◌∙◌, ap}
use mathlib.Core.Bool.{Bool, true, false, ◌&&◌, false≢true}
use mathlib.Core.List.{List, [], ◌∷◌, ◌++◌, map, append-nil, append_assoc}
use Prim.Native.Nat.{ℕ, zero, suc, ◌+◌, ◌-◌, ◌≤◌}
use native.Mathlib.Omega.{arith}
use borrow.Author.Tests.{ne_eqb, le-leb, eqb-true, eqb-false}
use lib.Dec.{T, eqb, leb}
use lib.ListN.{length, length-append}
use Rattle.rules.specs.Base.{Bytes, ascii, null, same, last, Rule, ◌⇒◌, first}
use Rattle.rules.specs.Cutting.{field, delimiters, isa, segments}
use Rattle.rules.specs.Numbers.{decimal}
use Rattle.rules.specs.Sets.{Set, control_of, SetReport, accepted}
use Rattle.rules.specs.Tables.{Table}
use Rattle.rules.specs.Groups.{Group, groups_of, sets, table_in, set_reports, accepted_in, GroupReport, group_report}
use Rattle.rules.specs.Refusals.{call_rules, head_rules, end_rules, envelope_rules, trailer_rules, header_rules, answer_rules, set_rules, group_rules, groups_rules, most_groups, refusal_rules, refusal}
use Rattle.rules.specs.Response.{se_out, told, transaction_set}
use Rattle.rules.specs.InterchangeAcknowledgment.{interchange_rules, interchange_refusal}
use Rattle.rules.specs.Answers.{Reply, Answer, fitting, answer, buffer, needed, Allowed, outcome, called, functional_acknowledgment, interchange_acknowledgment}
use Rattle.rules.specs.declared.Call.{Call}
use Rattle.rules.specs.Refused.{number_of, refused}
use Rattle.rules.specs.declared.Refusal.{Refusal}
use Rattle.rules.specs.declared.Refusal.TheVariants.{BadCall, BadLength, NoIsa, BadDelimiters, BadIsa, NotTerminated, OutOfPlace, BadTrailer, BadHeader, Acknowledgment, Outside, NoSet, BadSetHeader, TooLong, NotAsked}
use Rattle.rules.specs.declared.Delimiters.{Delimiters}
use Rattle.rules.proofs.Logic.{and_left, and_right, last_snoc, or_else, numbered, first_append, both_left, both_right, numbered_in, first_low}

-- what holds of each refusal that a rule's number stands for holds of the refusal of any number
refused_by : (Q : Refusal → Type 0) → Q BadCall → Q BadLength → Q NoIsa → Q BadDelimiters → Q BadIsa → Q NotTerminated → Q OutOfPlace → Q BadTrailer → Q BadHeader → Q Acknowledgment → Q Outside → Q NoSet → Q BadSetHeader → Q NotAsked
    → (n : ℕ) → Q (refused n)
unfolding refused
refused_by Q a b c d e f g h i j k l m z zero = a
refused_by Q a b c d e f g h i j k l m z (suc zero) = a
refused_by Q a b c d e f g h i j k l m z (suc (suc zero)) = b
refused_by Q a b c d e f g h i j k l m z (suc (suc (suc zero))) = c
refused_by Q a b c d e f g h i j k l m z (suc (suc (suc (suc zero)))) = d
refused_by Q a b c d e f g h i j k l m z (suc (suc (suc (suc (suc zero))))) = e
refused_by Q a b c d e f g h i j k l m z (suc (suc (suc (suc (suc (suc zero)))))) = f
refused_by Q a b c d e f g h i j k l m z (suc (suc (suc (suc (suc (suc (suc zero))))))) = g
refused_by Q a b c d e f g h i j k l m z (suc (suc (suc (suc (suc (suc (suc (suc zero)))))))) = h
refused_by Q a b c d e f g h i j k l m z (suc (suc (suc (suc (suc (suc (suc (suc (suc zero))))))))) = i
refused_by Q a b c d e f g h i j k l m z (suc (suc (suc (suc (suc (suc (suc (suc (suc (suc zero)))))))))) = j
refused_by Q a b c d e f g h i j k l m z (suc (suc (suc (suc (suc (suc (suc (suc (suc (suc (suc zero))))))))))) = k
refused_by Q a b c d e f g h i j k l m z (suc (suc (suc (suc (suc (suc (suc (suc (suc (suc (suc (suc zero)))))))))))) = l
refused_by Q a b c d e f g h i j k l m z (suc (suc (suc (suc (suc (suc (suc (suc (suc (suc (suc (suc (suc zero))))))))))))) = m
refused_by Q a b c d e f g h i j k l m z (suc (suc (suc (suc (suc (suc (suc (suc (suc (suc (suc (suc (suc (suc n)))))))))))))) = let less : (suc (suc (suc (suc (suc (suc (suc (suc (suc (suc (suc (suc (suc (suc n)))))))))))))) - 1 ≡ (suc (suc (suc (suc (suc (suc (suc (suc (suc (suc (suc (suc (suc n))))))))))))) = omega arith in rw less z

-- no refusal that a number stands for changes the buffer
kept_refused : (n : ℕ) (r lent : Bytes) → buffer (Err (refused n)) r lent ≡ lent
kept_refused n r lent = refused_by (λ e. buffer (Err e) r lent ≡ lent) refl refl refl refl refl refl refl refl refl refl refl refl refl refl n

-- 1. What is allowed: a response where there is no refusal, and a refusal that leaves the buffer as it was. It has the outcome of the call, and two
-- allowed outcomes coincide: the answer, and with it number and length, and every byte of the buffer.
module _ (reply : Reply) (lent : Bytes) where
  pub response_allowed : {a : Answer} {left : Bytes} → reply.refusal ≡ 0
      → (a ≡ fitting reply.response (length lent)) × (left ≡ buffer a reply.response lent) → Allowed reply lent a left
  unfolding Allowed answer
  response_allowed e p = (rw e p.0, p.1)

  pub refusal_allowed : {n : ℕ} → n ≡ reply.refusal → (n ≡ 0 → ⊥) → Allowed reply lent (Err (refused n)) lent
  unfolding Allowed answer
  refusal_allowed {n} e h = (rw (← e, ne_eqb n 0 h), sym (kept_refused n reply.response lent))

-- The refusal that the reply's number stands for has this number.
abbrev pub Numbered : Reply → Type 0
Numbered reply = (reply.refusal ≡ 0 → ⊥) → number_of (refused reply.refusal) ≡ reply.refusal

-- no refusal that a number stands for has a length
needed_refused : (n : ℕ) → needed (refused n) ≡ 0
needed_refused n = refused_by (λ e. needed e ≡ 0) refl refl refl refl refl refl refl refl refl refl refl refl refl refl n

pub allowed_outcome : (reply : Reply) (lent : Bytes) (a : Answer) {left : Bytes} → Numbered reply → Allowed reply lent a left → outcome a left ≡ called reply lent
unfolding Allowed answer called
allowed_outcome reply lent a {left} numbered p = go (eqb reply.refusal 0) refl (leb (length reply.response) (length lent)) refl
  where
    go : (b : Bool) → eqb reply.refusal 0 ≡ b → (c : Bool) → leb (length reply.response) (length lent) ≡ c → outcome a left ≡ called reply lent
    go true q true k = rw (p.1, p.0, q, k)
    go true q false k = rw (p.1, p.0, q, k)
    go false q c k = rw (p.1, p.0, q, kept_refused reply.refusal reply.response lent, numbered (eqb-false reply.refusal 0 q), needed_refused reply.refusal)

module _ (reply : Reply) (lent : Bytes) (a₁ a₂ : Answer) (l₁ l₂ : Bytes)
    (p : Allowed reply lent a₁ l₁) (q : Allowed reply lent a₂ l₂) where
  pub once : outcome a₁ l₁ ≡ outcome a₂ l₂
  unfolding Allowed
  once = rw (p.1, q.1, p.0, q.0)

  pub once_answer : a₁ ≡ a₂
  unfolding Allowed
  once_answer = p.0 ∙ sym q.0

-- 2. A set is accepted exactly when it has no code.
pub accepted_without : (r : SetReport) → r.codes ≡ [] → accepted r ≡ true
accepted_without r e = rw e

no_codes : (cs : List ℕ) → null cs ≡ true → cs ≡ []
no_codes [] e = refl
no_codes (c ∷ cs) e = absurd (false≢true e)

pub without_codes : (r : SetReport) → accepted r ≡ true → r.codes ≡ []
without_codes r e = no_codes r.codes e

-- 3. AK903 is the number of sets, and each has its report; AK904 is the number of accepted ones, or 0 under AK901 R.
pub reports_count : (d : Delimiters) (table : Set → Option Table) (earlier : List Bytes) (ss : List Set) → length (set_reports d table earlier ss) ≡ length ss
unfolding set_reports
reports_count d table earlier [] = refl
reports_count d table earlier (s ∷ ss) = ap suc (reports_count d table (control_of s ∷ earlier) ss)

module _ (d : Delimiters) (g : Group) where
  pub received_counts : (group_report d g).received ≡ length (sets g)
  unfolding group_report
  received_counts = refl

  pub every_reported : length (group_report d g).sets ≡ length (sets g)
  unfolding group_report
  every_reported = reports_count d (table_in g.header) [] (sets g)

  pub allowed_counts : (group_report d g).allowed ≡ if same (group_report d g).verdict (ascii "R") then 0 else accepted_in (group_report d g).sets
  unfolding group_report
  allowed_counts = refl

-- 4. SE01 of the response is the number of segments from ST to SE.
pub segments_counted : (st02 : Bytes) (g : GroupReport) → field (last [] (transaction_set st02 g)) 1 ≡ decimal (length (transaction_set st02 g))
unfolding transaction_set se_out
segments_counted st02 g =
    rw (last_snoc [] (told st02 g) (se_out (length (told st02 g) + 1) st02), length-append (told st02 g) (se_out (length (told st02 g) + 1) st02 ∷ []))

-- 5. A refusal number is at most 13.
-- whatever the groups are, their rules have numbers from 9 to 13
pub groups_numbered : (lo : ℕ) → lo ≤ 9 → (d : Delimiters) (gs : List Group) → numbered_in lo 13 (groups_rules d gs) ≡ true
unfolding groups_rules group_rules header_rules answer_rules set_rules
groups_numbered lo h d [] = refl
groups_numbered lo h d (g ∷ gs) =
    rw (le-leb lo 9 h, le-leb lo 10 (omega arith), le-leb lo 11 (omega arith), le-leb lo 12 (omega arith), le-leb lo 13 (omega arith))
    (groups_numbered lo h d gs)

pub refusal_low : (i : Bytes) (call : Call) → refusal i call ≤ 13
unfolding refusal refusal_rules call_rules head_rules end_rules envelope_rules trailer_rules group_rules header_rules answer_rules set_rules
refusal_low i call = first_low 1 13 (refusal_rules i call) (groups_numbered 1 (omega arith) (delimiters i) (groups_of (segments (delimiters i) i)))

-- The refusal with a number from 1 to 13 has that number.
pub number_refused : (n : ℕ) → n ≤ 13 → (n ≡ 0 → ⊥) → number_of (refused n) ≡ n
unfolding refused
number_refused zero e h = absurd (h refl)
number_refused (suc zero) e h = refl
number_refused (suc (suc zero)) e h = refl
number_refused (suc (suc (suc zero))) e h = refl
number_refused (suc (suc (suc (suc zero)))) e h = refl
number_refused (suc (suc (suc (suc (suc zero))))) e h = refl
number_refused (suc (suc (suc (suc (suc (suc zero)))))) e h = refl
number_refused (suc (suc (suc (suc (suc (suc (suc zero))))))) e h = refl
number_refused (suc (suc (suc (suc (suc (suc (suc (suc zero)))))))) e h = refl
number_refused (suc (suc (suc (suc (suc (suc (suc (suc (suc zero))))))))) e h = refl
number_refused (suc (suc (suc (suc (suc (suc (suc (suc (suc (suc zero)))))))))) e h = refl
number_refused (suc (suc (suc (suc (suc (suc (suc (suc (suc (suc (suc zero))))))))))) e h = refl
number_refused (suc (suc (suc (suc (suc (suc (suc (suc (suc (suc (suc (suc zero)))))))))))) e h = refl
number_refused (suc (suc (suc (suc (suc (suc (suc (suc (suc (suc (suc (suc (suc zero))))))))))))) e h = refl
number_refused (suc (suc (suc (suc (suc (suc (suc (suc (suc (suc (suc (suc (suc (suc n)))))))))))))) e h = absurd (omega (arith, e))

-- the refusal of a number has that number where each of the rules that give it has one that does
abbrev all_known : List Rule → Bool
all_known [] = true
all_known ((b ⇒ n) ∷ rs) = eqb (number_of (refused n)) n && all_known rs

known : (rs : List Rule) → all_known rs ≡ true → (first rs ≡ 0 → ⊥) → number_of (refused (first rs)) ≡ first rs
unfolding first
known [] e h = absurd (h refl)
known ((true ⇒ n) ∷ rs) e h = eqb-true _ n (and_left (eqb (number_of (refused n)) n) (all_known rs) e)
known ((false ⇒ n) ∷ rs) e h = known rs (and_right (eqb (number_of (refused n)) n) (all_known rs) e) h

-- so it is of both entries
pub functional_numbered : (i : Bytes) (call : Call) → Numbered (functional_acknowledgment i call)
functional_numbered i call h = number_refused (refusal i call) (refusal_low i call) h

pub interchange_numbered : (i : Bytes) (call : Call) → Numbered (interchange_acknowledgment i call)
unfolding interchange_refusal interchange_rules call_rules head_rules refused
interchange_numbered i call h = known (interchange_rules i call) refl h

-- no refusal has the number 0
pub numbered_refusal : (r : Refusal) → number_of r ≡ 0 → ⊥
numbered_refusal BadCall e = omega (arith, e)
numbered_refusal BadLength e = omega (arith, e)
numbered_refusal NoIsa e = omega (arith, e)
numbered_refusal BadDelimiters e = omega (arith, e)
numbered_refusal BadIsa e = omega (arith, e)
numbered_refusal NotTerminated e = omega (arith, e)
numbered_refusal OutOfPlace e = omega (arith, e)
numbered_refusal BadTrailer e = omega (arith, e)
numbered_refusal BadHeader e = omega (arith, e)
numbered_refusal Acknowledgment e = omega (arith, e)
numbered_refusal Outside e = omega (arith, e)
numbered_refusal NoSet e = omega (arith, e)
numbered_refusal BadSetHeader e = omega (arith, e)
numbered_refusal (TooLong n) e = omega (arith, e)
numbered_refusal NotAsked e = omega (arith, e)

-- 6. The refusal is that of the first block of rules that has one.
unfoldable pub first_of : List ℕ → ℕ
first_of [] = 0
first_of (n ∷ ns) = or_else n (eqb n 0) (first_of ns)

-- blocks of rules, one after the other
abbrev in_order : List (List Rule) → List Rule
in_order [] = []
in_order (rs ∷ rss) = rs ++ in_order rss

abbrev all_numbered : List (List Rule) → Bool
all_numbered [] = true
all_numbered (rs ∷ rss) = numbered rs && all_numbered rss

first_in_order : (rss : List (List Rule)) → T (all_numbered rss) → first (in_order rss) ≡ first_of (map first rss)
unfolding first first_of
first_in_order [] t = refl
first_in_order (rs ∷ rss) t =
    first_append rs (in_order rss) (both_left (numbered rs) (all_numbered rss) t)
    ∙ ap (or_else (first rs) (eqb (first rs) 0)) (first_in_order rss (both_right (numbered rs) (all_numbered rss) t))

-- no rule of a group gives 0
pub groups_numbers : (d : Delimiters) (gs : List Group) → T (numbered (groups_rules d gs))
unfolding groups_rules group_rules header_rules answer_rules set_rules
groups_numbers d [] = tt
groups_numbers d (g ∷ gs) = groups_numbers d gs

alone : (a : Bool) → T a → T (a && true)
alone true t = tt
alone false t = t

module _ (i : Bytes) (call : Call) where
  abbrev rule_blocks : List (List Rule)
  rule_blocks =
      let d = delimiters i in
      let ss = segments d i in
      call_rules call
      ∷ (head_rules i
      ∷ (end_rules d i
      ∷ (envelope_rules most_groups ss
      ∷ (trailer_rules (last [] ss) (length (groups_of ss)) (field (isa i) 13)
      ∷ (groups_rules d (groups_of ss)
      ∷ [])))))

  rules_in_order : refusal_rules i call ≡ in_order rule_blocks
  unfolding refusal_rules
  rules_in_order = simp (append_assoc, append-nil)

  blocks_numbered : T (all_numbered rule_blocks)
  unfolding call_rules head_rules end_rules envelope_rules trailer_rules
  blocks_numbered = alone (numbered (groups_rules (delimiters i) (groups_of (segments (delimiters i) i)))) (groups_numbers (delimiters i) (groups_of (segments (delimiters i) i)))

pub refusal_blocks : (i : Bytes) (call : Call)
    → let d = delimiters i in
    let ss = segments d i in
    refusal i call
    ≡ first_of (
    first (call_rules call)
    ∷ (first (head_rules i)
    ∷ (first (end_rules d i)
    ∷ (first (envelope_rules most_groups ss)
    ∷ (first (trailer_rules (last [] ss) (length (groups_of ss)) (field (isa i) 13))
    ∷ (first (groups_rules d (groups_of ss))
    ∷ []))))))
unfolding refusal
refusal_blocks i call =
    ap first (rules_in_order i call) ∙ first_in_order (rule_blocks i call) (blocks_numbered i call)

-- the same for one group
pub group_blocks : (d : Delimiters) (g : Group)
    → first (group_rules d g)
    ≡ first_of (
    first (header_rules d g.header)
    ∷ (first (answer_rules g.header)
    ∷ (first (set_rules d g.body)
    ∷ [])))
unfolding group_rules header_rules answer_rules set_rules
group_blocks d g =
    first_in_order (header_rules d g.header ∷ (answer_rules g.header ∷ (set_rules d g.body ∷ []))) tt
