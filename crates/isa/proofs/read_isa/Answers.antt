-- `isa::read_isa` meets its contract: each test stands for its rule.
use Rattle.std.proofs.Common.{◌≡◌, ℕ, Bool, true, Ok, Err, sym, ap, ◌∙◌, length, drop, arith}
use Rattle.rules.specs.Base.{Bytes, between, first}
use Rattle.rules.specs.Cutting.{delimiters, marks}
use Rattle.rules.specs.Refusals.{has_isa, good_marks, head_rules}
use Rattle.rules.specs.Refused.{refused}
use Rattle.rules.specs.declared.Delimiters.{Delimiters}
use Rattle.rules.proofs.Refused.{unless_none, unless_number}
use Rattle.isa.specs.Delimited.{isa_of}
use Rattle.isa.proofs.read_isa.Goals as goal
use Rattle.isa.proofs.read_isa.Goals.{After-is_good_isa}

-- a number of the rules is the refusal with that number
refused_by : (i : Bytes) (n : ℕ) → (n ≡ 0 → ⊥) → first (head_rules i) ≡ n → Err (refused n) ≡ isa_of i
unfolding isa_of
refused_by i n h e = rw (← e) (unless_number _ (delimiters i) (λ z. h (sym e ∙ z)))

sound : (i : Bytes) {d : Delimiters} → d ≡ delimiters i → first (head_rules i) ≡ 0 → Ok d ≡ isa_of i
unfolding isa_of
sound i p e = rw p (unless_none _ (delimiters i) e)

-- the marks are those of the interchange
good : (i : Bytes) {d : Delimiters} {r q : Bool} → d ≡ delimiters i → r ≡ good_marks (marks d) → r ≡ q → good_marks (marks (delimiters i)) ≡ q
good i p r q = sym (r ∙ ap (λ (d : Delimiters). good_marks (marks d)) p) ∙ q

-- the first k rules do not apply where their tests were passed
abbrev passed : ℕ → Bytes → Type 0
passed k i = first (head_rules i) ≡ first (drop k (head_rules i))

module _ (i : Bytes) (sized : between 106 65536 (length i) ≡ true) where
  passed_length : passed 1 i
  unfolding first head_rules
  passed_length = rw sized

  module _ (named : has_isa i ≡ true) where
    passed_isa : passed 2 i
    unfolding first head_rules
    passed_isa = passed_length ∙ rw named

    passed_marks : good_marks (marks (delimiters i)) ≡ true → passed 3 i
    unfolding first head_rules
    passed_marks e = passed_isa ∙ rw e

pub returns-then-not-is_between : goal.returns-then-not-is_between
unfolding first head_rules refused
returns-then-not-is_between c = refused_by _ 2 (λ z. omega (arith, z)) (rw (sym c.is_between.ensures ∙ c.if-not-is_between.true))

pub returns-then-not-has_isa : goal.returns-then-not-has_isa
unfolding first head_rules refused
returns-then-not-has_isa c =
    let i = c.args.i.now in
    refused_by i 3 (λ z. omega (arith, z))
    (passed_length i (sym c.is_between.ensures ∙ c.if-not-is_between.false) ∙ rw (sym c.has_isa.ensures ∙ c.if-not-has_isa.true))

pub returns-then-not-has_good_marks : goal.returns-then-not-has_good_marks
unfolding first head_rules refused
returns-then-not-has_good_marks c =
    let i = c.args.i.now in
    refused_by i 4 (λ z. omega (arith, z))
    (passed_isa i (sym c.is_between.ensures ∙ c.if-not-is_between.false) (sym c.has_isa.ensures ∙ c.if-not-has_isa.false)
    ∙ rw (good i c.delimiters-d.ensures c.has_good_marks.ensures c.if-not-has_good_marks.true))

-- the last rule is asked where the marks are good
last_rule : (c : After-is_good_isa) → passed 3 c.args.i.now
last_rule c =
    let i = c.args.i.now in
    passed_marks i (sym c.is_between.ensures ∙ c.if-not-is_between.false) (sym c.has_isa.ensures ∙ c.if-not-has_isa.false)
    (good i c.delimiters-d.ensures c.has_good_marks.ensures c.if-not-has_good_marks.false)

pub returns-then-not-is_good_isa : goal.returns-then-not-is_good_isa
unfolding first head_rules refused
returns-then-not-is_good_isa c =
    refused_by c.args.i.now 5 (λ z. omega (arith, z))
    (last_rule (goal.at.returns-then-not-is_good_isa c).After-is_good_isa ∙ rw (← c.delimiters-d.ensures, sym c.is_good_isa.ensures ∙ c.if-not-is_good_isa.true))

pub returns : goal.returns
unfolding first head_rules
returns c =
    sound c.args.i.now c.delimiters-d.ensures
    (last_rule (goal.at.returns c).After-is_good_isa ∙ rw (← c.delimiters-d.ensures, sym c.is_good_isa.ensures ∙ c.if-not-is_good_isa.false))
