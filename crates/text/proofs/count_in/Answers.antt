-- `text::count_in` meets its contract.
use Rattle.std.proofs.Common.{sym, ap, ◌∙◌, arith, Some, ◌≡◌, true, min, length}
use Rattle.rules.specs.Base.{between}
use Rattle.rules.specs.Numbers.{digits, count_in}
use Rattle.text.proofs.Digits.{between_true, read_none, read_low, read_more, read_other, read_all}
use Rattle.text.proofs.count_in.Goals as goal
use Rattle.text.proofs.count_in.Goals.{Else-not-is_between}

-- as many bytes as a count may have
few : (c : Else-not-is_between) → between 1 (min c.args.most 10) (length c.args.s.now) ≡ true
few c = rw (← c.min.ensures) (sym c.is_between.ensures ∙ c.if-not-is_between.false)

pub returns-then-not-is_between : goal.returns-then-not-is_between
unfolding count_in digits
returns-then-not-is_between c = rw (← c.min.ensures, sym c.is_between.ensures ∙ c.if-not-is_between.true)

pub loop-b-init : goal.loop-b-init
loop-b-init c = read_none _ (omega (arith, between_true 1 (min c.args.most 10) (length c.args.s.now) (few c)))

pub returns-then-not-is_ascii_digit : goal.returns-then-not-is_ascii_digit
unfolding count_in digits
returns-then-not-is_ascii_digit c =
    rw (few (goal.at.returns-then-not-is_ascii_digit c).Else-not-is_between, read_other c.loop-b.invariant c.loop-b-test.true (sym c.is_ascii_digit.ensures.value ∙ c.if-not-is_ascii_digit.true))

pub overflow_mul-n : goal.overflow_mul-n
overflow_mul-n c = omega (arith, read_low c.loop-b.invariant c.loop-b-test.true)

pub loop-b-preserved : goal.loop-b-preserved
loop-b-preserved c = rw c.from.ensures (read_more c.loop-b.invariant c.loop-b-test.true (sym c.is_ascii_digit.ensures.value ∙ c.if-not-is_ascii_digit.false))

pub returns : goal.returns
unfolding count_in digits
returns c =
    let all = read_all c.loop-b.invariant c.loop-b-test.false in
    rw (few (goal.at.returns c).Else-not-is_between, all.0) (ap Some (sym all.1))
