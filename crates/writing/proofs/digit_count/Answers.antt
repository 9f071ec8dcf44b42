-- `writing::digit_count` meets its contract.
use native.Mathlib.Omega.{arith}
use Rattle.writing.proofs.Numbers.{digits_counted}
use Rattle.writing.proofs.digit_count.Goals as goal

pub returns : goal.returns
returns c =
    let log = c.checked_ilog10.ensures in
    rw c.unwrap_or.ensures (digits_counted _ c.args.v log.none log.power_le log.next_power_gt (omega arith))
