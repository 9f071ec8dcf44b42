-- `text::value` meets its contract.
use Rattle.text.proofs.Digits.{value_counted}
use Rattle.text.proofs.value.Goals as goal

pub returns : goal.returns
returns c = rw value_counted cc
