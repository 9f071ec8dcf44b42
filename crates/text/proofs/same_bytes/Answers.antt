-- `text::same_bytes` meets its contract.
use Rattle.std.proofs.Common.{rules}
use Rattle.rules.proofs.Library.{same-is}
use Rattle.text.proofs.same_bytes.Goals as goal

pub returns : goal.returns
returns c = rw same-is (search rules)
