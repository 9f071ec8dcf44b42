-- `elements::Marks::two_of` meets its contract.
use Rattle.std.proofs.Common.{◌≡◌, rules}
use Rattle.std.specs.List.{count_by}
use Rattle.elements.specs.Marks.{marked}
use Rattle.elements.proofs.Broken.{two_count}
use Rattle.elements.proofs.Marks.two_of.Goals as goal

pub returns : goal.returns
returns c =
    let counted : c.count.result ≡ count_by (marked c.args.self) c.args.places.now = search rules in
    rw (two_count, counted)
