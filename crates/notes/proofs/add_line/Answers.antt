-- `notes::add_line` meets its contract.
use Rattle.notes.proofs.Sofar.{adds_one}
use Rattle.notes.proofs.add_line.Goals as goal

pub returns : goal.returns
returns c = adds_one c.add_ak3.ensures c.one_more.ensures
