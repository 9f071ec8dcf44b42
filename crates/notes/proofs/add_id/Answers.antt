-- `notes::add_id` meets its contract.
use mathlib.Core.Path.{sym}
use lib.Seq.{length-take-le}
use Rattle.notes.proofs.Laws.{three_of, id_end, id_is}
use Rattle.notes.proofs.add_id.Goals as goal

pub slice_bounds-bytes-end : goal.slice_bounds-bytes-end
slice_bounds-bytes-end c = id_end c.args.id _ c.find-end.ensures

pub slice_bounds-add_field-end : goal.slice_bounds-add_field-end
slice_bounds-add_field-end c = sym (length-take-le _ (three_of c.args.id) (id_end c.args.id _ c.find-end.ensures))

pub returns : goal.returns
returns c = rw (id_is c.args.id _ c.find-end.ensures) at c.add_field.ensures
