-- `guides::scope_of` meets its contract.
use Rattle.guides.specs.Choice.{scope_in}
use Rattle.guides.proofs.scope_of.Goals as goal

pub returns : goal.returns
unfolding scope_in
returns c = rw (c.edition_of.ensures, c.field-2.ensures, c.is_supported.ensures, c.field.ensures)
