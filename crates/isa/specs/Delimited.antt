-- What refusals 2 to 5 come to.
use Rattle.std.specs.Prelude.{Result}
use Rattle.rules.specs.Base.{Bytes, first}
use Rattle.rules.specs.Cutting.{delimiters}
use Rattle.rules.specs.Refusals.{head_rules}
use Rattle.rules.specs.Refused.{unless}
use Rattle.rules.specs.declared.Delimiters.{Delimiters}
use Rattle.rules.specs.declared.Refusal.{Refusal}

-- the delimiters of an interchange that refusals 2 to 5 let pass
unfoldable pub isa_of : Bytes → Result Delimiters Refusal
isa_of i = unless (first (head_rules i)) (delimiters i)
