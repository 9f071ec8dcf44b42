-- `rules::Delimiters::separates_repetitions` meets its contract.
use Rattle.std.proofs.Common.{◌≡◌, ℕ, Option, None, Some, eqb, refl, sym, ◌∙◌}
use Rattle.std.specs.Option.{option_eq}
use Rattle.rules.specs.Base.{any}
use Rattle.rules.specs.Cutting.{repetition_mark, separates_repetitions}
use Rattle.rules.proofs.Logic.{or_none}
use Rattle.rules.proofs.Delimiters.separates_repetitions.Goals as goal

-- b is the separator, where there is one: it is one of none or one
one_of : (b : ℕ) (r : Option ℕ) → option_eq eqb (Some b) r ≡ any (eqb b) (repetition_mark r)
unfolding any
one_of b None = refl
one_of b (Some s) = sym (or_none (eqb b s))

pub returns : goal.returns
unfolding separates_repetitions
returns c = c.eq.ensures ∙ one_of c.args.b c.args.self.repetition
