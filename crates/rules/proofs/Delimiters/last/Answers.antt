-- `rules::Delimiters::last` meets its contract.
use Rattle.std.proofs.Common.{◌≡◌, ℕ, ◌∷◌, Option, None, Some, unwrap_or, refl, ◌∙◌}
use Rattle.rules.specs.Base.{last}
use Rattle.rules.specs.Cutting.{repetition_mark, marks}
use Rattle.rules.proofs.Delimiters.last.Goals as goal

-- the last of three delimiters and of the fourth, where there is one
last_of : (e c t : ℕ) (r : Option ℕ) → unwrap_or r t ≡ last 0 (e ∷ c ∷ t ∷ repetition_mark r)
unfolding last
last_of e c t None = refl
last_of e c t (Some s) = refl

pub returns : goal.returns
unfolding marks
returns c = let d = c.args.self in c.unwrap_or.ensures ∙ last_of d.element d.component d.terminator d.repetition
