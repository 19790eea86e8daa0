use Rattle.std.proofs.Common.{refl, rules}
use Rattle.std.proofs.lemmas.List.Recursion.{and_is}
use Rattle.std.specs.Prelude.{pos}
use Rattle.window.specs.Evaluation.{reading_allowed, all_allowed}
use Rattle.window.proofs.readings.all_allowed.Goals as goal

pub returns : goal.returns
unfolding all_allowed
returns c = and_is all_allowed reading_allowed refl (λ _ _. refl) c.args.window.now (pos 0) _ (search rules) (search rules)
