-- The next controller, where the lent one was not altered, and where the call is refused.
use mathlib.Core.Path.{◌≡◌, ap}
use mathlib.Core.Bool.{Bool, false, cond}
use lib.Dec.{eqb}
use borrow.Author.Tests.{ne_eqb}
use Rattle.rules.specs.Altered.{Lent, altered, lent_refusal}
use Rattle.rules.specs.Calls.{EvaluatedCall}
use Rattle.rules.specs.Answer.{accept_lent, next}
use Rattle.rules.specs.Refusals.{refusal}

-- a controller that was not altered is refused what the table refuses
pub lent_refusal_lem : (lent : Lent) (call : EvaluatedCall) → altered lent ≡ false → lent_refusal lent call ≡ refusal lent.state call
unfolding lent_refusal refusal
lent_refusal_lem lent call e = rw e

pub next_by : (lent : Lent) (call : EvaluatedCall) (a : Bool) → eqb (lent_refusal lent call) 0 ≡ a → next lent call ≡ cond a (accept_lent lent call) lent
unfolding next
next_by lent call a e = ap (λ b. cond b (accept_lent lent call) lent) e

-- a refused call leaves the lent controller as it is
pub refused_next : (lent : Lent) (call : EvaluatedCall) → (lent_refusal lent call ≡ 0 → ⊥) → next lent call ≡ lent
refused_next lent call refused = next_by lent call false (ne_eqb (lent_refusal lent call) 0 refused)
