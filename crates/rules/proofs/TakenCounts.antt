-- An accepted call was lent a controller whose count is in range.
use mathlib.Core.Path.{◌≡◌, refl, ap}
use mathlib.Core.Bool.{Bool, true, false, ◌&&◌, not, cond}
use Prim.Native.Nat.{ℕ, ◌≤◌}
use native.Mathlib.Omega.{arith}
use lib.Dec.{eqb, leb}
use borrow.Author.Tests.{eqb-true, leb-true}
use Rattle.units.proofs.Booleans.{clash}
use Rattle.rules.specs.Altered.{Lent, most_closings, in_range, altered, lent_refusal}
use Rattle.rules.specs.Calls.{EvaluatedCall}
use Rattle.rules.specs.Refusals.{or_else, time_refusal, argument_refusal}

-- no refusal means that neither part refuses
pub neither : (a b : ℕ) → eqb (or_else a b) 0 ≡ true → (a ≡ 0) × (b ≡ 0)
neither a b e = go (eqb a 0) refl e
  where
    go : (t : Bool) → eqb a 0 ≡ t → eqb (cond t b a) 0 ≡ true → (a ≡ 0) × (b ≡ 0)
    go true p q = (eqb-true a 0 p, eqb-true b 0 q)
    go false p q = clash q p

pub count_in_range : (lent : Lent) (call : EvaluatedCall) → eqb (lent_refusal lent call) 0 ≡ true → lent.closings ≤ most_closings
unfolding lent_refusal altered
count_in_range lent call e =
    go (in_range lent.state) (leb lent.closings most_closings) refl
    (neither (cond (altered lent) 1 0) (argument_refusal lent.state.settings.digital call.event) (is_none (neither (time_refusal lent.state.last call.time) _ e).1)).0
  where
    is_none : {n : ℕ} → n ≡ 0 → eqb n 0 ≡ true
    is_none p = ap (λ m. eqb m 0) p

    go : (range few : Bool) → leb lent.closings most_closings ≡ few → ◌≡◌ {A = ℕ} (cond (not (range && few)) 1 0) 0 → lent.closings ≤ most_closings
    go true true p q = leb-true lent.closings most_closings p
    go true false p q = absurd (omega arith)
    go false few p q = absurd (omega arith)
