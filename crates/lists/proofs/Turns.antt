-- One call more of a list.
use mathlib.Core.Path.{◌≡◌, refl}
use mathlib.Core.List.{List, [], ◌∷◌}
use Prim.Native.Nat.{ℕ, zero, suc, ◌<◌}
use native.Mathlib.Nat.{not-suc-le-zero, le_of_suc-le-suc}
use lib.ListN.{length, get_or, take}
use Rattle.rules.specs.Calls.{Call, EvaluatedCall, evaluated_call, in_turn}
use Rattle.lists.specs.Traces.{no_call}

pub turn_next : {S : Type 0} (one : S → EvaluatedCall → S) (s : S) (calls : List Call) (k : ℕ) → k < length calls
    → in_turn one s (take (suc k) calls) ≡ one (in_turn one s (take k calls)) (evaluated_call (get_or calls k no_call))
unfolding in_turn
turn_next one s [] k below = absurd (not-suc-le-zero below)
turn_next one s (call ∷ calls) zero below = refl
turn_next one s (call ∷ calls) (suc k) below = turn_next one (one s (evaluated_call call)) calls k (le_of_suc-le-suc below)
