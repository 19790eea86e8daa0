-- The count of a controller in range is that of the definitions: it does not come to its end.
use mathlib.Core.Path.{◌≡◌, refl}
use mathlib.Core.Bool.{Bool, true, false}
use Prim.Native.Nat.{ℕ, ◌≤◌}
use native.Mathlib.Omega.{arith}
use Rattle.rules.specs.Altered.{most_closings}
use Rattle.rules.specs.Step5Closing.{closings_by}
use Rattle.parts.specs.Counted.{counted}

pub counted_whole : (closing : Bool) (closings : ℕ) → closings ≤ most_closings → counted closing closings ≡ closings_by closing closings
unfolding counted closings_by
counted_whole true closings few = omega arith
counted_whole false closings few = refl
