-- How many faults are latched.
use mathlib.Core.Bool.{Bool, true, false, cond}
use Prim.Native.Nat.{ℕ, ◌≤◌}
use native.Mathlib.Omega.{arith}
use Rattle.rules.specs.Faults.{Faults, is_place, count_of, how_many}

-- at most five are latched
pub count_most : (place : ℕ) → count_of place ≤ 1
count_most place = go (is_place place)
  where
    go : (b : Bool) → cond b 1 0 ≤ 1
    go true = omega arith
    go false = omega arith

pub many_most : (s : Faults) → how_many s ≤ 5
unfolding how_many
many_most s =
    omega (arith, count_most s.diode, count_most s.overcurrent, count_most s.residual, count_most s.welded, count_most s.temperature)
