-- A number's size is at most 200 exactly if it lies from -200 to 200; the size of a difference; and numbers of 32 bits read back.
use mathlib.Core.Bool.{Bool, true, false, cond}
use Prim.Native.Nat.{ℕ, zero, suc, ◌+◌, ◌-◌, ◌≤◌}
use Rattle.std.proofs.Common.{◌≡◌, refl, ◌&&◌, leb, arith}
use Rattle.std.specs.Int.Signed.{le_z}
use lib.Dec.{ltb}
use lib.IntN.{ℤ, pos, negsuc, sub_ℕ, ◌-ℤ◌, nat_abs}
use lib.Signed.{mag}
use mir.Facts.{sfits_widen}
use mir.Syntax.{w32, w64}
use mir.Val.{SFits, to_z, of_z}
use mir.ValLaws.{to_z-of_z}

pub at_most_200 : (z : ℤ) → le_z (negsuc 199) z && le_z z (pos 200) ≡ leb (nat_abs z) 200
at_most_200 (pos n) = refl
at_most_200 (negsuc n) = grind arith

mag_sub : (a b : ℕ) → mag (sub_ℕ a b) ≤ a + b
mag_sub a b = go (ltb a b) refl
  where
    go : (t : Bool) → ltb a b ≡ t → mag (cond t (negsuc (b - suc a)) (pos (a - b))) ≤ a + b
    go true e = omega arith
    go false e = omega arith

-- the size of a difference
pub mag_difference : (a b : ℤ) → mag (a -ℤ b) ≤ mag a + mag b + 2
mag_difference (pos m) (pos zero) = omega arith
mag_difference (pos m) (pos (suc n)) = omega (arith, mag_sub m (suc n))
mag_difference (pos m) (negsuc n) = omega arith
mag_difference (negsuc m) (pos zero) = omega (arith, mag_sub 0 (suc m))
mag_difference (negsuc m) (pos (suc n)) = omega arith
mag_difference (negsuc m) (negsuc n) = omega (arith, mag_sub (suc n) (suc m))

-- a number of 32 bits is itself when its bits are read back
pub read32 : (z : ℤ) → SFits w32 z → to_z w32 (of_z w32 z) ≡ z
read32 z f = to_z-of_z w32 z f

-- and so it is when it is widened to 64 bits
pub read64 : (z : ℤ) → SFits w32 z → to_z w64 (of_z w64 z) ≡ z
read64 z f = to_z-of_z w64 z (sfits_widen {w = w32} {w' = w64} {z = z} tt f)
