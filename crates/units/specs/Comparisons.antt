-- Ranges, and the higher and the lower of two levels, by comparisons: the laws of trait `Quantity` are proved by these.
use Rattle.std.specs.Prelude.{◌≡◌, ◌&&◌, cond, ℕ, leb, ℤ}
use Rattle.std.specs.Int.Signed.{le_z}
use Rattle.std.proofs.Common.{rules}
use Rattle.units.specs.Range.{within, from_to, higher, lower}

pub within_is : (from to level : ℤ) → within from to level ≡ (le_z from level && le_z level to)
unfolding within
within_is from to level = search rules

pub from_to_is : (from to n : ℕ) → from_to from to n ≡ (leb from n && leb n to)
unfolding from_to
from_to_is from to n = search rules

pub higher_is : (a b : ℤ) → higher a b ≡ cond (le_z b a) a b
unfolding higher
higher_is a b = search rules

pub lower_is : (a b : ℤ) → lower a b ≡ cond (le_z a b) a b
unfolding lower
lower_is a b = search rules
