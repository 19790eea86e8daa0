-- The order of levels, and the higher and the lower of two.
use mathlib.Core.Path.{◌≡◌, refl, sym, ◌∙◌}
use mathlib.Core.Bool.{Bool, true, false, cond}
use mathlib.Core.Logic.{◌⊎◌, inl, inr}
use native.Mathlib.Omega.{arith}
use native.Mathlib.Nat.{le_refl}
use lib.IntN.{ℤ, pos, negsuc}
use lib.Signed.{le_z}
use borrow.Author.Tests.{leb-true, leb-false, le-leb}
use Rattle.units.specs.Comparisons.{within_is}
use Rattle.units.specs.Range.{within, higher, lower}
use Rattle.units.proofs.Booleans.{both_ways, and_parts}

pub le_itself : (a : ℤ) → le_z a a ≡ true
le_itself (pos a) = le-leb a a (le_refl a)
le_itself (negsuc a) = le-leb a a (le_refl a)

pub le_through : (a b c : ℤ) → le_z a b ≡ true → le_z b c ≡ true → le_z a c ≡ true
le_through (pos a) (pos b) (pos c) p q = le-leb a c (omega (arith, leb-true a b p, leb-true b c q))
le_through (pos a) (pos b) (negsuc c) p q = q
le_through (pos a) (negsuc b) (pos c) p q = both_ways (sym p)
le_through (pos a) (negsuc b) (negsuc c) p q = p
le_through (negsuc a) (pos b) (pos c) p q = refl
le_through (negsuc a) (pos b) (negsuc c) p q = both_ways (sym q)
le_through (negsuc a) (negsuc b) (pos c) p q = refl
le_through (negsuc a) (negsuc b) (negsuc c) p q = le-leb c a (omega (arith, leb-true b a p, leb-true c b q))

pub le_either : (a b : ℤ) → le_z a b ≡ false → le_z b a ≡ true
le_either (pos a) (pos b) p = le-leb b a (omega (arith, leb-false a b p))
le_either (pos a) (negsuc b) p = refl
le_either (negsuc a) (pos b) p = both_ways p
le_either (negsuc a) (negsuc b) p = le-leb a b (omega (arith, leb-false b a p))

module _ (a b : ℤ) where
  pub higher_bounds : (le_z a (higher a b) ≡ true) × (le_z b (higher a b) ≡ true)
  unfolding higher
  higher_bounds = go (le_z b a) refl
    where
      go : (t : Bool) → le_z b a ≡ t → (le_z a (cond t a b) ≡ true) × (le_z b (cond t a b) ≡ true)
      go true e = (le_itself a, e)
      go false e = (le_either b a e, le_itself b)

  pub lower_bounds : (le_z (lower a b) a ≡ true) × (le_z (lower a b) b ≡ true)
  unfolding lower
  lower_bounds = go (le_z a b) refl
    where
      go : (t : Bool) → le_z a b ≡ t → (le_z (cond t a b) a ≡ true) × (le_z (cond t a b) b ≡ true)
      go true e = (le_itself a, e)
      go false e = (le_either a b e, le_itself b)

  pub higher_one : (higher a b ≡ a) ⊎ (higher a b ≡ b)
  unfolding higher
  higher_one = go (le_z b a)
    where
      go : (t : Bool) → (cond t a b ≡ a) ⊎ (cond t a b ≡ b)
      go true = inl refl
      go false = inr refl

  pub lower_one : (lower a b ≡ a) ⊎ (lower a b ≡ b)
  unfolding lower
  lower_one = go (le_z a b)
    where
      go : (t : Bool) → (cond t a b ≡ a) ⊎ (cond t a b ≡ b)
      go true = inl refl
      go false = inr refl

pub within_parts : (from to level : ℤ) → within from to level ≡ true → (le_z from level ≡ true) × (le_z level to ≡ true)
within_parts from to level e = and_parts (le_z from level) (le_z level to) (sym (within_is from to level) ∙ e)

-- ranges that lie apart share no level
pub apart : (from to from' to' level : ℤ) → le_z from' to ≡ false → within from to level ≡ true → within from' to' level ≡ false
apart from to from' to' level gap e = go (within from' to' level) refl
  where
    go : (t : Bool) → within from' to' level ≡ t → t ≡ false
    go true e' = both_ways (sym (le_through from' level to (within_parts from' to' level e').0 (within_parts from to level e).1) ∙ gap)
    go false e' = refl
