-- A square window of 256 readings evaluates to its two levels.
use mathlib.Core.Path.{◌≡◌, refl, sym, ◌∙◌, ap}
use mathlib.Core.Bool.{Bool, true, false, cond}
use mathlib.Core.List.{List, [], ◌∷◌, ◌++◌, append-nil}
use Prim.Native.Nat.{ℕ, zero, suc, ◌≤◌}
use native.Mathlib.Nat.{le_refl}
use native.Mathlib.Omega.{arith}
use lib.Dec.{leb}
use lib.IntN.{ℤ, pos, negsuc, nat_abs, +ℤ_invr}
use lib.ListN.{replicate}
use lib.Signed.{le_z}
use borrow.Author.Tests.{leb-true, le-leb}
use Rattle.units.specs.Range.{from_to, higher, lower}
use Rattle.units.proofs.LevelOrder.{le_itself}
use Rattle.window.specs.Support.{near, supporters, needed, supported}
use Rattle.window.specs.Evaluation.{levels, length_allowed, reading_allowed, all_allowed, select, extreme, greatest, least, levels_of, supported_levels, evaluate}
use Rattle.window.proofs.Refusals.{evaluated}
use Rattle.units.proofs.Booleans.{clash}

-- a window of 256 readings, half of them at each level
abbrev pub square_window : ℤ → ℤ → List ℤ
square_window high low = replicate 128 high ++ replicate 128 low

near_itself : (x : ℤ) → near x x ≡ true
unfolding near
near_itself x = ap (λ d. leb (nat_abs d) 200) (+ℤ_invr x)

all_of : (n : ℕ) (x : ℤ) (rest : List ℤ) → reading_allowed x ≡ true → all_allowed rest ≡ true → all_allowed (replicate n x ++ rest) ≡ true
unfolding all_allowed
all_of zero x rest right pauses = pauses
all_of (suc n) x rest right pauses = rw right (all_of n x rest right pauses)

-- a run of one reading supports it, and takes nothing from another
supporters_run : (n : ℕ) (x : ℤ) (rest : List ℤ) → n ≤ supporters x (replicate n x ++ rest)
unfolding supporters
supporters_run zero x rest = omega arith
supporters_run (suc n) x rest = rw (near_itself x) (omega (arith, supporters_run n x rest))

supporters_past : (n : ℕ) (x y : ℤ) (rest : List ℤ) → supporters x rest ≤ supporters x (replicate n y ++ rest)
unfolding supporters
supporters_past zero x y rest = le_refl (supporters x rest)
supporters_past (suc n) x y rest = go (near x y) (supporters_past n x y rest)
  where
    go : (t : Bool) → supporters x rest ≤ supporters x (replicate n y ++ rest)
        → supporters x rest ≤ cond t (suc (supporters x (replicate n y ++ rest))) (supporters x (replicate n y ++ rest))
    go true earlier = omega arith
    go false earlier = earlier

select_run : (test : ℤ → Bool) (n : ℕ) (x : ℤ) (rest : List ℤ) → test x ≡ true → select test (replicate n x ++ rest) ≡ replicate n x ++ select test rest
unfolding select
select_run test zero x rest passes = refl
select_run test (suc n) x rest passes = rw passes (ap (λ l. x ∷ l) (select_run test n x rest passes))

extreme_run : (keep : ℤ → ℤ → ℤ) (n : ℕ) (x : ℤ) (rest : List ℤ) → keep x x ≡ x → extreme keep x (replicate n x ++ rest) ≡ extreme keep x rest
unfolding extreme
extreme_run keep zero x rest same = refl
extreme_run keep (suc n) x rest same = ap (λ y. extreme keep y (replicate n x ++ rest)) same ∙ extreme_run keep n x rest same

extreme_end : (keep : ℤ → ℤ → ℤ) (n : ℕ) (x y : ℤ) → keep x y ≡ x → extreme keep x (replicate n y) ≡ x
unfolding extreme
extreme_end keep zero x y same = refl
extreme_end keep (suc n) x y same = ap (λ z. extreme keep z (replicate n y)) same ∙ extreme_end keep n x y same

higher_itself : (x : ℤ) → higher x x ≡ x
unfolding higher
higher_itself x = rw (le_itself x)

lower_itself : (x : ℤ) → lower x x ≡ x
unfolding lower
lower_itself x = rw (le_itself x)

same_level : (a b : ℤ) → le_z a b ≡ true → le_z b a ≡ true → a ≡ b
same_level (pos a) (pos b) p q = ap pos (omega (arith, leb-true a b p, leb-true b a q))
same_level (pos a) (negsuc b) p q = clash refl (sym p)
same_level (negsuc a) (pos b) p q = clash refl (sym q)
same_level (negsuc a) (negsuc b) p q = ap negsuc (omega (arith, leb-true b a p, leb-true a b q))

module _ (high low : ℤ) (order : le_z low high ≡ true) where
  higher_is : higher high low ≡ high
  unfolding higher
  higher_is = rw order

  lower_is : lower high low ≡ low
  unfolding lower
  lower_is = go (le_z high low) refl
    where
      go : (t : Bool) → le_z high low ≡ t → cond t high low ≡ low
      go true e = same_level high low e order
      go false e = refl

  module _ (n m : ℕ) where
    abbrev runs : List ℤ
    runs = replicate (suc n) high ++ replicate (suc m) low

    supported_high : 7 ≤ n → supported runs high ≡ true
    unfolding supported needed
    supported_high many = le-leb 8 (supporters high runs) (omega (arith, supporters_run (suc n) high (replicate (suc m) low)))

    supported_low : 7 ≤ m → supported runs low ≡ true
    unfolding supported needed
    supported_low many = le-leb 8 (supporters low runs) (omega (arith, supporters_past (suc n) low high (replicate (suc m) low), low_run (suc m)))
      where
        low_run : (k : ℕ) → k ≤ supporters low (replicate k low)
        low_run k = rw append-nil at (supporters_run k low [])

    selected : 7 ≤ n → 7 ≤ m → select (supported runs) runs ≡ runs
    unfolding select
    selected many more =
        select_run (supported runs) (suc n) high (replicate (suc m) low) (supported_high many)
        ∙ ap (λ l. replicate (suc n) high ++ l) (low_selected (suc m))
      where
        low_selected : (k : ℕ) → select (supported runs) (replicate k low) ≡ replicate k low
        low_selected k = rw append-nil at (select_run (supported runs) k low [] (supported_low more))

    highest : greatest high (replicate n high ++ replicate (suc m) low) ≡ high
    unfolding greatest
    highest = extreme_run higher n high (replicate (suc m) low) (higher_itself high) ∙ extreme_end higher (suc m) high low higher_is

    lowest : least high (replicate n high ++ replicate (suc m) low) ≡ low
    unfolding least extreme
    lowest =
        extreme_run lower n high (replicate (suc m) low) (lower_itself high)
        ∙ ap (λ z. extreme lower z (replicate m low)) lower_is
        ∙ extreme_end lower m low low (lower_itself low)

    levels_of_runs : 7 ≤ n → 7 ≤ m → supported_levels runs ≡ levels high low
    unfolding supported_levels levels_of
    levels_of_runs many more = ap levels_of (selected many more) ∙ rw (highest, lowest)

  pub square_levels : reading_allowed high ≡ true → reading_allowed low ≡ true → evaluate (square_window high low) ≡ levels high low
  unfolding length_allowed from_to all_allowed
  square_levels high_right low_right =
      evaluated (square_window high low) refl (all_of 128 high (replicate 128 low) high_right (rw low_right))
      ∙ levels_of_runs 127 127 (omega arith) (omega arith)
