-- Laws of a range of numbers.
use mathlib.Core.Path.{◌≡◌, refl}
use mathlib.Core.Bool.{Bool, true, false, ◌&&◌}
use mathlib.Core.Logic.{◌↔◌, inl, inr}
use Prim.Native.Nat.{ℕ, ◌≤◌, ◌<◌}
use native.Mathlib.Decide.{dec_lt}
use native.Mathlib.Omega.{arith}
use lib.Dec.{leb}
use borrow.Author.Tests.{le-leb, lt-leb, leb-false}
use Rattle.units.specs.Range.{from_to, Outside}
use Rattle.units.proofs.Booleans.{both_ways}

module _ (from to n : ℕ) where
  pub inside : from ≤ n → n ≤ to → from_to from to n ≡ true
  unfolding from_to
  inside h k = rw (le-leb from n h, le-leb n to k)

  pub under : n < from → from_to from to n ≡ false
  unfolding from_to
  under h = rw (lt-leb from n h)

  pub over : from ≤ n → to < n → from_to from to n ≡ false
  unfolding from_to
  over h k = rw (le-leb from n h, lt-leb n to k)

  pub outside_exactly : (from_to from to n ≡ false) ↔ Outside from to n
  unfolding from_to
  outside_exactly = (λ e. test (leb from n) (leb n to) refl refl e, λ out. back (dec_lt n from) out)
    where
      test : (a b : Bool) → leb from n ≡ a → leb n to ≡ b → a && b ≡ false → Outside from to n
      test true true p q e = both_ways e
      test true false p q e = inr (leb-false n to q)
      test false b p q e = inl (leb-false from n p)

      back : Dec (n < from) → Outside from to n → leb from n && leb n to ≡ false
      back (yes low) out = under low
      back (no high) (inl low) = absurd (high low)
      back (no high) (inr above) = over (omega arith) above
