-- A span compared with a difference is a sum compared with the later time.
use mathlib.Core.Path.{◌≡◌, refl, sym}
use mathlib.Core.Bool.{Bool, true, false}
use Prim.Native.Nat.{ℕ, ◌+◌, ◌-◌, ◌≤◌, ◌<◌}
use native.Mathlib.Omega.{arith}
use lib.Dec.{leb, ltb}
use borrow.Author.Tests.{leb-true, leb-false, le-leb, lt-leb, ltb-true, ltb-false, lt-ltb, le-ltb}

module _ (since span time : ℕ) where
  pub at_least : since ≤ time → leb span (time - since) ≡ leb (since + span) time
  at_least past = go (leb span (time - since)) refl
    where
      go : (t : Bool) → leb span (time - since) ≡ t → t ≡ leb (since + span) time
      go true e = sym (le-leb (since + span) time (omega (arith, leb-true span (time - since) e)))
      go false e = sym (lt-leb (since + span) time (omega (arith, leb-false span (time - since) e)))

  pub more_than : since ≤ time → ltb span (time - since) ≡ ltb (since + span) time
  more_than past = go (ltb span (time - since)) refl
    where
      go : (t : Bool) → ltb span (time - since) ≡ t → t ≡ ltb (since + span) time
      go true e = sym (lt-ltb (since + span) time (omega (arith, ltb-true span (time - since) e)))
      go false e = sym (le-ltb (since + span) time (omega (arith, ltb-false span (time - since) e)))

  pub not_at_least : time < since → false ≡ leb (since + span) time
  not_at_least later = sym (lt-leb (since + span) time (omega arith))

  pub not_more_than : time < since → false ≡ ltb (since + span) time
  not_more_than later = sym (le-ltb (since + span) time (omega arith))
