-- Laws of the greatest number that passes a test.
use mathlib.Core.Path.{◌≡◌, refl}
use mathlib.Core.Bool.{Bool, true, false}
use mathlib.Core.Option.{none, some}
use Prim.Native.Nat.{ℕ, zero, suc, ◌<◌}
use native.Mathlib.Omega.{arith}
use native.Mathlib.Decide.{dec_lt}
use native.Mathlib.Nat.{not-suc-le-zero}
use Rattle.duty.specs.GreatestBelow.{or_else, greatest_below}

-- a number that passes, with none above it that does, is the greatest
pub is_greatest : (test : ℕ → Bool) (end d : ℕ) → d < end → test d ≡ true
    → ((e : ℕ) → d < e → e < end → test e ≡ false) → greatest_below test end ≡ some d
unfolding or_else greatest_below
is_greatest test zero d h p above = absurd (not-suc-le-zero h)
is_greatest test (suc n) d h p above = go (dec_lt d n) (is_greatest test n d)
  where
    go : Dec (d < n) → (d < n → test d ≡ true → ((e : ℕ) → d < e → e < n → test e ≡ false) → greatest_below test n ≡ some d)
        → greatest_below test (suc n) ≡ some d
    go (yes l) ih =
        let last : test n ≡ false = above n l (omega arith) in
        rw last (ih l p (λ e a b. above e a (omega arith)))
    go (no l) ih =
        let here : d ≡ n = omega arith in
        let top : test n ≡ true = rw here at p in
        rw (top, here)

-- where nothing passes there is no greatest
pub none_greatest : (test : ℕ → Bool) (end : ℕ) → ((e : ℕ) → e < end → test e ≡ false) → greatest_below test end ≡ none
unfolding or_else greatest_below
none_greatest test zero fails = refl
none_greatest test (suc n) fails = rw (fails n (omega arith)) (none_greatest test n (λ e h. fails e (omega arith)))
