-- The greatest number that passes a test.
use Rattle.std.specs.Prelude.{Bool, cond, ℕ, zero, suc}
use Rattle.std.proofs.Math.Option.{Option, none, some}

-- the first of two answers, or the second where the first is none
unfoldable pub or_else : Option ℕ → Option ℕ → Option ℕ
or_else none other = other
or_else (some n) other = some n

-- the greatest number below `end` that passes the test, or none: the last one if it passes, else the greatest below it
unfoldable pub greatest_below : (ℕ → Bool) → ℕ → Option ℕ
greatest_below test zero = none
greatest_below test (suc last) =
    let rest = greatest_below test last in
    or_else (cond (test last) (some last) none) rest
