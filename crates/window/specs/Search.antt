-- How the search for the levels goes on: the levels found so far, with one more reading.
use Rattle.std.specs.Prelude.{Bool, false, cond, List, [], ◌∷◌, ℤ}
use Rattle.units.specs.Range.{within, higher, lower}
use Rattle.window.specs.Evaluation.{Evaluation, levels, refused}

-- the reading lies within the levels found so far
unfoldable pub inside : Evaluation → ℤ → Bool
inside (levels high low) reading = within low high reading
inside (refused number) reading = false

-- the levels found so far, with one more supported reading
unfoldable pub widen : Evaluation → ℤ → Evaluation
widen (levels high low) reading = levels (higher high reading) (lower low reading)
widen (refused number) reading = levels reading reading

-- the levels found so far, with the supported ones of more readings
unfoldable pub gather : (ℤ → Bool) → Evaluation → List ℤ → Evaluation
gather test found [] = found
gather test found (reading ∷ readings) = gather test (cond (test reading) (widen found reading) found) readings
