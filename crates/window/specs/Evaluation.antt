-- A window of readings to levels (document 01, "Window to levels"). Levels are in millivolts.
use Rattle.std.specs.Prelude.{Bool, true, ◌&&◌, not, cond, List, [], ◌∷◌, ℕ, ℤ, pos, neg_ℤ, length}
use Rattle.units.specs.Range.{within, from_to, higher, lower}
use Rattle.window.specs.Support.{supported}

-- the high and the low level, or the number of the refusal
pub data Evaluation : Type 0 where
  levels : ℤ → ℤ → Evaluation
  refused : ℕ → Evaluation

-- the range of a window's length: 256 to 1,024
unfoldable pub length_allowed : List ℤ → Bool
length_allowed window = from_to 256 1024 (length window)

-- the range of a reading: -15,000 to 15,000
abbrev pub reading_allowed : ℤ → Bool
reading_allowed reading = within (neg_ℤ (pos 15000)) (pos 15000) reading

-- every reading is in range
unfoldable pub all_allowed : List ℤ → Bool
all_allowed [] = true
all_allowed (reading ∷ readings) = reading_allowed reading && all_allowed readings

-- the readings that pass a test
unfoldable pub select : (ℤ → Bool) → List ℤ → List ℤ
select test [] = []
select test (reading ∷ readings) =
    let rest = select test readings in
    cond (test reading) (reading ∷ rest) rest

-- of a reading and more readings, the one that is left when one of two is kept each time
unfoldable pub extreme : (ℤ → ℤ → ℤ) → ℤ → List ℤ → ℤ
extreme keep first [] = first
extreme keep first (reading ∷ readings) = extreme keep (keep first reading) readings

-- the greatest of some readings: the high level, where they are the supported ones
unfoldable pub greatest : ℤ → List ℤ → ℤ
greatest first readings = extreme higher first readings

-- the least of them: the low level
unfoldable pub least : ℤ → List ℤ → ℤ
least first readings = extreme lower first readings

-- the high and the low level of the supported readings; refusal 6 where there is none
unfoldable pub levels_of : List ℤ → Evaluation
levels_of [] = refused 6
levels_of (reading ∷ readings) = levels (greatest reading readings) (least reading readings)

-- the levels of the supported readings of a window
unfoldable pub supported_levels : List ℤ → Evaluation
supported_levels window = levels_of (select (supported window) window)

-- a window evaluated: refusal 4 for its length, then 5 for a reading, then 6
unfoldable pub evaluate : List ℤ → Evaluation
evaluate window =
    cond (not (length_allowed window)) (refused 4)
    (cond (not (all_allowed window)) (refused 5) (supported_levels window))
