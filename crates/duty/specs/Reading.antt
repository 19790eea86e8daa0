-- The reading of a duty (document 01, "Duty and current"). A duty is in tenths of a percent, a current in milliamps.
use Rattle.std.specs.Prelude.{cond, ℕ, ◌*◌, ◌-◌}
use Rattle.units.specs.Range.{from_to}

-- what a duty tells a van, or the number of the refusal
pub data Reads : Type 0 where
  no_charging : Reads
  digital_only : Reads
  current : ℕ → Reads
  refused : ℕ → Reads

-- the reading, row by row; refusal 9 past the end of the scale
unfoldable pub reading_of : ℕ → Reads
reading_of d =
    cond (from_to 0 29 d) no_charging
    (cond (from_to 30 70 d) digital_only
    (cond (from_to 71 79 d) no_charging
    (cond (from_to 80 99 d) (current 6000)
    (cond (from_to 100 850 d) (current (60 * d))
    (cond (from_to 851 960 d) (current (250 * (d - 640)))
    (cond (from_to 961 970 d) (current 80000)
    (cond (from_to 971 1000 d) no_charging (refused 9))))))))
