-- The reading of a duty in each row of table A3.9, and which duties are allowed for a current.
use mathlib.Core.Path.{◌≡◌, refl}
use mathlib.Core.Bool.{true, false}
use Prim.Native.Nat.{ℕ, ◌*◌, ◌-◌, ◌≤◌, ◌<◌}
use native.Mathlib.Omega.{arith}
use borrow.Author.Tests.{le-leb, lt-leb}
use Rattle.units.proofs.FromTo.{inside, under, over}
use Rattle.units.specs.Range.{from_to}
use Rattle.duty.specs.Reading.{no_charging, digital_only, current, refused, reading_of}
use Rattle.duty.specs.DutyFor.{at_most, allowed}
use Rattle.duty.proofs.Values.{same_at}

-- each row by one computed test over its duties; the numbers in the names are percent
module _ (d : ℕ) where
  pub reads_under_3 : d ≤ 29 → reading_of d ≡ no_charging
  unfolding reading_of from_to
  reads_under_3 k = same_at reading_of (λ e. no_charging) 0 29 refl d (omega arith) k

  pub reads_digital : 30 ≤ d → d ≤ 70 → reading_of d ≡ digital_only
  unfolding reading_of from_to
  reads_digital = same_at reading_of (λ e. digital_only) 30 70 refl d

  pub reads_under_8 : 71 ≤ d → d ≤ 79 → reading_of d ≡ no_charging
  unfolding reading_of from_to
  reads_under_8 = same_at reading_of (λ e. no_charging) 71 79 refl d

  pub reads_least : 80 ≤ d → d ≤ 99 → reading_of d ≡ current 6000
  unfolding reading_of from_to
  reads_least = same_at reading_of (λ e. current 6000) 80 99 refl d

  pub reads_lower : 100 ≤ d → d ≤ 850 → reading_of d ≡ current (60 * d)
  unfolding reading_of from_to
  reads_lower = same_at reading_of (λ e. current (60 * e)) 100 850 refl d

  pub reads_upper : 851 ≤ d → d ≤ 960 → reading_of d ≡ current (250 * (d - 640))
  unfolding reading_of from_to
  reads_upper = same_at reading_of (λ e. current (250 * (e - 640))) 851 960 refl d

  pub reads_most : 961 ≤ d → d ≤ 970 → reading_of d ≡ current 80000
  unfolding reading_of from_to
  reads_most = same_at reading_of (λ e. current 80000) 961 970 refl d

  pub reads_above_97 : 971 ≤ d → d ≤ 1000 → reading_of d ≡ no_charging
  unfolding reading_of from_to
  reads_above_97 = same_at reading_of (λ e. no_charging) 971 1000 refl d

-- refusal 9: a duty above 1000
pub above_scale : (d : ℕ) → 1000 < d → reading_of d ≡ refused 9
unfolding reading_of
above_scale d h =
    rw (
      over 0 29 d (omega arith) (omega arith),
      over 30 70 d (omega arith) (omega arith),
      over 71 79 d (omega arith) (omega arith),
      over 80 99 d (omega arith) (omega arith),
      over 100 850 d (omega arith) (omega arith),
      over 851 960 d (omega arith) (omega arith),
      over 961 970 d (omega arith) (omega arith),
      over 971 1000 d (omega arith) (omega arith),
    )

-- a duty from 100 to 960 is allowed exactly if the current that it reads is at most the available one
module _ (available d milliamps : ℕ) (h : 100 ≤ d) (k : d ≤ 960) (reads : reading_of d ≡ current milliamps) where
  pub allowed_by : milliamps ≤ available → allowed available d ≡ true
  unfolding allowed at_most
  allowed_by fits = rw (inside 100 960 d h k, reads, le-leb milliamps available fits)

  pub denied_by : available < milliamps → allowed available d ≡ false
  unfolding allowed at_most
  denied_by exceeds = rw (inside 100 960 d h k, reads, lt-leb milliamps available exceeds)

pub denied_under : (available d : ℕ) → d < 100 → allowed available d ≡ false
unfolding allowed
denied_under available d h = rw (under 100 960 d h)
