-- Step 2 of an accepted call: latches.
use Rattle.std.specs.Prelude.{Bool, ◌&&◌, ◌||◌, cond, ℕ}
use Rattle.units.specs.Range.{ago}
use Rattle.rules.specs.Faults.{Faults, diode, overcurrent, latch_if}
use Rattle.rules.specs.Pairs.{Pair, both_diode_bad}
use Rattle.rules.specs.State.{State, Moment, unsettled, forgotten}

-- it runs, and began that long ago or longer
unfoldable pub ran_for : ℕ → ℕ → Moment → Bool
ran_for span time start = start.set && ago span time start.time

-- fault 2, over-current
unfoldable pub over_current : ℕ → State → Bool
over_current time s = ran_for 5000 time s.overrun

-- unsettling: something latches, or a latched fault is told again. A fault call always does one or the other
unfoldable pub unsettles : Bool → ℕ → Pair → State → Bool
unsettles fault_call time pair s = fault_call || (both_diode_bad pair || over_current time s)

-- 1 (no diode) and 2 (over-current), each where it latches: behind all that are latched, a fault call's own included, and 1 before 2 (document 02, f)
abbrev pub with_latches : Bool → Bool → Faults → Faults
with_latches bad over faults = latch_if over overcurrent (latch_if bad diode faults)

-- the faults after step 2
unfoldable pub latched : ℕ → Pair → State → Faults
latched time pair s = with_latches (both_diode_bad pair) (over_current time s) s.faults

-- step 2: the latches; where the call unsettles, U and no previous sample; the rest stays
abbrev pub step_latch : Bool → ℕ → Pair → State → State
step_latch fault_call time pair s =
    record {
      settings = s.settings;
      limit = s.limit;
      grant = s.grant;
      wave = s.wave;
      closed = s.closed;
      settled = cond (unsettles fault_call time pair s) unsettled s.settled;
      faults = latched time pair s;
      last = s.last;
      sound = s.sound;
      opening = s.opening;
      overrun = s.overrun;
      stop = s.stop;
      previous = cond (unsettles fault_call time pair s) forgotten s.previous;
      lines = s.lines;
    }
