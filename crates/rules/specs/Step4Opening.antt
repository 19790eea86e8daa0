-- Step 4 of an accepted call: opening, and its five causes.
use Rattle.std.specs.Prelude.{Bool, ◌&&◌, ◌||◌, not, cond, ℕ}
use Rattle.rules.specs.Faults.{any_fault}
use Rattle.rules.specs.Pairs.{Pair, both_unsound}
use Rattle.rules.specs.State.{State, empty, set_to, never_or_longer_ago, forgotten}
use Rattle.rules.specs.Step2Latches.{ran_for}
use Rattle.rules.specs.Step3Wave.{unventilated_d}

-- (i) a pair of unsound samples
unfoldable pub cause1 : Pair → Bool
cause1 pair = both_unsound pair

-- (ii) the last sound sample is more than 80 old, or there was none
unfoldable pub cause2 : ℕ → State → Bool
cause2 time s = never_or_longer_ago 80 time s.sound

-- (iii) settled D without ventilation
unfoldable pub cause3 : State → Bool
cause3 s = unventilated_d s.settled s.settings.ventilation

-- (iv) a stop began 3,000 or more ago
unfoldable pub cause4 : ℕ → State → Bool
cause4 time s = ran_for 3000 time s.stop

-- (v) a fault is latched
unfoldable pub cause5 : State → Bool
cause5 s = any_fault s.faults

-- any cause holds
unfoldable pub cause : ℕ → Pair → State → Bool
cause time pair s = cause1 pair || (cause2 time s || (cause3 s || (cause4 time s || cause5 s)))

-- opening: closed, and any cause holds
unfoldable pub opens : ℕ → Pair → State → Bool
opens time pair s = s.closed && cause time pair s

-- step 4: an opening stores its time, ends over-run and stop, and forgets the previous sample; the rest stays
abbrev pub step_opening : ℕ → Pair → State → State
step_opening time pair s =
    record {
      settings = s.settings;
      limit = s.limit;
      grant = s.grant;
      wave = s.wave;
      closed = s.closed && not (opens time pair s);
      settled = s.settled;
      faults = s.faults;
      last = s.last;
      sound = s.sound;
      opening = cond (opens time pair s) (set_to time) s.opening;
      overrun = cond (opens time pair s) empty s.overrun;
      stop = cond (opens time pair s) empty s.stop;
      previous = cond (opens time pair s) forgotten s.previous;
      lines = s.lines;
    }
