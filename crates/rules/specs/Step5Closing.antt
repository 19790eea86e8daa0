-- Step 5 of an accepted call: closing.
use Rattle.std.specs.Prelude.{Bool, ◌&&◌, ◌||◌, not, cond, ℕ, suc, leb}
use Rattle.rules.specs.Pairs.{Pair, both_proven}
use Rattle.rules.specs.State.{State, is_driven, never_or_ago}

-- no opening yet, or the pause has passed since the last one
unfoldable pub pause_over : ℕ → State → Bool
pause_over time s = never_or_ago s.settings.pause time s.opening

-- a grant of at least 6,000, which a digital post needs to close (document 02, e)
unfoldable pub has_grant : Bool → ℕ → Bool
has_grant digital grant = not digital || leb 6000 grant

-- the closing conditions, all of them: the contactor is open, and this call did not open it; the wave is driven; a digital post has its grant; the
-- call is a sample and makes a proven pair in one band (`both_proven` asks for both); and the pause is over
unfoldable pub closes : Bool → ℕ → Pair → State → Bool
closes opened time pair s =
    not s.closed
    && (not opened
    && (is_driven s && (has_grant s.settings.digital s.grant && (both_proven pair && pause_over time s))))

-- closings grows by 1
unfoldable pub closings_by : Bool → ℕ → ℕ
closings_by closing closings = cond closing (suc closings) closings

-- step 5: the contactor closes if every condition is met; the rest stays
abbrev pub step_closing : Bool → ℕ → Pair → State → State
step_closing opened time pair s =
    record {
      settings = s.settings;
      limit = s.limit;
      grant = s.grant;
      wave = s.wave;
      closed = s.closed || closes opened time pair s;
      settled = s.settled;
      faults = s.faults;
      last = s.last;
      sound = s.sound;
      opening = s.opening;
      overrun = s.overrun;
      stop = s.stop;
      previous = s.previous;
      lines = s.lines;
    }
