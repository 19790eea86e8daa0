-- An accepted call: steps 1 to 5 in their order, and what is kept at its end (document 01, demand 3).
use Rattle.std.specs.Prelude.{Bool, ◌&&◌, ◌||◌, not, cond, ℕ}
use Rattle.rules.specs.Calls.{EvaluatedCall, is_fault}
use Rattle.rules.specs.Pairs.{Pair, pair_of}
use Rattle.rules.specs.State.{State, kept_sample}
use Rattle.rules.specs.Step1Event.{step_event}
use Rattle.rules.specs.Step2Latches.{unsettles, step_latch}
use Rattle.rules.specs.Step3Wave.{step_wave}
use Rattle.rules.specs.Step4Opening.{cause, opens, step_opening}
use Rattle.rules.specs.Step5Closing.{closes, step_closing}

-- the end of a call: its time is kept; its sample becomes the previous one, unless the call forgot
abbrev pub step_end : Bool → ℕ → Pair → State → State
step_end forgot time pair s =
    record {
      settings = s.settings;
      limit = s.limit;
      grant = s.grant;
      wave = s.wave;
      closed = s.closed;
      settled = s.settled;
      faults = s.faults;
      last = time;
      sound = s.sound;
      opening = s.opening;
      overrun = s.overrun;
      stop = s.stop;
      previous = cond (pair.sampled && not forgot) (kept_sample pair.this) s.previous;
      lines = s.lines;
    }

module _ (s : State) (call : EvaluatedCall) where
  -- the pair of the call: its own sample and the previous one as kept before it
  abbrev pub pair_at : Pair
  pair_at = pair_of s call.event

  -- after step 1
  abbrev pub after_event : State
  after_event = step_event call.time call.event pair_at s

  -- the settled state after step 1
  abbrev pub settled_at : ℕ
  settled_at = after_event.settled

  -- the grant after step 1, which no later step changes
  abbrev pub grant_at : ℕ
  grant_at = after_event.grant

  -- the call unsettles, in step 2
  abbrev pub unsettles_at : Bool
  unsettles_at = unsettles (is_fault call.event) call.time pair_at after_event

  -- after step 2
  abbrev pub after_latch : State
  after_latch = step_latch (is_fault call.event) call.time pair_at after_event

  -- after step 3
  abbrev pub after_wave : State
  after_wave = step_wave call.time after_latch

  -- an opening cause holds, in step 4
  abbrev pub cause_at : Bool
  cause_at = cause call.time pair_at after_wave

  -- the call opens the contactor
  abbrev pub opens_at : Bool
  opens_at = opens call.time pair_at after_wave

  -- after step 4
  abbrev pub after_opening : State
  after_opening = step_opening call.time pair_at after_wave

  -- the call meets every closing condition, in step 5
  abbrev pub closes_at : Bool
  closes_at = closes opens_at call.time pair_at after_opening

  -- after step 5
  abbrev pub after_closing : State
  after_closing = step_closing opens_at call.time pair_at after_opening

  -- what is kept after an accepted call
  abbrev pub accept : State
  accept = step_end (unsettles_at || opens_at) call.time pair_at after_closing
