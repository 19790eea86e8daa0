-- What holds of every list of calls after an accepted begin: refused calls anywhere in it, and any clock. Proved in proofs/EveryList.antt.
use Rattle.std.specs.Prelude.{◌≡◌, false, List, ℕ, suc, ◌≤◌, ◌<◌, length}
use Rattle.rules.specs.Altered.{altered}
use Rattle.rules.specs.Begin.{Begin, pause_for, fresh}
use Rattle.rules.specs.Calls.{Call}
use Rattle.rules.specs.Refusals.{refusal}
use Rattle.laws.specs.Reached.{Reached}
use Rattle.lists.specs.ClosedIsSound.{ClosedIsSound}
use Rattle.lists.specs.Demand3.{least_pause, Demand3}
use Rattle.lists.specs.FirstFault.{OrderKept, FirstLatched}
use Rattle.lists.specs.LastGranted.{LastGranted}
use Rattle.lists.specs.LastMeasured.{LastMeasured}
use Rattle.lists.specs.OverCurrent.{OverCurrentExactly, DigitalLowersNone}
use Rattle.lists.specs.Traces.{before, call_at, lent_at, reply_before, answered}

-- what holds of a list: demand 3 of the definitions' own replies, and what they follow from
pub record EveryList (begin : Begin) (calls : List Call) : Type 0 where
  pub demand3 : Demand3 (answered begin calls)
  -- each reply's refusal number is the table's, and its wave the replay's
  pub refusals : (k : ℕ) → k < length calls → (reply_before begin calls (suc k)).refusal ≡ refusal (before begin calls k) (call_at begin calls k)
  pub waves : (k : ℕ) → k ≤ length calls → (reply_before begin calls k).wave ≡ (before begin calls k).wave
  -- the currents that each reply shows are those of the last accepted measure, or 0
  pub lines_are : (k : ℕ) → k ≤ length calls → LastMeasured begin calls k (reply_before begin calls k).lines
  -- the grant that is kept is what the last call set it to that did, or 0
  pub grants_are : (k : ℕ) → k ≤ length calls → LastGranted begin calls k (before begin calls k).grant
  -- the fault that each reply shows is the first among those still latched; the order is that in which they were latched
  pub firsts_shown : (k : ℕ) → k ≤ length calls → FirstLatched begin calls k (reply_before begin calls k).fault
  pub order_kept : OrderKept begin calls
  -- fault 2 comes exactly with a call that finds the van over its bound for too long
  pub over_current : OverCurrentExactly begin calls
  pub digital_lowers_none : DigitalLowersNone begin calls
  -- the controller keeps what the replay keeps, and holds the contactor and the closings that were last told; refusal 1 never names it
  pub states_are : (k : ℕ) → k ≤ length calls → (lent_at begin calls k).state ≡ before begin calls k
  pub held : (k : ℕ) → k ≤ length calls → (lent_at begin calls k).state.closed ≡ (reply_before begin calls k).closed
  pub carried : (k : ℕ) → k ≤ length calls → (lent_at begin calls k).closings ≡ (reply_before begin calls k).closings
  pub not_altered : (k : ℕ) → k ≤ length calls → altered (lent_at begin calls k) ≡ false
  -- what every state on the way has
  pub reached : (k : ℕ) → k ≤ length calls → Reached (before begin calls k)
  -- begin's settings stay, so the least pause of the claim's span is begin's
  pub settings_are : (k : ℕ) → (before begin calls k).settings ≡ (fresh begin).settings
  pub least_pause_is : least_pause (answered begin calls) (length calls) ≡ pause_for begin.pause
  -- what a board gets that calls every 20 ms
  pub closed_is_sound : ClosedIsSound (answered begin calls)
