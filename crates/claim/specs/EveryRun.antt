-- What holds of every run of the calls: one proposition over begin's values, the calls, the replies and the final controller (proved in
-- proofs/EveryRun.antt). It has demand 3, and what demands 1 and 2 say of a whole list.
use Rattle.std.specs.Prelude.{◌≡◌, true, false, List, ◌∷◌, ℕ, suc, ◌≤◌, ◌<◌, length, get_or}
use Rattle.units.specs.Wave.{five_percent, driven_in}
use Rattle.duty.specs.DutyFor.{IsGreatest}
use Rattle.rules.specs.Altered.{Lent}
use Rattle.rules.specs.Begin.{Begin, pause_for, fresh}
use Rattle.rules.specs.Calls.{Call}
use Rattle.rules.specs.Refusals.{refusal}
use Rattle.rules.specs.State.{available}
use Rattle.laws.specs.Reached.{Reached}
use Rattle.laws.specs.RefusedExactly.{Altered, RefusedBy}
use Rattle.lists.specs.ClosedIsSound.{ClosedIsSound}
use Rattle.lists.specs.Demand3.{Trace, least_pause, Demand3}
use Rattle.lists.specs.FirstFault.{OrderKept, FirstLatched}
use Rattle.lists.specs.LastGranted.{LastGranted}
use Rattle.lists.specs.LastMeasured.{LastMeasured}
use Rattle.lists.specs.OverCurrent.{OverCurrentExactly, DigitalLowersNone}
use Rattle.lists.specs.Replay.{replay}
use Rattle.lists.specs.Traces.{no_call, before, call_at, trace_of, reply_before}
use Rattle.parts.specs.Views.{as_reply, as_lines}
use Rattle.parts.specs.declared.replies.Reply.{Reply}
use Rattle.controller.specs.View.{state_of, view}
use Rattle.controller.specs.declared.Controller.{Controller}

-- the reply before call k: begin's, or that of the call before it
abbrev pub replied : Reply → List Reply → ℕ → Reply
replied begin_reply replies k = get_or (begin_reply ∷ replies) k begin_reply

-- the trace of a run: contactor and closings as they were told, all else by the replay
abbrev pub trace_of_replies : Begin → List Call → Reply → List Reply → Trace
trace_of_replies begin calls begin_reply replies = trace_of begin calls (λ k. (replied begin_reply replies k).closed) (λ k. (replied begin_reply replies k).closings)

-- the controller lent to call k: what the replay keeps, with the closings that were last told
abbrev pub lent_of_replies : Begin → List Call → Reply → List Reply → ℕ → Lent
lent_of_replies begin calls begin_reply replies k = record { state = before begin calls k; closings = (replied begin_reply replies k).closings }

-- demand 3, and demands 1 and 2 of a whole list: what holds of every run
pub record EveryRun (begin : Begin) (calls : List Call) (begin_reply : Reply) (replies : List Reply) (final : Controller) : Type 0 where
  -- a reply for each call
  pub each_answered : length replies ≡ length calls
  -- the refusal number is the table's (so 0 exactly if the table has none), and the wave the replay's
  pub refusals : (k : ℕ) → k < length calls → (replied begin_reply replies (suc k)).refusal ≡ refusal (before begin calls k) (call_at begin calls k)
  pub waves : (k : ℕ) → k ≤ length calls → (replied begin_reply replies k).wave ≡ (before begin calls k).wave
  -- the currents that each reply shows are those of the last accepted measure, or 0 (document 02, b)
  pub lines_are : (k : ℕ) → k ≤ length calls → LastMeasured begin calls k (as_lines (replied begin_reply replies k).lines)
  -- the grant that is kept is that of the last accepted link call, or 0 with A settled then or since (document 02, e); the controller's follows (`state_is`)
  pub grants_are : (k : ℕ) → k ≤ length calls → LastGranted begin calls k (before begin calls k).grant
  -- the fault that each reply shows is the first among those still latched, and the first of the replay's order (document 02, f)
  pub firsts_shown : (k : ℕ) → k ≤ length calls → FirstLatched begin calls k (replied begin_reply replies k).fault
  -- that order is the one in which they were latched; told again, a fault keeps its place; what brings 1, 3, 4 and 5; an accepted clear, and nothing else,
  -- drops faults, all that it finds
  pub order_kept : OrderKept begin calls
  -- fault 2 comes exactly with a call that finds the van over its bound for 5,000 or longer, and that comes 5,000 or longer after every lowered duty
  -- (document 02, c); the faults are the replay's, which the replies and the controller follow (`replies_are`, `state_is`)
  pub over_current : OverCurrentExactly begin calls
  -- and a digital post lowers no duty
  pub digital_lowers_none : DigitalLowersNone begin calls
  -- demand 1: each number comes for its condition and for nothing else, and 1 never
  pub refused_by : (k : ℕ) → k < length calls → RefusedBy (lent_of_replies begin calls begin_reply replies k) (get_or calls k no_call) (replied begin_reply replies (suc k)).refusal
  pub never_1 : (k : ℕ) → k < length calls → ◌≡◌ {A = ℕ} (replied begin_reply replies (suc k)).refusal 1 → ⊥
  -- demand 2: in a plain post a driven wave is the greatest allowed duty for the lesser of rated and limit; in a digital post it is 5 % (document 02, e)
  pub duties : begin.digital ≡ false → (k : ℕ) → k ≤ length calls → driven_in begin.digital (replied begin_reply replies k).wave ≡ true
      → IsGreatest (available (before begin calls k)) (replied begin_reply replies k).wave
  pub digital_waves : begin.digital ≡ true → (k : ℕ) → k ≤ length calls → driven_in begin.digital (replied begin_reply replies k).wave ≡ true
      → ◌≡◌ {A = ℕ} (replied begin_reply replies k).wave five_percent
  -- the controller holds the contactor and the closings that were last told, and else what the replay keeps
  pub contactor_held : final.closed ≡ (replied begin_reply replies (length calls)).closed
  pub closings_held : final.closings ≡ (replied begin_reply replies (length calls)).closings
  pub state_is : state_of final ≡ replay begin calls
  -- and refusal 1 does not name it
  pub not_altered : Altered (view final) → ⊥
  -- every reply, whole, follows from begin's values and the calls
  pub replies_are : (k : ℕ) → k ≤ length calls → as_reply (replied begin_reply replies k) ≡ reply_before begin calls k
  -- closed exactly when; two proven samples; the grant of a digital closing; opening and pause between; the count; the span: lists/specs/Demand3.antt, on
  -- what was told
  pub demand3 : Demand3 (trace_of_replies begin calls begin_reply replies)
  -- begin's settings stay in force, so the pause in all of this is begin's
  pub settings_are : (k : ℕ) → (before begin calls k).settings ≡ (fresh begin).settings
  pub least_pause_is : least_pause (trace_of_replies begin calls begin_reply replies) (length calls) ≡ pause_for begin.pause
  -- what every state on the way has: wave 0 exactly under a fault, and so on
  pub reached : (k : ℕ) → k ≤ length calls → Reached (before begin calls k)
  -- what a board gets that calls every 20 ms: closed only with a sound sample in the last 100 ms
  pub closed_is_sound : ClosedIsSound (trace_of_replies begin calls begin_reply replies)
