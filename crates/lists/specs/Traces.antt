-- The trace of a list: what the replay says of each call, with the contactor and the closings that were told.
use Rattle.std.specs.Prelude.{◌≡◌, Bool, true, List, ℕ, zero, suc, ◌<◌, length, get_or, take}
use Rattle.rules.specs.Accepted.{grant_at, closes_at, cause_at}
use Rattle.rules.specs.Altered.{Lent}
use Rattle.rules.specs.Begin.{Begin}
use Rattle.rules.specs.Calls.{Call, EvaluatedCall, tick, evaluated_call, is_sample}
use Rattle.rules.specs.Answer.{begun, reply_to, lent_after}
use Rattle.rules.specs.Pairs.{verdict}
use Rattle.rules.specs.Refusals.{is_accepted}
use Rattle.rules.specs.Reply.{Reply, shown}
use Rattle.rules.specs.State.{State}
use Rattle.lists.specs.Demand3.{Trace}
use Rattle.lists.specs.Replay.{replay}

-- stands for a call past the end of the list, of which nothing is claimed
abbrev pub no_call : Call
no_call = record { time = 0; event = tick }

module _ (begin : Begin) (calls : List Call) where
  -- the replay before call k
  abbrev pub before : ℕ → State
  before k = replay begin (take k calls)

  -- call k
  abbrev pub call_at : ℕ → EvaluatedCall
  call_at k = evaluated_call (get_or calls k no_call)

  -- call k of the list, accepted
  abbrev pub Accepts : ℕ → Type 0
  Accepts k = (k < length calls) × (is_accepted (before k) (call_at k) ≡ true)

  -- the trace, with any contactor and closings for those that the replies tell
  abbrev pub trace_of : (ℕ → Bool) → (ℕ → ℕ) → Trace
  trace_of told_closed carried =
      record {
        length = length calls;
        told_closed = told_closed;
        carried = carried;
        accepted = λ k. is_accepted (before k) (call_at k);
        time = λ k. (call_at k).time;
        sampled = λ k. is_sample (call_at k).event;
        verdict = λ k. verdict (before k) (call_at k).event;
        closes = λ k. closes_at (before k) (call_at k);
        cause = λ k. cause_at (before k) (call_at k);
        digital = begin.digital;
        grant = λ k. grant_at (before k) (call_at k);
        pause = λ k. (before k).settings.pause;
      }

  -- the controller lent to call k
  abbrev pub lent_at : ℕ → Lent
  lent_at k = lent_after (begun begin) (take k calls)

  -- the reply before call k: begin's, or that of the call before it
  abbrev pub reply_before : ℕ → Reply
  reply_before zero = shown 0 (begun begin)
  reply_before (suc k) = reply_to (lent_at k) (call_at k)

  -- the trace of the definitions' own replies
  abbrev pub answered : Trace
  answered = trace_of (λ k. (reply_before k).closed) (λ k. (reply_before k).closings)
