-- Every list of calls after an accepted begin.
use mathlib.Core.Path.{◌≡◌, refl, sym, ◌∙◌, ap}
use mathlib.Core.List.{List}
use native.Mathlib.Omega.{arith}
use lib.ListN.{length, take}
use Rattle.rules.specs.Altered.{altered, lent_refusal}
use Rattle.rules.specs.Begin.{Begin, begin_refusal, fresh}
use Rattle.rules.specs.Calls.{Call}
use Rattle.rules.specs.Faults.{first_of}
use Rattle.laws.proofs.NextLent.{lent_refusal_lem}
use Rattle.lists.specs.EveryList.{EveryList}
use Rattle.lists.specs.Traces.{call_at, reply_before, answered}
use Rattle.lists.proofs.ClosedIsSound.{closed_is_sound}
use Rattle.lists.proofs.FirstFault.{order_kept, first_latched}
use Rattle.lists.proofs.LastGranted.{last_granted}
use Rattle.lists.proofs.LastMeasured.{last_measured}
use Rattle.lists.proofs.LentReplies.{lent_is, tally_not_altered, reply_is, contactor_told, closings_told, demand3}
use Rattle.lists.proofs.OverCurrent.{over_current, digital_lowers_none}
use Rattle.lists.proofs.Reaching.{list_reaches}
use Rattle.lists.proofs.Spacing.{least_is}
use Rattle.lists.proofs.Stepped.{settings_are}

pub every_list : (begin : Begin) (calls : List Call) → begin_refusal begin ≡ 0 → EveryList begin calls
unfolding fresh
every_list begin calls accepted =
    record {
      demand3 = demand3 begin calls accepted;
      refusals = λ k below.
          ap (λ l. lent_refusal l (call_at begin calls k)) (lent_is begin calls accepted k (omega arith)) ∙ lent_refusal_lem _ (call_at begin calls k) (tally_not_altered begin calls accepted k (omega arith));
      waves = reply_is begin calls accepted (λ l. l.state.wave) (λ k. (reply_before begin calls k).wave) refl (λ k. refl);
      lines_are = λ k within.
          rw (reply_is begin calls accepted (λ l. l.state.lines) (λ k. (reply_before begin calls k).lines) refl (λ k. refl) k within) (last_measured begin calls k within);
      grants_are = last_granted begin calls;
      firsts_shown = λ k within.
          rw (reply_is begin calls accepted (λ l. first_of l.state.faults) (λ k. (reply_before begin calls k).fault) refl (λ k. refl) k within) (first_latched begin calls k within);
      order_kept = order_kept begin calls;
      over_current = over_current begin calls accepted;
      digital_lowers_none = digital_lowers_none begin calls;
      states_are = λ k within. ap (λ l. l.state) (lent_is begin calls accepted k within);
      held = λ k within. ap (λ l. l.state.closed) (lent_is begin calls accepted k within) ∙ sym (contactor_told begin calls accepted k within);
      carried = λ k within. ap (λ l. l.closings) (lent_is begin calls accepted k within) ∙ sym (closings_told begin calls accepted k within);
      not_altered = λ k within. ap altered (lent_is begin calls accepted k within) ∙ tally_not_altered begin calls accepted k within;
      reached = λ k within. list_reaches begin (take k calls);
      settings_are = settings_are begin calls;
      least_pause_is = least_is (answered begin calls) (length calls) _ (λ k. ap (λ x. x.pause) (settings_are begin calls k));
      closed_is_sound = closed_is_sound begin calls accepted _ _ (contactor_told begin calls accepted);
    }
