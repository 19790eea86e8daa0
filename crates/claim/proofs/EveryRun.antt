-- What holds of every run: there is no hypothesis but the run.
use mathlib.Core.Path.{◌≡◌, sym, ◌∙◌, ap, subst}
use mathlib.Core.Bool.{true}
use mathlib.Core.List.{List, map}
use Prim.Native.Nat.{ℕ, zero, suc, ◌≤◌}
use native.Mathlib.Omega.{arith}
use lib.ListN.{length, get_or, take}
use lib.Seq.{take-length}
use Rattle.units.specs.Wave.{driven_in}
use Rattle.units.proofs.Booleans.{clash}
use Rattle.duty.specs.DutyFor.{IsGreatest}
use Rattle.rules.specs.Altered.{altered}
use Rattle.rules.specs.Begin.{Begin, pause_for, begin_refusal}
use Rattle.rules.specs.Calls.{Call}
use Rattle.rules.specs.Answer.{begun, reply_to, lent_after, replies_to}
use Rattle.rules.specs.Reply.{shown}
use Rattle.rules.specs.State.{available}
use Rattle.laws.specs.RefusedExactly.{RefusedBy}
use Rattle.laws.proofs.AlteredExactly.{altered_exactly}
use Rattle.laws.proofs.RefusedExactly.{refused_by}
use Rattle.lists.specs.FirstFault.{FirstLatched}
use Rattle.lists.specs.LastMeasured.{LastMeasured}
use Rattle.lists.specs.Replay.{replay}
use Rattle.lists.specs.Traces.{no_call, before, call_at, lent_at, reply_before}
use Rattle.lists.proofs.ClosedIsSound.{closed_is_sound}
use Rattle.lists.proofs.FirstFault.{order_kept, first_latched}
use Rattle.lists.proofs.LastGranted.{last_granted}
use Rattle.lists.proofs.LastMeasured.{last_measured}
use Rattle.lists.proofs.LentReplies.{contactor_told, state_lent, closings_lent, not_altered, refusal_told, wave_told, lines_told, fault_told, demand3_replied}
use Rattle.lists.proofs.OverCurrent.{over_current, digital_lowers_none}
use Rattle.lists.proofs.Reaching.{list_reaches}
use Rattle.lists.proofs.Spacing.{least_is}
use Rattle.lists.proofs.Stepped.{settings_are, pause_is, mark_is}
use Rattle.parts.specs.Views.{as_reply}
use Rattle.parts.specs.declared.replies.Reply.{Reply}
use Rattle.controller.specs.View.{view}
use Rattle.controller.specs.declared.Controller.{Controller}
use Rattle.calls.specs.Answers.{handed_back}
use Rattle.claim.specs.EveryRun.{replied, trace_of_replies, lent_of_replies, EveryRun}
use Rattle.claim.specs.Run.{Run}
use Rattle.claim.proofs.Begun.{begin_accepted, begun_is}
use Rattle.claim.proofs.RunReplies.{each_answered, final_is, reply_is, replies_are as all-replies}

module _ (begin : Begin) (calls : List Call) (begins : Reply) (replies : List Reply) (final : Controller) (run : Run begin calls begins replies final) where
  accepted : begin_refusal begin ≡ 0
  accepted = begin_accepted (view run.lent) begin (handed_back begins run.fresh) run.begins run.accepted

  fresh_is : view run.fresh ≡ begun begin
  fresh_is = ap (λ a. a.lent) (begun_is (view run.lent) begin (handed_back begins run.fresh) run.begins run.accepted)

  -- the run, computed: begin's reply, the others, and the final controller
  pub begun_told : as_reply begins ≡ shown 0 (begun begin)
  begun_told = ap (λ a. a.reply) (begun_is (view run.lent) begin (handed_back begins run.fresh) run.begins run.accepted)

  pub replies_told : map as_reply replies ≡ replies_to (begun begin) calls
  replies_told = all-replies run.fresh calls replies final run.lends ∙ ap (λ lent. replies_to lent calls) fresh_is

  pub final_told : view final ≡ lent_after (begun begin) calls
  final_told = final_is run.fresh calls replies final run.lends ∙ ap (λ lent. lent_after lent calls) fresh_is

  replies_are : (k : ℕ) → k ≤ length calls → as_reply (replied begins replies k) ≡ reply_before begin calls k
  replies_are zero within = begun_told
  replies_are (suc k) within =
      reply_is run.fresh calls replies final run.lends begins k within
      ∙ ap (λ lent. reply_to (lent_after lent (take k calls)) (call_at begin calls k)) fresh_is

  -- the final controller is the one after the whole list
  final_lent : view final ≡ lent_at begin calls (length calls)
  final_lent = final_told ∙ ap (λ l. lent_after (begun begin) l) (sym (take-length calls))

  lent_told : (k : ℕ) → k ≤ length calls → lent_at begin calls k ≡ lent_of_replies begin calls begins replies k
  lent_told k within =
      let counted = closings_lent begin calls accepted k within ∙ sym (ap (λ r. r.closings) (replies_are k within)) in
      λ i. record { state = state_lent begin calls accepted k within i; closings = counted i }

  wave_is : (k : ℕ) → k ≤ length calls → ◌≡◌ {A = ℕ} (replied begins replies k).wave (before begin calls k).wave
  wave_is k within = ap (λ r. r.wave) (replies_are k within) ∙ wave_told begin calls accepted k within

  mark : (k : ℕ) → (before begin calls k).settings.digital ≡ begin.digital
  mark = mark_is begin calls

  pub every_run : EveryRun begin calls begins replies final
  every_run =
      let whole = replies_are (length calls) (omega arith) in
      record {
        each_answered = each_answered run.fresh calls replies final run.lends;
        refusals = λ k below. ap (λ r. r.refusal) (replies_are (suc k) below) ∙ refusal_told begin calls accepted k below;
        waves = wave_is;
        lines_are = λ k within.
            subst (LastMeasured begin calls k) (sym (ap (λ r. r.lines) (replies_are k within) ∙ lines_told begin calls accepted k within)) (last_measured begin calls k within);
        grants_are = last_granted begin calls;
        firsts_shown = λ k within.
            subst (FirstLatched begin calls k) (sym (ap (λ r. r.fault) (replies_are k within) ∙ fault_told begin calls accepted k within)) (first_latched begin calls k within);
        order_kept = order_kept begin calls;
        over_current = over_current begin calls accepted;
        digital_lowers_none = digital_lowers_none begin calls;
        contactor_held =
            ap (λ l. l.state.closed) final_lent ∙ ap (λ s. s.closed) (state_lent begin calls accepted (length calls) (omega arith))
            ∙ sym (ap (λ r. r.closed) whole ∙ contactor_told begin calls accepted (length calls) (omega arith));
        closings_held =
            ap (λ l. l.closings) final_lent ∙ closings_lent begin calls accepted (length calls) (omega arith) ∙ sym (ap (λ r. r.closings) whole);
        state_is =
            ap (λ l. l.state) final_lent ∙ state_lent begin calls accepted (length calls) (omega arith) ∙ ap (λ l. replay begin l) (take-length calls);
        not_altered = λ known. clash ((altered_exactly (view final)).1 known) (ap altered final_lent ∙ not_altered begin calls accepted (length calls) (omega arith));
        replies_are = replies_are;
        demand3 =
            demand3_replied begin calls accepted (λ k. (replied begins replies k).closed) (λ k. (replied begins replies k).closings)
            (λ k within. ap (λ r. r.closed) (replies_are k within))
            (λ k within. ap (λ r. r.closings) (replies_are k within));
        refused_by = λ k below.
            subst (λ lent. RefusedBy lent (get_or calls k no_call) (replied begins replies (suc k)).refusal) (lent_told k (omega arith))
            (subst (RefusedBy (lent_at begin calls k) (get_or calls k no_call)) (sym (ap (λ r. r.refusal) (replies_are (suc k) below)))
            (refused_by (lent_at begin calls k) (get_or calls k no_call)));
        never_1 = λ k below one.
            let known = (refused_by (lent_at begin calls k) (get_or calls k no_call)).one.0 (sym (ap (λ r. r.refusal) (replies_are (suc k) below)) ∙ one) in
            clash ((altered_exactly (lent_at begin calls k)).1 known.1) (not_altered begin calls accepted k (omega arith));
        duties = λ plain k within.
            subst (λ wave. driven_in begin.digital wave ≡ true → IsGreatest (available (before begin calls k)) wave)
            (sym (wave_is k within))
            (λ is. (list_reaches begin (take k calls)).driven_greatest (mark k ∙ plain) (ap (λ d. driven_in d (before begin calls k).wave) (mark k) ∙ is));
        digital_waves = λ digital k within is.
            let driven = ap (λ d. driven_in d (before begin calls k).wave) (mark k) ∙ ap (driven_in begin.digital) (sym (wave_is k within)) ∙ is in
            omega (arith, wave_is k within, (list_reaches begin (take k calls)).driven_five (mark k ∙ digital) driven);
        settings_are = settings_are begin calls;
        least_pause_is = least_is (trace_of_replies begin calls begins replies) (length calls) (pause_for begin.pause) (pause_is begin calls);
        reached = λ k within. list_reaches begin (take k calls);
        closed_is_sound =
            closed_is_sound begin calls accepted (λ k. (replied begins replies k).closed) (λ k. (replied begins replies k).closings)
            (λ k within. ap (λ r. r.closed) (replies_are k within) ∙ contactor_told begin calls accepted k within);
      }
