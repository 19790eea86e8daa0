-- Demand 1 of one call: the table's numbers, and what a refused call hands back.
use mathlib.Core.Path.{◌≡◌, sym, ◌∙◌, ap, subst}
use Prim.Native.Nat.{ℕ}
use Rattle.rules.specs.Altered.{lent_refusal}
use Rattle.rules.specs.Begin.{Begin, begin_refusal}
use Rattle.rules.specs.Calls.{Call, evaluated_call}
use Rattle.rules.specs.Faults.{first_of}
use Rattle.rules.specs.Answer.{alone}
use Rattle.rules.specs.Reply.{shown}
use Rattle.laws.specs.FaultOrder.{SomeLatched}
use Rattle.laws.specs.RefusedExactly.{RefusedBy, BeginRefusedBy}
use Rattle.laws.proofs.BeginRefusals.{begin_refused_by}
use Rattle.laws.proofs.NextLent.{refused_next}
use Rattle.laws.proofs.RefusedExactly.{refused_by}
use Rattle.laws.proofs.ShownFault.{some_latched}
use Rattle.parts.specs.declared.replies.Reply.{Reply}
use Rattle.controller.specs.View.{state_of, view}
use Rattle.controller.specs.declared.Controller.{Controller}
use Rattle.controller.proofs.Fixes.{view_fixes}
use Rattle.calls.specs.Answers.{handed_back, Answers, Begins}
use Rattle.claim.specs.EachCall.{IsRefused, EachCall, EachBegin}
use Rattle.claim.proofs.Begun.{begin_number, begun_is, refused_begin}

module _ (call : Call) (before : Controller) (reply : Reply) (after : Controller) (answers : Answers call before reply after) where
  number_is : ◌≡◌ {A = ℕ} reply.refusal (lent_refusal (view before) (evaluated_call call))
  number_is = ap (λ a. a.reply.refusal) answers

  not_next : IsRefused reply → lent_refusal (view before) (evaluated_call call) ≡ 0 → ⊥
  not_next refused none = refused (number_is ∙ none)

  -- the reply shows what the call hands back
  shown_is : ◌≡◌ {A = ℕ} reply.fault (first_of (state_of after).faults)
  shown_is = ap (λ a. a.reply.fault) answers ∙ sym (ap (λ a. first_of a.lent.state.faults) answers)

  pub each_call : EachCall call before reply after
  each_call =
      record {
        refused_by = subst (RefusedBy (view before) call) (sym number_is) (refused_by (view before) call);
        unchanged = λ refused. view_fixes after before (ap (λ a. a.lent) answers ∙ refused_next (view before) (evaluated_call call) (not_next refused));
        rest_as_lent = λ refused.
            ap (λ a. a.reply) answers ∙ ap (λ lent. shown (lent_refusal (view before) (evaluated_call call)) lent) (refused_next (view before) (evaluated_call call) (not_next refused))
            ∙ ap (λ n. shown n (view before)) (sym number_is);
        some_latched = subst (SomeLatched (state_of after).faults) (sym shown_is) (some_latched (state_of after).faults);
      }

module _ (begin : Begin) (before : Controller) (reply : Reply) (after : Controller) (begins : Begins begin before reply after) where
  begin_number_is : ◌≡◌ {A = ℕ} reply.refusal (begin_refusal begin)
  begin_number_is = begin_number (view before) begin (handed_back reply after) begins

  pub each_begin : EachBegin begin before reply after
  each_begin =
      record {
        refused_by = subst (BeginRefusedBy begin) (sym begin_number_is) (begin_refused_by begin);
        unchanged = λ refused. (refused_begin begin before reply after begins refused).0;
        comes_alone = λ refused. (refused_begin begin before reply after begins refused).1 ∙ ap alone (sym begin_number_is);
        starts_fresh = λ accepted. ap (λ a. a.lent) (begun_is (view before) begin (handed_back reply after) begins accepted);
      }
