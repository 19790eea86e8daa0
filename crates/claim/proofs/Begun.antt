-- What begin hands back: accepted, the fresh controller; refused, the lent one.
use mathlib.Core.Path.{◌≡◌, refl, sym, ◌∙◌, ap}
use mathlib.Core.Bool.{Bool, true, false, cond}
use Prim.Native.Nat.{ℕ}
use lib.Dec.{eqb}
use borrow.Author.Tests.{eqb-true}
use Rattle.rules.specs.Altered.{Lent}
use Rattle.rules.specs.Begin.{Begin, begin_refusal}
use Rattle.rules.specs.Answer.{Answer, begun, alone, answer_to_begin}
use Rattle.rules.specs.Reply.{shown}
use Rattle.parts.specs.Views.{as_reply}
use Rattle.parts.specs.declared.replies.Reply.{Reply}
use Rattle.controller.specs.View.{view}
use Rattle.controller.specs.declared.Controller.{Controller}
use Rattle.controller.proofs.Fixes.{view_fixes}
use Rattle.calls.specs.Answers.{handed_back, Begins}

-- by whether the table refuses it; a begin that replies 0 is not refused
module _ (lent : Lent) (begin : Begin) (back : Answer) (is : back ≡ answer_to_begin lent begin) where
  by : (a : Bool) → eqb (begin_refusal begin) 0 ≡ a
      → back ≡ cond a (record { lent = begun begin; reply = shown 0 (begun begin) }) (record { lent = lent; reply = alone (begin_refusal begin) })
  unfolding answer_to_begin
  by a e = is ∙ ap (λ b. cond b (record { lent = begun begin; reply = shown 0 (begun begin) }) (record { lent = lent; reply = alone (begin_refusal begin) })) e

  -- the number is the table's
  pub begin_number : ◌≡◌ {A = ℕ} back.reply.refusal (begin_refusal begin)
  begin_number = go (eqb (begin_refusal begin) 0) refl
    where
      go : (a : Bool) → eqb (begin_refusal begin) 0 ≡ a → back.reply.refusal ≡ begin_refusal begin
      go true e = ap (λ b. b.reply.refusal) (by true e) ∙ sym (eqb-true (begin_refusal begin) 0 e)
      go false e = ap (λ b. b.reply.refusal) (by false e)

  pub begin_accepted : ◌≡◌ {A = ℕ} back.reply.refusal 0 → begin_refusal begin ≡ 0
  begin_accepted into = sym begin_number ∙ into

  pub begun_is : ◌≡◌ {A = ℕ} back.reply.refusal 0 → back ≡ record { lent = begun begin; reply = shown 0 (begun begin) }
  begun_is into = by true (ap (λ n. eqb n 0) (begin_accepted into))

-- a refused begin is no call of a list: the host gets back the controller that it lent, and the number alone
pub refused_begin : (begin : Begin) (before : Controller) (reply : Reply) (after : Controller) → Begins begin before reply after
    → (◌≡◌ {A = ℕ} reply.refusal 0 → ⊥) → (after ≡ before) × (as_reply reply ≡ alone (begin_refusal begin))
unfolding answer_to_begin
refused_begin begin before reply after begins refused = go (eqb (begin_refusal begin) 0) refl
  where
    go : (a : Bool) → eqb (begin_refusal begin) 0 ≡ a → (after ≡ before) × (as_reply reply ≡ alone (begin_refusal begin))
    go true e = absurd (refused (ap (λ b. b.reply.refusal) (by (view before) begin (handed_back reply after) begins true e)))
    go false e =
        let is = by (view before) begin (handed_back reply after) begins false e in
        (view_fixes after before (ap (λ b. b.lent) is), ap (λ b. b.reply) is)
