-- The contract of a call leaves one answer.
use mathlib.Core.Path.{◌≡◌, sym, ◌∙◌, ap}
use Rattle.rules.specs.Begin.{Begin}
use Rattle.rules.specs.Calls.{Call}
use Rattle.rules.specs.Reply as replies
use Rattle.parts.specs.declared.replies.Reply.{Reply}
use Rattle.parts.specs.Views.{as_reply}
use Rattle.controller.specs.declared.Controller.{Controller}
use Rattle.controller.proofs.Fixes.{view_fixes}
use Rattle.calls.specs.Answers.{handed_back, Answers, Begins}

abbrev pub reply_of : replies.Reply → Reply
reply_of r =
    record {
      refusal = r.refusal;
      letter = r.letter;
      digit = r.digit;
      wave = r.wave;
      closed = r.closed;
      fault = r.fault;
      closings = r.closings;
      lines = record { line1 = record { 0 = r.lines.line1 }; line2 = record { 0 = r.lines.line2 }; line3 = record { 0 = r.lines.line3 } };
    }

pub reply_fixes : (a b : Reply) → as_reply a ≡ as_reply b → a ≡ b
reply_fixes a b e = ap reply_of e

handed_fixes : (reply reply' : Reply) (after after' : Controller) → handed_back reply after ≡ handed_back reply' after' → (reply ≡ reply') × (after ≡ after')
handed_fixes reply reply' after after' e = (reply_fixes reply reply' (ap (λ a. a.reply) e), view_fixes after after' (ap (λ a. a.lent) e))

pub answers_fix : (call : Call) (before : Controller) (reply reply' : Reply) (after after' : Controller)
    → Answers call before reply after → Answers call before reply' after' → (reply ≡ reply') × (after ≡ after')
answers_fix call before reply reply' after after' p q = handed_fixes reply reply' after after' (p ∙ sym q)

pub begins_fix : (begin : Begin) (before : Controller) (reply reply' : Reply) (after after' : Controller)
    → Begins begin before reply after → Begins begin before reply' after' → (reply ≡ reply') × (after ≡ after')
begins_fix begin before reply reply' after after' p q = handed_fixes reply reply' after after' (p ∙ sym q)
