-- What the host gets for a call, whole: the propositions that stand in the contracts of the calls, and of which a run of calls is made.
use Rattle.std.specs.Prelude.{◌≡◌}
use Rattle.rules.specs.Answer.{Answer, answer_to, answer_to_begin}
use Rattle.rules.specs.Begin.{Begin}
use Rattle.rules.specs.Calls.{Call, evaluated_call}
use Rattle.parts.specs.declared.replies.Reply.{Reply}
use Rattle.parts.specs.Views.{as_reply}
use Rattle.controller.specs.declared.Controller.{Controller}
use Rattle.controller.specs.View.{view}

-- a reply and a controller, handed back together
abbrev pub handed_back : Reply → Controller → Answer
handed_back reply after = record { lent = view after; reply = as_reply reply }

-- lent `before`, the call hands back `reply` and `after`
abbrev pub Answers : Call → Controller → Reply → Controller → Type 0
Answers call before reply after = handed_back reply after ≡ answer_to (view before) (evaluated_call call)

-- lent `before`, begin hands back `reply` and `after`
abbrev pub Begins : Begin → Controller → Reply → Controller → Type 0
Begins begin before reply after = handed_back reply after ≡ answer_to_begin (view before) begin
