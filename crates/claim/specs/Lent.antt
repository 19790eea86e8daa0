-- What the host gets for a call that it lends its controller to: the propositions that stand in the contracts of the exported calls,
-- and of which a run of them is made. `now` of the reference at entry is what the controller holds when the call is made, `now` of it
-- at exit what it holds when the call returns.
use Rattle.std.specs.Borrow.{MutBor}
use Rattle.rules.specs.Begin.{Begin}
use Rattle.rules.specs.Calls.{Call}
use Rattle.parts.specs.declared.replies.Reply.{Reply}
use Rattle.controller.specs.declared.Controller.{Controller}
use Rattle.calls.specs.Answers.{Answers, Begins}

-- a call that is lent the controller: it hands back the reply, and leaves the next controller in its place
abbrev pub AnswersLent : Call → MutBor Controller → Reply → MutBor Controller → Type 0
AnswersLent call entry reply exit = Answers call entry.now reply exit.now

-- begin, lent a controller: the same
abbrev pub BeginsLent : Begin → MutBor Controller → Reply → MutBor Controller → Type 0
BeginsLent begin entry reply exit = Begins begin entry.now reply exit.now
