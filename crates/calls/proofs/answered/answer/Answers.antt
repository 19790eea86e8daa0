-- What the calls ensure, put together (proofs/HandedBack.antt).
use mathlib.Core.Path.{◌∙◌, ap}
use Rattle.rules.specs.Reply.{shown}
use Rattle.controller.specs.View.{view, evaluated_at}
use Rattle.calls.proofs.HandedBack.{accepted_back, refused_back}
use Rattle.calls.proofs.answered.answer.Goals as goal

pub returns-in-Ok : goal.returns-in-Ok
returns-in-Ok c = accepted_back (view c.args.c) (evaluated_at c.args.call.time c.args.call.event) c.in-Ok.ensures _ c.accepted-after.ensures _ c.reply.ensures

pub returns-in-Err : goal.returns-in-Err
returns-in-Err c =
    refused_back (view c.args.c) (evaluated_at c.args.call.time c.args.call.event) c.in-Err.refusal c.in-Err.ensures
    _ (c.reply-in-Err.ensures ∙ ap (λ n. shown n (view c.args.c)) c.number.ensures)
