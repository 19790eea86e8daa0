-- Every accepted begin and every list of calls has a run, with any controller lent to begin: what is claimed of runs is not empty.
use mathlib.Core.Path.{◌≡◌, refl, sym, ap}
use mathlib.Core.Bool.{cond}
use mathlib.Core.List.{List, [], ◌∷◌}
use lib.Dec.{eqb}
use Rattle.rules.specs.Altered.{Lent}
use Rattle.rules.specs.Begin.{Begin, begin_refusal}
use Rattle.rules.specs.Calls.{Call, evaluated_call, in_turn}
use Rattle.rules.specs.Answer.{begun, next, reply_to, lent_after, alone, answer_to_begin}
use Rattle.rules.specs.Reply.{shown}
use Rattle.parts.specs.declared.replies.Reply.{Reply}
use Rattle.controller.specs.View.{view}
use Rattle.controller.specs.declared.Controller.{Controller}
use Rattle.controller.proofs.Fixes.{controller_of}
use Rattle.calls.proofs.Fixes.{reply_of}
use Rattle.claim.specs.Run.{Lends, HasRun}

-- the replies that the definitions give
replies_of : Lent → List Call → List Reply
replies_of lent [] = []
replies_of lent (call ∷ calls) = reply_of (reply_to lent (evaluated_call call)) ∷ replies_of (next lent (evaluated_call call)) calls

lends_all : (lent : Lent) (calls : List Call) → Lends (controller_of lent) calls (replies_of lent calls) (controller_of (lent_after lent calls))
unfolding replies_of in_turn
lends_all lent [] = refl
lends_all lent (call ∷ calls) = (controller_of (next lent (evaluated_call call)), refl, lends_all (next lent (evaluated_call call)) calls)

pub has_run : (lent : Controller) (begin : Begin) (calls : List Call) → begin_refusal begin ≡ 0 → HasRun lent begin calls
unfolding answer_to_begin
has_run lent begin calls accepted = (
  reply_of (shown 0 (begun begin)),
  replies_of (begun begin) calls,
  controller_of (lent_after (begun begin) calls),
  record { lent = lent; fresh = controller_of (begun begin); begins = begins; accepted = refl; lends = lends_all (begun begin) calls },
  refl,
)
  where
    begins : record { lent = begun begin; reply = shown 0 (begun begin) } ≡ answer_to_begin (view lent) begin
    begins =
        sym (ap (λ n. cond (eqb n 0) (record { lent = begun begin; reply = shown 0 (begun begin) }) (record { lent = view lent; reply = alone (begin_refusal begin) })) accepted)
