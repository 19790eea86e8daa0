-- A run: an accepted begin, and one controller that is lent from call to call, with nobody else writing it. What each call hands back is
-- told by the proposition in that call's own contract, `Begins` or `Answers`.
use Rattle.std.specs.Prelude.{◌≡◌, List, [], ◌∷◌, ℕ}
use Rattle.rules.specs.Begin.{Begin}
use Rattle.rules.specs.Calls.{Call}
use Rattle.parts.specs.declared.replies.Reply.{Reply}
use Rattle.controller.specs.declared.Controller.{Controller}
use Rattle.calls.specs.Answers.{Answers, Begins}

-- the calls in turn: lent `before`, they hand back the replies, and the last one `final`
abbrev pub Lends : Controller → List Call → List Reply → Controller → Type 0
Lends before [] [] final = final ≡ before
Lends before [] (reply ∷ replies) final = ⊥
Lends before (call ∷ calls) [] final = ⊥
Lends before (call ∷ calls) (reply ∷ replies) final =
    (after : Controller) × Answers call before reply after × Lends after calls replies final

-- an accepted begin, the list of calls after it, every reply, and the controller at the end
pub record Run (begin : Begin) (calls : List Call) (begin_reply : Reply) (replies : List Reply) (final : Controller) : Type 0 where
  -- what the host lends to begin, and what it gets back
  pub lent : Controller
  pub fresh : Controller
  pub begins : Begins begin lent begin_reply fresh
  pub accepted : ◌≡◌ {A = ℕ} begin_reply.refusal 0
  pub lends : Lends fresh calls replies final

-- there is a run, with this controller lent to begin
abbrev pub HasRun : Controller → Begin → List Call → Type 0
HasRun lent begin calls =
    (begin_reply : Reply) × (replies : List Reply) × (final : Controller) × (run : Run begin calls begin_reply replies final) × (run.lent ≡ lent)
