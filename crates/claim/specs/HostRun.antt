-- A run of the exported calls: an accepted begin, and then the calls, all on the host's controller. What it holds when one of them returns is
-- what it holds when the next one is made, so nobody else writes it.
use Rattle.std.specs.Prelude.{◌≡◌, List, [], ◌∷◌, ℕ}
use Rattle.std.specs.Borrow.{MutBor}
use Rattle.rules.specs.Begin.{Begin}
use Rattle.rules.specs.Calls.{Call}
use Rattle.parts.specs.declared.replies.Reply.{Reply}
use Rattle.controller.specs.declared.Controller.{Controller}
use Rattle.claim.specs.Lent.{AnswersLent, BeginsLent}

-- the calls in turn: the controller holds `before` at the first, and `final` after the last
abbrev pub HostLends : Controller → List Call → List Reply → Controller → Type 0
HostLends before [] [] final = final ≡ before
HostLends before [] (reply ∷ replies) final = ⊥
HostLends before (call ∷ calls) [] final = ⊥
HostLends before (call ∷ calls) (reply ∷ replies) final =
    (entry : MutBor Controller)
    × (exit : MutBor Controller)
    × (entry.now ≡ before)
    × AnswersLent call entry reply exit
    × HostLends exit.now calls replies final

-- an accepted begin, the list of calls after it, every reply, and what the controller holds at the end
pub record HostRun (begin : Begin) (calls : List Call) (begin_reply : Reply) (replies : List Reply) (final : Controller) : Type 0 where
  pub entry : MutBor Controller
  pub exit : MutBor Controller
  pub begins : BeginsLent begin entry begin_reply exit
  pub accepted : ◌≡◌ {A = ℕ} begin_reply.refusal 0
  pub lends : HostLends exit.now calls replies final

-- there is a run, with this reference lent to begin
abbrev pub HasHostRun : MutBor Controller → Begin → List Call → Type 0
HasHostRun lent begin calls =
    (begin_reply : Reply)
    × (replies : List Reply)
    × (final : Controller)
    × (run : HostRun begin calls begin_reply replies final)
    × (run.entry ≡ lent)
