-- Demand 1 of one call that is lent any controller, altered or not (proved in proofs/EachCall.antt).
use Rattle.std.specs.Prelude.{◌≡◌, ℕ}
use Rattle.rules.specs.Begin.{Begin}
use Rattle.rules.specs.Calls.{Call}
use Rattle.rules.specs.Answer.{begun, alone}
use Rattle.rules.specs.Reply.{shown}
use Rattle.laws.specs.FaultOrder.{SomeLatched}
use Rattle.laws.specs.RefusedExactly.{RefusedBy, BeginRefusedBy}
use Rattle.parts.specs.Views.{as_reply}
use Rattle.parts.specs.declared.replies.Reply.{Reply}
use Rattle.controller.specs.View.{state_of, view}
use Rattle.controller.specs.declared.Controller.{Controller}

-- the reply tells a refusal
abbrev pub IsRefused : Reply → Type 0
IsRefused reply = ◌≡◌ {A = ℕ} reply.refusal 0 → ⊥

-- a call, lent `before`, that hands back `reply` and `after`
pub record EachCall (call : Call) (before : Controller) (reply : Reply) (after : Controller) : Type 0 where
  -- the numbers of the table, each for its condition and for nothing else
  pub refused_by : RefusedBy (view before) call reply.refusal
  -- refused, the lent controller is unchanged, and the rest of the reply is as it has it
  pub unchanged : IsRefused reply → after ≡ before
  pub rest_as_lent : IsRefused reply → as_reply reply ≡ shown reply.refusal (view before)
  -- the fault is some latched one, and 0 exactly if none is; which one is promised of lists alone (EveryRun, `firsts_shown`)
  pub some_latched : SomeLatched (state_of after).faults reply.fault

-- and begin: refused, it leaves the lent controller unchanged, and its number comes alone; accepted, the controller is the fresh one
pub record EachBegin (begin : Begin) (before : Controller) (reply : Reply) (after : Controller) : Type 0 where
  pub refused_by : BeginRefusedBy begin reply.refusal
  pub unchanged : IsRefused reply → after ≡ before
  pub comes_alone : IsRefused reply → as_reply reply ≡ alone reply.refusal
  pub starts_fresh : ◌≡◌ {A = ℕ} reply.refusal 0 → view after ≡ begun begin
