-- The steps of an accepted call, one after the other, are the definition's.
use mathlib.Core.Path.{◌≡◌}
use mathlib.Core.Bool.{Bool, ◌||◌}
use Rattle.rules.specs.Accepted.{step_end}
use Rattle.rules.specs.Calls.{EvaluatedCall, is_fault}
use Rattle.rules.specs.Altered.{Lent}
use Rattle.rules.specs.Pairs.{Pair, pair_of}
use Rattle.rules.specs.Step1Event.{step_event}
use Rattle.rules.specs.Step2Latches.{unsettles, step_latch}
use Rattle.rules.specs.Step3Wave.{step_wave}
use Rattle.rules.specs.Step4Opening.{opens, step_opening}
use Rattle.controller.specs.View.{on_state, on_closing, on_accepted}

module _ (call : EvaluatedCall) (lent : Lent) where
  pub in_turn : (pair : Pair) → pair ≡ pair_of lent.state call.event
      → (faultcall : Bool) → faultcall ≡ is_fault call.event
      → (one : Lent) → one ≡ on_state (step_event call.time call.event pair) lent
      → (forgot2 : Bool) → forgot2 ≡ unsettles faultcall call.time pair one.state
      → (two : Lent) → two ≡ on_state (step_latch faultcall call.time pair) one
      → (three : Lent) → three ≡ on_state (step_wave call.time) two
      → (forgot4 : Bool) → forgot4 ≡ opens call.time pair three.state
      → (four : Lent) → four ≡ on_state (step_opening call.time pair) three
      → (five : Lent) → five ≡ on_closing forgot4 call.time pair four
      → (forgot : Bool) → forgot ≡ forgot2 || forgot4
      → (end : Lent) → end ≡ on_state (step_end forgot call.time pair) five
      → end ≡ on_accepted call lent
  in_turn pair p faultcall q one e1 forgot2 u two e2 three e3 forgot4 o four e4 five e5 forgot f end e6 =
      rw (e6, f, e5, e4, o, e3, e2, u, e1, q, p)
