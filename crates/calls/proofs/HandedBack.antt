-- A call's answer from its parts. An accepted call was lent a count in range, so that 32 bits hold the next one.
use mathlib.Core.Path.{◌≡◌, ap, sym, ◌∙◌}
use mathlib.Core.Bool.{true, false}
use lib.Dec.{eqb}
use Rattle.refusals.specs.Numbers.{number_of}
use Rattle.refusals.specs.declared.refusal.Refusal.{Refusal}
use Rattle.refusals.proofs.Numbers.{some_number}
use Rattle.rules.specs.Accepted.{accept, closes_at}
use Rattle.rules.specs.Answer.{next, answer_to}
use Rattle.rules.specs.Calls.{EvaluatedCall}
use Rattle.rules.specs.Altered.{Lent, lent_refusal}
use Rattle.rules.specs.Reply.{Reply, shown}
use Rattle.rules.proofs.TakenCounts.{count_in_range}
use Rattle.parts.proofs.CountLaws.{counted_whole}
use Rattle.controller.specs.View.{on_accepted}

module _ (lent : Lent) (call : EvaluatedCall) where
  next_accepted : eqb (lent_refusal lent call) 0 ≡ true → next lent call ≡ on_accepted call lent
  unfolding next
  next_accepted into =
      rw into
      (ap (λ n. record { state = accept lent.state call; closings = n })
      (sym (counted_whole (closes_at lent.state call) lent.closings (count_in_range lent call into))))

  next_refused : eqb (lent_refusal lent call) 0 ≡ false → next lent call ≡ lent
  unfolding next
  next_refused out = rw out

  pub accepted_back : 0 ≡ lent_refusal lent call
      → (after : Lent) → after ≡ on_accepted call lent
      → (reply : Reply) → reply ≡ shown 0 after
      → record { lent = after; reply = reply } ≡ answer_to lent call
  accepted_back none after a reply r =
      rw (r, a, next_accepted (ap (λ n. eqb n 0) (sym none)), ← none)

  pub refused_back : (refusal : Refusal) → number_of refusal ≡ lent_refusal lent call
      → (reply : Reply) → reply ≡ shown (number_of refusal) lent
      → record { lent = lent; reply = reply } ≡ answer_to lent call
  refused_back refusal is reply r =
      rw (r, next_refused (ap (λ n. eqb n 0) (sym is) ∙ some_number refusal), is)
