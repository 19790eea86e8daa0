-- The grant that is kept is what the last call set it to that did.
use mathlib.Core.Path.{◌≡◌, refl, sym, ◌∙◌, ap}
use mathlib.Core.Bool.{Bool, true, false}
use mathlib.Core.List.{List}
use Prim.Native.Nat.{ℕ, suc, ◌≤◌, ◌<◌}
use lib.IntN.{ℤ}
use lib.ListN.{length, get_or}
use Rattle.units.proofs.Booleans.{clash}
use Rattle.rules.specs.Accepted.{settled_at}
use Rattle.rules.specs.Begin.{Begin, fresh}
use Rattle.rules.specs.Calls.{Event, Call, EvaluatedCall, sample, limit, measure, link, fault, clear, tick, evaluated, in_turn}
use Rattle.rules.specs.Refusals.{is_accepted}
use Rattle.rules.specs.State.{State}
use Rattle.rules.specs.Step1Event.{grant_stored}
use Rattle.laws.proofs.Grants.{is_a, taken_in_a, kept_else}
use Rattle.lists.specs.LastGranted.{InA, SetsGrant, in_a, by_link, LastGranted}
use Rattle.lists.specs.Replay.{replay}
use Rattle.lists.specs.Traces.{no_call, before, call_at}
use Rattle.lists.specs.WithoutLinks.{is_link}
use Rattle.lists.proofs.LastSet.{Turn, sets, leaves, last_set, last_fixes}
use Rattle.lists.proofs.Stepped.{accepted_is, refused_is}

module _ (begin : Begin) (calls : List Call) where
  abbrev kept : ℕ → ℕ
  kept k = (before begin calls k).grant

  module _ (k : ℕ) (below : k < length calls) where
    abbrev s : State
    s = before begin calls k

    abbrev call : EvaluatedCall
    call = call_at begin calls k

    -- accepted, and A is not settled after step 1: only a link call sets the grant
    turn_else : is_accepted s call ≡ true → (InA begin calls k → ⊥) → Turn (SetsGrant begin calls) 0 kept k
    unfolding grant_stored evaluated
    turn_else into not_a = go (get_or calls k no_call).event refl
      where
        after : (event : Event (List ℤ)) → (get_or calls k no_call).event ≡ event → kept (suc k) ≡ grant_stored (evaluated event) (kept k)
        after event is =
            ap (λ x. x.grant) (accepted_is begin calls k below into)
            ∙ kept_else call.event (settled_at s call) s.grant not_a
            ∙ ap (λ e. grant_stored (evaluated e) s.grant) is

        other : (event : Event (List ℤ)) → (get_or calls k no_call).event ≡ event → is_link event ≡ false → (grant : ℕ) → SetsGrant begin calls k grant → ⊥
        other event is kind grant (in_a accepts settled none) = not_a settled
        other event is kind grant (by_link accepts elsewhere told) = clash (ap is_link (sym is ∙ told)) kind

        go : (event : Event (List ℤ)) → (get_or calls k no_call).event ≡ event → Turn (SetsGrant begin calls) 0 kept k
        go (link granted) is = sets (by_link (below, into) not_a (is ∙ ap link (sym (after (link granted) is))))
        go (sample window) is = leaves (after (sample window) is) (other (sample window) is refl)
        go (limit current) is = leaves (after (limit current) is) (other (limit current) is refl)
        go (measure lines) is = leaves (after (measure lines) is) (other (measure lines) is refl)
        go (fault kind) is = leaves (after (fault kind) is) (other (fault kind) is refl)
        go clear is = leaves (after clear is) (other clear is refl)
        go tick is = leaves (after tick is) (other tick is refl)

    turn : Turn (SetsGrant begin calls) 0 kept k
    turn = go (is_accepted s call) refl (is_a (settled_at s call))
      where
        refused : is_accepted s call ≡ false → (grant : ℕ) → SetsGrant begin calls k grant → ⊥
        refused out grant (in_a accepts settled none) = clash accepts.1 out
        refused out grant (by_link accepts elsewhere told) = clash accepts.1 out

        go : (a : Bool) → is_accepted s call ≡ a → Dec (InA begin calls k) → Turn (SetsGrant begin calls) 0 kept k
        go false out settled = leaves (ap (λ x. x.grant) (refused_is begin calls k below out)) (refused out)
        go true into (yes settled) =
            sets (in_a (below, into) settled
            (ap (λ x. x.grant) (accepted_is begin calls k below into) ∙ taken_in_a call.event (settled_at s call) s.grant settled))
        go true into (no elsewhere) = turn_else into elsewhere

  pub last_granted : (k : ℕ) → k ≤ length calls → LastGranted begin calls k (before begin calls k).grant
  unfolding replay in_turn fresh
  last_granted = last_set (SetsGrant begin calls) 0 kept (length calls) refl turn

  -- and no other grant is: the statement leaves one answer
  pub grant_fixed : (k : ℕ) (a b : ℕ) → LastGranted begin calls k a → LastGranted begin calls k b → a ≡ b
  unfolding grant_stored evaluated
  grant_fixed = last_fixes (SetsGrant begin calls) 0 one
    where
      one : (k a b : ℕ) → SetsGrant begin calls k a → SetsGrant begin calls k b → a ≡ b
      one k a b (in_a accepts settled none) (in_a accepts' settled' none') = none ∙ sym none'
      one k a b (in_a accepts settled none) (by_link accepts' elsewhere told) = absurd (elsewhere settled)
      one k a b (by_link accepts elsewhere told) (in_a accepts' settled none) = absurd (elsewhere settled)
      one k a b (by_link accepts elsewhere told) (by_link accepts' elsewhere' told') =
          ap (λ event. grant_stored (evaluated event) 0) (sym told ∙ told')
