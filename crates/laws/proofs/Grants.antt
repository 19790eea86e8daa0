-- The grant after a call: 0 while A is settled and in a plain post, and at least 6,000 where a digital post is closed and driven.
use mathlib.Core.Path.{◌≡◌, refl, sym, ◌∙◌, ap}
use mathlib.Core.Bool.{Bool, true, false, ◌&&◌, ◌||◌, not, cond}
use Prim.Native.Nat.{ℕ, ◌≤◌}
use native.Mathlib.Omega.{arith}
use lib.Dec.{eqb}
use borrow.Author.Tests.{eqb-true, eqb-false, ltb-false, ne_eqb}
use Rattle.units.proofs.Booleans.{clash}
use Rattle.window.specs.Evaluation.{Evaluation}
use Rattle.pilot.specs.Bands.{band_a}
use Rattle.rules.specs.Accepted.{settled_at, unsettles_at, cause_at, closes_at, accept}
use Rattle.rules.specs.Calls.{Event, sample, limit, measure, link, fault, clear, tick, EvaluatedCall}
use Rattle.rules.specs.Refusals.{link_refusal, argument_refusal, is_accepted}
use Rattle.rules.specs.State.{State, is_driven, unsettled}
use Rattle.rules.specs.Step1Event.{grant_stored, grant_by}
use Rattle.rules.specs.Step3Wave.{low_grant}
use Rattle.laws.proofs.Acceptance.{arguments_right}
use Rattle.laws.proofs.Offering.{driven_offers}
use Rattle.laws.proofs.OneCall.{closed_next, closes_exactly}

-- an accepted call to a plain post is no link call
stored_plain : (event : Event Evaluation) (grant : ℕ) → argument_refusal false event ≡ 0 → grant_stored event grant ≡ grant
unfolding argument_refusal link_refusal grant_stored
stored_plain (sample window) grant right = refl
stored_plain (limit given) grant right = refl
stored_plain (measure lines) grant right = refl
stored_plain (link granted) grant right = absurd (omega arith)
stored_plain (fault kind) grant right = refl
stored_plain clear grant right = refl
stored_plain tick grant right = refl

-- closed in a digital post without a low grant
not_low : (digital closed : Bool) (grant : ℕ) → digital ≡ true → closed ≡ true → low_grant digital closed grant ≡ false → 6000 ≤ grant
unfolding low_grant
not_low digital closed grant is_digital is_closed e = ltb-false grant 6000 (rw (is_digital, is_closed) at e)

-- A is settled, or it is not
pub is_a : (settled : ℕ) → Dec (settled ≡ band_a)
is_a settled = go (eqb settled band_a) refl
  where
    go : (b : Bool) → eqb settled band_a ≡ b → Dec (settled ≡ band_a)
    go true p = yes (eqb-true settled band_a p)
    go false p = no (eqb-false settled band_a p)

module _ (event : Event Evaluation) (settled stored : ℕ) where
  pub taken_in_a : settled ≡ band_a → grant_by event settled stored ≡ 0
  unfolding grant_by
  taken_in_a is = rw is

  pub kept_else : (settled ≡ band_a → ⊥) → grant_by event settled stored ≡ grant_stored event stored
  unfolding grant_by
  kept_else other = rw (ne_eqb settled band_a other)

module _ (s : State) (call : EvaluatedCall) where
  pub none_in_a : (accept s call).settled ≡ band_a → (accept s call).grant ≡ 0
  none_in_a is = taken_in_a call.event (settled_at s call) s.grant (go (unsettles_at s call) is)
    where
      go : (u : Bool) → cond u unsettled (settled_at s call) ≡ band_a → settled_at s call ≡ band_a
      go true e = absurd (omega arith)
      go false e = e

  pub none_in_plain : is_accepted s call ≡ true → (s.settings.digital ≡ false → s.grant ≡ 0) → s.settings.digital ≡ false → (accept s call).grant ≡ 0
  none_in_plain into before plain = go (is_a (settled_at s call))
    where
      right : argument_refusal false call.event ≡ 0
      right = ap (λ d. argument_refusal d call.event) (sym plain) ∙ arguments_right s call into

      go : Dec (settled_at s call ≡ band_a) → (accept s call).grant ≡ 0
      go (yes is) = taken_in_a call.event (settled_at s call) s.grant is
      go (no other) = kept_else call.event (settled_at s call) s.grant other ∙ stored_plain call.event s.grant right ∙ before plain

  -- left closed and driven: it has just closed, or step 3 found the grant
  pub driven_granted : s.settings.digital ≡ true → (accept s call).closed ≡ true → is_driven (accept s call) ≡ true → 6000 ≤ (accept s call).grant
  driven_granted digital closed wave = go s.closed (cause_at s call) (closes_at s call) refl refl (sym (closed_next s call) ∙ closed)
    where
      go : (c r m : Bool) → s.closed ≡ c → closes_at s call ≡ m → (c && not r) || m ≡ true → 6000 ≤ (accept s call).grant
      go c r true p q e = ((closes_exactly s call).0 q).has_grant_lem digital
      go true r false p q e =
          not_low s.settings.digital s.closed (accept s call).grant digital p (driven_offers s call wave).1.no_low_grant
      go false r false p q e = clash refl (sym e)
