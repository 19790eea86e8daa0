-- A call that opens has no driven wave or no proven pair: "not opened in this call" follows from the other closing conditions.
use mathlib.Core.Path.{◌≡◌, refl, sym, ◌∙◌, ap}
use mathlib.Core.Bool.{Bool, true, false, ◌&&◌, not, cond}
use Prim.Native.Nat.{ℕ, ◌+◌}
use native.Mathlib.Omega.{arith}
use lib.Dec.{eqb, ltb}
use borrow.Author.Tests.{eqb-true, ltb-true, not-true}
use Rattle.units.specs.Wave.{driven_in, steady_high}
use Rattle.units.proofs.Booleans.{and_parts, or_denied, clash}
use Rattle.rules.specs.Accepted.{pair_at, cause_at, opens_at, after_wave, accept}
use Rattle.rules.specs.Calls.{EvaluatedCall}
use Rattle.rules.specs.Faults.{any_fault}
use Rattle.rules.specs.Pairs.{paired, both_unsound}
use Rattle.rules.specs.State.{State, Moment, is_driven, empty, set_to, started_by}
use Rattle.rules.specs.Step1Event.{sound_by}
use Rattle.rules.specs.Step2Latches.{ran_for}
use Rattle.rules.specs.Step3Wave.{unventilated_d, stop_under}
use Rattle.rules.specs.Step4Opening.{cause1, cause2, cause3, cause4, cause5, cause, opens}
use Rattle.laws.proofs.Offering.{driven_offers}
use Rattle.laws.proofs.OneCall.{ProvenPair}
use Rattle.laws.proofs.Samples.{verdict_sound}
use Rattle.laws.proofs.Waves.{high_not_driven}

-- under a driven wave no stop runs
pub no_stop_driven : (digital : Bool) (time wave : ℕ) (closed : Bool) (stop : Moment) → driven_in digital wave ≡ true → stop_under digital time wave closed stop ≡ empty
unfolding stop_under
no_stop_driven digital time wave closed stop e = go (closed && eqb wave steady_high) refl
  where
    go : (b : Bool) → closed && eqb wave steady_high ≡ b → cond b (started_by time stop) (cond (driven_in digital wave) empty stop) ≡ empty
    go true p =
        let is = eqb-true wave steady_high (and_parts closed (eqb wave steady_high) p).1 in
        clash (ap (driven_in digital) (sym is) ∙ e) (high_not_driven digital)
    go false p = ap (λ b. cond b empty stop) e

module _ (s : State) (call : EvaluatedCall) (wave : is_driven (accept s call) ≡ true) (pair : ProvenPair (pair_at s call)) where
  own_sound : (accept s call).sound ≡ set_to call.time
  unfolding sound_by
  own_sound = rw (pair.sampled, verdict_sound s call.event pair.second_proven)

  no_cause1 : both_unsound (pair_at s call) ≡ true → ⊥
  unfolding both_unsound
  no_cause1 e =
      let both = pair_at s call in
      let parts = (and_parts (paired both) _ e).1 in
      let unsound = (and_parts (not both.previous.verdict.sound) (not both.this.sound) parts).1 in
      clash (verdict_sound s call.event pair.second_proven) (not-true both.this.sound unsound)

  no_cause2 : cause2 call.time (after_wave s call) ≡ true → ⊥
  unfolding cause2
  no_cause2 e =
      let late : ltb (call.time + 80) call.time ≡ true =
      ap (λ m. cond m.set (ltb (m.time + 80) call.time) true) (sym own_sound) ∙ e in
      let after = ltb-true (call.time + 80) call.time late in
      absurd (omega arith)

  no_cause3 : unventilated_d (after_wave s call).settled (after_wave s call).settings.ventilation ≡ true → ⊥
  unfolding unventilated_d
  no_cause3 e = clash e (driven_offers s call wave).1.ventilated

  no_cause4 : cause4 call.time (after_wave s call) ≡ true → ⊥
  unfolding cause4 ran_for
  no_cause4 e =
      let none = no_stop_driven s.settings.digital call.time (accept s call).wave s.closed s.stop wave in
      clash e (ap (λ m. ran_for 3000 call.time m) none)

  pub proven_not_opened : opens_at s call ≡ true → ⊥
  unfolding opens cause cause1 cause3 cause5
  proven_not_opened e =
      or_denied (both_unsound (pair_at s call)) _ no_cause1
      (or_denied (cause2 call.time (after_wave s call)) _ no_cause2
      (or_denied (unventilated_d (after_wave s call).settled (after_wave s call).settings.ventilation) _ no_cause3
      (or_denied (cause4 call.time (after_wave s call)) (any_fault (accept s call).faults) no_cause4 (λ fault. clash fault (driven_offers s call wave).0))))
      (and_parts s.closed (cause_at s call) e).1
