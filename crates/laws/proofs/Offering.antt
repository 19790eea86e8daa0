-- The wave of an accepted call: 0 exactly with a fault, and driven only where a duty is offered.
use mathlib.Core.Path.{◌≡◌, refl, sym, ◌∙◌, ap}
use mathlib.Core.Bool.{Bool, true, false, ◌&&◌, ◌||◌, not}
use mathlib.Core.Logic.{◌↔◌, ◌⊎◌, inl, inr}
use Prim.Native.Nat.{ℕ}
use native.Mathlib.Omega.{arith}
use lib.Dec.{eqb, leb}
use borrow.Author.Tests.{leb-true, eqb-true, eqb-false}
use Rattle.units.specs.Range.{from_to}
use Rattle.units.specs.Wave.{five_percent, driven_in, steady_low, steady_high}
use Rattle.units.proofs.Booleans.{clash}
use Rattle.pilot.specs.Bands.{band_a, band_b, band_c, band_d, band_e, ready}
use Rattle.duty.specs.DutyFor.{IsGreatest}
use Rattle.rules.specs.Accepted.{after_latch, accept}
use Rattle.rules.specs.Calls.{EvaluatedCall}
use Rattle.rules.specs.Faults.{any_fault}
use Rattle.rules.specs.State.{State, is_driven, available}
use Rattle.rules.specs.Step3Wave.{is_settled, is_uae}
use Rattle.laws.proofs.Waves.{high_not_driven, low_not_driven, allowed_driven, Offers, DrivenIs, WaveIs, low, high, square, wave_is}

-- the settled states for which a duty is sent
pub offered : (settled : ℕ) (ventilation : Bool) → is_uae settled ≡ false → eqb settled band_d && not ventilation ≡ false
    → (settled ≡ band_b) ⊎ (ready settled ventilation ≡ true)
unfolding is_uae is_settled from_to ready
offered settled ventilation state plain =
    go (eqb settled band_b) (eqb settled band_c) (eqb settled band_d) ventilation refl refl refl plain
  where
    letters : (l h a e : Bool) → not (l && h) || (a || e) ≡ false → ((l ≡ true) × (h ≡ true)) × ((a ≡ false) × (e ≡ false))
    letters true true false false f = ((refl, refl), (refl, refl))
    letters true true false true f = clash refl f
    letters true true true e f = clash refl f
    letters true false a e f = clash refl f
    letters false h a e f = clash refl f

    go : (b c d v : Bool) → eqb settled band_b ≡ b → eqb settled band_c ≡ c → eqb settled band_d ≡ d → d && not v ≡ false
        → (settled ≡ band_b) ⊎ (c || (d && v) ≡ true)
    go true c d v p q r f = inl (eqb-true settled band_b p)
    go false true d v p q r f = inr refl
    go false false true true p q r f = inr refl
    go false false true false p q r f = clash refl f
    go false false false v p q r f =
        let known = letters (leb band_a settled) (leb settled band_e) (eqb settled band_a) (eqb settled band_e) state in
        let least = leb-true band_a settled known.0.0 in
        let most = leb-true settled band_e known.0.1 in
        let not_a = eqb-false settled band_a known.1.0 in
        let not_e = eqb-false settled band_e known.1.1 in
        let not_b = eqb-false settled band_b p in
        let not_c = eqb-false settled band_c q in
        let not_d = eqb-false settled band_d r in
        absurd (omega arith)

-- the wave of an accepted call, and what it tells
module _ (s : State) (call : EvaluatedCall) where
  pub wave_low_exactly : ((accept s call).wave ≡ steady_low) ↔ (any_fault (accept s call).faults ≡ true)
  wave_low_exactly = (λ is. to (wave_is (after_latch s call)) is, λ fault. from (wave_is (after_latch s call)) fault)
    where
      to : WaveIs (after_latch s call) (accept s call).wave → (accept s call).wave ≡ steady_low → any_fault (accept s call).faults ≡ true
      to (low is has) e = has
      to (high is none) e = let zero : 1000 ≡ steady_low = sym is ∙ e in absurd (omega arith)
      to (square is none offer) e = clash (ap (driven_in s.settings.digital) (sym e) ∙ allowed_driven s.settings.digital (accept s call).wave is.in_range) (low_not_driven s.settings.digital)

      from : WaveIs (after_latch s call) (accept s call).wave → any_fault (accept s call).faults ≡ true → (accept s call).wave ≡ steady_low
      from (low is has) e = is
      from (high is none) e = clash e none
      from (square is none offer) e = clash e none

  -- 0, 1000 or driven
  pub wave_kinds : ((accept s call).wave ≡ steady_low) ⊎ (((accept s call).wave ≡ steady_high) ⊎ (is_driven (accept s call) ≡ true))
  wave_kinds = go (wave_is (after_latch s call))
    where
      go : WaveIs (after_latch s call) (accept s call).wave
          → ((accept s call).wave ≡ steady_low) ⊎ (((accept s call).wave ≡ steady_high) ⊎ (is_driven (accept s call) ≡ true))
      go (low is has) = inl is
      go (high is none) = inr (inl is)
      go (square is none offer) = inr (inr (allowed_driven s.settings.digital (accept s call).wave is.in_range))

  -- driven, it is the one of the post's mark
  driven_by_mark : is_driven (accept s call) ≡ true → DrivenIs (after_latch s call) (accept s call).wave
  driven_by_mark e = go (wave_is (after_latch s call)) e
    where
      go : WaveIs (after_latch s call) (accept s call).wave → is_driven (accept s call) ≡ true
          → DrivenIs (after_latch s call) (accept s call).wave
      go (low is has) f = clash f (ap (driven_in s.settings.digital) is ∙ low_not_driven s.settings.digital)
      go (high is none) f = clash f (ap (driven_in s.settings.digital) is ∙ high_not_driven s.settings.digital)
      go (square is none offer) f = is

  pub driven_greatest : s.settings.digital ≡ false → is_driven (accept s call) ≡ true → IsGreatest (available (accept s call)) (accept s call).wave
  unfolding available
  driven_greatest plain e = (driven_by_mark e).of_plain plain

  pub driven_five : s.settings.digital ≡ true → is_driven (accept s call) ≡ true → (accept s call).wave ≡ five_percent
  driven_five digital e = (driven_by_mark e).of_digital digital

  pub driven_offers : is_driven (accept s call) ≡ true → (any_fault (accept s call).faults ≡ false) × Offers (after_latch s call)
  driven_offers e = go (wave_is (after_latch s call)) e
    where
      go : WaveIs (after_latch s call) (accept s call).wave → is_driven (accept s call) ≡ true
          → (any_fault (accept s call).faults ≡ false) × Offers (after_latch s call)
      go (low is has) f = clash f (ap (driven_in s.settings.digital) is ∙ low_not_driven s.settings.digital)
      go (high is none) f = clash f (ap (driven_in s.settings.digital) is ∙ high_not_driven s.settings.digital)
      go (square is none offer) f = (none, offer)
