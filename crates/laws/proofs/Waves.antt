-- What the wave of step 3 is: 0, 1000 or a driven one, and what a driven one tells.
use mathlib.Core.Path.{◌≡◌, refl, ◌∙◌, ap}
use mathlib.Core.Bool.{Bool, true, false, ◌||◌, cond}
use mathlib.Core.Logic.{◌↔◌}
use Prim.Native.Nat.{ℕ, ◌≤◌}
use lib.Dec.{eqb, ltb}
use borrow.Author.Tests.{ltb-false, le-ltb}
use Rattle.units.specs.Range.{from_to}
use Rattle.units.specs.Wave.{driven, five_percent, driven_in, steady_low, steady_high}
use Rattle.units.proofs.Booleans.{clash, or_true}
use Rattle.units.proofs.FromTo.{inside}
use Rattle.duty.specs.DutyFor.{duty_for, IsGreatest}
use Rattle.duty.proofs.Laws.{greatest}
use Rattle.rules.specs.Altered.{duty_allowed, wave_allowed}
use Rattle.rules.specs.Faults.{any_fault}
use Rattle.rules.specs.State.{State, available}
use Rattle.rules.specs.Step3Wave.{is_uae, unventilated_d, no_duty, sent, low_grant, driven_wave, held_high, wave_for}

-- a steady wave is driven in no post
pub high_not_driven : (digital : Bool) → driven_in digital steady_high ≡ false
unfolding driven_in driven from_to
high_not_driven true = refl
high_not_driven false = refl

pub low_not_driven : (digital : Bool) → driven_in digital steady_low ≡ false
unfolding driven_in driven from_to
low_not_driven true = refl
low_not_driven false = refl

-- the driven waves of a post are driven in it
pub allowed_driven : (digital : Bool) (wave : ℕ) → duty_allowed digital wave ≡ true → driven_in digital wave ≡ true
unfolding duty_allowed driven_in
allowed_driven true wave e = rw e
allowed_driven false wave e = e

-- no duty is held back
pub record Offers (s : State) : Type 0 where
  pub enough : 6000 ≤ available s
  pub state : is_uae s.settled ≡ false
  pub ventilated : unventilated_d s.settled s.settings.ventilation ≡ false
  pub no_low_grant : low_grant s.settings.digital s.closed s.grant ≡ false

-- the driven wave of a post by its mark: the greatest allowed duty, or 5 %
pub record DrivenIs (s : State) (wave : ℕ) : Type 0 where
  pub in_range : duty_allowed s.settings.digital wave ≡ true
  pub of_plain : s.settings.digital ≡ false → IsGreatest (available s) wave
  pub of_digital : s.settings.digital ≡ true → wave ≡ five_percent

module _ (s : State) where
  -- a driven wave is sent, if there is no fault, exactly if these hold
  pub offers_exactly : (held_high s ≡ false) ↔ Offers s
  unfolding held_high no_duty
  offers_exactly = (
    λ e. go (ltb (available s) 6000) (is_uae s.settled) (unventilated_d s.settled s.settings.ventilation)
        (low_grant s.settings.digital s.closed s.grant) refl refl refl refl e,
    λ offer. rw (le-ltb (available s) 6000 offer.enough, offer.state, offer.ventilated, offer.no_low_grant),
  )
    where
      go : (low state plain none : Bool) → ltb (available s) 6000 ≡ low → is_uae s.settled ≡ state → unventilated_d s.settled s.settings.ventilation ≡ plain
          → low_grant s.settings.digital s.closed s.grant ≡ none → (low || (state || plain)) || none ≡ false → Offers s
      go true state plain none p q r t f = clash refl f
      go false true plain none p q r t f = clash refl f
      go false false true none p q r t f = clash refl f
      go false false false true p q r t f = clash refl f
      go false false false false p q r t f = record { enough = ltb-false (available s) 6000 p; state = q; ventilated = r; no_low_grant = t }

  -- the duty that is sent is the greatest allowed one
  sent_greatest : 6000 ≤ available s → IsGreatest (available s) (sent (duty_for (available s)))
  unfolding sent
  sent_greatest enough =
      let known = greatest (available s) enough in
      rw known.1 known.2

  driven_is : 6000 ≤ available s → DrivenIs s (driven_wave s.settings.digital (available s))
  unfolding driven_wave duty_allowed driven
  driven_is enough = go s.settings.digital refl (sent_greatest enough)
    where
      go : (d : Bool) → s.settings.digital ≡ d → IsGreatest (available s) (sent (duty_for (available s)))
          → DrivenIs s (cond d five_percent (sent (duty_for (available s))))
      go true p known = record { in_range = ap (λ d. duty_allowed d five_percent) p; of_plain = λ plain. clash p plain; of_digital = λ digital. refl }
      go false p known =
          record {
            in_range = ap (λ d. duty_allowed d (sent (duty_for (available s)))) p ∙ inside 100 960 (sent (duty_for (available s))) known.least known.most;
            of_plain = λ plain. known;
            of_digital = λ digital. clash digital p;
          }

  -- the three kinds of wave
  pub data WaveIs (wave : ℕ) : Type 0 where
    low : wave ≡ steady_low → any_fault s.faults ≡ true → WaveIs wave
    high : wave ≡ steady_high → any_fault s.faults ≡ false → WaveIs wave
    square : DrivenIs s wave → any_fault s.faults ≡ false → Offers s → WaveIs wave

  pub wave_is : WaveIs (wave_for s)
  unfolding wave_for
  wave_is = go (any_fault s.faults) (held_high s) refl refl
    where
      go : (f h : Bool) → any_fault s.faults ≡ f → held_high s ≡ h → WaveIs (wave_for s)
      go true h p q = low (rw p) p
      go false true p q = high (rw (p, q)) p
      go false false p q =
          let offer = offers_exactly.0 q in
          square (rw (p, q) (driven_is offer.enough)) p offer

  pub wave_allowed_lem : wave_allowed s.settings.digital (wave_for s) ≡ true
  unfolding wave_allowed
  wave_allowed_lem = go (wave_for s) wave_is
    where
      go : (wave : ℕ) → WaveIs wave → wave_allowed s.settings.digital wave ≡ true
      go wave (low is fault) = rw is
      go wave (high is none) = rw is (or_true (duty_allowed s.settings.digital steady_high))
      go wave (square is none offer) = rw is.in_range (or_true (eqb wave steady_low))
