-- Plain posts behave as before (document 02, e): every rule that the mark or the grant has changed, as it is in a plain post, without a word of
-- either. Proved in proofs/PlainPost.antt.
use Rattle.std.specs.Prelude.{◌≡◌, Bool, ◌&&◌, ◌||◌, not, cond, ℕ, eqb, ltb, ℤ}
use Rattle.units.specs.Wave.{driven, steady_low, steady_high}
use Rattle.window.specs.Evaluation.{levels}
use Rattle.pilot.specs.Verdicts.{verdict_of}
use Rattle.duty.specs.DutyFor.{duty_for}
use Rattle.rules.specs.Altered.{times_allowed, in_range}
use Rattle.rules.specs.Begin.{rated_allowed, pause_allowed}
use Rattle.rules.specs.Calls.{sample, measure, link}
use Rattle.rules.specs.Faults.{any_fault}
use Rattle.rules.specs.Lines.{Lines, largest}
use Rattle.rules.specs.Pairs.{Pair, verdict, both_proven}
use Rattle.rules.specs.Refusals.{limit_allowed, argument_refusal}
use Rattle.rules.specs.Reply.{letter_of, digit, shown}
use Rattle.rules.specs.State.{State, empty, set_to, started_by, available}
use Rattle.rules.specs.Step1Event.{announced, overrun_judged, overrun_by}
use Rattle.rules.specs.Step3Wave.{no_duty, sent, wave_for, step_wave}
use Rattle.rules.specs.Step5Closing.{pause_over, closes}

-- what each changed rule is in a plain post
pub record PlainPost (s : State) : Type 0 where
  -- a sample's verdict, and a judged measure, by the wave alone
  pub verdict_is : (high low : ℤ) → verdict s (sample (levels high low)) ≡ verdict_of (driven s.wave) high low s.settings.ventilation
  pub overrun_is : (time : ℕ) (lines : Lines)
      → overrun_by time (measure lines) s
      ≡ cond (s.closed && driven s.wave) (overrun_judged time (largest lines) (announced s.wave) s.overrun) s.overrun
  -- the wave, and what follows from it for the over-run and the stop
  pub wave_is : wave_for s
      ≡ cond (any_fault s.faults) steady_low
      (cond (no_duty (available s) s.settled s.settings.ventilation) steady_high (sent (duty_for (available s))))
  pub overrun_under_is : (time : ℕ)
      → (step_wave time s).overrun
      ≡ cond (driven (wave_for s))
      (cond ((driven s.wave && (driven (wave_for s) && ltb (wave_for s) s.wave)) && s.overrun.set) (set_to time) s.overrun)
      empty
  pub stop_under_is : (time : ℕ)
      → (step_wave time s).stop
      ≡ cond (s.closed && eqb (wave_for s) steady_high) (started_by time s.stop) (cond (driven (wave_for s)) empty s.stop)
  -- the closing conditions
  pub closes_is : (opened : Bool) (time : ℕ) (pair : Pair)
      → closes opened time pair s
      ≡ (not s.closed && (not opened && (driven s.wave && (both_proven pair && pause_over time s))))
  -- the reply's digit
  pub digit_is : (number closings : ℕ)
      → (shown number (record { state = s; closings = closings })).digit ≡ digit (letter_of s) (driven s.wave)
  -- the ranges of a lent controller, which has no grant
  pub in_range_is : s.grant ≡ 0
      → in_range s
      ≡ ((eqb s.wave steady_low || (driven s.wave || eqb s.wave steady_high))
      && (limit_allowed s.limit && (rated_allowed s.settings.rated && (pause_allowed s.settings.pause && times_allowed s))))
  -- every link call is refused by 12
  pub link_refused : (granted : ℕ) → argument_refusal s.settings.digital (link granted) ≡ 12
