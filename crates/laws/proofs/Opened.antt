-- An open contactor has no over-run and no stop, and an over-run has a driven wave.
use mathlib.Core.Path.{◌≡◌, refl, sym, ◌∙◌, ap}
use mathlib.Core.Bool.{Bool, true, false, ◌&&◌, ◌||◌, not, cond}
use Prim.Native.Nat.{ℕ}
use Rattle.units.specs.Wave.{driven_in}
use Rattle.units.proofs.Booleans.{clash}
use Rattle.window.specs.Evaluation.{Evaluation}
use Rattle.rules.specs.Accepted.{opens_at, closes_at, after_latch, after_wave, accept}
use Rattle.rules.specs.Calls.{Event, sample, limit, measure, link, fault, clear, tick, EvaluatedCall}
use Rattle.rules.specs.State.{State, Moment, is_driven, empty, set_to}
use Rattle.rules.specs.Step1Event.{overrun_at, overrun_by}
use Rattle.rules.specs.Step3Wave.{wave_for, lowers_duty, restarts, overrun_under, stop_under}

-- while the contactor is open no over-run and no stop begins
either_unset : (b : Bool) (m n : Moment) → m.set ≡ false → n.set ≡ false → (cond b m n).set ≡ false
either_unset true m n p q = p
either_unset false m n p q = q

module _ (s : State) (time : ℕ) (was : s.closed ≡ false) where
  overrun_open : (event : Event Evaluation) → overrun_by time event s ≡ s.overrun
  unfolding overrun_by overrun_at
  overrun_open (sample window) = refl
  overrun_open (limit given) = refl
  overrun_open (measure lines) = rw was
  overrun_open (link granted) = refl
  overrun_open (fault kind) = refl
  overrun_open clear = refl
  overrun_open tick = refl

  stop_open : (wave : ℕ) → s.stop.set ≡ false → (stop_under s.settings.digital time wave s.closed s.stop).set ≡ false
  unfolding stop_under
  stop_open wave none = rw was (either_unset (driven_in s.settings.digital wave) empty s.stop refl none)

-- with none that runs a lowered duty starts none
pub none_restarts : (digital : Bool) (old wave time : ℕ) (m : Moment) → m.set ≡ false → (cond (restarts digital old wave m) (set_to time) m).set ≡ false
unfolding restarts
none_restarts digital old wave time m none = go (lowers_duty digital old wave)
  where
    go : (b : Bool) → (cond (b && m.set) (set_to time) m).set ≡ false
    go true = rw none
    go false = none

-- an open contactor was opened by this call, or was open before it
module _ (s : State) (call : EvaluatedCall) where
  data StaysOpen : Type 0 where
    by_call : opens_at s call ≡ true → StaysOpen
    from_before : opens_at s call ≡ false → s.closed ≡ false → StaysOpen

  stays_open : (accept s call).closed ≡ false → StaysOpen
  stays_open e = go s.closed (opens_at s call) (closes_at s call) refl refl e
    where
      go : (c o m : Bool) → s.closed ≡ c → opens_at s call ≡ o → (c && not o) || m ≡ false → StaysOpen
      go c true m p q f = by_call q
      go false false m p q f = from_before q p
      go true false m p q f = clash refl f

  pub no_overrun : (s.closed ≡ false → s.overrun.set ≡ false) → (accept s call).closed ≡ false → (accept s call).overrun.set ≡ false
  unfolding overrun_under
  no_overrun before e = go (stays_open e)
    where
      go : StaysOpen → (accept s call).overrun.set ≡ false
      go (by_call o) = ap (λ b. (cond b empty (after_wave s call).overrun).set) o
      go (from_before o c) =
          either_unset (opens_at s call) empty (after_wave s call).overrun refl
          (either_unset (is_driven (accept s call)) _ empty
          (none_restarts s.settings.digital s.wave (wave_for (after_latch s call)) call.time (overrun_by call.time call.event s)
          (ap (λ m. m.set) (overrun_open s call.time c call.event) ∙ before c)) refl)

  pub no_stop : (s.closed ≡ false → s.stop.set ≡ false) → (accept s call).closed ≡ false → (accept s call).stop.set ≡ false
  no_stop before e = go (stays_open e)
    where
      go : StaysOpen → (accept s call).stop.set ≡ false
      go (by_call o) = ap (λ b. (cond b empty (after_wave s call).stop).set) o
      go (from_before o c) =
          either_unset (opens_at s call) empty (after_wave s call).stop refl (stop_open s call.time c (wave_for (after_latch s call)) (before c))

  pub runs_driven : (accept s call).overrun.set ≡ true → is_driven (accept s call) ≡ true
  unfolding overrun_under
  runs_driven e = go (opens_at s call) (is_driven (accept s call)) refl e
    where
      began : Moment
      began = overrun_by call.time call.event s

      go : (o d : Bool) → is_driven (accept s call) ≡ d
          → (cond o empty (cond d (cond (restarts s.settings.digital s.wave (accept s call).wave began) (set_to call.time) began) empty)).set ≡ true
          → is_driven (accept s call) ≡ true
      go true d p f = clash refl (sym f)
      go false true p f = p
      go false false p f = clash refl (sym f)
