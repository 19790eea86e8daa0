-- A stop runs exactly if the contactor is closed and the wave is steady +12 V.
use mathlib.Core.Path.{◌≡◌, refl, sym, ◌∙◌, ap}
use mathlib.Core.Bool.{Bool, true, false, ◌&&◌, ◌||◌, not, cond}
use mathlib.Core.Logic.{◌↔◌}
use Prim.Native.Nat.{ℕ, ◌<◌}
use native.Mathlib.Omega.{arith}
use Rattle.units.specs.Wave.{driven_in, steady_high}
use Rattle.units.proofs.Booleans.{clash}
use Rattle.rules.specs.Accepted.{cause_at, opens_at, closes_at, after_latch, after_wave, accept}
use Rattle.rules.specs.Calls.{EvaluatedCall}
use Rattle.rules.specs.Faults.{any_fault}
use Rattle.rules.specs.State.{State, Moment, empty, set_to, started_by}
use Rattle.rules.specs.Step3Wave.{stop_under}
use Rattle.rules.specs.Step4Opening.{opens}
use Rattle.laws.proofs.Grants.{driven_granted}
use Rattle.laws.proofs.NotOpened.{no_stop_driven}
use Rattle.laws.proofs.OneCall.{closed_next, closes_exactly}
use Rattle.laws.proofs.Opened.{no_stop}
use Rattle.laws.proofs.Waves.{high_not_driven, allowed_driven, WaveIs, low, high, square, wave_is}

started_set : (time : ℕ) (stop : Moment) → (started_by time stop).set ≡ true
started_set time stop = go stop.set refl
  where
    go : (b : Bool) → stop.set ≡ b → (cond b stop (set_to time)).set ≡ true
    go true p = p
    go false p = refl

stop_runs : (digital : Bool) (time wave : ℕ) (closed : Bool) (stop : Moment) → closed ≡ true → wave ≡ steady_high
    → (stop_under digital time wave closed stop).set ≡ true
unfolding stop_under
stop_runs digital time wave closed stop shut is = rw (shut, is) (started_set time stop)

module _ (s : State) (call : EvaluatedCall) where
  -- what a call leaves closed under steady +12 V was closed before it
  runs : (accept s call).closed ≡ true → (accept s call).wave ≡ steady_high → (accept s call).stop.set ≡ true
  unfolding opens
  runs closed wave = go s.closed (cause_at s call) (closes_at s call) refl refl refl (sym (closed_next s call) ∙ closed)
    where
      go : (c r m : Bool) → s.closed ≡ c → cause_at s call ≡ r → closes_at s call ≡ m → (c && not r) || m ≡ true → (accept s call).stop.set ≡ true
      go c r true p q w e =
          clash (ap (driven_in s.settings.digital) (sym wave) ∙ ((closes_exactly s call).0 w).driven_wave) (high_not_driven s.settings.digital)
      go true true false p q w e = clash refl (sym e)
      go true false false p q w e =
          let still : opens_at s call ≡ false = ap (λ b. b && cause_at s call) p ∙ q in
          ap (λ o. (cond o empty (after_wave s call).stop).set) still ∙ stop_runs s.settings.digital call.time (accept s call).wave s.closed s.stop p wave
      go false r false p q w e = clash refl (sym e)

  -- a stop that runs is under steady +12 V: a driven wave ends it, and a fault opens
  high_only : any_fault (accept s call).faults ≡ false → (accept s call).stop.set ≡ true → (accept s call).wave ≡ steady_high
  high_only no_fault set = go (wave_is (after_latch s call))
    where
      either : (o : Bool) (m : Moment) → m ≡ empty → (cond o empty m).set ≡ false
      either true m e = refl
      either false m e = ap (λ n. n.set) e

      go : WaveIs (after_latch s call) (accept s call).wave → (accept s call).wave ≡ steady_high
      go (high is none) = is
      go (low is fault) = clash fault no_fault
      go (square is none offer) =
          clash set (either (opens_at s call) (after_wave s call).stop
          (no_stop_driven s.settings.digital call.time (accept s call).wave s.closed s.stop (allowed_driven _ _ is.in_range)))

  pub stop_exactly : (s.closed ≡ false → s.stop.set ≡ false) → ((accept s call).closed ≡ true → any_fault (accept s call).faults ≡ false)
      → ((accept s call).stop.set ≡ true) ↔ (((accept s call).closed ≡ true) × ((accept s call).wave ≡ steady_high))
  stop_exactly before no_fault = (λ set. to (accept s call).closed refl set, λ both. runs both.0 both.1)
    where
      to : (c : Bool) → (accept s call).closed ≡ c → (accept s call).stop.set ≡ true → (c ≡ true) × ((accept s call).wave ≡ steady_high)
      to true p set = (refl, high_only (no_fault p) set)
      to false p set = clash set (no_stop s call before p)

  -- closed with a grant below 6,000, a digital post has steady +12 V, and so a stop
  pub low_grant_stops : ((accept s call).closed ≡ true → any_fault (accept s call).faults ≡ false) → s.settings.digital ≡ true
      → (accept s call).closed ≡ true → (accept s call).grant < 6000 → ((accept s call).wave ≡ steady_high) × ((accept s call).stop.set ≡ true)
  low_grant_stops no_fault digital closed few =
      let wave = go (wave_is (after_latch s call)) in
      (wave, runs closed wave)
    where
      go : WaveIs (after_latch s call) (accept s call).wave → (accept s call).wave ≡ steady_high
      go (high is none) = is
      go (low is fault) = clash fault (no_fault closed)
      go (square is none offer) = absurd (omega (arith, few, driven_granted s call digital closed (allowed_driven _ _ is.in_range)))
