-- The over-run at a position of a list: one call as the claim about fault 2 tells it, and as the steps do.
use mathlib.Core.Path.{◌≡◌, sym, ◌∙◌, ap, refl}
use mathlib.Core.Bool.{true, false, cond}
use mathlib.Core.List.{List}
use Prim.Native.Nat.{ℕ, suc, ◌<◌}
use native.Mathlib.Omega.{arith}
use lib.IntN.{ℤ}
use lib.ListN.{length, get_or}
use Rattle.units.proofs.Booleans.{clash}
use Rattle.rules.specs.Accepted.{opens_at, accept}
use Rattle.rules.specs.Begin.{Begin}
use Rattle.rules.specs.Calls.{Event, Call, EvaluatedCall, sample, limit, measure, link, fault, clear, tick, evaluated, is_measure}
use Rattle.rules.specs.Lines.{Lines, no_currents}
use Rattle.rules.specs.Refusals.{is_accepted}
use Rattle.rules.specs.State.{State, is_driven, set_to}
use Rattle.rules.specs.Step1Event.{lines_by}
use Rattle.laws.proofs.Overruns.{LowersTo, JudgedBy, after_step1, restarts_at, overrun_next}
use Rattle.lists.specs.OverCurrent.{Judged, Lowers}
use Rattle.lists.specs.Traces.{no_call, before, call_at}
use Rattle.lists.proofs.Stepped.{accepted_is}

-- a measure is one also where windows are not evaluated
as_given : (event : Event (List ℤ)) (lines : Lines) → evaluated event ≡ measure lines → event ≡ measure lines
unfolding evaluated lines_by
as_given (measure given) lines e = ap measure (ap (λ event. lines_by event no_currents) e)
as_given (sample window) lines e = clash (ap is_measure e) refl
as_given (limit current) lines e = clash (ap is_measure e) refl
as_given (link granted) lines e = clash (ap is_measure e) refl
as_given (fault kind) lines e = clash (ap is_measure e) refl
as_given clear lines e = clash (ap is_measure e) refl
as_given tick lines e = clash (ap is_measure e) refl

module _ (begin : Begin) (calls : List Call) where
  -- the time of call k, and when the over-run began that it finds
  abbrev pub call_time : ℕ → ℕ
  call_time k = (call_at begin calls k).time

  abbrev pub overrun_start : ℕ → ℕ
  overrun_start k = (before begin calls k).overrun.time

  module _ (k : ℕ) where
    abbrev s : State
    s = before begin calls k

    abbrev call : EvaluatedCall
    call = call_at begin calls k

    pub judged_by : (lines : Lines) → Judged begin calls k lines → JudgedBy s call lines
    unfolding evaluated
    judged_by lines judged = record { is = ap evaluated judged.measures.brings; closed = judged.closed; driven_wave = judged.driven_wave }

    module _ (below : k < length calls) (into : is_accepted s call ≡ true) where
      pub judged_at : (lines : Lines) → JudgedBy s call lines → Judged begin calls k lines
      judged_at lines by =
          record {
            measures = record { below = below; brings = as_given (get_or calls k no_call).event lines by.is; accepted = into };
            closed = by.closed;
            driven_wave = by.driven_wave;
          }

      wave_is : (before begin calls (suc k)).wave ≡ (accept s call).wave
      wave_is = ap (λ x. x.wave) (accepted_is begin calls k below into)

      driven_is : is_driven (before begin calls (suc k)) ≡ is_driven (accept s call)
      driven_is = ap (λ x. is_driven x) (accepted_is begin calls k below into)

      pub lowers_to : Lowers begin calls k → LowersTo s.settings.digital s.wave (accept s call).wave
      lowers_to lowers =
          record {
            was_driven = lowers.was_driven;
            still_driven = sym driven_is ∙ lowers.still_driven;
            lower = omega (arith, wave_is, lowers.lower);
          }

      pub lowers_at : LowersTo s.settings.digital s.wave (accept s call).wave → Lowers begin calls k
      lowers_at lowers =
          record {
            below = below;
            accepted = into;
            was_driven = lowers.was_driven;
            still_driven = driven_is ∙ lowers.still_driven;
            lower = omega (arith, wave_is, lowers.lower);
          }

      -- the over-run after the call, where the contactor was not opened and the wave is driven
      pub next_run : opens_at s call ≡ false → is_driven (before begin calls (suc k)) ≡ true
          → (before begin calls (suc k)).overrun ≡ cond (restarts_at s call) (set_to call.time) (after_step1 s call)
      next_run still is =
          ap (λ x. x.overrun) (accepted_is begin calls k below into) ∙ overrun_next s call still (sym driven_is ∙ is)
