-- What a fresh controller has, and every accepted call keeps.
use mathlib.Core.Path.{◌≡◌, refl, sym}
use mathlib.Core.Bool.{Bool, true, false}
use mathlib.Core.Logic.{inl, inr}
use native.Mathlib.Omega.{arith}
use Rattle.units.proofs.Booleans.{clash}
use Rattle.rules.specs.Accepted.{accept}
use Rattle.rules.specs.Begin.{Begin, fresh}
use Rattle.rules.specs.Calls.{EvaluatedCall}
use Rattle.rules.specs.Faults.{any_fault}
use Rattle.rules.specs.Refusals.{is_accepted}
use Rattle.rules.specs.State.{State, available}
use Rattle.rules.specs.Step3Wave.{unventilated_d}
use Rattle.laws.specs.Reached.{Reached}
use Rattle.laws.proofs.FaultsOfCall.{none_latched, keeps_order}
use Rattle.laws.proofs.Grants.{none_in_a, none_in_plain, driven_granted}
use Rattle.laws.proofs.Held.{left_closed, previous_fits}
use Rattle.laws.proofs.Latching.{latched_any, any_latched, none_each_once}
use Rattle.laws.proofs.Offering.{offered, wave_low_exactly, wave_kinds, driven_greatest, driven_five, driven_offers}
use Rattle.laws.proofs.Opened.{no_overrun, no_stop, runs_driven}
use Rattle.laws.proofs.Samples.{fits}
use Rattle.laws.proofs.Stops.{stop_exactly, low_grant_stops}
use Rattle.laws.proofs.Waves.{high_not_driven}

-- what is kept from call to call
pub record Invariant (s : State) : Type 0 where
  pub reached : Reached s
  pub previous : s.previous.kept ≡ true → s.previous.verdict.sound ≡ true → fits s.previous.verdict.band ≡ true

pub invariant_holds : (s : State) (call : EvaluatedCall) → is_accepted s call ≡ true → Invariant s → Invariant (accept s call)
unfolding available unventilated_d
invariant_holds s call into was =
    let before = was.reached in
    let closed = left_closed s call into was.previous before.closed_ready in
    record {
      reached = record {
        wave_low = (
          λ low. any_latched (accept s call).faults ((wave_low_exactly s call).0 low),
          λ some. (wave_low_exactly s call).1 (latched_any (accept s call).faults some.0 some.1),
        );
        wave_kinds = wave_kinds s call;
        driven_greatest = driven_greatest s call;
        driven_five = driven_five s call;
        driven_no_fault = λ e. (driven_offers s call e).0;
        driven_settled = λ e.
            let offer = (driven_offers s call e).1 in
            offered (accept s call).settled s.settings.ventilation offer.state offer.ventilated;
        driven_available = λ e. (driven_offers s call e).1.enough;
        driven_granted = driven_granted s call;
        none_in_a = none_in_a s call;
        none_in_plain = none_in_plain s call into before.none_in_plain;
        stop_exactly = stop_exactly s call before.open_no_stop (λ e. (closed e).no_fault);
        low_grant_stops = low_grant_stops s call (λ e. (closed e).no_fault);
        each_once = keeps_order s call before.each_once;
        open_no_overrun = no_overrun s call before.open_no_overrun;
        open_no_stop = no_stop s call before.open_no_stop;
        overrun_closed = λ e. runs (accept s call).closed refl e;
        overrun_driven = runs_driven s call;
        closed_no_fault = λ e. (closed e).no_fault;
        closed_has_sound = λ e. (closed e).has_sound;
        closed_sound = λ e. (closed e).recent;
        closed_ready = λ e. (closed e).ready_settled;
      };
      previous = previous_fits s call into was.previous;
    }
  where
    runs : (c : Bool) → (accept s call).closed ≡ c → (accept s call).overrun.set ≡ true → c ≡ true
    runs true p e = refl
    runs false p e = clash e (no_overrun s call was.reached.open_no_overrun p)

pub fresh_invariant : (begin : Begin) → Invariant (fresh begin)
unfolding fresh any_fault
fresh_invariant begin =
    record {
      reached = record {
        wave_low = (λ e. absurd (omega arith), λ some. clash some.1 (none_latched some.0));
        wave_kinds = inr (inl refl);
        driven_greatest = λ plain e. clash e (high_not_driven begin.digital);
        driven_five = λ digital e. clash e (high_not_driven begin.digital);
        driven_no_fault = λ e. clash e (high_not_driven begin.digital);
        driven_settled = λ e. clash e (high_not_driven begin.digital);
        driven_available = λ e. clash e (high_not_driven begin.digital);
        driven_granted = λ digital closed e. clash e (high_not_driven begin.digital);
        none_in_a = λ e. refl;
        none_in_plain = λ plain. refl;
        stop_exactly = (λ e. clash refl (sym e), λ both. clash refl (sym both.0));
        low_grant_stops = λ digital closed few. clash refl (sym closed);
        each_once = none_each_once;
        open_no_overrun = λ e. refl;
        open_no_stop = λ e. refl;
        overrun_closed = λ e. clash refl (sym e);
        overrun_driven = λ e. clash refl (sym e);
        closed_no_fault = λ e. refl;
        closed_has_sound = λ e. clash refl (sym e);
        closed_sound = λ e. clash refl (sym e);
        closed_ready = λ e. clash refl (sym e);
      };
      previous = λ keeps sound. clash refl (sym keeps);
    }
