-- A call that unsettles leaves a fault latched.
use mathlib.Core.Path.{◌≡◌, refl, sym}
use mathlib.Core.Bool.{Bool, true, false, ◌||◌}
use Prim.Native.Nat.{ℕ}
use native.Mathlib.Omega.{arith}
use lib.Dec.{eqb, leb}
use borrow.Author.Tests.{leb-true, eqb-false}
use Rattle.units.specs.Range.{from_to}
use Rattle.units.proofs.Booleans.{and_parts, clash, not_refused}
use Rattle.window.specs.Evaluation.{Evaluation}
use Rattle.rules.specs.Accepted.{pair_at, unsettles_at, after_event, accept}
use Rattle.rules.specs.Calls.{Event, sample, limit, measure, link, fault, clear, tick, EvaluatedCall, is_fault}
use Rattle.rules.specs.Faults.{Faults, diode, overcurrent, residual, welded, temperature, any_fault}
use Rattle.rules.specs.Pairs.{Pair, both_diode_bad}
use Rattle.rules.specs.Refusals.{kind_allowed, argument_refusal, is_accepted}
use Rattle.rules.specs.State.{State}
use Rattle.rules.specs.Step1Event.{with_kind, faults_by}
use Rattle.rules.specs.Step2Latches.{over_current, unsettles, latched}
use Rattle.laws.proofs.Acceptance.{arguments_right}
use Rattle.laws.proofs.Latching.{any_kept, any_by}

-- a fault call latches its own fault
kind_any : (kind : ℕ) (faults : Faults) → kind_allowed kind ≡ true → any_fault (with_kind kind faults) ≡ true
unfolding kind_allowed from_to with_kind
kind_any kind faults e = go (eqb kind 3) (eqb kind 4) (eqb kind 5) refl refl refl
  where
    ends : (leb 3 kind ≡ true) × (leb kind 5 ≡ true)
    ends = and_parts (leb 3 kind) (leb kind 5) e

    go : (a b c : Bool) → eqb kind 3 ≡ a → eqb kind 4 ≡ b → eqb kind 5 ≡ c → any_fault (with_kind kind faults) ≡ true
    go a b true p q r = any_by (eqb kind 5) temperature _ r
    go a true false p q r = any_kept (eqb kind 5) temperature _ (any_by (eqb kind 4) welded _ q)
    go true false false p q r = any_kept (eqb kind 5) temperature _ (any_kept (eqb kind 4) welded _ (any_by (eqb kind 3) residual faults p))
    go false false false p q r =
        absurd (omega (arith, leb-true 3 kind ends.0, leb-true kind 5 ends.1, eqb-false kind 3 p, eqb-false kind 4 q, eqb-false kind 5 r))

-- what is latched before step 2 is latched after it, and so are faults 1 and 2
module _ (time : ℕ) (pair : Pair) (s : State) where
  any_stays : any_fault s.faults ≡ true → any_fault (latched time pair s) ≡ true
  unfolding latched
  any_stays any = any_kept (over_current time s) overcurrent _ (any_kept (both_diode_bad pair) diode s.faults any)

  diode_latches : both_diode_bad pair ≡ true → any_fault (latched time pair s) ≡ true
  unfolding latched
  diode_latches e = any_kept (over_current time s) overcurrent _ (any_by (both_diode_bad pair) diode s.faults e)

  current_latches : over_current time s ≡ true → any_fault (latched time pair s) ≡ true
  unfolding latched
  current_latches e = any_by (over_current time s) overcurrent _ e

-- a fault call leaves a fault latched
kind_latches : (digital : Bool) (event : Event Evaluation) (faults : Faults) → argument_refusal digital event ≡ 0 → is_fault event ≡ true → any_fault (faults_by event faults) ≡ true
unfolding argument_refusal faults_by
kind_latches digital (fault kind) faults right is = kind_any kind faults (not_refused (kind_allowed kind) 8 (omega arith) right)
kind_latches digital (sample window) faults right is = clash refl (sym is)
kind_latches digital (limit given) faults right is = clash refl (sym is)
kind_latches digital (measure lines) faults right is = clash refl (sym is)
kind_latches digital (link granted) faults right is = clash refl (sym is)
kind_latches digital clear faults right is = clash refl (sym is)
kind_latches digital tick faults right is = clash refl (sym is)

pub unsettled_fault : (s : State) (call : EvaluatedCall) → is_accepted s call ≡ true → unsettles_at s call ≡ true → any_fault (accept s call).faults ≡ true
unfolding unsettles
unsettled_fault s call into e = go (is_fault call.event) (both_diode_bad (pair_at s call)) (over_current call.time (after_event s call)) refl refl refl e
  where
    go : (a b c : Bool) → is_fault call.event ≡ a → both_diode_bad (pair_at s call) ≡ b → over_current call.time (after_event s call) ≡ c
        → a || (b || c) ≡ true → any_fault (accept s call).faults ≡ true
    go true b c p q r f =
        any_stays call.time (pair_at s call) (after_event s call)
        (kind_latches s.settings.digital call.event s.faults (arguments_right s call into) p)
    go false true c p q r f = diode_latches call.time (pair_at s call) (after_event s call) q
    go false false true p q r f = current_latches call.time (pair_at s call) (after_event s call) r
    go false false false p q r f = clash refl (sym f)
