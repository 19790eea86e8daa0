-- The faults of one accepted call: each latches in its turn.
use mathlib.Core.Path.{◌≡◌, refl, sym, ◌∙◌, ap, subst}
use mathlib.Core.Bool.{Bool, true, false}
use Prim.Native.Nat.{ℕ, zero, suc, ◌≤◌, ◌<◌}
use native.Mathlib.Omega.{arith}
use lib.Dec.{eqb, leb}
use borrow.Author.Tests.{eqb-true, leb-true}
use Rattle.units.specs.Range.{from_to}
use Rattle.units.proofs.Booleans.{and_parts, clash, not_refused}
use Rattle.window.specs.Evaluation.{Evaluation}
use Rattle.rules.specs.Accepted.{pair_at, after_event, accept}
use Rattle.rules.specs.Calls.{Event, EvaluatedCall, sample, limit, measure, link, fault, clear, tick, is_sample}
use Rattle.rules.specs.Faults.{Fault, Faults, diode, overcurrent, residual, welded, temperature, number_of, no_faults, place_of, is_place, is_latched}
use Rattle.rules.specs.Pairs.{paired, both_diode_bad}
use Rattle.rules.specs.Refusals.{kind_allowed, argument_refusal, is_accepted}
use Rattle.rules.specs.State.{State}
use Rattle.rules.specs.Step1Event.{with_kind, faults_by, overrun_by}
use Rattle.rules.specs.Step2Latches.{ran_for, over_current, latched, with_latches}
use Rattle.laws.specs.FaultOrder.{EachOnce}
use Rattle.laws.specs.Reached.{Reached}
use Rattle.laws.proofs.Acceptance.{arguments_right}
use Rattle.laws.proofs.FaultTurns.{fault_of, two_last, stage, stage_each_once, stage_grows, by_turns, test_latches, latched_by_test}
use Rattle.laws.proofs.Latching.{latched_any, Grows, none_each_once}

-- a fault call names its own fault
abbrev own : Event Evaluation → ℕ → Bool
own (sample window) number = false
own (limit given) number = false
own (measure lines) number = false
own (link granted) number = false
own (fault kind) number = eqb kind number
own clear number = false
own tick number = false

own_is : (event : Event Evaluation) (number : ℕ) → own event number ≡ true → event ≡ fault number
own_is (fault kind) number is = ap fault (eqb-true kind number is)
own_is (sample window) number is = clash refl (sym is)
own_is (limit given) number is = clash refl (sym is)
own_is (measure lines) number is = clash refl (sym is)
own_is (link granted) number is = clash refl (sym is)
own_is clear number is = clash refl (sym is)
own_is tick number is = clash refl (sym is)

-- an accepted fault call names 3, 4 or 5
own_allowed : (s : State) (call : EvaluatedCall) (number : ℕ) → is_accepted s call ≡ true → call.event ≡ fault number → number < 3 → ⊥
unfolding argument_refusal kind_allowed from_to
own_allowed s call number into is small =
    let right = ap (argument_refusal s.settings.digital) (sym is) ∙ arguments_right s call into in
    omega (arith, leb-true 3 number (and_parts (leb 3 number) (leb number 5) (not_refused (kind_allowed number) 8 (omega arith) right)).0)

-- the tests of the five turns
abbrev tests : Event Evaluation → Bool → Bool → ℕ → Bool
tests event bad over zero = own event 3
tests event bad over (suc zero) = own event 4
tests event bad over (suc (suc zero)) = own event 5
tests event bad over (suc (suc (suc zero))) = bad
tests event bad over (suc (suc (suc (suc n)))) = over

-- what they start from: a clear call empties the order
abbrev start_of : Event Evaluation → Faults → Faults
start_of (sample window) faults = faults
start_of (limit given) faults = faults
start_of (measure lines) faults = faults
start_of (link granted) faults = faults
start_of (fault kind) faults = faults
start_of clear faults = no_faults
start_of tick faults = faults

by_stages : (event : Event Evaluation) (bad over : Bool) (faults : Faults)
    → with_latches bad over (faults_by event faults) ≡ stage (tests event bad over) (start_of event faults) 5
unfolding faults_by with_kind
by_stages (sample window) bad over faults = refl
by_stages (limit given) bad over faults = refl
by_stages (measure lines) bad over faults = refl
by_stages (link granted) bad over faults = refl
by_stages (fault kind) bad over faults = refl
by_stages clear bad over faults = refl
by_stages tick bad over faults = refl

-- no fault is latched where the order is empty
pub none_latched : (f : Fault) → is_latched no_faults f ≡ false
none_latched diode = refl
none_latched overcurrent = refl
none_latched residual = refl
none_latched welded = refl
none_latched temperature = refl

-- a call goes on from the faults that it finds, or it is a clear
data Starts (event : Event Evaluation) (faults : Faults) : Type 0 where
  goes_on : start_of event faults ≡ faults → Starts event faults
  clears : event ≡ clear → start_of event faults ≡ no_faults → Starts event faults

starts : (event : Event Evaluation) (faults : Faults) → Starts event faults
starts (sample window) faults = goes_on refl
starts (limit given) faults = goes_on refl
starts (measure lines) faults = goes_on refl
starts (link granted) faults = goes_on refl
starts (fault kind) faults = goes_on refl
starts clear faults = clears refl refl
starts tick faults = goes_on refl

-- a clear without an over-run leaves no fault
clear_leaves_none : (s : State) (time : ℕ) → s.overrun.set ≡ false → (accept s (record { time = time; event = clear })).faults ≡ no_faults
unfolding faults_by latched both_diode_bad paired over_current ran_for overrun_by
clear_leaves_none s time none = rw none

module _ (s : State) (call : EvaluatedCall) where
  abbrev holds : ℕ → Bool
  holds = tests call.event (both_diode_bad (pair_at s call)) (over_current call.time (after_event s call))

  abbrev start : Faults
  start = start_of call.event s.faults

  abbrev after : Faults
  after = (accept s call).faults

  faults_are : after ≡ stage holds start 5
  unfolding latched
  faults_are = by_stages call.event (both_diode_bad (pair_at s call)) (over_current call.time (after_event s call)) s.faults

  start_each_once : EachOnce s.faults → EachOnce start
  start_each_once known = go (starts call.event s.faults)
    where
      go : Starts call.event s.faults → EachOnce start
      go (goes_on same) = rw same known
      go (clears is none) = rw none none_each_once

  -- a call that goes on from the faults that it finds adds to their order
  grows_on_from : start ≡ s.faults → Grows s.faults after
  grows_on_from same = subst (λ x. Grows x after) same (rw faults_are (stage_grows holds start 0 5 (omega arith)))

  -- it is still an order
  pub keeps_order : EachOnce s.faults → EachOnce after
  keeps_order known = rw faults_are (stage_each_once holds start (start_each_once known) 5)

  -- what is not latched before the call, is not where it starts
  start_not : (g : Fault) → is_latched s.faults g ≡ false → is_latched start g ≡ false
  start_not g not_yet = go (starts call.event s.faults)
    where
      go : Starts call.event s.faults → is_latched start g ≡ false
      go (goes_on same) = ap (λ x. is_latched x g) same ∙ not_yet
      go (clears is none) = ap (λ x. is_latched x g) none ∙ none_latched g

  -- of two that the call latches, 2 comes behind the other
  pub two_behind : EachOnce s.faults → (f : Fault) → (f ≡ overcurrent → ⊥) → is_latched s.faults overcurrent ≡ false → is_latched after f ≡ true
      → is_latched after overcurrent ≡ true → place_of after f < place_of after overcurrent
  two_behind known f other not_yet f_is two_is =
      rw faults_are
      (by_turns holds start (start_each_once known) f overcurrent (two_last f other) (start_not overcurrent not_yet)
      (ap (λ x. is_latched x f) (sym faults_are) ∙ f_is) (ap (λ x. is_latched x overcurrent) (sym faults_are) ∙ two_is))

  -- the test of a turn latches its fault, and a fault that the call latches has passed its test
  passes : (n : ℕ) → n < 5 → holds n ≡ true → is_latched after (fault_of (suc n)) ≡ true
  passes n below is = ap (λ x. is_latched x (fault_of (suc n))) faults_are ∙ test_latches holds start n below is

  passed : (n : ℕ) → n < 5 → is_latched s.faults (fault_of (suc n)) ≡ false → is_latched after (fault_of (suc n)) ≡ true → holds n ≡ true
  passed n below not_yet is =
      latched_by_test holds start n below (start_not (fault_of (suc n)) not_yet) (ap (λ x. is_latched x (fault_of (suc n))) (sym faults_are) ∙ is)

  -- a fault call's own fault is latched after it, unless the kind is refused
  pub own_latched : (f : Fault) → is_accepted s call ≡ true → call.event ≡ fault (number_of f) → is_latched after f ≡ true
  own_latched diode into is = absurd (own_allowed s call 1 into is (omega arith))
  own_latched overcurrent into is = absurd (own_allowed s call 2 into is (omega arith))
  own_latched residual into is = passes 0 (omega arith) (ap (λ e. own e 3) is)
  own_latched welded into is = passes 1 (omega arith) (ap (λ e. own e 4) is)
  own_latched temperature into is = passes 2 (omega arith) (ap (λ e. own e 5) is)

  -- 3, 4 and 5 come by such a call alone
  pub own_only : (f : Fault) → 3 ≤ number_of f → is_latched s.faults f ≡ false → is_latched after f ≡ true → call.event ≡ fault (number_of f)
  own_only diode least not_yet is = absurd (omega arith)
  own_only overcurrent least not_yet is = absurd (omega arith)
  own_only residual least not_yet is = own_is call.event 3 (passed 0 (omega arith) not_yet is)
  own_only welded least not_yet is = own_is call.event 4 (passed 1 (omega arith) not_yet is)
  own_only temperature least not_yet is = own_is call.event 5 (passed 2 (omega arith) not_yet is)

  -- 1 comes with two diode-bad samples, so by a sample, and with nothing else
  pub one_latched : both_diode_bad (pair_at s call) ≡ true → is_latched after diode ≡ true
  one_latched = passes 3 (omega arith)

  pub one_only : is_latched s.faults diode ≡ false → is_latched after diode ≡ true → both_diode_bad (pair_at s call) ≡ true
  one_only = passed 3 (omega arith)

  pub by_sample : both_diode_bad (pair_at s call) ≡ true → is_sample call.event ≡ true
  unfolding both_diode_bad paired
  by_sample both = (and_parts (is_sample call.event) _ (and_parts (paired (pair_at s call)) _ both).0).0

  -- only a clear drops a fault
  pub clear_only : (f : Fault) → is_latched s.faults f ≡ true → is_latched after f ≡ false → call.event ≡ clear
  clear_only f was gone = go (starts call.event s.faults)
    where
      go : Starts call.event s.faults → call.event ≡ clear
      go (clears is none) = is
      go (goes_on same) = clash (ap is_place ((grows_on_from same).kept f was) ∙ was) gone

  module _ (reached : Reached s) where
    -- under a fault no over-run runs, so a clear drops every fault
    pub clear_drops : (f : Fault) → call.event ≡ clear → is_latched s.faults f ≡ true → after ≡ no_faults
    clear_drops f is latched_before = ap (λ e. (accept s (record { time = call.time; event = e })).faults) is ∙ clear_leaves_none s call.time (go s.overrun.set refl)
      where
        go : (b : Bool) → s.overrun.set ≡ b → b ≡ false
        go false none = refl
        go true runs = clash (latched_any s.faults f latched_before) (reached.driven_no_fault (reached.overrun_driven runs))

    -- so a call that leaves such a fault latched only adds to the order
    grows_under : (f : Fault) → is_latched s.faults f ≡ true → is_latched after f ≡ true → Grows s.faults after
    grows_under f before_is after_is = go (starts call.event s.faults)
      where
        go : Starts call.event s.faults → Grows s.faults after
        go (goes_on same) = grows_on_from same
        go (clears is none) = clash after_is (ap (λ x. is_latched x f) (clear_drops f is before_is) ∙ none_latched f)

    -- it keeps its place
    pub place_kept : (f : Fault) → is_latched s.faults f ≡ true → is_latched after f ≡ true → place_of after f ≡ place_of s.faults f
    place_kept f before_is after_is = (grows_under f before_is after_is).kept f before_is

    -- and one that the call latches comes behind it
    pub comes_behind : (f g : Fault) → is_latched s.faults f ≡ true → is_latched s.faults g ≡ false → is_latched after f ≡ true → is_latched after g ≡ true
        → place_of after f < place_of after g
    comes_behind f g f_before g_not f_is g_is =
        let by = grows_under f f_before f_is in
        omega (arith, by.kept f f_before, by.behind g g_not g_is, reached.each_once.no_further f)
