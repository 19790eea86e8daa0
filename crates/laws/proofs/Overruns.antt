-- What an accepted call does to the over-run, and when it latches fault 2.
use mathlib.Core.Path.{◌≡◌, refl, sym, ◌∙◌, ap}
use mathlib.Core.Bool.{Bool, true, false, ◌&&◌, ◌||◌, not, cond}
use Prim.Native.Nat.{ℕ, ◌+◌, ◌*◌, ◌≤◌, ◌<◌}
use native.Mathlib.Omega.{arith}
use lib.Dec.{eqb, leb, ltb}
use borrow.Author.Tests.{leb-true, le-leb, ltb-true, ltb-false, lt-ltb}
use Rattle.units.specs.Wave.{driven_in}
use Rattle.units.proofs.Booleans.{and_parts, clash, or_true}
use Rattle.window.specs.Evaluation.{Evaluation}
use Rattle.rules.specs.Accepted.{pair_at, opens_at, closes_at, after_event, after_wave, accept}
use Rattle.rules.specs.Calls.{Event, sample, limit, measure, link, fault, clear, tick, EvaluatedCall, is_measure}
use Rattle.rules.specs.Faults.{diode, overcurrent, residual, welded, temperature, number_of, is_place, is_latched}
use Rattle.rules.specs.Lines.{Lines, no_currents, largest}
use Rattle.rules.specs.Pairs.{both_diode_bad}
use Rattle.rules.specs.State.{State, Moment, is_driven, empty, set_to}
use Rattle.rules.specs.Step1Event.{lines_by, with_kind, faults_by, allowed_current, is_over, overrun_at, overrun_by}
use Rattle.rules.specs.Step2Latches.{ran_for, over_current, latched}
use Rattle.rules.specs.Step3Wave.{lowers_duty, restarts, overrun_under}
use Rattle.laws.proofs.Latching.{latched_own, alone}
use Rattle.laws.proofs.OneCall.{closes_exactly}

-- a duty is lowered, as numbers tell it
pub record LowersTo (digital : Bool) (old wave : ℕ) : Type 0 where
  pub was_driven : driven_in digital old ≡ true
  pub still_driven : driven_in digital wave ≡ true
  pub lower : wave < old

module _ (digital : Bool) (old wave : ℕ) (overrun : Moment) where
  pub restarts_when : overrun.set ≡ true → LowersTo digital old wave → restarts digital old wave overrun ≡ true
  unfolding restarts lowers_duty
  restarts_when runs lowers = rw (runs, lowers.was_driven, lowers.still_driven, lt-ltb wave old lowers.lower)

  pub restarted : restarts digital old wave overrun ≡ true → (overrun.set ≡ true) × LowersTo digital old wave
  unfolding restarts lowers_duty
  restarted e =
      let one = and_parts (lowers_duty digital old wave) overrun.set e in
      let two = and_parts (driven_in digital old) _ one.0 in
      let three = and_parts (driven_in digital wave) (ltb wave old) two.1 in
      (one.1, record { was_driven = two.0; still_driven = three.0; lower = ltb-true wave old three.1 })

module _ (s : State) (call : EvaluatedCall) where
  -- the call is a measure that is judged
  pub record JudgedBy (lines : Lines) : Type 0 where
    pub is : call.event ≡ measure lines
    pub closed : s.closed ≡ true
    pub driven_wave : is_driven s ≡ true

  abbrev pub AboveBound : Lines → Type 0
  AboveBound lines = 11 * allowed_current s < 10 * largest lines

  -- the over-run after step 1
  abbrev pub after_step1 : Moment
  after_step1 = overrun_by call.time call.event s

  -- the event leaves it, and if it is a judged measure, that was over and found one that runs; or starts it; or ends it
  pub data ByEvent : Type 0 where
    left : after_step1 ≡ s.overrun → ((lines : Lines) → JudgedBy lines → AboveBound lines × (s.overrun.set ≡ true)) → ByEvent
    starts : (lines : Lines) → JudgedBy lines → AboveBound lines → s.overrun.set ≡ false → after_step1 ≡ set_to call.time → ByEvent
    ends : (lines : Lines) → JudgedBy lines → 10 * largest lines ≤ 11 * allowed_current s → after_step1 ≡ empty → ByEvent

  pub same_lines : (a b : Lines) → call.event ≡ measure a → call.event ≡ measure b → a ≡ b
  unfolding lines_by
  same_lines a b p q = ap (λ event. lines_by event no_currents) (sym p ∙ q)

  pub by_event : ByEvent
  unfolding overrun_by overrun_at is_over
  by_event = kind call.event refl
    where
      other : (event : Event Evaluation) → call.event ≡ event → is_measure event ≡ false → after_step1 ≡ s.overrun → ByEvent
      other event is none same = left same (λ lines judged. clash (ap is_measure (sym is ∙ judged.is)) none)

      over_is : (lines given : Lines) → call.event ≡ measure lines → JudgedBy given → AboveBound lines → AboveBound given
      over_is lines given is judged over = rw (same_lines given lines judged.is is) over

      by : (lines : Lines) (c d o r : Bool) → call.event ≡ measure lines → s.closed ≡ c → is_driven s ≡ d
          → ltb (11 * allowed_current s) (10 * largest lines) ≡ o → s.overrun.set ≡ r → ByEvent
      by lines false d o r is ec ed eo er = left (rw (is, ec)) (λ given judged. clash judged.closed ec)
      by lines true false o r is ec ed eo er = left (rw (is, ec, ed)) (λ given judged. clash judged.driven_wave ed)
      by lines true true true true is ec ed eo er =
          left (rw (is, eo, ec, ed, er)) (λ given judged. (over_is lines given is judged (ltb-true _ (10 * largest lines) eo), er))
      by lines true true true false is ec ed eo er =
          starts lines (record { is = is; closed = ec; driven_wave = ed }) (ltb-true _ (10 * largest lines) eo) er (rw (is, eo, ec, ed, er))
      by lines true true false r is ec ed eo er =
          ends lines (record { is = is; closed = ec; driven_wave = ed }) (ltb-false _ (10 * largest lines) eo) (rw (is, eo, ec, ed))

      kind : (event : Event Evaluation) → call.event ≡ event → ByEvent
      kind (measure lines) is = by lines s.closed (is_driven s) (ltb (11 * allowed_current s) (10 * largest lines)) s.overrun.set is refl refl refl refl
      kind (sample window) is = other (sample window) is refl (rw is)
      kind (limit given) is = other (limit given) is refl (rw is)
      kind (link granted) is = other (link granted) is refl (rw is)
      kind (fault number) is = other (fault number) is refl (rw is)
      kind clear is = other clear is refl (rw is)
      kind tick is = other tick is refl (rw is)

  -- a contactor that stays closed was not opened
  pub stays_closed : s.closed ≡ true → (accept s call).closed ≡ true → opens_at s call ≡ false
  stays_closed was is = go (opens_at s call) (closes_at s call) refl refl is
    where
      go : (o m : Bool) → opens_at s call ≡ o → closes_at s call ≡ m → (s.closed && not o) || m ≡ true → opens_at s call ≡ false
      go false m p q f = p
      go true true p q f = clash was ((closes_exactly s call).0 q).was_open
      go true false p q f = clash (rw was at f) refl

  -- the over-run after the call, where the contactor was not opened and the wave is driven
  abbrev pub restarts_at : Bool
  restarts_at = restarts s.settings.digital s.wave (accept s call).wave after_step1

  pub overrun_next : opens_at s call ≡ false → is_driven (accept s call) ≡ true
      → (accept s call).overrun ≡ cond restarts_at (set_to call.time) after_step1
  unfolding overrun_under
  overrun_next still is = rw (still, is)

  -- one that runs after the call was not ended by it
  pub not_ended : (accept s call).overrun.set ≡ true → opens_at s call ≡ false
  not_ended e = go (opens_at s call) refl
    where
      go : (o : Bool) → opens_at s call ≡ o → o ≡ false
      go false p = refl
      go true p = clash e (ap (λ b. (cond b empty (after_wave s call).overrun).set) p)

  -- fault 2 is latched by the call if the over-run after step 1 began 5,000 or more ago, or if it was latched
  two_is : is_latched (accept s call).faults overcurrent ≡ (is_latched (faults_by call.event s.faults) overcurrent || over_current call.time (after_event s call))
  unfolding latched
  two_is =
      let bad = both_diode_bad (pair_at s call) in
      latched_own (over_current call.time (after_event s call)) overcurrent _
      ∙ ap (λ p. is_place p || over_current call.time (after_event s call)) (alone bad diode (faults_by call.event s.faults) overcurrent (λ e. absurd (omega (arith, ap number_of e))))

  two_left : (event : Event Evaluation) → is_latched s.faults overcurrent ≡ false → is_latched (faults_by event s.faults) overcurrent ≡ false
  unfolding faults_by with_kind
  two_left (sample window) none = none
  two_left (limit given) none = none
  two_left (measure lines) none = none
  two_left (link granted) none = none
  two_left (fault number) none =
      ap is_place
      (alone (eqb number 5) temperature _ overcurrent (λ e. absurd (omega (arith, ap number_of e)))
      ∙ alone (eqb number 4) welded _ overcurrent (λ e. absurd (omega (arith, ap number_of e)))
      ∙ alone (eqb number 3) residual s.faults overcurrent (λ e. absurd (omega (arith, ap number_of e))))
      ∙ none
  two_left clear none = refl
  two_left tick none = none

  -- a call that latches fault 2 found an over-run that began 5,000 or more ago, and is no measure within its bound
  pub latches : is_latched s.faults overcurrent ≡ false → is_latched (accept s call).faults overcurrent ≡ true
      → (s.overrun.set ≡ true) × (s.overrun.time + 5000 ≤ call.time) × ((lines : Lines) → JudgedBy lines → AboveBound lines)
  unfolding over_current ran_for
  latches none is = go by_event (and_parts after_step1.set _ old)
    where
      old : over_current call.time (after_event s call) ≡ true
      old = ap (λ b. b || over_current call.time (after_event s call)) (sym (two_left call.event none)) ∙ sym two_is ∙ is

      go : ByEvent → (after_step1.set ≡ true) × (leb (after_step1.time + 5000) call.time ≡ true)
          → (s.overrun.set ≡ true) × (s.overrun.time + 5000 ≤ call.time) × ((lines : Lines) → JudgedBy lines → AboveBound lines)
      go (left same judged) known = (
        sym (ap (λ m. m.set) same) ∙ known.0,
        leb-true (s.overrun.time + 5000) call.time (ap (λ m. leb (m.time + 5000) call.time) (sym same) ∙ known.1),
        λ lines by. (judged lines by).0,
      )
      go (starts lines by over unset same) known =
          absurd (omega (arith, leb-true (call.time + 5000) call.time (ap (λ m. leb (m.time + 5000) call.time) (sym same) ∙ known.1)))
      go (ends lines by within same) known = clash known.0 (ap (λ m. m.set) same)

  -- and so does every call that finds one, unless it ends it
  pub latches_when : after_step1 ≡ s.overrun → s.overrun.set ≡ true → s.overrun.time + 5000 ≤ call.time → is_latched (accept s call).faults overcurrent ≡ true
  unfolding over_current ran_for
  latches_when same runs long =
      two_is ∙ ap (λ b. is_latched (faults_by call.event s.faults) overcurrent || b) old ∙ or_true (is_latched (faults_by call.event s.faults) overcurrent)
    where
      old : over_current call.time (after_event s call) ≡ true
      old = ap (λ m. m.set && leb (m.time + 5000) call.time) same ∙ rw (runs, le-leb (s.overrun.time + 5000) call.time long)
