-- The ranges of refusal 1 are kept by every accepted call.
use mathlib.Core.Path.{◌≡◌, refl}
use mathlib.Core.Bool.{Bool, true, false, ◌&&◌, ◌||◌, not, cond}
use Prim.Native.Nat.{ℕ, ◌≤◌}
use native.Mathlib.Nat.{le_refl}
use native.Mathlib.Omega.{arith}
use lib.Dec.{eqb, leb}
use borrow.Author.Tests.{leb-true, le-leb}
use Rattle.units.specs.Range.{from_to}
use Rattle.units.specs.Wave.{driven_in, steady_high}
use Rattle.units.proofs.Booleans.{and_parts, not_refused}
use Rattle.window.specs.Evaluation.{Evaluation}
use Rattle.pilot.specs.Bands.{band_a}
use Rattle.rules.specs.Accepted.{pair_at, opens_at, after_latch, after_wave, accept}
use Rattle.rules.specs.Altered.{wave_allowed, stored_allowed, times_allowed, in_range}
use Rattle.rules.specs.Begin.{rated_allowed, pause_allowed}
use Rattle.rules.specs.Calls.{Event, sample, limit, measure, link, fault, clear, tick, EvaluatedCall}
use Rattle.rules.specs.Lines.{largest}
use Rattle.rules.specs.Refusals.{limit_allowed, grant_allowed, link_refusal, argument_refusal, is_accepted}
use Rattle.rules.specs.State.{State, Moment, is_driven, empty, set_to, started_by}
use Rattle.rules.specs.Step1Event.{settled_by, is_over, allowed_current, judges, sound_by, limit_by, grant_stored, grant_by, overrun_at, overrun_by}
use Rattle.rules.specs.Step3Wave.{wave_for, restarts, overrun_under, stop_under}
use Rattle.laws.proofs.Acceptance.{arguments_right, on_time}
use Rattle.laws.proofs.Waves.{wave_allowed_lem}

-- the ranges, one by one
pub record InRange (s : State) : Type 0 where
  pub wave : wave_allowed s.settings.digital s.wave ≡ true
  pub limit : limit_allowed s.limit ≡ true
  pub grant : grant_allowed s.grant ≡ true
  pub rated : rated_allowed s.settings.rated ≡ true
  pub pause : pause_allowed s.settings.pause ≡ true
  pub sound : stored_allowed s.last s.sound ≡ true
  pub opening : stored_allowed s.last s.opening ≡ true
  pub overrun : stored_allowed s.last s.overrun ≡ true
  pub stop : stored_allowed s.last s.stop ≡ true

pub pause_least : (s : State) → InRange s → 1000 ≤ s.settings.pause
unfolding pause_allowed from_to
pause_least s known =
    let pause = s.settings.pause in
    leb-true 1000 pause (and_parts (leb 1000 pause) _ known.pause).0

pub range_parts : (s : State) → in_range s ≡ true → InRange s
unfolding in_range times_allowed
range_parts s e =
    let one = and_parts (wave_allowed s.settings.digital s.wave) _ e in
    let two = and_parts (limit_allowed s.limit) _ one.1 in
    let three = and_parts (grant_allowed s.grant) _ two.1 in
    let four = and_parts (rated_allowed s.settings.rated) _ three.1 in
    let five = and_parts (pause_allowed s.settings.pause) _ four.1 in
    let six = and_parts (stored_allowed s.last s.sound) _ five.1 in
    let seven = and_parts (stored_allowed s.last s.opening) _ six.1 in
    let eight = and_parts (stored_allowed s.last s.overrun) _ seven.1 in
    record {
      wave = one.0;
      limit = two.0;
      grant = three.0;
      rated = four.0;
      pause = five.0;
      sound = six.0;
      opening = seven.0;
      overrun = eight.0;
      stop = eight.1;
    }

pub range_whole : (s : State) → InRange s → in_range s ≡ true
unfolding in_range times_allowed
range_whole s p = rw (p.wave, p.limit, p.grant, p.rated, p.pause, p.sound, p.opening, p.overrun, p.stop)

-- stored times that are not above the call's
module _ (time : ℕ) where
  none_stored : stored_allowed time empty ≡ true
  unfolding stored_allowed
  none_stored = refl

  now_stored : stored_allowed time (set_to time) ≡ true
  unfolding stored_allowed
  now_stored = le-leb time time (le_refl time)

  either_stored : (b : Bool) (m n : Moment) → stored_allowed time m ≡ true → stored_allowed time n ≡ true → stored_allowed time (cond b m n) ≡ true
  either_stored true m n p q = p
  either_stored false m n p q = q

  started_stored : (m : Moment) → stored_allowed time m ≡ true → stored_allowed time (started_by time m) ≡ true
  started_stored m p = either_stored m.set m (set_to time) p now_stored

  later_stored : (last : ℕ) (m : Moment) → last ≤ time → stored_allowed last m ≡ true → stored_allowed time m ≡ true
  unfolding stored_allowed
  later_stored last m past e = go m.set e
    where
      go : (b : Bool) → not b || leb m.time last ≡ true → not b || leb m.time time ≡ true
      go true f = le-leb m.time time (omega (arith, leb-true m.time last f))
      go false f = refl

module _ (s : State) (call : EvaluatedCall) where
  overrun_stored : (event : Event Evaluation) → stored_allowed call.time s.overrun ≡ true
      → stored_allowed call.time (overrun_by call.time event s) ≡ true
  unfolding overrun_by overrun_at
  overrun_stored (sample window) p = p
  overrun_stored (limit given) p = p
  overrun_stored (measure lines) p =
      either_stored call.time (judges s) _ s.overrun
      (either_stored call.time (is_over (largest lines) (allowed_current s)) _ empty (started_stored call.time s.overrun p) (none_stored call.time)) p
  overrun_stored (link granted) p = p
  overrun_stored (fault kind) p = p
  overrun_stored clear p = p
  overrun_stored tick p = p

  limit_right : (event : Event Evaluation) → argument_refusal s.settings.digital event ≡ 0 → limit_allowed s.limit ≡ true → limit_allowed (limit_by event s.limit) ≡ true
  unfolding limit_by argument_refusal
  limit_right (sample window) e p = p
  limit_right (limit given) e p = not_refused (limit_allowed given) 13 (omega arith) e
  limit_right (measure lines) e p = p
  limit_right (link granted) e p = p
  limit_right (fault kind) e p = p
  limit_right clear e p = p
  limit_right tick e p = p

  stored_right : (event : Event Evaluation) → argument_refusal s.settings.digital event ≡ 0 → grant_allowed s.grant ≡ true
      → grant_allowed (grant_stored event s.grant) ≡ true
  unfolding grant_stored argument_refusal link_refusal
  stored_right (sample window) e p = p
  stored_right (limit given) e p = p
  stored_right (measure lines) e p = p
  stored_right (link granted) e p = go s.settings.digital e
    where
      go : (d : Bool) → ◌≡◌ {A = ℕ} (cond d (cond (grant_allowed granted) 0 11) 12) 0 → grant_allowed granted ≡ true
      go true f = not_refused (grant_allowed granted) 11 (omega arith) f
      go false f = absurd (omega arith)
  stored_right (fault kind) e p = p
  stored_right clear e p = p
  stored_right tick e p = p

  grant_right : (event : Event Evaluation) (settled : ℕ) → argument_refusal s.settings.digital event ≡ 0 → grant_allowed s.grant ≡ true
      → grant_allowed (grant_by event settled s.grant) ≡ true
  unfolding grant_by grant_allowed
  grant_right event settled e p = go (eqb settled band_a)
    where
      go : (b : Bool) → grant_allowed (cond b 0 (grant_stored event s.grant)) ≡ true
      go true = refl
      go false = stored_right event e p

  -- refusal 1's ranges, for one call: of any state, reached by a list or not
  pub range_kept : is_accepted s call ≡ true → InRange s → InRange (accept s call)
  unfolding sound_by overrun_under stop_under
  range_kept into was =
      let time = call.time in
      let past = (on_time s call into).0 in
      let sound = later_stored time s.last s.sound past was.sound in
      let opening = later_stored time s.last s.opening past was.opening in
      let overrun = overrun_stored call.event (later_stored time s.last s.overrun past was.overrun) in
      let stop = later_stored time s.last s.stop past was.stop in
      let wave = wave_for (after_latch s call) in
      let began = overrun_by time call.event s in
      record {
        wave = wave_allowed_lem (after_latch s call);
        limit = limit_right call.event (arguments_right s call into) was.limit;
        grant = grant_right call.event (settled_by (pair_at s call) s.settled) (arguments_right s call into) was.grant;
        rated = was.rated;
        pause = was.pause;
        sound = either_stored time ((pair_at s call).sampled && (pair_at s call).this.sound) (set_to time) s.sound (now_stored time) sound;
        opening = either_stored time (opens_at s call) (set_to time) s.opening (now_stored time) opening;
        overrun = either_stored time (opens_at s call) empty (after_wave s call).overrun (none_stored time)
            (either_stored time (is_driven (accept s call)) _ empty (either_stored time (restarts s.settings.digital s.wave wave began) (set_to time) began (now_stored time) overrun) (none_stored time));
        stop = either_stored time (opens_at s call) empty (after_wave s call).stop (none_stored time) (stop_stored time wave stop);
      }
    where
      stop_stored : (time wave : ℕ) → stored_allowed time s.stop ≡ true → stored_allowed time (stop_under s.settings.digital time wave s.closed s.stop) ≡ true
      stop_stored time wave p =
          either_stored time (s.closed && eqb wave steady_high) (started_by time s.stop) _ (started_stored time s.stop p)
          (either_stored time (driven_in s.settings.digital wave) empty s.stop (none_stored time) p)
