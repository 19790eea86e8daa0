-- What a fresh controller has and every accepted call keeps, every list leads to.
use mathlib.Core.Path.{◌≡◌, refl}
use mathlib.Core.Bool.{Bool, true, false}
use mathlib.Core.List.{List, [], ◌∷◌}
use Rattle.units.specs.Range.{from_to}
use Rattle.units.specs.Wave.{driven, steady_high}
use Rattle.rules.specs.Accepted.{accept}
use Rattle.rules.specs.Altered.{duty_allowed, wave_allowed, stored_allowed}
use Rattle.rules.specs.Begin.{Begin, begin_refusal, fresh}
use Rattle.rules.specs.Calls.{Call, EvaluatedCall, evaluated_call, in_turn}
use Rattle.rules.specs.Refusals.{limit_allowed, grant_allowed, is_accepted}
use Rattle.rules.specs.State.{State}
use Rattle.laws.proofs.Acceptance.{begins}
use Rattle.laws.proofs.Ranges.{InRange, range_kept}
use Rattle.lists.specs.Replay.{step, replay}
use Rattle.lists.proofs.Stepped.{step_by}

module _ (Holds : State → Type 0) (keeps : (s : State) (call : EvaluatedCall) → is_accepted s call ≡ true → Holds s → Holds (accept s call)) where
  pub step_keeps : (s : State) (call : EvaluatedCall) → Holds s → Holds (step s call)
  step_keeps s call holds = go (is_accepted s call) refl
    where
      go : (a : Bool) → is_accepted s call ≡ a → Holds (step s call)
      go true into = rw (step_by s call true into) (keeps s call into holds)
      go false out = rw (step_by s call false out) holds

  pub after_keeps : (s : State) (calls : List Call) → Holds s → Holds (in_turn step s calls)
  unfolding in_turn
  after_keeps s [] holds = holds
  after_keeps s (call ∷ calls) holds = after_keeps (step s (evaluated_call call)) calls (step_keeps s (evaluated_call call) holds)

  pub replay_keeps : (begin : Begin) (calls : List Call) → Holds (fresh begin) → Holds (replay begin calls)
  unfolding replay
  replay_keeps begin calls holds = after_keeps (fresh begin) calls holds

high_allowed : (digital : Bool) → wave_allowed digital steady_high ≡ true
unfolding wave_allowed duty_allowed driven from_to
high_allowed true = refl
high_allowed false = refl

pub fresh_in_range : (begin : Begin) → begin_refusal begin ≡ 0 → InRange (fresh begin)
unfolding fresh limit_allowed grant_allowed stored_allowed
fresh_in_range begin accepted =
    let known = begins begin accepted in
    record {
      wave = high_allowed begin.digital;
      limit = refl;
      grant = refl;
      rated = known.rated_right;
      pause = known.pause_right;
      sound = refl;
      opening = refl;
      overrun = refl;
      stop = refl;
    }

-- no list leads out of the ranges of refusal 1
pub list_in_range : (begin : Begin) (calls : List Call) → begin_refusal begin ≡ 0 → InRange (replay begin calls)
list_in_range begin calls accepted = replay_keeps InRange range_kept begin calls (fresh_in_range begin accepted)
