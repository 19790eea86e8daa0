-- One call of the replay: refused, nothing changes; accepted, it goes through the steps.
use mathlib.Core.Path.{◌≡◌, refl, ◌∙◌, ap}
use mathlib.Core.Bool.{Bool, true, false, cond}
use mathlib.Core.List.{List, [], ◌∷◌}
use Prim.Native.Nat.{ℕ, suc, ◌<◌}
use lib.ListN.{length, take}
use Rattle.rules.specs.Accepted.{accept}
use Rattle.rules.specs.Begin.{Begin, pause_for, fresh}
use Rattle.rules.specs.Calls.{Call, EvaluatedCall, evaluated_call, in_turn}
use Rattle.rules.specs.Refusals.{is_accepted}
use Rattle.rules.specs.State.{State}
use Rattle.lists.specs.Replay.{step, replay}
use Rattle.lists.specs.Traces.{before, call_at}
use Rattle.lists.proofs.Turns.{turn_next}

module _ (s : State) (call : EvaluatedCall) where
  pub step_by : (a : Bool) → is_accepted s call ≡ a → step s call ≡ cond a (accept s call) s
  unfolding step
  step_by true into = rw into
  step_by false out = rw out

  -- what a call does to one thing that is kept, from what it does if accepted
  pub step_to : {A : Type 0} (f : State → A) (x : A) → f (accept s call) ≡ x → f (step s call) ≡ cond (is_accepted s call) x (f s)
  step_to {A} f x e = go (is_accepted s call) refl
    where
      go : (a : Bool) → is_accepted s call ≡ a → f (step s call) ≡ cond a x (f s)
      go true p = ap f (step_by true p) ∙ e
      go false p = ap f (step_by false p)

-- no call changes the settings
step_settings : (s : State) (call : EvaluatedCall) → (step s call).settings ≡ s.settings
step_settings s call = step_to s call (λ x. x.settings) s.settings refl ∙ same (is_accepted s call)
  where
    same : (a : Bool) → cond a s.settings s.settings ≡ s.settings
    same true = refl
    same false = refl

settings_kept : (s : State) (calls : List Call) → (in_turn step s calls).settings ≡ s.settings
unfolding in_turn
settings_kept s [] = refl
settings_kept s (call ∷ calls) = settings_kept (step s (evaluated_call call)) calls ∙ step_settings s (evaluated_call call)

pub settings_are : (begin : Begin) (calls : List Call) (k : ℕ) → (before begin calls k).settings ≡ (fresh begin).settings
unfolding replay
settings_are begin calls k = settings_kept (fresh begin) (take k calls)

-- nor the pause in force, nor the mark
pub pause_is : (begin : Begin) (calls : List Call) (k : ℕ) → (before begin calls k).settings.pause ≡ pause_for begin.pause
unfolding fresh
pause_is begin calls k = ap (λ x. x.pause) (settings_are begin calls k)

pub mark_is : (begin : Begin) (calls : List Call) (k : ℕ) → (before begin calls k).settings.digital ≡ begin.digital
unfolding fresh
mark_is begin calls k = ap (λ x. x.digital) (settings_are begin calls k)

-- the replay before the next call
module _ (begin : Begin) (calls : List Call) (k : ℕ) (below : k < length calls) where
  abbrev s : State
  s = before begin calls k

  abbrev call : EvaluatedCall
  call = call_at begin calls k

  pub before_next : before begin calls (suc k) ≡ step s call
  unfolding replay
  before_next = turn_next step (fresh begin) calls k below

  pub accepted_is : is_accepted s call ≡ true → before begin calls (suc k) ≡ accept s call
  accepted_is into = before_next ∙ step_by s call true into

  pub refused_is : is_accepted s call ≡ false → before begin calls (suc k) ≡ s
  refused_is out = before_next ∙ step_by s call false out

  -- one thing that is kept, from what an accepted call does to it
  pub next_is : {A : Type 0} (f : State → A) (x : A) → f (accept s call) ≡ x → f (before begin calls (suc k)) ≡ cond (is_accepted s call) x (f s)
  next_is f x e = ap f before_next ∙ step_to s call f x e
