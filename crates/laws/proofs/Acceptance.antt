-- What an accepted call tells of its time and arguments, and what an accepted begin tells of its values.
use mathlib.Core.Path.{◌≡◌, refl}
use mathlib.Core.Bool.{Bool, true, false, ◌&&◌, ◌||◌, cond}
use Prim.Native.Nat.{ℕ, ◌≤◌}
use native.Mathlib.Omega.{arith}
use lib.Dec.{eqb, ltb}
use borrow.Author.Tests.{ltb-false}
use Rattle.units.specs.Range.{from_to}
use Rattle.rules.specs.Begin.{Begin, largest_time, rated_allowed, pause_allowed, pause_for, begin_refusal}
use Rattle.rules.specs.Calls.{EvaluatedCall}
use Rattle.rules.specs.Refusals.{time_refusal, argument_refusal, refusal, is_accepted}
use Rattle.rules.specs.State.{State}
use Rattle.rules.proofs.TakenCounts.{neither}

module _ (s : State) (call : EvaluatedCall) (into : is_accepted s call ≡ true) where
  both : (time_refusal s.last call.time ≡ 0) × (argument_refusal s.settings.digital call.event ≡ 0)
  unfolding refusal
  both = neither (time_refusal s.last call.time) (argument_refusal s.settings.digital call.event) into

  pub arguments_right : argument_refusal s.settings.digital call.event ≡ 0
  arguments_right = both.1

  pub on_time : (s.last ≤ call.time) × (call.time ≤ largest_time)
  unfolding time_refusal
  on_time = go (ltb largest_time call.time) (ltb call.time s.last) refl refl both.0
    where
      go : (late early : Bool) → ltb largest_time call.time ≡ late → ltb call.time s.last ≡ early
          → ◌≡◌ {A = ℕ} (cond late 3 (cond early 2 0)) 0 → (s.last ≤ call.time) × (call.time ≤ largest_time)
      go true early p q e = absurd (omega arith)
      go false true p q e = absurd (omega arith)
      go false false p q e = (ltb-false call.time s.last q, ltb-false largest_time call.time p)

-- an accepted begin
pub record Begins (begin : Begin) : Type 0 where
  pub not_late : begin.time ≤ largest_time
  pub rated_right : rated_allowed begin.rated ≡ true
  pub pause_right : pause_allowed (pause_for begin.pause) ≡ true

pub begins : (begin : Begin) → begin_refusal begin ≡ 0 → Begins begin
unfolding begin_refusal pause_for pause_allowed from_to
begins begin accepted =
    go (ltb largest_time begin.time) (rated_allowed begin.rated) (eqb begin.pause 0) (pause_allowed begin.pause) refl refl refl refl accepted
  where
    go : (late rated zero range : Bool) → ltb largest_time begin.time ≡ late → rated_allowed begin.rated ≡ rated
        → eqb begin.pause 0 ≡ zero → pause_allowed begin.pause ≡ range → ◌≡◌ {A = ℕ} (cond late 3 (cond (rated && (zero || range)) 0 1)) 0 → Begins begin
    go true rated zero range p q r u e = absurd (omega arith)
    go false false zero range p q r u e = absurd (omega arith)
    go false true false false p q r u e = absurd (omega arith)
    go false true true range p q r u e = record { not_late = ltb-false largest_time begin.time p; rated_right = q; pause_right = rw r }
    go false true false true p q r u e = record { not_late = ltb-false largest_time begin.time p; rated_right = q; pause_right = rw r u }
