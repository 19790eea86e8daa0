-- When begin is refused, exactly.
use mathlib.Core.Path.{◌≡◌, refl}
use mathlib.Core.Bool.{Bool, true, false, ◌&&◌, ◌||◌, cond}
use mathlib.Core.Logic.{◌⊎◌, inl, inr}
use Prim.Native.Nat.{ℕ, ◌≤◌, ◌<◌}
use native.Mathlib.Omega.{arith}
use lib.Dec.{eqb, ltb}
use borrow.Author.Tests.{eqb-true, eqb-false, ltb-true, ltb-false}
use Rattle.units.specs.Range.{from_to}
use Rattle.units.proofs.Booleans.{clash}
use Rattle.units.proofs.FromTo.{outside_exactly}
use Rattle.rules.specs.Begin.{Begin, largest_time, rated_allowed, pause_allowed, begin_refusal}
use Rattle.laws.specs.RefusedExactly.{SettingsOut, BeginRefusedBy}

module _ (begin : Begin) where
  -- begin's refusal by its four tests
  abbrev by : Bool → Bool → Bool → Bool → ℕ
  by late rated zero range = cond late 3 (cond (rated && (zero || range)) 0 1)

  abbrev Wrong : Type 0
  Wrong = (begin.time ≤ largest_time) × SettingsOut begin

  to_one : (late rated zero range : Bool) → ltb largest_time begin.time ≡ late → from_to 6000 80000 begin.rated ≡ rated
      → eqb begin.pause 0 ≡ zero → from_to 1000 60000 begin.pause ≡ range → by late rated zero range ≡ 1 → Wrong
  to_one true rated zero range p q r t e = absurd (omega arith)
  to_one false true true range p q r t e = absurd (omega arith)
  to_one false true false true p q r t e = absurd (omega arith)
  to_one false true false false p q r t e =
      let some = eqb-false begin.pause 0 r in
      (ltb-false largest_time begin.time p, inr (omega arith, (outside_exactly 1000 60000 begin.pause).0 t))
  to_one false false zero range p q r t e = (ltb-false largest_time begin.time p, inl ((outside_exactly 6000 80000 begin.rated).0 q))

  from_one : (late rated zero range : Bool) → ltb largest_time begin.time ≡ late → from_to 6000 80000 begin.rated ≡ rated
      → eqb begin.pause 0 ≡ zero → from_to 1000 60000 begin.pause ≡ range → Wrong → by late rated zero range ≡ 1
  from_one true rated zero range p q r t (time, out) = let past = ltb-true largest_time begin.time p in absurd (omega arith)
  from_one false true zero range p q r t (time, inl out) = clash q ((outside_exactly 6000 80000 begin.rated).1 out)
  from_one false true true range p q r t (time, inr (some, out)) = let none = eqb-true begin.pause 0 r in absurd (omega arith)
  from_one false true false true p q r t (time, inr (some, out)) = clash t ((outside_exactly 1000 60000 begin.pause).1 out)
  from_one false true false false p q r t (time, inr (some, out)) = refl
  from_one false false zero range p q r t (time, out) = refl

  to_three : (late : Bool) (rest : ℕ) → ltb largest_time begin.time ≡ late → rest ≤ 1 → cond late 3 rest ≡ 3 → largest_time < begin.time
  to_three true rest p few e = ltb-true largest_time begin.time p
  to_three false rest p few e = absurd (omega arith)

  from_three : (late : Bool) (rest : ℕ) → ltb largest_time begin.time ≡ late → largest_time < begin.time → cond late 3 rest ≡ 3
  from_three true rest p past = refl
  from_three false rest p past = let time = ltb-false largest_time begin.time p in absurd (omega arith)

  abbrev Is : ℕ → Bool → Bool → Type 0
  Is n late fine = ◌≡◌ {A = ℕ} (cond late 3 (cond fine 0 1)) n

  few : (fine : Bool) → cond fine 0 1 ≤ 1
  few true = omega arith
  few false = omega arith

  one_of : (late fine : Bool) → Is 0 late fine ⊎ (Is 1 late fine ⊎ Is 3 late fine)
  one_of true fine = inr (inr refl)
  one_of false true = inl refl
  one_of false false = inr (inl refl)

  abbrev fine : Bool
  fine = rated_allowed begin.rated && (eqb begin.pause 0 || pause_allowed begin.pause)

  -- begin is accepted exactly if it is refused for nothing
  to_none : (late right : Bool) → ltb largest_time begin.time ≡ late → (Wrong → Is 1 late right) → Is 0 late right
      → (begin.time ≤ largest_time) × (SettingsOut begin → ⊥)
  to_none true right p wrong e = absurd (omega arith)
  to_none false true p wrong e =
      let time = ltb-false largest_time begin.time p in
      (time, λ out. let one = wrong (time, out) in absurd (omega arith))
  to_none false false p wrong e = absurd (omega arith)

  from_none : (late right : Bool) → ltb largest_time begin.time ≡ late → (Is 1 late right → Wrong)
      → (begin.time ≤ largest_time) × (SettingsOut begin → ⊥) → Is 0 late right
  from_none true right p wrong (time, none) = let past = ltb-true largest_time begin.time p in absurd (omega arith)
  from_none false true p wrong (time, none) = refl
  from_none false false p wrong (time, none) = absurd (none (wrong refl).1)

  pub begin_refused_by : BeginRefusedBy begin (begin_refusal begin)
  unfolding begin_refusal rated_allowed pause_allowed
  begin_refused_by =
      record {
        three = (
          λ e. to_three (ltb largest_time begin.time) (cond fine 0 1) refl (few fine) e,
          λ past. from_three (ltb largest_time begin.time) (cond fine 0 1) refl past,
        );
        one = (λ e. to_one _ _ _ _ refl refl refl refl e, λ wrong. from_one _ _ _ _ refl refl refl refl wrong);
        none = (
          λ e. to_none (ltb largest_time begin.time) fine refl (λ wrong. from_one _ _ _ _ refl refl refl refl wrong) e,
          λ right. from_none (ltb largest_time begin.time) fine refl (λ e. to_one _ _ _ _ refl refl refl refl e) right,
        );
        no_other = one_of (ltb largest_time begin.time) fine;
      }
