-- Tests and what they tell.
use mathlib.Core.Path.{◌≡◌, refl, sym, ◌∙◌}
use mathlib.Core.Bool.{Bool, true, false, ◌&&◌, ◌||◌, cond}
use Prim.Native.Nat.{ℕ, ◌≤◌}
use native.Mathlib.Omega.{arith}

-- a test that came out both ways
pub both_ways : {X : Type 0} → true ≡ false → X
both_ways e = let clash : ◌≡◌ {A = ℕ} 0 1 = cc in absurd (omega arith)

pub clash : {X : Type 0} {b : Bool} → b ≡ true → b ≡ false → X
clash p q = both_ways (sym p ∙ q)

-- both halves of a conjunction
pub and_parts : (a b : Bool) → a && b ≡ true → (a ≡ true) × (b ≡ true)
and_parts true b e = (refl, e)
and_parts false b e = both_ways (sym e)

pub and_false : (b : Bool) → b && false ≡ false
and_false true = refl
and_false false = refl

-- a disjunction: true by its second half, as its first half, false by both, and denied by both
pub or_true : (b : Bool) → b || true ≡ true
or_true true = refl
or_true false = refl

pub or_right : (a b : Bool) → b ≡ true → a || b ≡ true
or_right a b is = rw is (or_true a)

pub or_false : (b : Bool) → b || false ≡ b
or_false true = refl
or_false false = refl

pub or_parts : (a b : Bool) → a || b ≡ false → (a ≡ false) × (b ≡ false)
or_parts true b e = both_ways e
or_parts false b e = (refl, e)

pub or_denied : (a b : Bool) → (a ≡ true → ⊥) → (b ≡ true → ⊥) → a || b ≡ true → ⊥
or_denied true b no_a no_b e = no_a refl
or_denied false b no_a no_b e = no_b e

-- a test that refuses by a number where it fails, and did not refuse
pub not_refused : (test : Bool) (number : ℕ) → 1 ≤ number → cond test 0 number ≡ 0 → test ≡ true
not_refused true number some e = refl
not_refused false number some e = absurd (omega arith)
