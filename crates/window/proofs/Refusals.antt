-- The order of the refusals 4 and 5, before the readings are evaluated.
use mathlib.Core.Path.{◌≡◌, refl, ◌∙◌, ap}
use mathlib.Core.Bool.{Bool, true, false, ◌&&◌}
use mathlib.Core.List.Memᴰ
use mathlib.Core.List.{List, [], ◌∷◌, Memᴰ}
use mathlib.Core.Logic.{⊎_elim}
use lib.IntN.{ℤ}
use Rattle.units.proofs.Booleans.{both_ways, and_parts}
use Rattle.window.specs.Evaluation.{refused, length_allowed, reading_allowed, all_allowed, supported_levels, evaluate}

-- every reading is allowed
pub all_right : (readings : List ℤ) → all_allowed readings ≡ true → (x : ℤ) → Memᴰ x readings → reading_allowed x ≡ true
unfolding all_allowed
all_right [] e x m = absurd (Memᴰ.not-nil m)
all_right (y ∷ ys) e x m =
    let parts = and_parts (reading_allowed y) (all_allowed ys) e in
    ⊎_elim (λ (same : x ≡ y). ap (λ (z : ℤ). reading_allowed z) same ∙ parts.0) (λ rest. all_right ys parts.1 x rest) (Memᴰ.cases_cons m)

-- or some reading is not
pub one_wrong : (readings : List ℤ) → all_allowed readings ≡ false → (x : ℤ) × Memᴰ x readings × (reading_allowed x ≡ false)
unfolding all_allowed
one_wrong [] e = both_ways e
one_wrong (y ∷ ys) e = go (reading_allowed y) refl (one_wrong ys) e
  where
    go : (t : Bool) → reading_allowed y ≡ t → (all_allowed ys ≡ false → (x : ℤ) × Memᴰ x ys × (reading_allowed x ≡ false))
        → t && all_allowed ys ≡ false → (x : ℤ) × Memᴰ x (y ∷ ys) × (reading_allowed x ≡ false)
    go true ok ih f = let later = ih f in (later.0, Memᴰ.tail later.1, later.2)
    go false bad ih f = (y, Memᴰ.head refl, bad)

module _ (window : List ℤ) where
  pub wrong_length : length_allowed window ≡ false → evaluate window ≡ refused 4
  unfolding evaluate
  wrong_length e = rw e

  pub out_of_range : length_allowed window ≡ true → all_allowed window ≡ false → evaluate window ≡ refused 5
  unfolding evaluate
  out_of_range e f = rw (e, f)

  pub evaluated : length_allowed window ≡ true → all_allowed window ≡ true → evaluate window ≡ supported_levels window
  unfolding evaluate
  evaluated e f = rw (e, f)
