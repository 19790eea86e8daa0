-- The readings that pass a test, and the extreme one of them.
use mathlib.Core.Path.{◌≡◌, refl, sym, ◌∙◌, ap, subst}
use mathlib.Core.Bool.{Bool, true, false, cond}
use mathlib.Core.List.Memᴰ
use mathlib.Core.List.{List, [], ◌∷◌, Memᴰ}
use mathlib.Core.Logic.{◌⊎◌, inl, inr, ⊎_elim}
use lib.IntN.{ℤ}
use Rattle.units.proofs.Booleans.{both_ways}
use Rattle.window.specs.Evaluation.{select, extreme}

module _ (test : ℤ → Bool) (x : ℤ) where
  -- a reading is selected exactly if it passes
  pub selected : (readings : List ℤ) → Memᴰ x (select test readings) → Memᴰ x readings × (test x ≡ true)
  unfolding select
  selected [] m = absurd (Memᴰ.not-nil m)
  selected (y ∷ ys) m = go (test y) refl (selected ys) m
    where
      go : (t : Bool) → test y ≡ t → (Memᴰ x (select test ys) → Memᴰ x ys × (test x ≡ true))
          → Memᴰ x (cond t (y ∷ select test ys) (select test ys)) → Memᴰ x (y ∷ ys) × (test x ≡ true)
      go true e ih m' =
          ⊎_elim (λ (same : x ≡ y). (Memᴰ.head same, ap test same ∙ e)) (λ rest. (Memᴰ.tail (ih rest).0, (ih rest).1))
          (Memᴰ.cases_cons m')
      go false e ih m' = (Memᴰ.tail (ih m').0, (ih m').1)

  pub is_selected : (readings : List ℤ) → Memᴰ x readings → test x ≡ true → Memᴰ x (select test readings)
  unfolding select
  is_selected [] m passes = absurd (Memᴰ.not-nil m)
  is_selected (y ∷ ys) m passes = go (test y) refl (is_selected ys) (Memᴰ.cases_cons m)
    where
      go : (t : Bool) → test y ≡ t → (Memᴰ x ys → test x ≡ true → Memᴰ x (select test ys))
          → (x ≡ y) ⊎ Memᴰ x ys → Memᴰ x (cond t (y ∷ select test ys) (select test ys))
      go true e ih (inl same) = Memᴰ.head same
      go true e ih (inr rest) = Memᴰ.tail (ih rest passes)
      go false e ih (inl same) = both_ways (sym passes ∙ ap test same ∙ e)
      go false e ih (inr rest) = ih rest passes

-- the extreme of readings, where one of two is kept each time that both are bounded by
module _ (keep : ℤ → ℤ → ℤ) (Bound : ℤ → ℤ → Type 0)
    (itself : (a : ℤ) → Bound a a) (through : (a b c : ℤ) → Bound a b → Bound b c → Bound a c)
    (both : (a b : ℤ) → Bound a (keep a b) × Bound b (keep a b))
    (one : (a b : ℤ) → (keep a b ≡ a) ⊎ (keep a b ≡ b)) where
  -- it is one of them
  pub extreme_member : (readings : List ℤ) (first : ℤ) → Memᴰ (extreme keep first readings) (first ∷ readings)
  unfolding extreme
  extreme_member [] first = Memᴰ.head refl
  extreme_member (x ∷ xs) first = go (Memᴰ.cases_cons (extreme_member xs (keep first x)))
    where
      e : ℤ
      e = extreme keep (keep first x) xs

      go : (e ≡ keep first x) ⊎ Memᴰ e xs → Memᴰ e (first ∷ x ∷ xs)
      go (inl kept) =
          ⊎_elim (λ (l : keep first x ≡ first). Memᴰ.head (kept ∙ l)) (λ (r : keep first x ≡ x). Memᴰ.tail (Memᴰ.head (kept ∙ r)))
          (one first x)
      go (inr rest) = Memᴰ.tail (Memᴰ.tail rest)

  -- and bounds them all
  pub extreme_bounds : (readings : List ℤ) (first y : ℤ) → Memᴰ y (first ∷ readings) → Bound y (extreme keep first readings)
  unfolding extreme
  extreme_bounds [] first y m =
      ⊎_elim (λ (same : y ≡ first). subst (λ (z : ℤ). Bound z first) (sym same) (itself first)) (λ rest. absurd (Memᴰ.not-nil rest))
      (Memᴰ.cases_cons m)
  extreme_bounds (x ∷ xs) first y m = go (extreme_bounds xs (keep first x)) (Memᴰ.cases_cons m)
    where
      e : ℤ
      e = extreme keep (keep first x) xs

      go : ((z : ℤ) → Memᴰ z (keep first x ∷ xs) → Bound z e) → (y ≡ first) ⊎ Memᴰ y (x ∷ xs) → Bound y e
      go ih (inl same) =
          subst (λ (z : ℤ). Bound z e) (sym same) (through first (keep first x) e (both first x).0 (ih (keep first x) (Memᴰ.head refl)))
      go ih (inr rest) =
          ⊎_elim
          (λ (same : y ≡ x). subst (λ (z : ℤ). Bound z e) (sym same) (through x (keep first x) e (both first x).1 (ih (keep first x) (Memᴰ.head refl))))
          (λ more. ih y (Memᴰ.tail more))
          (Memᴰ.cases_cons rest)
