-- The values of a function at consecutive numbers, as a list: one equation of two such lists, computed, tells of every one of these numbers.
use mathlib.Core.Path.{◌≡◌, ap, sym, ◌∙◌}
use mathlib.Core.List.{List, [], ◌∷◌}
use Prim.Native.Nat.{ℕ, zero, suc, ◌+◌, ◌-◌, ◌≤◌, ◌<◌}
use native.Mathlib.Nat.{not-suc-le-zero}
use native.Mathlib.Omega.{arith}
use lib.ListN.{get_or}

module _ {A : Type 0} where
  -- at n numbers, from the first on
  abbrev pub values : (ℕ → A) → ℕ → ℕ → List A
  values f first zero = []
  values f first (suc n) = f first ∷ values f (suc first) n

  pub value_at : (f : ℕ → A) (first n k : ℕ) (past : A) → k < n → get_or (values f first n) k past ≡ f (first + k)
  value_at f first zero k past h = absurd (not-suc-le-zero h)
  value_at f first (suc n) zero past h = ap f (omega arith)
  value_at f first (suc n) (suc k) past h = value_at f (suc first) n k past (omega arith) ∙ ap f (omega arith)

  -- two functions with the same values from one number to another have the same value at each of these
  pub same_at : (f g : ℕ → A) (from to : ℕ) → values f from (suc to - from) ≡ values g from (suc to - from)
      → (k : ℕ) → from ≤ k → k ≤ to → f k ≡ g k
  same_at f g from to same k h l = sym (at_k f) ∙ ap (λ list. get_or list (k - from) (f k)) same ∙ at_k g
    where
      at_k : (e : ℕ → A) → get_or (values e from (suc to - from)) (k - from) (f k) ≡ e k
      at_k e = value_at e from (suc to - from) (k - from) (f k) (omega arith) ∙ ap e (omega arith)
