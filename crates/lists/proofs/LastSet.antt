-- A value that some calls set and the others leave is the one last set; and the statement leaves one answer.
use mathlib.Core.Path.{◌≡◌, sym, ◌∙◌}
use Prim.Native.Nat.{ℕ, zero, suc, ◌≤◌, ◌<◌}
use native.Mathlib.Decide.{dec_lt}
use native.Mathlib.Omega.{arith}
use Rattle.lists.specs.LastSet.{NoneFrom, LastSet, by_call, not_yet}

module _ {A : Type 0} (Sets : ℕ → A → Type 0) (first : A) where
  -- call k sets the value, or leaves it
  pub data Turn (value : ℕ → A) (k : ℕ) : Type 0 where
    sets : Sets k (value (suc k)) → Turn value k
    leaves : value (suc k) ≡ value k → ((x : A) → Sets k x → ⊥) → Turn value k

  -- one call more that sets none
  quiet_here : (j k : ℕ) → ((x : A) → Sets k x → ⊥) → NoneFrom Sets j k → NoneFrom Sets j (suc k)
  quiet_here j k none quiet i x from before set = by (dec_lt i k)
    where
      by : Dec (i < k) → ⊥
      by (yes earlier) = quiet i x from earlier set
      by (no later) =
          let is : i ≡ k = omega arith in
          none x (rw (← is) set)

  pub last_set : (value : ℕ → A) (n : ℕ) → value 0 ≡ first → ((k : ℕ) → k < n → Turn value k) → (k : ℕ) → k ≤ n → LastSet Sets first k (value k)
  last_set value n start turn zero within = not_yet (λ i x from before set. absurd (omega arith)) start
  last_set value n start turn (suc k) within = next (turn k within) (last_set value n start turn k (omega arith))
    where
      next : Turn value k → LastSet Sets first k (value k) → LastSet Sets first (suc k) (value (suc k))
      next (sets now) known = by_call k (omega arith) now (λ i x from before. absurd (omega arith))
      next (leaves same none) (by_call j before set quiet) = rw same (by_call j (omega arith) set (quiet_here (suc j) k none quiet))
      next (leaves same none) (not_yet quiet is) = rw same (not_yet (quiet_here 0 k none quiet) is)

  pub last_fixes : ((k : ℕ) (a b : A) → Sets k a → Sets k b → a ≡ b) → (k : ℕ) (a b : A) → LastSet Sets first k a → LastSet Sets first k b → a ≡ b
  last_fixes one k a b (by_call i before set quiet) (by_call j before' set' quiet') = go (dec_lt i j) (dec_lt j i)
    where
      go : Dec (i < j) → Dec (j < i) → a ≡ b
      go (yes earlier) other = absurd (quiet j b earlier before' set')
      go (no not_earlier) (yes later) = absurd (quiet' i a later before set)
      go (no not_earlier) (no not_later) =
          let same : i ≡ j = omega arith in
          one j a b (rw (← same) set) set'
  last_fixes one k a b (by_call i before set quiet) (not_yet none is) = absurd (none i a (omega arith) before set)
  last_fixes one k a b (not_yet none is) (by_call j before set quiet) = absurd (none j b (omega arith) before set)
  last_fixes one k a b (not_yet none is) (not_yet none' is') = is ∙ sym is'
