-- A value that some calls of a list set, and the others leave. Its laws are in proofs/LastSet.antt.
use Rattle.std.specs.Prelude.{◌≡◌, ℕ, suc, ◌≤◌, ◌<◌}

-- `Sets k x`: call k sets it to x
module _ {A : Type 0} (Sets : ℕ → A → Type 0) where
  -- from call j on, up to call k, none sets it
  abbrev pub NoneFrom : ℕ → ℕ → Type 0
  NoneFrom j k = (i : ℕ) (x : A) → j ≤ i → i < k → Sets i x → ⊥

  -- x is what the last call before call k set it to that did; with none so far, the first value
  pub data LastSet (first : A) (k : ℕ) (x : A) : Type 0 where
    by_call : (j : ℕ) → j < k → Sets j x → NoneFrom (suc j) k → LastSet first k x
    not_yet : NoneFrom 0 k → x ≡ first → LastSet first k x
