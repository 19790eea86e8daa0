-- The order of the latched faults (document 02, f), and the fault that is shown. Proved in proofs/Invariant.antt and proofs/ShownFault.antt.
use Rattle.std.specs.Prelude.{◌≡◌, true, false, ℕ, ◌≤◌}
use Rattle.rules.specs.Faults.{Fault, Faults, number_of, place_of, is_latched, how_many}

-- of any controller, altered or not: some latched fault is shown, and 0 exactly if none is latched
pub data SomeLatched (faults : Faults) (shown : ℕ) : Type 0 where
  none : shown ≡ 0 → ((f : Fault) → is_latched faults f ≡ false) → SomeLatched faults shown
  some : (f : Fault) → shown ≡ number_of f → is_latched faults f ≡ true → SomeLatched faults shown

-- the order holds just the latched faults, each once: their places run from 1 to how many are latched
pub record EachOnce (faults : Faults) : Type 0 where
  pub no_further : (f : Fault) → place_of faults f ≤ how_many faults
  pub each_held : (place : ℕ) → 1 ≤ place → place ≤ how_many faults → (f : Fault) × (place_of faults f ≡ place)
  pub never_two : (f g : Fault) → is_latched faults f ≡ true → place_of faults f ≡ place_of faults g → f ≡ g
