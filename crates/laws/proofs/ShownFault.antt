-- The fault that is shown of any controller.
use mathlib.Core.Path.{◌≡◌, refl}
use mathlib.Core.Bool.{Bool, true, false, cond}
use Prim.Native.Nat.{ℕ}
use native.Mathlib.Omega.{arith}
use lib.Dec.{eqb}
use borrow.Author.Tests.{eqb-true}
use Rattle.rules.specs.Faults.{Fault, Faults, diode, overcurrent, residual, welded, temperature, number_of, place_of, is_latched, lowest_of, lowest, first_of}
use Rattle.laws.specs.FaultOrder.{SomeLatched, none, some}
use Rattle.laws.proofs.Latching.{is_place_lem}

-- the lowest of those whose test comes out true, or the other number
pub data Lowest (test : Fault → Bool) (other shown : ℕ) : Type 0 where
  found : (f : Fault) → shown ≡ number_of f → test f ≡ true → Lowest test other shown
  not_found : ((f : Fault) → test f ≡ false) → shown ≡ other → Lowest test other shown

lowest_is : (test : Fault → Bool) (other : ℕ) → Lowest test other (lowest_of test other)
lowest_is test other = go (test diode) (test overcurrent) (test residual) (test welded) (test temperature) refl refl refl refl refl
  where
    go : (a b c d e : Bool) → test diode ≡ a → test overcurrent ≡ b → test residual ≡ c → test welded ≡ d → test temperature ≡ e
        → Lowest test other (cond a 1 (cond b 2 (cond c 3 (cond d 4 (cond e 5 other)))))
    go true b c d e p q r t u = found diode refl p
    go false true c d e p q r t u = found overcurrent refl q
    go false false true d e p q r t u = found residual refl r
    go false false false true e p q r t u = found welded refl t
    go false false false false true p q r t u = found temperature refl u
    go false false false false false p q r t u = not_found all refl
      where
        all : (f : Fault) → test f ≡ false
        all diode = p
        all overcurrent = q
        all residual = r
        all welded = t
        all temperature = u

-- the fault at the first place
abbrev pub is_first : Faults → Fault → Bool
is_first s f = eqb (place_of s f) 1

pub shown_is : (s : Faults) → Lowest (is_first s) (lowest s) (first_of s)
unfolding first_of
shown_is s = lowest_is (is_first s) (lowest s)

lowest_latched : (s : Faults) → SomeLatched s (lowest s)
unfolding lowest
lowest_latched s = go (lowest_is (is_latched s) 0)
  where
    go : Lowest (is_latched s) 0 (lowest_of (is_latched s) 0) → SomeLatched s (lowest_of (is_latched s) 0)
    go (found f is latched) = some f is latched
    go (not_found all is) = none is all

-- some latched fault is shown of any controller
pub some_latched : (s : Faults) → SomeLatched s (first_of s)
some_latched s = go (shown_is s)
  where
    go : Lowest (is_first s) (lowest s) (first_of s) → SomeLatched s (first_of s)
    go (found f is first_place) = some f is (is_place_lem (place_of s f) (omega (arith, eqb-true (place_of s f) 1 first_place)))
    go (not_found all is) = rw is (lowest_latched s)
