-- The latched faults, in the order in which they were latched (document 02, f).
use Rattle.std.specs.Prelude.{Bool, ◌||◌, not, cond, ℕ, suc, ◌+◌, eqb}

-- 1 no diode, 2 over-current, 3 residual current, 4 welded contact, 5 over-temperature
pub data Fault : Type 0 where
  diode : Fault
  overcurrent : Fault
  residual : Fault
  welded : Fault
  temperature : Fault

-- its number
abbrev pub number_of : Fault → ℕ
number_of diode = 1
number_of overcurrent = 2
number_of residual = 3
number_of welded = 4
number_of temperature = 5

-- the place of each fault in the order: 1 for the one that was latched first, 2 for the next; 0 for one that is not latched
pub record Faults : Type 0 where
  pub diode : ℕ
  pub overcurrent : ℕ
  pub residual : ℕ
  pub welded : ℕ
  pub temperature : ℕ

-- no fault is latched: the order is empty
abbrev pub no_faults : Faults
no_faults = record { diode = 0; overcurrent = 0; residual = 0; welded = 0; temperature = 0 }

-- the place of a fault
abbrev pub place_of : Faults → Fault → ℕ
place_of faults diode = faults.diode
place_of faults overcurrent = faults.overcurrent
place_of faults residual = faults.residual
place_of faults welded = faults.welded
place_of faults temperature = faults.temperature

-- a number that is a place in the order
abbrev pub is_place : ℕ → Bool
is_place place = not (eqb place 0)

-- a fault is latched: it has a place
abbrev pub is_latched : Faults → Fault → Bool
is_latched faults fault = is_place (place_of faults fault)

-- some fault is latched
unfoldable pub any_fault : Faults → Bool
any_fault faults =
    is_place faults.diode
    || (is_place faults.overcurrent || (is_place faults.residual || (is_place faults.welded || is_place faults.temperature)))

-- 1 for a latched fault, else 0
abbrev pub count_of : ℕ → ℕ
count_of place = cond (is_place place) 1 0

-- how many are latched
unfoldable pub how_many : Faults → ℕ
how_many faults =
    count_of faults.diode + (count_of faults.overcurrent + (count_of faults.residual + (count_of faults.welded + count_of faults.temperature)))

-- the place of `other` once `fault` is put at `place`: its own stays, unless it is that fault
abbrev pub placed : Fault → ℕ → Faults → Fault → ℕ
placed fault place faults other = cond (eqb (number_of fault) (number_of other)) place (place_of faults other)

-- one fault put at a place
unfoldable pub put_at : Fault → ℕ → Faults → Faults
put_at fault place faults =
    record {
      diode = placed fault place faults diode;
      overcurrent = placed fault place faults overcurrent;
      residual = placed fault place faults residual;
      welded = placed fault place faults welded;
      temperature = placed fault place faults temperature;
    }

-- a fault latches: it comes behind those that are latched. Told again, it keeps its place
unfoldable pub latch : Fault → Faults → Faults
latch fault faults = cond (is_latched faults fault) faults (put_at fault (suc (how_many faults)) faults)

-- the same, where its test comes out true
abbrev pub latch_if : Bool → Fault → Faults → Faults
latch_if holds fault faults = cond holds (latch fault faults) faults

-- the lowest number whose fault passes the test; `other` if none does
abbrev pub lowest_of : (Fault → Bool) → ℕ → ℕ
lowest_of test other =
    cond (test diode) 1 (cond (test overcurrent) 2 (cond (test residual) 3 (cond (test welded) 4 (cond (test temperature) 5 other))))

-- some latched fault, here the lowest; 0 if none is
unfoldable pub lowest : Faults → ℕ
lowest faults = lowest_of (is_latched faults) 0

-- the number of the fault at the first place. A list that leaves a fault latched has one there; a controller that no list leads to may have none, and the
-- paper leaves open which latched fault it shows: here the lowest. 0 if none is latched
unfoldable pub first_of : Faults → ℕ
first_of faults = lowest_of (λ fault. eqb (place_of faults fault) 1) (lowest faults)
