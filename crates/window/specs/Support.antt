-- Support of a reading (document 01, "Window to levels"). Readings are in millivolts.
use Rattle.std.specs.Prelude.{Bool, cond, List, [], ◌∷◌, ℕ, suc, leb, ℤ, ◌-ℤ◌, nat_abs, length}

-- two readings that differ by at most 200 mV
unfoldable pub near : ℤ → ℤ → Bool
near a b = leb (nat_abs (a -ℤ b)) 200

-- how many readings of a window are near one reading; it is near itself
unfoldable pub supporters : ℤ → List ℤ → ℕ
supporters reading [] = 0
supporters reading (other ∷ others) =
    let rest = supporters reading others in
    cond (near reading other) (suc rest) rest

-- how many supporters a reading needs in a window of n readings: 8, for every n
unfoldable pub needed : ℕ → ℕ
needed n = 8

-- supported: a reading with as many supporters as the window asks for
unfoldable pub supported : List ℤ → ℤ → Bool
supported window reading = leb (needed (length window)) (supporters reading window)
