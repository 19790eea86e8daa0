-- Ranges of levels and of other numbers, and spans of time.
use Rattle.std.specs.Prelude.{Bool, ◌&&◌, cond, ◌⊎◌, ℕ, ◌+◌, ◌<◌, leb, ltb, ℤ}
use Rattle.std.specs.Int.Signed.{le_z, lt_z}

-- in a band: from one end to the other, both included
unfoldable pub within : ℤ → ℤ → ℤ → Bool
within from to level = le_z from level && le_z level to

-- strictly between two levels: neither included
unfoldable pub strictly_between : ℤ → ℤ → ℤ → Bool
strictly_between from to level = lt_z from level && lt_z level to

-- a number from one end to the other, both included
unfoldable pub from_to : ℕ → ℕ → ℕ → Bool
from_to from to n = leb from n && leb n to

-- a number outside of such a range
abbrev pub Outside : ℕ → ℕ → ℕ → Type 0
Outside from to n = (n < from) ⊎ (to < n)

-- at a time, something lies a span ago or longer
abbrev pub ago : ℕ → ℕ → ℕ → Bool
ago span time start = leb (start + span) time

-- at a time, something lies longer than a span ago
abbrev pub longer_ago : ℕ → ℕ → ℕ → Bool
longer_ago span time start = ltb (start + span) time

-- the higher of two levels
unfoldable pub higher : ℤ → ℤ → ℤ
higher a b = cond (le_z b a) a b

-- the lower of two levels
unfoldable pub lower : ℤ → ℤ → ℤ
lower a b = cond (le_z a b) a b
