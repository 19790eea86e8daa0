-- The current on each line (document 02, b). In milliamps.
use Rattle.std.specs.Prelude.{Bool, ◌&&◌, ℕ, max, leb}

-- the currents of lines 1, 2 and 3
pub record Lines : Type 0 where
  pub line1 : ℕ
  pub line2 : ℕ
  pub line3 : ℕ

-- 0 at the start
abbrev pub no_currents : Lines
no_currents = record { line1 = 0; line2 = 0; line3 = 0 }

-- an old measure with one current, as three: lines 2 and 3 have 0
abbrev pub on_line1 : ℕ → Lines
on_line1 current = record { line1 = current; line2 = 0; line3 = 0 }

-- the largest of the three, on which an over-run is judged
unfoldable pub largest : Lines → ℕ
largest lines = max lines.line1 (max lines.line2 lines.line3)

-- the range of each of them: 0 to 200,000
unfoldable pub line_allowed : ℕ → Bool
line_allowed current = leb current 200000

-- none of the three is above it
unfoldable pub lines_allowed : Lines → Bool
lines_allowed lines = line_allowed lines.line1 && (line_allowed lines.line2 && line_allowed lines.line3)
