-- The wave command (document 01, "Quantities"), which is a duty: tenths of a percent.
use Rattle.std.specs.Prelude.{Bool, ◌&&◌, ◌||◌, ℕ, eqb}
use Rattle.units.specs.Range.{from_to}

-- driven in every post: a square wave of 100 to 960
unfoldable pub driven : ℕ → Bool
driven wave = from_to 100 960 wave

-- 5 %: the driven wave of a digital post (document 02, e)
abbrev pub five_percent : ℕ
five_percent = 50

-- driven, by the post's mark: in a digital post 5 % is driven too (document 02, e)
unfoldable pub driven_in : Bool → ℕ → Bool
driven_in digital wave = (digital && eqb wave five_percent) || driven wave

-- steady -12 V (state F)
abbrev pub steady_low : ℕ
steady_low = 0

-- steady +12 V
abbrev pub steady_high : ℕ
steady_high = 1000
