-- Bands of levels (document 01, "Bands"). A band is told by its letter in ASCII, and 0 tells that there is none.
use Rattle.std.specs.Prelude.{Bool, ◌&&◌, ◌||◌, cond, ℕ, eqb, ℤ, pos, neg_ℤ}
use Rattle.units.specs.Range.{within}

-- the letter A
abbrev pub band_a : ℕ
band_a = 65

-- the letter B
abbrev pub band_b : ℕ
band_b = 66

-- the letter C
abbrev pub band_c : ℕ
band_c = 67

-- the letter D
abbrev pub band_d : ℕ
band_d = 68

-- the letter E
abbrev pub band_e : ℕ
band_e = 69

-- no band: a high level outside every band
abbrev pub no_band : ℕ
no_band = 0

-- band A
abbrev pub in_a : ℤ → Bool
in_a level = within (pos 11000) (pos 13000) level

-- band B
abbrev pub in_b : ℤ → Bool
in_b level = within (pos 8000) (pos 10000) level

-- band C
abbrev pub in_c : ℤ → Bool
in_c level = within (pos 5000) (pos 7000) level

-- band D
abbrev pub in_d : ℤ → Bool
in_d level = within (pos 2000) (pos 4000) level

-- band E
abbrev pub in_e : ℤ → Bool
in_e level = within (neg_ℤ (pos 1000)) (pos 1000) level

-- the low band
abbrev pub in_low_band : ℤ → Bool
in_low_band level = within (neg_ℤ (pos 13000)) (neg_ℤ (pos 11000)) level

-- the band of a high level, or none
unfoldable pub band_of : ℤ → ℕ
band_of high = cond (in_a high) band_a (cond (in_b high) band_b (cond (in_c high) band_c (cond (in_d high) band_d (cond (in_e high) band_e no_band))))

-- ready: C always, D given ventilation
unfoldable pub ready : ℕ → Bool → Bool
ready band ventilation = eqb band band_c || (eqb band band_d && ventilation)

-- the bands in which a missing diode shows
unfoldable pub is_bcd : ℕ → Bool
is_bcd band = eqb band band_b || (eqb band band_c || eqb band band_d)
