-- What the band of a level means, whatever the order in which the bands are tried. Proved in proofs/Laws.antt.
use Rattle.std.specs.Prelude.{◌≡◌, true, ◌↔◌, ℤ}
use Rattle.pilot.specs.Bands.{band_a, band_b, band_c, band_d, band_e, in_a, in_b, in_c, in_d, in_e, band_of}

-- a level has a band exactly if it is in that band's range
pub record BandsAre (high : ℤ) : Type 0 where
  pub is_a : (band_of high ≡ band_a) ↔ (in_a high ≡ true)
  pub is_b : (band_of high ≡ band_b) ↔ (in_b high ≡ true)
  pub is_c : (band_of high ≡ band_c) ↔ (in_c high ≡ true)
  pub is_d : (band_of high ≡ band_d) ↔ (in_d high ≡ true)
  pub is_e : (band_of high ≡ band_e) ↔ (in_e high ≡ true)
