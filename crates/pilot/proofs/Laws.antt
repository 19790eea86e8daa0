-- The bands lie apart, so a level has a band exactly if it is in that band's range.
use mathlib.Core.Path.{◌≡◌, refl}
use mathlib.Core.Bool.{Bool, true, false, cond}
use Prim.Native.Nat.{ℕ}
use lib.Dec.{eqb}
use lib.IntN.{ℤ, pos}
use lib.Signed.{le_z}
use Rattle.units.specs.Range.{within}
use Rattle.units.proofs.LevelOrder.{apart}
use Rattle.pilot.specs.Bands.{band_a, band_b, band_c, band_d, band_e, no_band, in_a, in_b, in_c, in_d, in_e, band_of}
use Rattle.pilot.specs.Laws.{BandsAre}

letter_of : Bool → Bool → Bool → Bool → Bool → ℕ
letter_of a b c d e = cond a band_a (cond b band_b (cond c band_c (cond d band_d (cond e band_e no_band))))

-- the test that a letter tells of
test_of : ℕ → Bool → Bool → Bool → Bool → Bool → Bool
test_of n a b c d e =
    cond (eqb n band_a) a (cond (eqb n band_b) b (cond (eqb n band_c) c (cond (eqb n band_d) d (cond (eqb n band_e) e true))))

holds : (a b c d e : Bool) → test_of (letter_of a b c d e) a b c d e ≡ true
unfolding letter_of test_of
holds true b c d e = refl
holds false true c d e = refl
holds false false true d e = refl
holds false false false true e = refl
holds false false false false true = refl
holds false false false false false = refl

module _ (high : ℤ) where
  told : test_of (band_of high) (in_a high) (in_b high) (in_c high) (in_d high) (in_e high) ≡ true
  unfolding band_of letter_of
  told = holds (in_a high) (in_b high) (in_c high) (in_d high) (in_e high)

  -- a level in a range that ends below a band's start is not in that band
  module _ (from to : ℤ) (here : within from to high ≡ true) where
    not_a : le_z (pos 11000) to ≡ false → in_a high ≡ false
    not_a gap = apart from to (pos 11000) (pos 13000) high gap here

    not_b : le_z (pos 8000) to ≡ false → in_b high ≡ false
    not_b gap = apart from to (pos 8000) (pos 10000) high gap here

    not_c : le_z (pos 5000) to ≡ false → in_c high ≡ false
    not_c gap = apart from to (pos 5000) (pos 7000) high gap here

    not_d : le_z (pos 2000) to ≡ false → in_d high ≡ false
    not_d gap = apart from to (pos 2000) (pos 4000) high gap here

  pub bands_are : BandsAre high
  unfolding band_of test_of
  bands_are = record {
    is_a = (λ h. rw h at told, λ e. rw e);
    is_b = (λ h. rw h at told, λ e. rw (not_a _ _ e refl, e));
    is_c = (λ h. rw h at told, λ e. rw (not_a _ _ e refl, not_b _ _ e refl, e));
    is_d = (λ h. rw h at told, λ e. rw (not_a _ _ e refl, not_b _ _ e refl, not_c _ _ e refl, e));
    is_e = (λ h. rw h at told, λ e. rw (not_a _ _ e refl, not_b _ _ e refl, not_c _ _ e refl, not_d _ _ e refl, e));
  }
