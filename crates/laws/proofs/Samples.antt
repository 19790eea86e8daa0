-- Which bands a sound sample can have, and that a proven sample is sound and in a ready band.
use mathlib.Core.Path.{◌≡◌, refl, sym}
use mathlib.Core.Bool.{Bool, true, false, ◌&&◌, ◌||◌, not, cond}
use Prim.Native.Nat.{ℕ, ◌≤◌, ◌<◌}
use native.Mathlib.Omega.{arith}
use lib.Dec.{eqb}
use lib.IntN.{ℤ, pos, negsuc, neg_ℤ}
use lib.Signed.{le_z, lt_z}
use borrow.Author.Tests.{leb-true, ltb-true, lt-leb, lt-ltb, eqb-true}
use Rattle.units.specs.Range.{within, strictly_between}
use Rattle.units.proofs.Booleans.{both_ways, and_parts, and_false, or_true, clash}
use Rattle.units.proofs.LevelOrder.{within_parts}
use Rattle.window.specs.Evaluation.{Evaluation, levels, refused}
use Rattle.pilot.specs.Bands.{band_c, band_d, no_band, in_c, in_d, in_e, in_low_band, band_of, ready}
use Rattle.pilot.specs.Verdicts.{sound, proven, verdict_of}
use Rattle.pilot.proofs.Laws.{bands_are}
use Rattle.rules.specs.Calls.{Event, sample, limit, measure, link, fault, clear, tick}
use Rattle.rules.specs.Pairs.{verdict, window_verdict}
use Rattle.rules.specs.State.{State, is_driven}

-- no band, or C or D
abbrev pub fits : ℕ → Bool
fits band = eqb band no_band || (eqb band band_c || eqb band band_d)

module _ (a b : ℕ) where
  below_not : (z : ℤ) → b ≤ a → lt_z z (pos b) ≡ true → le_z (pos a) z ≡ false
  below_not (pos n) h e = lt-leb a n (omega (arith, ltb-true n b e))
  below_not (negsuc n) h e = refl

  above_not : (z : ℤ) → b ≤ a → lt_z (pos a) z ≡ true → le_z z (pos b) ≡ false
  above_not (pos n) h e = lt-leb n b (omega (arith, ltb-true a n e))
  above_not (negsuc n) h e = both_ways (sym e)

  from_above : (z : ℤ) → a < b → le_z (pos b) z ≡ true → lt_z (pos a) z ≡ true
  from_above (pos n) h e = lt-ltb a n (omega (arith, leb-true b n e))
  from_above (negsuc n) h e = both_ways (sym e)

  from_below : (z : ℤ) → a < b → le_z z (pos a) ≡ true → lt_z z (pos b) ≡ true
  from_below (pos n) h e = lt-ltb n b (omega (arith, leb-true n a e))
  from_below (negsuc n) h e = refl

module _ (high : ℤ) where
  not_over : (from to : ℕ) → 7500 ≤ from → strictly_between (pos 1500) (pos 7500) high ≡ true → within (pos from) (pos to) high ≡ false
  unfolding within strictly_between
  not_over from to h e = rw (below_not from 7500 high h (and_parts (lt_z (pos 1500) high) (lt_z high (pos 7500)) e).1)

  not_e : strictly_between (pos 1500) (pos 7500) high ≡ true → in_e high ≡ false
  unfolding within strictly_between
  not_e e = rw (above_not 1500 1000 high (omega arith) (and_parts (lt_z (pos 1500) high) (lt_z high (pos 7500)) e).0) (and_false (le_z (neg_ℤ (pos 1000)) high))

  sound_fits : (driven : Bool) (low : ℤ) → sound driven high low ≡ true → fits (band_of high) ≡ true
  unfolding sound band_of
  sound_fits driven low e =
      let mid = (and_parts (strictly_between (pos 1500) (pos 7500) high) _ e).0 in
      rw (not_over 11000 13000 (omega arith) mid, not_over 8000 10000 (omega arith) mid, not_e mid) (go (in_c high) (in_d high))
    where
      go : (c d : Bool) → fits (cond c band_c (cond d band_d no_band)) ≡ true
      go true d = refl
      go false true = refl
      go false false = refl

  inside_strict : (from to : ℕ) → 1500 < from → to < 7500 → within (pos from) (pos to) high ≡ true → strictly_between (pos 1500) (pos 7500) high ≡ true
  unfolding strictly_between
  inside_strict from to h k e =
      let ends = within_parts (pos from) (pos to) high e in
      rw (from_above 1500 from high h ends.0, from_below to 7500 high k ends.1)

  ready_between : (ventilation : Bool) → ready (band_of high) ventilation ≡ true → strictly_between (pos 1500) (pos 7500) high ≡ true
  unfolding ready
  ready_between ventilation e = go (eqb (band_of high) band_c) (eqb (band_of high) band_d) refl refl e
    where
      go : (c d : Bool) → eqb (band_of high) band_c ≡ c → eqb (band_of high) band_d ≡ d → c || (d && ventilation) ≡ true
          → strictly_between (pos 1500) (pos 7500) high ≡ true
      go true d p q f = inside_strict 5000 7000 (omega arith) (omega arith) ((bands_are high).is_c.0 (eqb-true (band_of high) band_c p))
      go false true p q f = inside_strict 2000 4000 (omega arith) (omega arith) ((bands_are high).is_d.0 (eqb-true (band_of high) band_d q))
      go false false p q f = clash refl (sym f)

  proven_sound : (driven : Bool) (low : ℤ) (ventilation : Bool) → proven driven high low ventilation ≡ true → sound driven high low ≡ true
  unfolding proven sound
  proven_sound driven low ventilation e =
      let one = and_parts driven _ e in
      let two = and_parts (ready (band_of high) ventilation) (in_low_band low) one.1 in
      rw (ready_between ventilation two.0, two.1) (or_true (not driven))

  proven_ready : (driven : Bool) (low : ℤ) (ventilation : Bool) → proven driven high low ventilation ≡ true → ready (band_of high) ventilation ≡ true
  unfolding proven
  proven_ready driven low ventilation e =
      (and_parts (ready (band_of high) ventilation) (in_low_band low) (and_parts driven _ e).1).0

-- the same of a call's verdict: a call that is no sample has none of them
module _ (s : State) where
  pub verdict_fits : (event : Event Evaluation) → (verdict s event).sound ≡ true → fits (verdict s event).band ≡ true
  unfolding verdict window_verdict verdict_of
  verdict_fits (sample (levels high low)) e = sound_fits high (is_driven s) low e
  verdict_fits (sample (refused number)) e = refl
  verdict_fits (limit given) e = refl
  verdict_fits (measure lines) e = refl
  verdict_fits (link granted) e = refl
  verdict_fits (fault kind) e = refl
  verdict_fits clear e = refl
  verdict_fits tick e = refl

  pub verdict_sound : (event : Event Evaluation) → (verdict s event).proven ≡ true → (verdict s event).sound ≡ true
  unfolding verdict window_verdict verdict_of
  verdict_sound (sample (levels high low)) e = proven_sound high (is_driven s) low s.settings.ventilation e
  verdict_sound (sample (refused number)) e = e
  verdict_sound (limit given) e = e
  verdict_sound (measure lines) e = e
  verdict_sound (link granted) e = e
  verdict_sound (fault kind) e = e
  verdict_sound clear e = e
  verdict_sound tick e = e

  pub verdict_ready : (event : Event Evaluation) → (verdict s event).proven ≡ true → ready (verdict s event).band s.settings.ventilation ≡ true
  unfolding verdict window_verdict verdict_of
  verdict_ready (sample (levels high low)) e = proven_ready high (is_driven s) low s.settings.ventilation e
  verdict_ready (sample (refused number)) e = both_ways (sym e)
  verdict_ready (limit given) e = both_ways (sym e)
  verdict_ready (measure lines) e = both_ways (sym e)
  verdict_ready (link granted) e = both_ways (sym e)
  verdict_ready (fault kind) e = both_ways (sym e)
  verdict_ready clear e = both_ways (sym e)
  verdict_ready tick e = both_ways (sym e)
