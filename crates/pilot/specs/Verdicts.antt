-- Verdicts on a sample (document 01, "Bands"), by whether the wave is driven that was commanded before the sample.
use Rattle.std.specs.Prelude.{Bool, ◌&&◌, ◌||◌, not, ℤ, pos}
use Rattle.units.specs.Range.{strictly_between}
use Rattle.pilot.specs.Bands.{band_of, in_low_band, ready, is_bcd}
use Rattle.pilot.specs.declared.verdicts.Verdict.{Verdict}

-- sound: high as a charging van holds it, with a margin; while the wave is driven, low in its band too
unfoldable pub sound : Bool → ℤ → ℤ → Bool
sound driven high low = strictly_between (pos 1500) (pos 7500) high && (not driven || in_low_band low)

-- proven: a driven wave shows both a ready van and its diode
unfoldable pub proven : Bool → ℤ → ℤ → Bool → Bool
proven driven high low ventilation = driven && (ready (band_of high) ventilation && in_low_band low)

-- diode-bad: a driven wave shows a van that is plugged in, and no diode
unfoldable pub diode_bad : Bool → ℤ → ℤ → Bool
diode_bad driven high low = driven && (is_bcd (band_of high) && not (in_low_band low))

-- what is kept of a sample: its band and the three verdicts
unfoldable pub verdict_of : Bool → ℤ → ℤ → Bool → Verdict
verdict_of driven high low ventilation =
    record { band = band_of high; sound = sound driven high low; proven = proven driven high low ventilation; diodebad = diode_bad driven high low }
