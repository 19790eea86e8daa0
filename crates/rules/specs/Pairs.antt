-- This and the previous sample (document 01, "Bands"): two successive accepted samples, with nothing forgotten between them.
use Rattle.std.specs.Prelude.{Bool, ◌&&◌, not, ℕ, eqb}
use Rattle.window.specs.Evaluation.{Evaluation, levels, refused}
use Rattle.pilot.specs.Bands.{no_band}
use Rattle.pilot.specs.Verdicts.{verdict_of}
use Rattle.pilot.specs.declared.verdicts.Verdict.{Verdict}
use Rattle.rules.specs.Calls.{Event, sample, limit, measure, link, fault, clear, tick, is_sample}
use Rattle.rules.specs.State.{State, Previous, no_verdict, is_driven}

-- a call's own verdict, and the previous sample as the call finds it
pub record Pair : Type 0 where
  pub sampled : Bool
  pub this : Verdict
  pub previous : Previous

-- the verdict on a window, by its levels, whether the wave is driven, and the ventilation
unfoldable pub window_verdict : Bool → Bool → Evaluation → Verdict
window_verdict driven ventilation (levels high low) = verdict_of driven high low ventilation
window_verdict driven ventilation (refused number) = no_verdict

-- a sample's verdict: its window, judged by the wave and the ventilation as the call finds them
unfoldable pub verdict : State → Event Evaluation → Verdict
verdict s (sample window) = window_verdict (is_driven s) s.settings.ventilation window
verdict s (limit current) = no_verdict
verdict s (measure lines) = no_verdict
verdict s (link granted) = no_verdict
verdict s (fault kind) = no_verdict
verdict s clear = no_verdict
verdict s tick = no_verdict

-- this and the previous sample of a call
abbrev pub pair_of : State → Event Evaluation → Pair
pair_of s event = record { sampled = is_sample event; this = verdict s event; previous = s.previous }

-- a sample call with a partner
unfoldable pub paired : Pair → Bool
paired pair = pair.sampled && pair.previous.kept

-- the same band: not two samples without a band
unfoldable pub same_band : ℕ → ℕ → Bool
same_band a b = not (eqb a no_band) && eqb a b

-- in one band
unfoldable pub in_one_band : Pair → Bool
in_one_band pair = paired pair && same_band pair.previous.verdict.band pair.this.band

-- both proven in the same band
unfoldable pub both_proven : Pair → Bool
both_proven pair = in_one_band pair && (pair.previous.verdict.proven && pair.this.proven)

-- both diode-bad
unfoldable pub both_diode_bad : Pair → Bool
both_diode_bad pair = paired pair && (pair.previous.verdict.diodebad && pair.this.diodebad)

-- both unsound
unfoldable pub both_unsound : Pair → Bool
both_unsound pair = paired pair && (not pair.previous.verdict.sound && not pair.this.sound)
