-- Sequences of BenchRows.antt, computed on the definitions. Those that go on for long: TimedRowsHold.antt.
use mathlib.Core.Bool.{true, false, Bool}
use mathlib.Core.Path.{refl}
use Prim.Native.Nat.{ℕ}
use Rattle.pilot.specs.Bands.{band_c}
use Rattle.rules.specs.Begin.{default_pause}
use Rattle.rules.specs.Faults.{no_faults}
use Rattle.rules.proofs.Rows.Sequences.{at32_a, Tells}
use Rattle.rules.specs.Altered.{Lent}
use Rattle.rules.specs.Lines.{Lines, no_currents}
use Rattle.rules.specs.State.{Moment, set_to, empty}
use Rattle.rules.proofs.Rows.Sequences.{tells_by, computed}
use Rattle.rules.proofs.Rows.BenchRows.{first_charge, unsound_twice, limit_withdrawn}

-- a post at 32 A with a pause in force and samples that are proven in C, the last at a time
abbrev pub sampling : ℕ → Bool → Moment → Moment → Lines → ℕ → Lent
sampling pause closed opening overrun lines t =
    record {
      state = record {
        settings = record { rated = 32000; pause = pause; ventilation = false; digital = false };
        limit = 32000;
        grant = 0;
        wave = 533;
        closed = closed;
        settled = band_c;
        faults = no_faults;
        last = t;
        sound = set_to t;
        opening = opening;
        overrun = overrun;
        stop = empty;
        previous = record { kept = true; verdict = record { band = band_c; sound = true; proven = true; diodebad = false } };
        lines = lines;
      };
      closings = 1;
    }

-- starred
pub first_charge_lem : Tells first_charge
unfolding computed
first_charge_lem = tells_by first_charge (at32_a 0) refl refl refl refl

pub unsound_twice_lem : Tells unsound_twice
unfolding computed
unsound_twice_lem = tells_by unsound_twice (sampling default_pause true empty empty no_currents 40) refl refl refl refl

pub limit_withdrawn_lem : Tells limit_withdrawn
unfolding computed
limit_withdrawn_lem = tells_by limit_withdrawn _ refl refl refl refl
