-- A controller that no begin has filled: memory that the host has cleared. Rated 0 is out of range, so refusal 1 names it (proofs/ZeroLaws.antt).
use Rattle.std.specs.Prelude.{false, ℕ}
use Rattle.rules.specs.Faults.{no_faults}
use Rattle.rules.specs.Altered.{Lent}
use Rattle.rules.specs.Lines.{no_currents}
use Rattle.rules.specs.State.{Settings, unsettled, empty, forgotten}

-- a controller with nothing stored but settings, wave and last accepted time
abbrev pub blank : Settings → ℕ → ℕ → Lent
blank settings wave last =
    record {
      state = record {
        settings = settings;
        limit = 0;
        grant = 0;
        wave = wave;
        closed = false;
        settled = unsettled;
        faults = no_faults;
        last = last;
        sound = empty;
        opening = empty;
        overrun = empty;
        stop = empty;
        previous = forgotten;
        lines = no_currents;
      };
      closings = 0;
    }

-- cleared memory
abbrev pub zeroed : Lent
zeroed = blank (record { rated = 0; pause = 0; ventilation = false; digital = false }) 0 0
