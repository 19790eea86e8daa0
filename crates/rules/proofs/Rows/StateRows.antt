-- What is kept though no reply shows it.
use mathlib.Core.Path.{◌≡◌, refl, ap}
use mathlib.Core.Bool.{Bool, true, false}
use mathlib.Core.List.{List, [], ◌∷◌, map}
use Prim.Native.Nat.{ℕ}
use Rattle.pilot.specs.Bands.{band_c}
use Rattle.rules.specs.Answer.{lent_after}
use Rattle.rules.specs.Begin.{fresh, pause_for}
use Rattle.rules.specs.Calls.{measure, fault, tick}
use Rattle.rules.specs.Faults.{Faults, no_faults}
use Rattle.rules.specs.Altered.{Lent}
use Rattle.rules.specs.Lines.{no_currents, on_line1}
use Rattle.rules.proofs.Rows.Sequences.{LevelCall, call_of, call, at80_a}
use Rattle.rules.specs.State.{Moment, empty, set_to, forgotten}
use Rattle.rules.proofs.Rows.Sequences.{lent_on_lem, computed}

-- begin of a digital post at 5, with pause 0 and ventilation
abbrev pub FreshRow : Type 0
FreshRow =
    fresh (record { time = 5; rated = 32000; pause = 0; ventilation = true; digital = true })
    ≡ record {
      settings = record { rated = 32000; pause = 10000; ventilation = true; digital = true };
      limit = 0;
      grant = 0;
      wave = 1000;
      closed = false;
      settled = 0;
      faults = record { diode = 0; overcurrent = 0; residual = 0; welded = 0; temperature = 0 };
      last = 5;
      sound = record { set = false; time = 0 };
      opening = record { set = false; time = 0 };
      overrun = record { set = false; time = 0 };
      stop = record { set = false; time = 0 };
      previous = record { kept = false; verdict = record { band = 0; sound = false; proven = false; diodebad = false } };
      lines = record { line1 = 0; line2 = 0; line3 = 0 };
    }

-- pauses as begin is given them, and as they are stored
abbrev pub PauseRow : Type 0
PauseRow = map pause_for (0 ∷ 1000 ∷ 3000 ∷ 10000 ∷ 60000 ∷ []) ≡ 10000 ∷ 1000 ∷ 3000 ∷ 10000 ∷ 60000 ∷ []

-- a fault call leaves the other faults latched, and its own comes behind them
abbrev pub fault_calls : List LevelCall
fault_calls = call 10 (fault 3) ∷ call 20 (fault 4) ∷ call 30 (fault 5) ∷ call 40 (fault 3) ∷ []

abbrev pub FaultsRow : Type 0
FaultsRow =
    (lent_after (at80_a 0) (map call_of fault_calls)).state.faults
    ≡ record { diode = 0; overcurrent = 0; residual = 1; welded = 2; temperature = 3 }

-- a controller that no list leads to, in range: limit, wave, contactor, faults, over-run, stop and the time of the last call as given
abbrev pub unreached_by : ℕ → ℕ → Bool → Faults → Moment → Moment → ℕ → Lent
unreached_by limit wave closed faults overrun stop last =
    record {
      state = record {
        settings = record { rated = 80000; pause = 3000; ventilation = false; digital = false };
        limit = limit;
        grant = 0;
        wave = wave;
        closed = closed;
        settled = band_c;
        faults = faults;
        last = last;
        sound = set_to last;
        opening = empty;
        overrun = overrun;
        stop = stop;
        previous = forgotten;
        lines = no_currents;
      };
      closings = 7;
    }

-- the same with a limit of 80 A, the last call at 100
abbrev pub unreached_by_wave : ℕ → Bool → Faults → Moment → Moment → Lent
unreached_by_wave wave closed faults overrun stop = unreached_by 80000 wave closed faults overrun stop 100

-- a measure is judged by the wave as the call finds it: a steady one starts no over-run, though step 3 then drives it
abbrev pub SteadyRow : Type 0
SteadyRow = (lent_after (unreached_by_wave 1000 true no_faults empty empty) (map call_of (call 110 (measure (on_line1 200000)) ∷ []))).state.overrun ≡ empty

-- a measure that is not judged, under a steady wave or with the contactor open, leaves an over-run running
abbrev pub nothing_drawn : List LevelCall
nothing_drawn = call 110 (measure no_currents) ∷ []

abbrev pub NotJudgedRow : Type 0
NotJudgedRow =
    ((lent_after (unreached_by_wave 1000 true no_faults (set_to 50) empty) (map call_of nothing_drawn)).state.overrun ≡ set_to 50)
    × ((lent_after (unreached_by_wave 960 false no_faults (set_to 50) empty) (map call_of nothing_drawn)).state.overrun ≡ set_to 50)

-- a wave of 0 neither starts nor ends a stop
abbrev pub residual_latched : Faults
residual_latched = record { diode = 0; overcurrent = 0; residual = 1; welded = 0; temperature = 0 }

abbrev pub StopRow : Type 0
StopRow = (lent_after (unreached_by_wave 0 false residual_latched empty (set_to 50)) (map call_of (call 110 tick ∷ []))).state.stop ≡ set_to 50

pub fresh_row : FreshRow
unfolding pause_for fresh
fresh_row = refl

pub pause_row : PauseRow
unfolding pause_for
pause_row = refl

pub faults_row : FaultsRow
unfolding computed
faults_row = ap (λ l. l.state.faults) (lent_on_lem (at80_a 0) fault_calls refl)

pub steady_row : SteadyRow
unfolding computed
steady_row = ap (λ l. l.state.overrun) (lent_on_lem (unreached_by_wave 1000 true no_faults empty empty) (call 110 (measure (on_line1 200000)) ∷ []) refl)

pub not_judged_row : NotJudgedRow
unfolding computed
not_judged_row = (
  ap (λ l. l.state.overrun) (lent_on_lem (unreached_by_wave 1000 true no_faults (set_to 50) empty) nothing_drawn refl),
  ap (λ l. l.state.overrun) (lent_on_lem (unreached_by_wave 960 false no_faults (set_to 50) empty) nothing_drawn refl),
)

pub stop_row : StopRow
unfolding computed
stop_row = ap (λ l. l.state.stop) (lent_on_lem (unreached_by_wave 0 false residual_latched empty (set_to 50)) (call 110 tick ∷ []) refl)
