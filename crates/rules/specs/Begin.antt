-- Begin (document 01, "The calls"; the mark: document 02, e): its values, its refusals and the fresh controller.
use Rattle.std.specs.Prelude.{Bool, false, ◌&&◌, ◌||◌, cond, ℕ, eqb, ltb}
use Rattle.units.specs.Range.{from_to}
use Rattle.units.specs.Wave.{steady_high}
use Rattle.rules.specs.Faults.{no_faults}
use Rattle.rules.specs.Lines.{no_currents}
use Rattle.rules.specs.State.{State, Settings, unsettled, empty, forgotten}

-- begin's values: time, rated current, pause, ventilation, and the mark, digital or plain
pub record Begin : Type 0 where
  pub time : ℕ
  pub rated : ℕ
  pub pause : ℕ
  pub ventilation : Bool
  pub digital : Bool

-- times run from 0 to this one
abbrev pub largest_time : ℕ
largest_time = 1000000000000

-- a time beyond the scale
abbrev pub too_late : ℕ → Bool
too_late time = ltb largest_time time

-- what the pause 0 means (document 02, a)
abbrev pub default_pause : ℕ
default_pause = 10000

-- the range of the rated current
unfoldable pub rated_allowed : ℕ → Bool
rated_allowed rated = from_to 6000 80000 rated

-- the range of a pause in force
unfoldable pub pause_allowed : ℕ → Bool
pause_allowed pause = from_to 1000 60000 pause

-- the pause in force, and stored
unfoldable pub pause_for : ℕ → ℕ
pause_for pause = cond (eqb pause 0) default_pause pause

-- the settings in force: begin's, the pause as it is stored
abbrev pub in_force : Settings → Settings
in_force given =
    record { rated = given.rated; pause = pause_for given.pause; ventilation = given.ventilation; digital = given.digital }

-- refusal 3, then 1; 0 if begin is accepted
unfoldable pub begin_refusal : Begin → ℕ
begin_refusal begin =
    cond (too_late begin.time) 3
    (cond (rated_allowed begin.rated && (eqb begin.pause 0 || pause_allowed begin.pause)) 0 1)

-- the fresh controller: its wave is steady +12 V
unfoldable pub fresh : Begin → State
fresh begin =
    record {
      settings = in_force (record { rated = begin.rated; pause = begin.pause; ventilation = begin.ventilation; digital = begin.digital });
      limit = 0;
      grant = 0;
      wave = steady_high;
      closed = false;
      settled = unsettled;
      faults = no_faults;
      last = begin.time;
      sound = empty;
      opening = empty;
      overrun = empty;
      stop = empty;
      previous = forgotten;
      lines = no_currents;
    }
