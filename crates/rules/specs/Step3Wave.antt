-- Step 3 of an accepted call: the wave, and what follows from it for the over-run and the stop.
use Rattle.std.specs.Prelude.{Bool, ◌&&◌, ◌||◌, not, cond, ℕ, eqb, ltb}
use Rattle.units.specs.Range.{from_to}
use Rattle.units.specs.Wave.{five_percent, driven_in, steady_low, steady_high}
use Rattle.pilot.specs.Bands.{band_a, band_d, band_e}
use Rattle.duty.specs.DutyFor.{Sends, duty, refusal, duty_for}
use Rattle.rules.specs.Faults.{any_fault}
use Rattle.rules.specs.State.{State, Moment, available, empty, set_to, started_by}

-- a settled state that is one of A to E
unfoldable pub is_settled : ℕ → Bool
is_settled settled = from_to band_a band_e settled

-- settled U, A or E
unfoldable pub is_uae : ℕ → Bool
is_uae settled = not (is_settled settled) || (eqb settled band_a || eqb settled band_e)

-- settled D without ventilation
unfoldable pub unventilated_d : ℕ → Bool → Bool
unventilated_d settled ventilation = eqb settled band_d && not ventilation

-- no duty by the plain rules: less than 6,000 available, or settled U, A or E, or settled D without ventilation
unfoldable pub no_duty : ℕ → ℕ → Bool → Bool
no_duty current settled ventilation = ltb current 6000 || (is_uae settled || unventilated_d settled ventilation)

-- the duty that is sent; where there is none the wave stays high, which `no_duty` has ruled out
unfoldable pub sent : Sends → ℕ
sent (duty d) = d
sent (refusal number) = steady_high

-- closed with a grant below 6,000, in a digital post: wave 1000 in place of 5 % (document 02, e)
unfoldable pub low_grant : Bool → Bool → ℕ → Bool
low_grant digital closed grant = digital && (closed && ltb grant 6000)

-- the driven wave: 5 % in a digital post wherever a plain one has a duty, which is that for the available current (document 02, e)
unfoldable pub driven_wave : Bool → ℕ → ℕ
driven_wave digital current = cond digital five_percent (sent (duty_for current))

-- the wave, by whether a fault is latched and whether it is held at steady +12 V, and the driven wave that it is else
abbrev pub wave_of : Bool → Bool → ℕ → ℕ
wave_of faulted held wave = cond faulted steady_low (cond held steady_high wave)

-- the wave is held at steady +12 V, unless a fault is latched
unfoldable pub held_high : State → Bool
held_high s =
    no_duty (available s) s.settled s.settings.ventilation || low_grant s.settings.digital s.closed s.grant

-- the wave
unfoldable pub wave_for : State → ℕ
wave_for s = wave_of (any_fault s.faults) (held_high s) (driven_wave s.settings.digital (available s))

-- a driven duty is lowered to another driven one: the wave as the call finds it, and the one of step 3 (document 02, c)
unfoldable pub lowers_duty : Bool → ℕ → ℕ → Bool
lowers_duty digital old wave = driven_in digital old && (driven_in digital wave && ltb wave old)

-- a lowered duty restarts a running over-run (document 02, c)
unfoldable pub restarts : Bool → ℕ → ℕ → Moment → Bool
restarts digital old wave overrun = lowers_duty digital old wave && overrun.set

-- an over-run: ends where the wave is not driven, restarts at the call's own time where the duty is lowered, else runs on
unfoldable pub overrun_under : Bool → ℕ → ℕ → ℕ → Moment → Moment
overrun_under digital time old wave overrun = cond (driven_in digital wave) (cond (restarts digital old wave overrun) (set_to time) overrun) empty

-- a stop: starts where the contactor is closed and the wave high, ends where the wave is driven
unfoldable pub stop_under : Bool → ℕ → ℕ → Bool → Moment → Moment
stop_under digital time wave closed stop =
    cond (closed && eqb wave steady_high) (started_by time stop) (cond (driven_in digital wave) empty stop)

-- step 3: the wave, the over-run and the stop; the rest stays
abbrev pub step_wave : ℕ → State → State
step_wave time s =
    record {
      settings = s.settings;
      limit = s.limit;
      grant = s.grant;
      wave = wave_for s;
      closed = s.closed;
      settled = s.settled;
      faults = s.faults;
      last = s.last;
      sound = s.sound;
      opening = s.opening;
      overrun = overrun_under s.settings.digital time s.wave (wave_for s) s.overrun;
      stop = stop_under s.settings.digital time (wave_for s) s.closed s.stop;
      previous = s.previous;
      lines = s.lines;
    }
