-- Step 1 of an accepted call: its event.
use Rattle.std.specs.Prelude.{Bool, ◌&&◌, cond, ℕ, ◌*◌, eqb, ltb}
use Rattle.window.specs.Evaluation.{Evaluation}
use Rattle.pilot.specs.Bands.{band_a}
use Rattle.duty.specs.Reading.{Reads, no_charging, digital_only, current, refused, reading_of}
use Rattle.rules.specs.Calls.{Event, sample, limit, measure, link, fault, clear, tick}
use Rattle.rules.specs.Faults.{Faults, residual, welded, temperature, no_faults, latch_if}
use Rattle.rules.specs.Lines.{Lines, largest}
use Rattle.rules.specs.Pairs.{Pair, in_one_band}
use Rattle.rules.specs.State.{State, Moment, is_driven, least_of_three, empty, set_to, started_by}

-- settling: by a pair in one band
unfoldable pub settled_by : Pair → ℕ → ℕ
settled_by pair settled = cond (in_one_band pair) pair.this.band settled

-- the time of the last sound sample
unfoldable pub sound_by : ℕ → Pair → Moment → Moment
sound_by time pair sound = cond (pair.sampled && pair.this.sound) (set_to time) sound

-- limit stored
unfoldable pub limit_by : Event Evaluation → ℕ → ℕ
limit_by (sample window) stored = stored
limit_by (limit given) stored = given
limit_by (measure lines) stored = stored
limit_by (link granted) stored = stored
limit_by (fault kind) stored = stored
limit_by clear stored = stored
limit_by tick stored = stored

-- the three currents: a measure's are kept, whatever the contactor and the wave (document 02, b)
unfoldable pub lines_by : Event Evaluation → Lines → Lines
lines_by (sample window) stored = stored
lines_by (limit given) stored = stored
lines_by (measure lines) stored = lines
lines_by (link granted) stored = stored
lines_by (fault kind) stored = stored
lines_by clear stored = stored
lines_by tick stored = stored

-- a link call stores its grant (document 02, e)
unfoldable pub grant_stored : Event Evaluation → ℕ → ℕ
grant_stored (sample window) stored = stored
grant_stored (limit given) stored = stored
grant_stored (measure lines) stored = stored
grant_stored (link granted) stored = granted
grant_stored (fault kind) stored = stored
grant_stored clear stored = stored
grant_stored tick stored = stored

-- the grant: 0 in a call with A settled after its step 1, also a link call, else as stored (document 02, e)
unfoldable pub grant_by : Event Evaluation → ℕ → ℕ → ℕ
grant_by event settled stored = cond (eqb settled band_a) 0 (grant_stored event stored)

-- a fault call's own fault latches
unfoldable pub with_kind : ℕ → Faults → Faults
with_kind kind faults = latch_if (eqb kind 5) temperature (latch_if (eqb kind 4) welded (latch_if (eqb kind 3) residual faults))

-- latching by a fault call; clear drops every latched fault, and so empties the order
unfoldable pub faults_by : Event Evaluation → Faults → Faults
faults_by (sample window) faults = faults
faults_by (limit given) faults = faults
faults_by (measure lines) faults = faults
faults_by (link granted) faults = faults
faults_by (fault kind) faults = with_kind kind faults
faults_by clear faults = no_faults
faults_by tick faults = faults

-- the current that a reading tells; 0 where it tells none
unfoldable pub current_of : Reads → ℕ
current_of no_charging = 0
current_of digital_only = 0
current_of (current milliamps) = milliamps
current_of (refused number) = 0

-- the current that the van may draw by the wave
unfoldable pub announced : ℕ → ℕ
announced wave = current_of (reading_of wave)

-- what an over-run is judged against: the wave's reading in a plain post, the least of grant, rated and limit in a digital one (document 02, e)
unfoldable pub allowed_by : Bool → ℕ → ℕ → ℕ
allowed_by digital least wave = cond digital least (announced wave)

-- the same, of a state as the call finds it
abbrev pub allowed_current : State → ℕ
allowed_current s = allowed_by s.settings.digital (least_of_three s) s.wave

-- more than a tenth above what is allowed
unfoldable pub is_over : ℕ → ℕ → Bool
is_over line allowed = ltb (11 * allowed) (10 * line)

-- a measure that is judged: an over-run starts unless one runs, or it ends
abbrev pub overrun_judged : ℕ → ℕ → ℕ → Moment → Moment
overrun_judged time line allowed overrun = cond (is_over line allowed) (started_by time overrun) empty

-- a measure is judged where the contactor is closed and the wave driven
abbrev pub judges : State → Bool
judges s = s.closed && is_driven s

-- and the over-run stays as it is where the measure is not judged
unfoldable pub overrun_at : ℕ → ℕ → Bool → ℕ → Moment → Moment
overrun_at time line judged allowed overrun = cond judged (overrun_judged time line allowed overrun) overrun

-- the over-run: only a measure starts or ends it here, by the largest of its three currents
unfoldable pub overrun_by : ℕ → Event Evaluation → State → Moment
overrun_by time (sample window) s = s.overrun
overrun_by time (limit given) s = s.overrun
overrun_by time (measure lines) s = overrun_at time (largest lines) (judges s) (allowed_current s) s.overrun
overrun_by time (link granted) s = s.overrun
overrun_by time (fault kind) s = s.overrun
overrun_by time clear s = s.overrun
overrun_by time tick s = s.overrun

-- step 1: settling, the last sound sample, limit, grant, faults, over-run and currents; the rest stays
abbrev pub step_event : ℕ → Event Evaluation → Pair → State → State
step_event time event pair s =
    record {
      settings = s.settings;
      limit = limit_by event s.limit;
      grant = grant_by event (settled_by pair s.settled) s.grant;
      wave = s.wave;
      closed = s.closed;
      settled = settled_by pair s.settled;
      faults = faults_by event s.faults;
      last = s.last;
      sound = sound_by time pair s.sound;
      opening = s.opening;
      overrun = overrun_by time event s;
      stop = s.stop;
      previous = s.previous;
      lines = lines_by event s.lines;
    }
