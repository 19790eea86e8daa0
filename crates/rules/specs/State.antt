-- What the replay keeps (document 01, demand 3; the lines: document 02, b; mark and grant: document 02, e; the order of the faults: document 02, f), and
-- nothing else. Times are in milliseconds, currents in milliamps.
use Rattle.std.specs.Prelude.{Bool, true, false, cond, ℕ, min}
use Rattle.units.specs.Range.{ago, longer_ago}
use Rattle.units.specs.Wave.{driven_in}
use Rattle.pilot.specs.Bands.{no_band}
use Rattle.pilot.specs.declared.verdicts.Verdict.{Verdict}
use Rattle.rules.specs.Faults.{Faults}
use Rattle.rules.specs.Lines.{Lines}

-- a time or a start that is set, or empty; the number of an empty one says nothing
pub record Moment : Type 0 where
  pub set : Bool
  pub time : ℕ

-- empty
abbrev pub empty : Moment
empty = record { set = false; time = 0 }

-- set to a time
abbrev pub set_to : ℕ → Moment
set_to time = record { set = true; time = time }

-- starts now, unless it runs already
abbrev pub started_by : ℕ → Moment → Moment
started_by time start = cond start.set start (set_to time)

-- never so far, or a span ago or longer
abbrev pub never_or_ago : ℕ → ℕ → Moment → Bool
never_or_ago span time last = cond last.set (ago span time last.time) true

-- never so far, or longer than a span ago
abbrev pub never_or_longer_ago : ℕ → ℕ → Moment → Bool
never_or_longer_ago span time last = cond last.set (longer_ago span time last.time) true

-- the previous sample with its verdict; none is kept at the start and where it is forgotten
pub record Previous : Type 0 where
  pub kept : Bool
  pub verdict : Verdict

-- the verdict where there is no sample
abbrev pub no_verdict : Verdict
no_verdict = record { band = no_band; sound = false; proven = false; diodebad = false }

-- the previous sample is forgotten
abbrev pub forgotten : Previous
forgotten = record { kept = false; verdict = no_verdict }

-- a sample becomes the previous one
abbrev pub kept_sample : Verdict → Previous
kept_sample verdict = record { kept = true; verdict = verdict }

-- U, as it is kept: nothing is settled
abbrev pub unsettled : ℕ
unsettled = 0

-- rated current, pause, ventilation and mark; in a state the pause is the one in force
pub record Settings : Type 0 where
  pub rated : ℕ
  pub pause : ℕ
  pub ventilation : Bool
  -- the mark: the post is digital, or else plain
  pub digital : Bool

-- what is kept
pub record State : Type 0 where
  pub settings : Settings
  -- the depot's limit
  pub limit : ℕ
  -- the current granted by link
  pub grant : ℕ
  -- the wave command
  pub wave : ℕ
  -- the contactor is closed
  pub closed : Bool
  -- the settled state as its letter in ASCII; any number that is none of A to E is taken for U
  pub settled : ℕ
  -- the latched faults, in their order
  pub faults : Faults
  -- the time of the last accepted call, or of begin
  pub last : ℕ
  -- the times of the last sound sample and of the last opening
  pub sound : Moment
  pub opening : Moment
  -- the starts of the over-run, or its last restart, and of the stop
  pub overrun : Moment
  pub stop : Moment
  pub previous : Previous
  -- the three currents of the last accepted measure
  pub lines : Lines

-- the wave is driven
abbrev pub is_driven : State → Bool
is_driven s = driven_in s.settings.digital s.wave

-- the available current: the lesser of rated and limit
unfoldable pub available : State → ℕ
available s = min s.settings.rated s.limit

-- the least of grant, rated and limit (document 02, e)
unfoldable pub least_of_three : State → ℕ
least_of_three s = min s.grant (available s)
