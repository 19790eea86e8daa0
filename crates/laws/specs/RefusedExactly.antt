-- When each refusal number comes, exactly: demand 1 of begin, and of a call that is lent any controller, altered or not.
-- Proved in proofs/RefusedExactly.antt and proofs/BeginRefusals.antt.
use Rattle.std.specs.Prelude.{◌≡◌, Bool, true, false, List, ◌↔◌, ◌⊎◌, ℕ, ◌≤◌, ◌<◌, ℤ}
use Rattle.units.specs.Range.{Outside}
use Rattle.units.specs.Wave.{five_percent, steady_low, steady_high}
use Rattle.window.specs.Laws.{RefusedFor}
use Rattle.rules.specs.Altered.{Lent, most_closings}
use Rattle.rules.specs.Begin.{Begin, largest_time}
use Rattle.rules.specs.Calls.{Event, Call, sample, limit, measure, link, fault, clear, tick}
use Rattle.rules.specs.Lines.{Lines}
use Rattle.rules.specs.State.{Moment}

-- a wave that is no duty of a post of this mark
abbrev pub DutyOut : Bool → ℕ → Type 0
DutyOut true wave = wave ≡ five_percent → ⊥
DutyOut false wave = Outside 100 960 wave

-- a wave out of its range: neither steady nor such a duty
abbrev pub WaveOut : Bool → ℕ → Type 0
WaveOut digital wave = (wave ≡ steady_low → ⊥) × DutyOut digital wave × (wave ≡ steady_high → ⊥)

-- a stored time above the last accepted one
abbrev pub StoredAbove : ℕ → Moment → Type 0
StoredAbove last stored = (stored.set ≡ true) × (last < stored.time)

-- what refusal 1 comes for: a lent controller that the host has altered so that one of these holds
pub data Altered (lent : Lent) : Type 0 where
  wave_out : WaveOut lent.state.settings.digital lent.state.wave → Altered lent
  limit_out : 80000 < lent.state.limit → Altered lent
  grant_out : 80000 < lent.state.grant → Altered lent
  rated_out : Outside 6000 80000 lent.state.settings.rated → Altered lent
  pause_out : Outside 1000 60000 lent.state.settings.pause → Altered lent
  sound_above : StoredAbove lent.state.last lent.state.sound → Altered lent
  opening_above : StoredAbove lent.state.last lent.state.opening → Altered lent
  overrun_above : StoredAbove lent.state.last lent.state.overrun → Altered lent
  stop_above : StoredAbove lent.state.last lent.state.stop → Altered lent
  closings_out : most_closings < lent.closings → Altered lent

-- neither 3 nor 2: the time is on the scale and does not go back
abbrev pub OnTime : Lent → Call → Type 0
OnTime lent call = (call.time ≤ largest_time) × (lent.state.last ≤ call.time)

-- nor 1: the arguments are looked at
abbrev pub ArgumentsAsked : Lent → Call → Type 0
ArgumentsAsked lent call = OnTime lent call × (Altered lent → ⊥)

-- the current on any of the three lines is above 200,000
abbrev pub AnyLineAbove : Lines → Type 0
AnyLineAbove lines = (200000 < lines.line1) ⊎ ((200000 < lines.line2) ⊎ (200000 < lines.line3))

-- the numbers by which each kind of call to a post of this mark is refused for its arguments, and what each is for
abbrev pub WrongFor : ℕ → Bool → Event (List ℤ) → Type 0
WrongFor number digital (sample window) = RefusedFor number window
WrongFor number digital (limit current) = (number ≡ 13) × (80000 < current)
WrongFor number digital (measure lines) = (number ≡ 7) × AnyLineAbove lines
WrongFor number digital (link granted) = ((number ≡ 12) × (digital ≡ false)) ⊎ ((number ≡ 11) × (digital ≡ true) × (80000 < granted))
WrongFor number digital (fault kind) = (number ≡ 8) × Outside 3 5 kind
WrongFor number digital clear = ⊥
WrongFor number digital tick = ⊥

-- the call is a measure, and the current on any of its lines is above 200,000
pub data MeasureAbove (event : Event (List ℤ)) : Type 0 where
  measured : (lines : Lines) → event ≡ measure lines → AnyLineAbove lines → MeasureAbove event

-- the call is a limit above 80,000
pub data LimitAbove (event : Event (List ℤ)) : Type 0 where
  limited : (current : ℕ) → event ≡ limit current → 80000 < current → LimitAbove event

-- the number that a call gets for a lent controller: each for its condition and for nothing else, and 0 if none of the conditions holds.
-- From 4 on they are those of the arguments: `WrongFor` has 4, 5 and 6 for a window, 7, 8, and 11 to 13. 9 and 10 are no call's.
pub record RefusedBy (lent : Lent) (call : Call) (number : ℕ) : Type 0 where
  pub three : (number ≡ 3) ↔ (largest_time < call.time)
  pub two : (number ≡ 2) ↔ ((call.time ≤ largest_time) × (call.time < lent.state.last))
  pub one : (number ≡ 1) ↔ (OnTime lent call × Altered lent)
  pub later : (n : ℕ) → 4 ≤ n → (number ≡ n) ↔ (ArgumentsAsked lent call × WrongFor n lent.state.settings.digital call.event)
  -- limit and measure told separately (document 02, g): 7 is for the meter team, 13 for the load team
  pub seven : (number ≡ 7) ↔ (ArgumentsAsked lent call × MeasureAbove call.event)
  pub thirteen : (number ≡ 13) ↔ (ArgumentsAsked lent call × LimitAbove call.event)
  pub none : (number ≡ 0) ↔ (ArgumentsAsked lent call × ((n : ℕ) → WrongFor n lent.state.settings.digital call.event → ⊥))
  pub no_other : (number ≤ 13) × (number ≡ 9 → ⊥) × (number ≡ 10 → ⊥)

-- what begin is refused for by 1: a rated current, or a pause other than 0, that is out of its range
abbrev pub SettingsOut : Begin → Type 0
SettingsOut begin = Outside 6000 80000 begin.rated ⊎ ((0 < begin.pause) × Outside 1000 60000 begin.pause)

-- the number that begin gets
pub record BeginRefusedBy (begin : Begin) (number : ℕ) : Type 0 where
  pub three : (number ≡ 3) ↔ (largest_time < begin.time)
  pub one : (number ≡ 1) ↔ ((begin.time ≤ largest_time) × SettingsOut begin)
  pub none : (number ≡ 0) ↔ ((begin.time ≤ largest_time) × (SettingsOut begin → ⊥))
  pub no_other : (number ≡ 0) ⊎ ((number ≡ 1) ⊎ (number ≡ 3))
