-- A lent controller: what the replay keeps, with the closings that the controller carries; and refusal 1.
use Rattle.std.specs.Prelude.{Bool, ◌&&◌, ◌||◌, not, cond, ℕ, eqb, leb}
use Rattle.units.specs.Wave.{driven, five_percent, steady_low, steady_high}
use Rattle.rules.specs.Begin.{rated_allowed, pause_allowed}
use Rattle.rules.specs.Calls.{EvaluatedCall}
use Rattle.rules.specs.Refusals.{or_else, time_refusal, limit_allowed, grant_allowed, argument_refusal}
use Rattle.rules.specs.State.{State, Moment}

-- the controller that a call is lent
pub record Lent : Type 0 where
  pub state : State
  pub closings : ℕ

-- the most closings that a list leads to
abbrev pub most_closings : ℕ
most_closings = 1000000001

-- the range of the closings
abbrev pub count_allowed : ℕ → Bool
count_allowed closings = leb closings most_closings

-- the duties that a post of this mark commands: 5 %, or 100 to 960
unfoldable pub duty_allowed : Bool → ℕ → Bool
duty_allowed digital wave = cond digital (eqb wave five_percent) (driven wave)

-- the wave's range: 0, 50 and 1000 in a digital post (document 02, e); 0, 100 to 960 and 1000 in a plain one
unfoldable pub wave_allowed : Bool → ℕ → Bool
wave_allowed digital wave = eqb wave steady_low || (duty_allowed digital wave || eqb wave steady_high)

-- a stored time that is not above the last accepted one; an empty one is no stored time
unfoldable pub stored_allowed : ℕ → Moment → Bool
stored_allowed last stored = not stored.set || leb stored.time last

-- no stored time is above the last accepted one
unfoldable pub times_allowed : State → Bool
times_allowed s =
    stored_allowed s.last s.sound
    && (stored_allowed s.last s.opening
    && (stored_allowed s.last s.overrun && stored_allowed s.last s.stop))

-- wave, limit, grant, rated and pause are in range, and so are the stored times
unfoldable pub in_range : State → Bool
in_range s =
    wave_allowed s.settings.digital s.wave
    && (limit_allowed s.limit
    && (grant_allowed s.grant
    && (rated_allowed s.settings.rated && (pause_allowed s.settings.pause && times_allowed s))))

-- refusal 1: wave, limit, grant, rated, pause, a stored time or the closings of the lent controller are out of range
unfoldable pub altered : Lent → Bool
altered lent = not (in_range lent.state && count_allowed lent.closings)

-- the refusal of a call that is lent a controller: 3, then 2, then 1, then those for the arguments
unfoldable pub lent_refusal : Lent → EvaluatedCall → ℕ
lent_refusal lent call =
    or_else (time_refusal lent.state.last call.time)
    (or_else (cond (altered lent) 1 0) (argument_refusal lent.state.settings.digital call.event))
