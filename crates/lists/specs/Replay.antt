-- The replay of a list (document 01, demand 3): fed begin's values and the calls, and nothing else.
use Rattle.std.specs.Prelude.{cond, List}
use Rattle.rules.specs.Accepted.{accept}
use Rattle.rules.specs.Begin.{Begin, fresh}
use Rattle.rules.specs.Calls.{Call, EvaluatedCall, in_turn}
use Rattle.rules.specs.Refusals.{is_accepted}
use Rattle.rules.specs.State.{State}

-- one call: a refused one changes nothing
unfoldable pub step : State → EvaluatedCall → State
step s call = cond (is_accepted s call) (accept s call) s

-- the replay of a list: what is kept after it
unfoldable pub replay : Begin → List Call → State
replay begin calls = in_turn step (fresh begin) calls
