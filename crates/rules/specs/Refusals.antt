-- What is refused in a list (document 01, "What a refused call hands back"; 11 and 12: document 02, e; 13: document 02, g): 3, then 2, then by number, but
-- 12 before 11; 0 if the call is accepted.
use Rattle.std.specs.Prelude.{Bool, cond, ℕ, eqb, leb, ltb}
use Rattle.units.specs.Range.{from_to}
use Rattle.window.specs.Evaluation.{Evaluation, levels, refused}
use Rattle.rules.specs.Begin.{too_late}
use Rattle.rules.specs.Calls.{Event, sample, limit, measure, link, fault, clear, tick, EvaluatedCall}
use Rattle.rules.specs.Lines.{lines_allowed}
use Rattle.rules.specs.State.{State}

-- the first number, or the second where the first is 0
abbrev pub or_else : ℕ → ℕ → ℕ
or_else first second = cond (eqb first 0) second first

-- 3: beyond the scale of times; 2: earlier than the last accepted call, or than begin if there was none
unfoldable pub time_refusal : ℕ → ℕ → ℕ
time_refusal last time = cond (too_late time) 3 (cond (ltb time last) 2 0)

-- the window's own refusal: 4, 5 or 6
abbrev pub window_refusal : Evaluation → ℕ
window_refusal (levels high low) = 0
window_refusal (refused number) = number

-- the kinds of a fault call: 3, 4 and 5
unfoldable pub kind_allowed : ℕ → Bool
kind_allowed kind = from_to 3 5 kind

-- the range of the depot's limit: 0 to 80,000
unfoldable pub limit_allowed : ℕ → Bool
limit_allowed current = leb current 80000

-- the range of a grant: 0 to 80,000
unfoldable pub grant_allowed : ℕ → Bool
grant_allowed granted = leb granted 80000

-- 12: a link call to a plain post; then 11: a grant above 80,000
unfoldable pub link_refusal : Bool → ℕ → ℕ
link_refusal digital granted = cond digital (cond (grant_allowed granted) 0 11) 12

-- 4 to 8, and 11 to 13: for the arguments, in a post of this mark. A limit has a number of its own, 13, and 7 is a measure's (document 02, g)
unfoldable pub argument_refusal : Bool → Event Evaluation → ℕ
argument_refusal digital (sample window) = window_refusal window
argument_refusal digital (limit current) = cond (limit_allowed current) 0 13
argument_refusal digital (measure lines) = cond (lines_allowed lines) 0 7
argument_refusal digital (link granted) = link_refusal digital granted
argument_refusal digital (fault kind) = cond (kind_allowed kind) 0 8
argument_refusal digital clear = 0
argument_refusal digital tick = 0

-- the refusal of a call in a list
unfoldable pub refusal : State → EvaluatedCall → ℕ
refusal s call = or_else (time_refusal s.last call.time) (argument_refusal s.settings.digital call.event)

-- the table has no refusal for the call
abbrev pub is_accepted : State → EvaluatedCall → Bool
is_accepted s call = eqb (refusal s call) 0
