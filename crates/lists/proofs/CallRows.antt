-- Rows that are computed: one call of the replay, what the trace tells of a digital post, and a list without its link calls (document 02, e).
use mathlib.Core.Path.{◌≡◌, refl}
use mathlib.Core.Bool.{true, false}
use mathlib.Core.List.{[], ◌∷◌, map}
use Rattle.rules.specs.Calls.{limit, link, fault, clear, tick, evaluated, in_turn}
use Rattle.rules.specs.Refusals.{refusal}
use Rattle.rules.proofs.Rows.Sequences.{call_of, call, evaluated_of, computed}
use Rattle.rules.proofs.Rows.SlowingRows.{since100}
use Rattle.lists.specs.Replay.{step, replay}
use Rattle.lists.specs.Traces.{answered}
use Rattle.lists.specs.WithoutLinks.{without_links}

-- a closed contactor: a refused call leaves the clock and the limit, and an accepted one goes on
abbrev pub StepRow : Type 0
StepRow =
    let closed = (since100 80000 960).state in
    ((step closed (evaluated_of (call 5070 (limit 80001)))).last ≡ 5060)
    × ((step closed (evaluated_of (call 5070 (limit 80001)))).limit ≡ 80000)
    × ((step closed (evaluated_of (call 5070 (limit 80000)))).last ≡ 5070)
    × ((step closed (evaluated_of (call 5070 (fault 3)))).closed ≡ false)

-- the claim speaks of begin's mark, and of the grant after a call's step 1
abbrev pub TraceRow : Type 0
TraceRow =
    let trace = answered (record { time = 0; rated = 32000; pause = 1000; ventilation = false; digital = true }) (map call_of (call 0 (link 16000) ∷ call 5 tick ∷ [])) in
    (trace.digital ≡ true) × (trace.grant 0 ≡ 16000) × (trace.grant 1 ≡ 16000)

-- what is left of a list without its link calls
abbrev pub LinksRow : Type 0
LinksRow = without_links (map call_of (call 0 tick ∷ call 1 (link 0) ∷ call 2 clear ∷ call 3 (link 6000) ∷ [])) ≡ map call_of (call 0 tick ∷ call 2 clear ∷ [])

pub step_row : StepRow
unfolding computed step refusal
step_row = (refl, refl, refl, refl)

pub trace_row : TraceRow
unfolding computed in_turn replay step refusal evaluated
trace_row = (refl, refl, refl)

pub links_row : LinksRow
unfolding without_links
links_row = refl
