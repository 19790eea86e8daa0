-- The call is the lent call of its call by value (`lending/proofs/LentCall`): what crate calls proves of that one, taken to the lent controller.
use mathlib.Core.List.{[], ◌∷◌}
use mathlib.Core.Path.{refl}
use mir.Syntax.{w64}
use Rattle.rules.specs.Calls.{tick}
use Rattle.calls.specs.Answers.{Answers}
use Rattle.calls.proofs.tick.Symbol as symbol
use Rattle.calls.proofs.tick.Met as met
use Rattle.lending.proofs.Parameters.{number}
use Rattle.lending.proofs.LentCall.{lent_call_meets}
use Rattle.chuldariin.proofs.Crossing.{lent, replied, answers}
use Rattle.chuldariin.specs.contracts.chuldariin_tick.Key as key
use Rattle.chuldariin.proofs.chuldariin_tick.Statement as stated
use Rattle.chuldariin.proofs.chuldariin_tick.Code as code

pub is_lent : {M : Type 1} → stated.statement M
is_lent 𝓤 𝓛 𝓜 𝓡 wired =
    lent_call_meets lent replied answers 0 (number w64 ∷ []) (λ c a. Answers (record { time = a.0; event = tick }) c) 𝓛 𝓜 𝓡
    𝓡.env symbol.name (𝓡.env symbol.name) refl key.name (code.unfolded 𝓤 𝓛.H 𝓜 𝓡 wired) (met.met 𝓤 𝓛 𝓜 𝓡 (code.calls-calls::tick 𝓡.env wired))
