-- The call is the lent call of its call by value (`lending/proofs/LentCall`): what crate calls proves of that one, taken to the lent controller.
use mathlib.Core.List.{[], ◌∷◌}
use mathlib.Core.Path.{refl}
use mir.Syntax.{w32, w64}
use Rattle.calls.specs.Answers.{Begins}
use Rattle.calls.proofs.begin.Symbol as symbol
use Rattle.calls.proofs.begin.Met as met
use Rattle.lending.proofs.Parameters.{number, boolean}
use Rattle.lending.proofs.LentCall.{lent_call_meets}
use Rattle.chuldariin.proofs.Crossing.{lent, replied, answers}
use Rattle.chuldariin.specs.contracts.chuldariin_begin.Key as key
use Rattle.chuldariin.proofs.chuldariin_begin.Statement as stated
use Rattle.chuldariin.proofs.chuldariin_begin.Code as code

pub is_lent : {M : Type 1} → stated.statement M
is_lent 𝓤 𝓛 𝓜 𝓡 wired =
    lent_call_meets lent replied answers 0 (number w64 ∷ number w32 ∷ number w64 ∷ boolean ∷ boolean ∷ []) (λ c a. Begins (record { time = a.0; rated = a.1.0; pause = a.1.1.0; ventilation = a.1.1.1.0; digital = a.1.1.1.1.0 }) c) 𝓛 𝓜 𝓡
    𝓡.env symbol.name (𝓡.env symbol.name) refl key.name (code.unfolded 𝓤 𝓛.H 𝓜 𝓡 wired) (met.met 𝓤 𝓛 𝓜 𝓡 (code.calls-calls::begin 𝓡.env wired))
