-- The call is the lent call of its call by value (`lending/proofs/LentCall`): what crate calls proves of that one, taken to the lent controller.
use mathlib.Core.List.{[], ◌∷◌}
use mathlib.Core.Path.{refl}
use mir.Syntax.{w32, w64}
use Rattle.rules.specs.Calls.{measure}
use Rattle.calls.specs.Answers.{Answers}
use Rattle.calls.proofs.measure_lines.Symbol as symbol
use Rattle.calls.proofs.measure_lines.Met as met
use Rattle.lending.proofs.Parameters.{number}
use Rattle.lending.proofs.LentCall.{lent_call_meets}
use Rattle.chuldariin.proofs.Crossing.{lent, replied, answers}
use Rattle.chuldariin.specs.contracts.chuldariin_measure_lines.Key as key
use Rattle.chuldariin.proofs.chuldariin_measure_lines.Statement as stated
use Rattle.chuldariin.proofs.chuldariin_measure_lines.Code as code

pub is_lent : {M : Type 1} → stated.statement M
is_lent 𝓤 𝓛 𝓜 𝓡 wired =
    lent_call_meets lent replied answers 0 (number w64 ∷ number w32 ∷ number w32 ∷ number w32 ∷ []) (λ c a. Answers (record { time = a.0; event = measure (record { line1 = a.1.0; line2 = a.1.1.0; line3 = a.1.1.1.0 }) }) c) 𝓛 𝓜 𝓡
    𝓡.env symbol.name (𝓡.env symbol.name) refl key.name (code.unfolded 𝓤 𝓛.H 𝓜 𝓡 wired) (met.met 𝓤 𝓛 𝓜 𝓡 (code.calls-calls::measure_lines 𝓡.env wired))
