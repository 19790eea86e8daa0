-- The call is the lent call of its call by value (`lending/proofs/LentCall`): what crate calls proves of that one, taken to the lent controller.
use mathlib.Core.List.{[], ◌∷◌}
use mathlib.Core.Path.{refl}
use mir.Syntax.{w32, w64}
use denote.Builtin.{i32}
use denote.Signed.{sint_row_laws}
use Rattle.rules.specs.Calls.{sample}
use Rattle.calls.specs.Answers.{Answers}
use Rattle.calls.proofs.sample.Symbol as symbol
use Rattle.calls.proofs.sample.Met as met
use Rattle.lending.proofs.Parameters.{number, slice}
use Rattle.lending.proofs.LentCall.{lent_call_meets}
use Rattle.chuldariin.proofs.Crossing.{lent, replied, answers}
use Rattle.chuldariin.specs.contracts.chuldariin_sample.Key as key
use Rattle.chuldariin.proofs.chuldariin_sample.Statement as stated
use Rattle.chuldariin.proofs.chuldariin_sample.Code as code

pub is_lent : {M : Type 1} → stated.statement M
is_lent 𝓤 𝓛 𝓜 𝓡 wired =
    lent_call_meets lent replied answers 1 (number w64 ∷ slice i32 (sint_row_laws w32) 0 tt ∷ []) (λ c a. Answers (record { time = a.0; event = sample a.1.0.now }) c) 𝓛 𝓜 𝓡
    𝓡.env symbol.name (𝓡.env symbol.name) refl key.name (code.unfolded 𝓤 𝓛.H 𝓜 𝓡 wired) (met.met 𝓤 𝓛 𝓜 𝓡 (code.calls-calls::sample 𝓡.env wired))
