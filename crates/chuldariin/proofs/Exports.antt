-- What the exported functions promise, each in full: the routine that the host links asks nothing, and a call's `ensures` is the proposition of which a run is
-- made (`HostRun`); that of the reading and of the duty is the equation with its definition. Routine and contract are generated from `src/`, so an exported
-- function that promises less there, or something else, is refused here.
use mathlib.Core.Path.{◌≡◌}
use seplogic.Ra.Ura.{Ura}
use base.Logic.{emp}
use prog.Model.{Model}
use mir.Syntax.{Callee}
use prog.Wired.{Code, Wired}
use types.Logic.{Logic}
use contract.Monad.{fact}
use contract.Running.{Running}
use contract.Lifetimes.{Lfts}
use denote.Triple.Entry.{Args, Res}
use denote.Triple.Clauses.{Ended, AtExit, closing}
use denote.Triple.Spec.{Meets}
use Rattle.duty.specs.Reading.{reading_of}
use Rattle.duty.specs.DutyFor.{duty_for}
use Rattle.rules.specs.Calls.{sample, limit, measure, link, fault, clear, tick}
use Rattle.rules.specs.Lines.{on_line1}
use Rattle.chuldariin.specs.Duties.{host_reading, host_duty}
use Rattle.claim.specs.Lent.{AnswersLent, BeginsLent}
use Rattle.chuldariin.specs.contracts.chuldariin_begin as begin
use Rattle.chuldariin.proofs.chuldariin_begin.Symbol as begin-symbol
use Rattle.chuldariin.proofs.chuldariin_begin.Met as begin-met
use Rattle.chuldariin.specs.contracts.chuldariin_sample as sample-call
use Rattle.chuldariin.proofs.chuldariin_sample.Symbol as sample-symbol
use Rattle.chuldariin.proofs.chuldariin_sample.Met as sample-met
use Rattle.chuldariin.specs.contracts.chuldariin_limit as limit-call
use Rattle.chuldariin.proofs.chuldariin_limit.Symbol as limit-symbol
use Rattle.chuldariin.proofs.chuldariin_limit.Met as limit-met
use Rattle.chuldariin.specs.contracts.chuldariin_measure_lines as lines-call
use Rattle.chuldariin.proofs.chuldariin_measure_lines.Symbol as lines-symbol
use Rattle.chuldariin.proofs.chuldariin_measure_lines.Met as lines-met
use Rattle.chuldariin.specs.contracts.chuldariin_measure as measure-call
use Rattle.chuldariin.proofs.chuldariin_measure.Symbol as measure-symbol
use Rattle.chuldariin.proofs.chuldariin_measure.Met as measure-met
use Rattle.chuldariin.specs.contracts.chuldariin_link as link-call
use Rattle.chuldariin.proofs.chuldariin_link.Symbol as link-symbol
use Rattle.chuldariin.proofs.chuldariin_link.Met as link-met
use Rattle.chuldariin.specs.contracts.chuldariin_fault as fault-call
use Rattle.chuldariin.proofs.chuldariin_fault.Symbol as fault-symbol
use Rattle.chuldariin.proofs.chuldariin_fault.Met as fault-met
use Rattle.chuldariin.specs.contracts.chuldariin_clear as clear-call
use Rattle.chuldariin.proofs.chuldariin_clear.Symbol as clear-symbol
use Rattle.chuldariin.proofs.chuldariin_clear.Met as clear-met
use Rattle.chuldariin.specs.contracts.chuldariin_tick as tick-call
use Rattle.chuldariin.proofs.chuldariin_tick.Symbol as tick-symbol
use Rattle.chuldariin.proofs.chuldariin_tick.Met as tick-met
use Rattle.chuldariin.specs.contracts.duties.chuldariin_reading as reading
use Rattle.chuldariin.proofs.duties.chuldariin_reading.Symbol as reading-symbol
use Rattle.chuldariin.proofs.duties.chuldariin_reading.Met as reading-met
use Rattle.chuldariin.specs.contracts.duties.chuldariin_duty as duty
use Rattle.chuldariin.proofs.duties.chuldariin_duty.Symbol as duty-symbol
use Rattle.chuldariin.proofs.duties.chuldariin_duty.Met as duty-met

module _ {M : Type 1} {𝓤 : Ura M} (𝓛 : Logic 𝓤) (𝓜 : Model 𝓤 𝓛.H) (𝓡 : Running 𝓤 𝓛.H 𝓜) where
  -- the routine asks nothing, and when it has returned r the proposition holds of the parameters at entry, of r, and of the parameters at exit
  abbrev pub Promises : (T : Ended) → Code → Callee → ((κs : Lfts T.signature.lifetimes) → Args T.signature κs → Res T.signature κs → AtExit T κs → Type 0) → Type 1
  Promises T code name promise = Wired 𝓡.env code → Meets 𝓛 T.signature (𝓡.run (𝓡.env name)) (closing 𝓛 T (λ κs a. record { ghost = Unit {0}; requires = λ g. emp 𝓤; ensures = λ g r e. fact 𝓤 (promise κs a r e) }))

  pub begin-promises : Promises begin.ended begin-symbol.code begin-symbol.name (λ κs a r e. BeginsLent (record { time = a.1.0; rated = a.1.1.0; pause = a.1.1.1.0; ventilation = a.1.1.1.1.0; digital = a.1.1.1.1.1.0 }) a.0 r e.0)
  begin-promises = begin-met.met 𝓤 𝓛 𝓜 𝓡

  pub sample-promises : Promises sample-call.ended sample-symbol.code sample-symbol.name (λ κs a r e. AnswersLent (record { time = a.1.0; event = sample a.1.1.0.now }) a.0 r e.0)
  sample-promises = sample-met.met 𝓤 𝓛 𝓜 𝓡

  pub limit-promises : Promises limit-call.ended limit-symbol.code limit-symbol.name (λ κs a r e. AnswersLent (record { time = a.1.0; event = limit a.1.1.0 }) a.0 r e.0)
  limit-promises = limit-met.met 𝓤 𝓛 𝓜 𝓡

  pub measure-lines-promises : Promises lines-call.ended lines-symbol.code lines-symbol.name (λ κs a r e. AnswersLent (record { time = a.1.0; event = measure (record { line1 = a.1.1.0; line2 = a.1.1.1.0; line3 = a.1.1.1.1.0 }) }) a.0 r e.0)
  measure-lines-promises = lines-met.met 𝓤 𝓛 𝓜 𝓡

  -- the promise above, for this current on line 1 and 0 on the others
  pub measure-promises : Promises measure-call.ended measure-symbol.code measure-symbol.name (λ κs a r e. AnswersLent (record { time = a.1.0; event = measure (on_line1 a.1.1.0) }) a.0 r e.0)
  measure-promises = measure-met.met 𝓤 𝓛 𝓜 𝓡

  pub link-promises : Promises link-call.ended link-symbol.code link-symbol.name (λ κs a r e. AnswersLent (record { time = a.1.0; event = link a.1.1.0 }) a.0 r e.0)
  link-promises = link-met.met 𝓤 𝓛 𝓜 𝓡

  pub fault-promises : Promises fault-call.ended fault-symbol.code fault-symbol.name (λ κs a r e. AnswersLent (record { time = a.1.0; event = fault a.1.1.0 }) a.0 r e.0)
  fault-promises = fault-met.met 𝓤 𝓛 𝓜 𝓡

  pub clear-promises : Promises clear-call.ended clear-symbol.code clear-symbol.name (λ κs a r e. AnswersLent (record { time = a.1.0; event = clear }) a.0 r e.0)
  clear-promises = clear-met.met 𝓤 𝓛 𝓜 𝓡

  pub tick-promises : Promises tick-call.ended tick-symbol.code tick-symbol.name (λ κs a r e. AnswersLent (record { time = a.1.0; event = tick }) a.0 r e.0)
  tick-promises = tick-met.met 𝓤 𝓛 𝓜 𝓡

  pub reading-promises : Promises reading.ended reading-symbol.code reading-symbol.name (λ κs a r e. r ≡ host_reading (reading_of a.0))
  reading-promises = reading-met.met 𝓤 𝓛 𝓜 𝓡

  pub duty-promises : Promises duty.ended duty-symbol.code duty-symbol.name (λ κs a r e. r ≡ host_duty (duty_for a.0))
  duty-promises = duty-met.met 𝓤 𝓛 𝓜 𝓡
