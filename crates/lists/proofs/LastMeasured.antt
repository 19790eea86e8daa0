-- What is kept of the lines, and so shown, is what the last accepted measure brought.
use mathlib.Core.Path.{◌≡◌, refl, sym, ◌∙◌, ap}
use mathlib.Core.Bool.{Bool, true, false, cond}
use mathlib.Core.List.{List}
use Prim.Native.Nat.{ℕ, suc, ◌≤◌, ◌<◌}
use lib.IntN.{ℤ}
use lib.ListN.{length, get_or}
use Rattle.units.proofs.Booleans.{clash}
use Rattle.rules.specs.Begin.{Begin, fresh}
use Rattle.rules.specs.Calls.{Event, Call, EvaluatedCall, sample, limit, measure, link, fault, clear, tick, evaluated, is_measure, in_turn}
use Rattle.rules.specs.Lines.{Lines, no_currents}
use Rattle.rules.specs.Refusals.{is_accepted}
use Rattle.rules.specs.State.{State}
use Rattle.rules.specs.Step1Event.{lines_by}
use Rattle.lists.specs.LastMeasured.{Measures, LastMeasured}
use Rattle.lists.specs.Replay.{replay}
use Rattle.lists.specs.Traces.{no_call, before, call_at}
use Rattle.lists.proofs.LastSet.{Turn, sets, leaves, last_set, last_fixes}
use Rattle.lists.proofs.Stepped.{next_is}

module _ (begin : Begin) (calls : List Call) where
  abbrev kept : ℕ → Lines
  kept k = (before begin calls k).lines

  -- one call, by its kind: a call that is no accepted measure leaves the currents
  turn : (k : ℕ) → k < length calls → Turn (Measures begin calls) no_currents kept k
  unfolding lines_by evaluated
  turn k below = go (is_accepted s call) (get_or calls k no_call).event refl refl (next_is begin calls k below (λ x. x.lines) _ refl)
    where
      s : State
      s = before begin calls k

      call : EvaluatedCall
      call = call_at begin calls k

      other : (event : Event (List ℤ)) → (get_or calls k no_call).event ≡ event → is_measure event ≡ false → (lines : Lines) → Measures begin calls k lines → ⊥
      other event is kind lines measures = clash (ap is_measure (sym is ∙ measures.brings)) kind

      go : (a : Bool) (event : Event (List ℤ)) → is_accepted s call ≡ a → (get_or calls k no_call).event ≡ event
          → kept (suc k) ≡ cond a (lines_by (evaluated event) (kept k)) (kept k) → Turn (Measures begin calls) no_currents kept k
      go false event out is same = leaves same (λ lines measures. clash measures.accepted out)
      go true (measure lines) into is same = sets (rw same (record { below = below; brings = is; accepted = into }))
      go true (sample window) into is same = leaves same (other (sample window) is refl)
      go true (limit current) into is same = leaves same (other (limit current) is refl)
      go true (link granted) into is same = leaves same (other (link granted) is refl)
      go true (fault kind) into is same = leaves same (other (fault kind) is refl)
      go true clear into is same = leaves same (other clear is refl)
      go true tick into is same = leaves same (other tick is refl)

  pub last_measured : (k : ℕ) → k ≤ length calls → LastMeasured begin calls k (before begin calls k).lines
  unfolding replay in_turn fresh
  last_measured = last_set (Measures begin calls) no_currents kept (length calls) refl turn

  -- and no other currents are: the statement leaves one answer
  pub lines_fixed : (k : ℕ) (a b : Lines) → LastMeasured begin calls k a → LastMeasured begin calls k b → a ≡ b
  unfolding lines_by evaluated
  lines_fixed =
      last_fixes (Measures begin calls) no_currents (λ k a b one other. ap (λ event. lines_by (evaluated event) no_currents) (sym one.brings ∙ other.brings))
