-- A reading that was counted is supported, or it is not; the rest of the window goes on from there, until all is looked at.
use mathlib.Core.Path.{◌∙◌, sym, ap}
use native.Mathlib.Omega.{arith}
use Rattle.std.proofs.Common.{rules, ◌+◌, drop, Option}
use Rattle.units.specs.declared.Levels.{Levels}
use Rattle.window.specs.Support.{supported}
use Rattle.window.specs.Search.{gather}
use Rattle.window.specs.Evaluation.{Evaluation}
use Rattle.window.specs.Numbers.{as_found}
use Rattle.window.proofs.Counting.{enough, too_few}
use Rattle.window.proofs.Gathering.{over, passed, failed}
use Rattle.window.proofs.search.levels.Goals as goal
use Rattle.window.proofs.search.levels.Goals.{else-count-test, then-count-test+then-near+then-count-wanted}

pub returns : goal.returns
returns c =
    let window = c.args.window.now in
    let all = over (supported window) (as_found c.loop-reading.found) window c.loop-reading.reading-index (omega (arith, c.loop-reading-test.false)) in
    sym all ∙ c.loop-reading.invariant

pub loop-reading-preserved : goal.loop-reading-preserved
loop-reading-preserved c =
    let window = c.args.window.now in
    let i = c.loop-reading.reading-index in
    let test = supported window in
    let rest = drop (i + 1) window in
    let more = c.loop-reading-test.true in
    elim c.count-test.branch [
      | else-count-test w ↦
          (let fails = too_few _ window c.count.other-index c.count.count c.needed-wanted.result c.needed-wanted.ensures c.count.invariant.rest (search rules) c.count.invariant.few in
          ap (λ (f : Option Levels). gather test (as_found f) rest) (w.found-is ∙ c.count.invariant.same)
          ∙ failed test (as_found c.loop-reading.found) window i _ more (search rules) fails ∙ c.loop-reading.invariant)
      | then-count-test+then-near+then-count-wanted w ↦
          (let passes = enough _ window c.count.other-index c.count.count c.needed-wanted.result c.needed-wanted.ensures c.count.invariant.rest w.count-test.true (search rules) (omega (arith, w.if-count-wanted.true)) in
          ap (λ (f : Option Levels). gather test (as_found f) rest) w.found-is
          ∙ ap (λ (f : Evaluation). gather test f rest) (rw c.count.invariant.same at w.widened.ensures)
          ∙ passed test (as_found c.loop-reading.found) window i _ more (search rules) passes ∙ c.loop-reading.invariant)
    ]
