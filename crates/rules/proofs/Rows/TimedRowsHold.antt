-- Sequences of BenchRows.antt that go on for long, computed on the definitions: what one call does, and then any number of them.
use mathlib.Core.Bool.{true, false, ◌&&◌, ◌||◌, not}
use mathlib.Core.Path.{◌≡◌, refl}
use Prim.Native.Nat.{ℕ, ◌+◌, ◌≤◌, ◌<◌}
use native.Mathlib.Omega.{arith}
use lib.Dec.{leb}
use borrow.Author.Tests.{lt-leb, le-leb, le-ltb}
use Rattle.rules.specs.Begin.{default_pause}
use Rattle.rules.proofs.Rows.Sequences.{driven_at, call, on, at32_a, at32_a_with, Tells, AllTell}
use Rattle.rules.specs.Answer.{next}
use Rattle.rules.specs.Lines.{Lines, no_currents, on_line1}
use Rattle.rules.specs.State.{Moment, set_to, empty}
use Rattle.rules.proofs.Rows.Sequences.{evaluated_of, lent_on, tells_by, computed, lasting}
use Rattle.rules.proofs.Rows.BenchRows.{second_charge, second_charge_default, over_run, no_over_run, bench_rows, ready_again, measured}
use Rattle.rules.proofs.Rows.BenchRowsHold.{sampling, first_charge_lem, unsound_twice_lem, limit_withdrawn_lem}

-- opened at 60, and the pause is not over
waits : (pause : ℕ) → 1000 ≤ pause → pause ≤ 60000 → (t : ℕ) → 60 ≤ t → t + 10 < 60 + pause
    → next (sampling pause false (set_to 60) empty no_currents t) (evaluated_of (call (t + 10) (driven_at 6000))) ≡ sampling pause false (set_to 60) empty no_currents (t + 10)
unfolding computed
waits pause least most t late early =
    rw (
      le-leb 1000 pause least,
      le-leb pause 60000 most,
      le-ltb 1000000000000 (t + 10) (omega arith),
      le-ltb (t + 10) t (omega arith),
      le-leb t t (omega arith),
      le-leb 60 t late,
      lt-leb (60 + pause) (t + 10) early,
    )

-- closed, and no over-run is 5,000 old
holds : (overrun : Moment) (lines : Lines) (t : ℕ) → t + 80 ≤ 1000000000000 → not overrun.set || leb overrun.time t ≡ true
    → overrun.set && leb (overrun.time + 5000) (t + 80) ≡ false
    → next (sampling default_pause true empty overrun lines t) (evaluated_of (call (t + 80) (driven_at 6000))) ≡ sampling default_pause true empty overrun lines (t + 80)
unfolding computed
holds overrun lines t within stored young =
    rw (
      le-ltb 1000000000000 (t + 80) within,
      le-ltb (t + 80) t (omega arith),
      le-leb t t (omega arith),
      stored,
      young,
      le-ltb (t + 80 + 80) (t + 80) (omega arith),
    )

second_charge_lem : Tells second_charge
unfolding computed
second_charge_lem =
    tells_by second_charge (sampling 3000 false (set_to 60) empty no_currents 3040) refl refl
    (lasting (sampling 3000 false (set_to 60) empty no_currents) 10 (driven_at 6000) 60 3060 (waits 3000 (omega arith) (omega arith))
    (at32_a_with 3000 0) (ready_again 2) 296 80 refl (omega arith) (omega arith))
    refl

second_charge_default_lem : Tells second_charge_default
unfolding computed
second_charge_default_lem =
    tells_by second_charge_default (sampling 10000 false (set_to 60) empty no_currents 10040) refl refl
    (lasting (sampling 10000 false (set_to 60) empty no_currents) 10 (driven_at 6000) 60 10060 (waits 10000 (omega arith) (omega arith))
    (at32_a 0) (ready_again 2) 996 80 refl (omega arith) (omega arith))
    refl

over_run_lem : (lines : Lines) → lent_on (at32_a 0) (measured lines) ≡ sampling default_pause true empty (set_to 100) lines 110 → Tells (over_run lines)
unfolding computed
over_run_lem lines starts =
    tells_by (over_run lines) (sampling default_pause true empty (set_to 100) lines 5070) refl refl
    (lasting (sampling default_pause true empty (set_to 100) lines) 80 (driven_at 6000) 100 5100
    (λ t late early. holds (set_to 100) lines t (omega arith) (le-leb 100 t late) (lt-leb 5100 (t + 80) early)) (at32_a 0)
    (measured lines) 62 110 starts (omega arith) (omega arith))
    refl

no_over_run_lem : (lines : Lines) → lent_on (at32_a 0) (measured lines) ≡ sampling default_pause true empty empty lines 110 → Tells (no_over_run lines)
unfolding computed
no_over_run_lem lines starts =
    tells_by (no_over_run lines) (sampling default_pause true empty empty lines 5070) refl refl
    (lasting (sampling default_pause true empty empty lines) 80 (driven_at 6000) 0 1000000000000
    (λ t late early. holds empty lines t (omega arith) refl refl) (at32_a 0) (measured lines) 62 110 starts (omega arith) (omega arith))
    refl

over_runs : Tells (over_run (on_line1 35179)) × Tells (over_run (on 35179 1 2)) × Tells (over_run (on 35178 35179 0)) × Tells (over_run (on 0 35178 35179))
unfolding computed
over_runs = (over_run_lem (on_line1 35179) refl, over_run_lem (on 35179 1 2) refl, over_run_lem (on 35178 35179 0) refl, over_run_lem (on 0 35178 35179) refl)

no_over_runs : Tells (no_over_run (on_line1 35178)) × Tells (no_over_run (on 35178 35178 35178))
unfolding computed
no_over_runs = (no_over_run_lem (on_line1 35178) refl, no_over_run_lem (on 35178 35178 35178) refl)

pub bench_rows_lem : AllTell bench_rows
bench_rows_lem =
    (first_charge_lem, (unsound_twice_lem, (second_charge_lem, (second_charge_default_lem, (limit_withdrawn_lem, (over_runs.0, (over_runs.1, (over_runs.2, (over_runs.3, (no_over_runs.0, (no_over_runs.1, tt)))))))))))
