-- The sequences of document 01, "Bench figures". BenchRowsHold.antt computes them on the definitions.
use mathlib.Core.Bool.{true, false}
use mathlib.Core.List.{List, [], ◌∷◌, ◌++◌}
use Prim.Native.Nat.{ℕ}
use Rattle.pilot.specs.Bands.{band_b, band_c}
use Rattle.rules.specs.Calls.{limit, measure, tick}
use Rattle.rules.specs.Reply.{letter_f, letter_u}
use Rattle.rules.proofs.Rows.Sequences.{Sequence, steady_at, driven_at, call, every, on, row, showing, at32_a, at32_a_with, charging, LevelCall}
use Rattle.rules.specs.Lines.{Lines, on_line1}

-- starred: B2 and 533, closed at 40, and open 81 after the last sound sample
abbrev pub first_charge : Sequence
first_charge =
    record {
      start = at32_a 0;
      first = [];
      entries =
          row 0 (limit 32000) 0 letter_u 0 1000 false 0 0
          ∷ row 10 (steady_at 9000) 0 letter_u 0 1000 false 0 0
          ∷ row 20 (steady_at 9000) 0 band_b 2 533 false 0 0
          ∷ row 30 (driven_at 6000) 0 band_b 2 533 false 0 0
          ∷ row 40 (driven_at 6000) 0 band_c 2 533 true 0 1
          ∷ row 50 (driven_at 9000) 0 band_c 2 533 true 0 1
          ∷ row 120 tick 0 band_c 2 533 true 0 1
          ∷ row 121 tick 0 band_c 2 533 false 0 1
          ∷ [];
    }

-- two unsound samples open, here at 60
abbrev pub unsound_twice : Sequence
unsound_twice =
    record {
      start = at32_a 0;
      first = charging 0 32000;
      entries =
          row 50 (driven_at 9000) 0 band_c 2 533 true 0 1
          ∷ row 60 (driven_at 9000) 0 band_b 2 533 false 0 1
          ∷ [];
    }

-- and then so many samples of a ready van, every 10 from 70
abbrev pub ready_again : ℕ → List LevelCall
ready_again n = charging 0 32000 ++ (call 50 (driven_at 9000) ∷ call 60 (driven_at 9000) ∷ every n 10 70 (driven_at 6000))

-- the next closing waits for the pause: with 3,000, which begin names, it comes at 3,060
abbrev pub second_charge : Sequence
second_charge =
    record {
      start = at32_a_with 3000 0;
      first = ready_again 298;
      entries =
          row 3050 (driven_at 6000) 0 band_c 2 533 false 0 1
          ∷ row 3060 (driven_at 6000) 0 band_c 2 533 true 0 2
          ∷ [];
    }

-- and with pause 0 at 10,060
abbrev pub second_charge_default : Sequence
second_charge_default =
    record {
      start = at32_a 0;
      first = ready_again 998;
      entries =
          row 10050 (driven_at 6000) 0 band_c 2 533 false 0 1
          ∷ row 10060 (driven_at 6000) 0 band_c 2 533 true 0 2
          ∷ [];
    }

-- limit 0 at 5,000 stops the van: closed at 7,990, open at 8,000
abbrev pub limit_withdrawn : Sequence
limit_withdrawn =
    record {
      start = at32_a 4900;
      first = charging 4900 32000 ++ (every 5 10 4950 (driven_at 6000) ++ (call 5000 (limit 0) ∷ every 298 10 5010 (steady_at 6000)));
      entries =
          row 7990 (steady_at 6000) 0 band_c 1 1000 true 0 1
          ∷ row 8000 (steady_at 6000) 0 band_c 1 1000 false 0 1
          ∷ [];
    }

-- a measure of these currents at 100, a sample at 110, and then one every 80 up to 5,070
abbrev pub measured : Lines → List LevelCall
measured lines = charging 0 32000 ++ (call 100 (measure lines) ∷ call 110 (driven_at 6000) ∷ [])

abbrev measuring : Lines → List LevelCall
measuring lines = measured lines ++ every 62 80 190 (driven_at 6000)

-- at 533 a measure of 35,179 on any line starts an over-run: fault 2 at 5,000 after it, not at 4,999
abbrev pub over_run : Lines → Sequence
over_run lines =
    record {
      start = at32_a 0;
      first = measuring lines;
      entries =
          showing lines 5099 tick 0 band_c 2 533 true 0 1
          ∷ showing lines 5100 tick 0 letter_f 0 0 false 2 1
          ∷ [];
    }

-- 35,178 starts none, whatever the three come to together
abbrev pub no_over_run : Lines → Sequence
no_over_run lines =
    record {
      start = at32_a 0;
      first = measuring lines;
      entries =
          showing lines 5099 tick 0 band_c 2 533 true 0 1
          ∷ showing lines 5100 tick 0 band_c 2 533 true 0 1
          ∷ [];
    }

abbrev pub bench_rows : List Sequence
bench_rows =
    first_charge
    ∷ unsound_twice
    ∷ second_charge
    ∷ second_charge_default
    ∷ limit_withdrawn
    ∷ over_run (on_line1 35179)
    ∷ over_run (on 35179 1 2)
    ∷ over_run (on 35178 35179 0)
    ∷ over_run (on 0 35178 35179)
    ∷ no_over_run (on_line1 35178)
    ∷ no_over_run (on 35178 35178 35178)
    ∷ []
