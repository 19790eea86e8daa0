-- The current on each line (document 02, b): what is kept and shown, and what is refused.
use mathlib.Core.Bool.{true, false}
use mathlib.Core.List.{List, [], ◌∷◌}
use mathlib.Core.Path.{◌≡◌, refl}
use Prim.Native.Nat.{ℕ}
use Rattle.pilot.specs.Bands.{band_b, band_c}
use Rattle.rules.specs.Answer.{answer_to_begin}
use Rattle.rules.specs.Begin.{Begin, begin_refusal}
use Rattle.rules.specs.Calls.{limit, measure, fault, clear, tick}
use Rattle.rules.specs.Faults.{no_faults}
use Rattle.rules.specs.Altered.{Lent}
use Rattle.rules.specs.Lines.{no_currents, on_line1}
use Rattle.rules.specs.Reply.{letter_f, letter_u}
use Rattle.rules.specs.State.{empty, set_to, forgotten}
use Rattle.rules.proofs.Rows.Sequences.{Sequence, steady_at, driven_at, on, row, showing, at80_a, charging, Tells, AllTell, tells_by, computed}

-- 0 at the start; kept with the contactor open and closed, under a steady wave and under a driven one; every other call shows them, also one that is
-- refused
abbrev pub lines_kept : Sequence
lines_kept =
    record {
      start = at80_a 0;
      first = [];
      entries =
          row 0 (limit 80000) 0 letter_u 0 1000 false 0 0
          ∷ showing (on 1 2 3) 5 (measure (on 1 2 3)) 0 letter_u 0 1000 false 0 0
          ∷ showing (on 1 2 3) 10 (steady_at 9000) 0 letter_u 0 1000 false 0 0
          ∷ showing (on 1 2 3) 20 (steady_at 9000) 0 band_b 2 960 false 0 0
          ∷ showing (on 30 20 10) 25 (measure (on 30 20 10)) 0 band_b 2 960 false 0 0
          ∷ showing (on 30 20 10) 30 (driven_at 6000) 0 band_b 2 960 false 0 0
          ∷ showing (on 30 20 10) 40 (driven_at 6000) 0 band_c 2 960 true 0 1
          ∷ showing (on 500 700 600) 45 (measure (on 500 700 600)) 0 band_c 2 960 true 0 1
          ∷ showing (on 500 700 600) 45 tick 0 band_c 2 960 true 0 1
          ∷ showing (on 500 700 600) 44 tick 2 band_c 2 960 true 0 1
          ∷ showing (on 500 700 600) 46 (limit 0) 0 band_c 1 1000 true 0 1
          ∷ showing (on 600 700 500) 47 (measure (on 600 700 500)) 0 band_c 1 1000 true 0 1
          ∷ showing (on 600 700 500) 48 (limit 80000) 0 band_c 2 960 true 0 1
          ∷ showing (on 500 700 600) 49 (measure (on 500 700 600)) 0 band_c 2 960 true 0 1
          ∷ showing (on 500 700 600) 50 (fault 9) 8 band_c 2 960 true 0 1
          ∷ showing (on 500 700 600) 50 (fault 3) 0 letter_f 0 0 false 3 1
          ∷ showing (on 4 0 0) 55 (measure (on_line1 4)) 0 letter_f 0 0 false 3 1
          ∷ showing (on 4 0 0) 60 clear 0 letter_u 0 1000 false 0 1
          ∷ row 70 (measure no_currents) 0 letter_u 0 1000 false 0 1
          ∷ [];
    }

-- 200,000 is the most on each line; above it on any of them refuses the measure, and then none of the three is kept
abbrev pub lines_refused : Sequence
lines_refused =
    record {
      start = at80_a 0;
      first = charging 0 80000;
      entries =
          row 50 (measure (on 200001 1 2)) 7 band_c 2 960 true 0 1
          ∷ row 50 (measure (on 1 200001 2)) 7 band_c 2 960 true 0 1
          ∷ row 50 (measure (on 1 2 200001)) 7 band_c 2 960 true 0 1
          ∷ showing (on 200000 200000 200000) 50 (measure (on 200000 200000 200000)) 0 band_c 2 960 true 0 1
          ∷ showing (on 200000 200000 200000) 51 (measure (on 200001 200001 200001)) 7 band_c 2 960 true 0 1
          ∷ showing (on 200000 200000 200000) 52 (measure (on 4294967295 0 0)) 7 band_c 2 960 true 0 1
          ∷ showing (on 200000 0 0) 52 (measure (on_line1 200000)) 0 band_c 2 960 true 0 1
          ∷ [];
    }

-- a controller that no list leads to: its currents are above those of any measure
abbrev pub above_all : Lent
above_all =
    record {
      state = record {
        settings = record { rated = 80000; pause = 3000; ventilation = false; digital = false };
        limit = 80000;
        grant = 0;
        wave = 960;
        closed = false;
        settled = band_c;
        faults = no_faults;
        last = 100;
        sound = set_to 100;
        opening = empty;
        overrun = empty;
        stop = empty;
        previous = forgotten;
        lines = on 200001 300000 4294967295;
      };
      closings = 7;
    }

-- it is taken as it is
abbrev pub lines_lent : Sequence
lines_lent =
    record {
      start = above_all;
      first = [];
      entries =
          showing (on 200001 300000 4294967295) 110 tick 0 band_c 2 960 false 0 7
          ∷ showing (on 200001 300000 4294967295) 111 (limit 80001) 13 band_c 2 960 false 0 7
          ∷ showing (on 200000 0 0) 111 (measure (on 200000 0 0)) 0 band_c 2 960 false 0 7
          ∷ [];
    }

-- begin, lent this controller: refused, zeros beside the number, and the controller keeps its currents; accepted, 0 on each line
abbrev pub begin_at : ℕ → Begin
begin_at rated = record { time = 0; rated = rated; pause = 3000; ventilation = false; digital = false }

abbrev pub BeginRow : Type 0
BeginRow =
    (answer_to_begin above_all (begin_at 5999)
    ≡ record { lent = above_all; reply = record { refusal = 1; letter = 0; digit = 0; wave = 0; closed = false; fault = 0; closings = 0; lines = on 0 0 0 } })
    × ((answer_to_begin above_all (begin_at 6000)).reply.lines ≡ on 0 0 0)

abbrev pub line_rows : List Sequence
line_rows = lines_kept ∷ lines_refused ∷ lines_lent ∷ []

lines_kept_lem : Tells lines_kept
unfolding computed
lines_kept_lem = tells_by lines_kept _ refl refl refl refl

lines_refused_lem : Tells lines_refused
unfolding computed
lines_refused_lem = tells_by lines_refused _ refl refl refl refl

lines_lent_lem : Tells lines_lent
unfolding computed
lines_lent_lem = tells_by lines_lent _ refl refl refl refl

pub begin_row : BeginRow
unfolding computed answer_to_begin begin_refusal
begin_row = (refl, refl)

pub line_rows_lem : AllTell line_rows
line_rows_lem = (lines_kept_lem, (lines_refused_lem, (lines_lent_lem, tt)))
