-- The ends of every range: what begin and a lent controller are refused for, beside and at each end.
use mathlib.Core.Path.{◌≡◌, refl}
use mathlib.Core.Bool.{false}
use mathlib.Core.List.{List, [], ◌∷◌, map}
use Prim.Native.Nat.{ℕ}
use Rattle.units.specs.Range.{from_to}
use Rattle.units.specs.Wave.{driven}
use Rattle.window.specs.Evaluation.{refused}
use Rattle.rules.specs.Begin.{begin_refusal, rated_allowed, pause_allowed}
use Rattle.rules.specs.Calls.{sample, limit}
use Rattle.rules.specs.Faults.{no_faults}
use Rattle.rules.specs.Altered.{Lent, lent_refusal, duty_allowed, wave_allowed, stored_allowed, times_allowed, in_range, altered}
use Rattle.rules.specs.Lines.{Lines}
use Rattle.rules.specs.State.{Moment, empty, set_to, forgotten}
use Rattle.rules.specs.Refusals.{time_refusal, limit_allowed, grant_allowed, argument_refusal}

-- begin's time, rated current and pause, and the refusal
pub record BeginRow : Type 0 where
  pub time : ℕ
  pub rated : ℕ
  pub pause : ℕ
  pub number : ℕ

abbrev pub begins : ℕ → ℕ → ℕ → ℕ → BeginRow
begins time rated pause number = record { time = time; rated = rated; pause = pause; number = number }

abbrev pub begin_rows : List BeginRow
begin_rows =
    begins 0 6000 0 0
    ∷ begins 1000000000000 80000 1000 0
    ∷ begins 0 32000 60000 0
    ∷ begins 1000000000001 5999 0 3
    ∷ begins 0 5999 0 1
    ∷ begins 0 80001 0 1
    ∷ begins 0 32000 1 1
    ∷ begins 0 32000 999 1
    ∷ begins 0 32000 60001 1
    ∷ []

abbrev pub BeginRowsHold : Type 0
BeginRowsHold =
    map (λ row. begin_refusal (record { time = row.time; rated = row.rated; pause = row.pause; ventilation = false; digital = false })) begin_rows
    ≡ map (λ row. row.number) begin_rows

-- currents above any that a measure brings: no number comes for them
abbrev pub far_above : Lines
far_above = record { line1 = 200001; line2 = 4294967295; line3 = 200001 }

-- of a lent controller: wave, limit, rated, pause, the last accepted time, four stored times and closings
abbrev pub lent : ℕ → ℕ → ℕ → ℕ → ℕ → Moment → Moment → Moment → Moment → ℕ → Lent
lent wave current rated pause last sound opening overrun stop closings =
    record {
      state = record {
        settings = record { rated = rated; pause = pause; ventilation = false; digital = false };
        limit = current;
        grant = 0;
        wave = wave;
        closed = false;
        settled = 0;
        faults = no_faults;
        last = last;
        sound = sound;
        opening = opening;
        overrun = overrun;
        stop = stop;
        previous = forgotten;
        lines = far_above;
      };
      closings = closings;
    }

-- a number that is not stored
abbrev pub unset : Moment
unset = record { set = false; time = 51 }

-- a limit of 80,001 at 50 is refused with 13 where the lent controller is in range
abbrev pub inside : List Lent
inside =
    lent 0 0 6000 1000 50 (set_to 50) (set_to 50) (set_to 50) (set_to 50) 1000000001
    ∷ lent 100 80000 80000 60000 50 empty empty empty empty 0
    ∷ lent 960 80000 80000 60000 50 unset unset unset unset 0
    ∷ lent 1000 0 6000 1000 0 empty empty empty empty 0
    ∷ []

-- and with 1 where it is not
abbrev pub outside : List Lent
outside =
    lent 99 0 6000 1000 50 empty empty empty empty 0
    ∷ lent 961 0 6000 1000 50 empty empty empty empty 0
    ∷ lent 999 0 6000 1000 50 empty empty empty empty 0
    ∷ lent 1001 0 6000 1000 50 empty empty empty empty 0
    ∷ lent 1 0 6000 1000 50 empty empty empty empty 0
    ∷ lent 1000 80001 6000 1000 50 empty empty empty empty 0
    ∷ lent 1000 0 5999 1000 50 empty empty empty empty 0
    ∷ lent 1000 0 80001 1000 50 empty empty empty empty 0
    ∷ lent 1000 0 6000 999 50 empty empty empty empty 0
    ∷ lent 1000 0 6000 60001 50 empty empty empty empty 0
    ∷ lent 1000 0 6000 0 50 empty empty empty empty 0
    ∷ lent 1000 0 6000 1000 50 (set_to 51) empty empty empty 0
    ∷ lent 1000 0 6000 1000 50 empty (set_to 51) empty empty 0
    ∷ lent 1000 0 6000 1000 50 empty empty (set_to 51) empty 0
    ∷ lent 1000 0 6000 1000 50 empty empty empty (set_to 51) 0
    ∷ lent 1000 0 6000 1000 50 empty empty empty empty 1000000002
    ∷ []

-- 3 comes before 2, 2 before 1
abbrev pub late : List Lent
late = lent 99 0 6000 1000 1000000000002 empty empty empty empty 0 ∷ []

abbrev pub early : List Lent
early = lent 99 0 6000 1000 51 empty empty empty empty 0 ∷ []

abbrev pub RefusedAll : ℕ → ℕ → List Lent → Type 0
RefusedAll time number lents = map (λ l. lent_refusal l (record { time = time; event = limit 80001 })) lents ≡ map (λ l. number) lents

abbrev pub LentRowsHold : Type 0
LentRowsHold = RefusedAll 50 13 inside × RefusedAll 50 1 outside × RefusedAll 1000000000001 3 late × RefusedAll 50 2 early

-- a refused window refuses its sample, by the window's own number
abbrev pub WindowRow : Type 0
WindowRow =
    map (λ number. lent_refusal (lent 1000 0 6000 1000 50 empty empty empty empty 0) (record { time = 50; event = sample (refused number) })) (4 ∷ 5 ∷ 6 ∷ [])
    ≡ 4 ∷ 5 ∷ 6 ∷ []

pub begin_rows_lem : BeginRowsHold
unfolding from_to rated_allowed pause_allowed begin_refusal
begin_rows_lem = refl

pub lent_rows : LentRowsHold
unfolding from_to driven rated_allowed pause_allowed duty_allowed wave_allowed stored_allowed times_allowed in_range altered lent_refusal time_refusal limit_allowed grant_allowed argument_refusal
lent_rows = (refl, refl, refl, refl)

pub window_row : WindowRow
unfolding from_to driven rated_allowed pause_allowed duty_allowed wave_allowed stored_allowed times_allowed in_range altered lent_refusal time_refusal limit_allowed grant_allowed argument_refusal
window_row = refl
