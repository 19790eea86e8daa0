-- Vans that negotiate by digital link (document 02, e): sequences, what is kept, and the ranges that the mark decides.
use mathlib.Core.Bool.{Bool, true, false}
use mathlib.Core.List.{List, [], ◌∷◌, ◌++◌, map}
use mathlib.Core.Path.{◌≡◌, refl, ap}
use Prim.Native.Nat.{ℕ}
use Rattle.units.specs.Range.{from_to}
use Rattle.units.specs.Wave.{driven, driven_in}
use Rattle.pilot.specs.Bands.{band_a, band_b, band_c}
use Rattle.rules.specs.Answer.{begun, lent_after}
use Rattle.rules.specs.Begin.{rated_allowed, pause_allowed}
use Rattle.rules.specs.Calls.{Event, limit, measure, link, fault, clear, tick}
use Rattle.rules.specs.Faults.{no_faults, any_fault}
use Rattle.rules.specs.Altered.{Lent, duty_allowed, wave_allowed, stored_allowed, times_allowed, in_range, altered, lent_refusal}
use Rattle.rules.specs.Lines.{no_currents, on_line1}
use Rattle.rules.specs.Refusals.{time_refusal, limit_allowed, grant_allowed, argument_refusal}
use Rattle.rules.specs.Reply.{letter_f, letter_u, letter, digit, shown}
use Rattle.rules.specs.State.{Moment, empty, set_to, forgotten}
use Rattle.rules.specs.Step3Wave.{is_settled}
use Rattle.rules.proofs.Rows.RangeRows.{RefusedAll}
use Rattle.rules.proofs.Rows.Sequences.{Levels, LevelCall, Sequence, steady_at, driven_at, call_of, call, every, row, showing, at32_a, charging, is_square, all_square, Tells, AllTell, lent_on, lent_on_lem, tells_by, computed}

-- a digital post: rated 32 A, pause 1,000, no ventilation
abbrev digital32_a : Lent
digital32_a = begun (record { time = 0; rated = 32000; pause = 1000; ventilation = false; digital = true })

-- a first charge by link: closed at 40
abbrev linked : ℕ → List LevelCall
linked granted = call 0 (limit 32000) ∷ call 5 (link granted) ∷ call 10 (steady_at 9000) ∷ call 20 (steady_at 9000) ∷ call 30 (driven_at 6000) ∷ call 40 (driven_at 6000) ∷ []

-- 5 % from B on; closed with a grant of 6,000 and not below it, by a sample alone; closed and below it 1000, as with a limit below it; under a fault 0
abbrev pub grant_first : Sequence
grant_first =
    record {
      start = digital32_a;
      first = [];
      entries =
          row 0 (limit 32000) 0 letter_u 0 1000 false 0 0
          ∷ row 10 (steady_at 9000) 0 letter_u 0 1000 false 0 0
          ∷ row 20 (steady_at 9000) 0 band_b 2 50 false 0 0
          ∷ row 30 (driven_at 6000) 0 band_b 2 50 false 0 0
          ∷ row 40 (driven_at 6000) 0 band_c 2 50 false 0 0
          ∷ row 45 (link 5999) 0 band_c 2 50 false 0 0
          ∷ row 50 (driven_at 6000) 0 band_c 2 50 false 0 0
          ∷ row 55 (link 6000) 0 band_c 2 50 false 0 0
          ∷ row 60 (driven_at 6000) 0 band_c 2 50 true 0 1
          ∷ row 65 (link 5999) 0 band_c 1 1000 true 0 1
          ∷ row 70 (link 6000) 0 band_c 2 50 true 0 1
          ∷ row 75 (limit 5999) 0 band_c 1 1000 true 0 1
          ∷ row 80 (limit 6000) 0 band_c 2 50 true 0 1
          ∷ row 85 (fault 3) 0 letter_f 0 0 false 3 1
          ∷ row 90 clear 0 letter_u 0 1000 false 0 1
          ∷ [];
    }

-- a grant that is taken back stops the van: open 3,000 after, still at 1000 in that call, and 5 % in the next
abbrev pub grant_taken_back : Sequence
grant_taken_back =
    record {
      start = digital32_a;
      first = linked 16000 ++ (call 50 (link 5999) ∷ call 55 (link 0) ∷ every 38 80 60 (steady_at 6000));
      entries =
          row 3049 tick 0 band_c 1 1000 true 0 1
          ∷ row 3050 tick 0 band_c 1 1000 false 0 1
          ∷ row 3051 tick 0 band_c 2 50 false 0 1
          ∷ [];
    }

-- the next sample after such an opening is judged under 1000, so it takes two more to close
abbrev pub proven_afresh : Sequence
proven_afresh =
    record {
      start = digital32_a;
      first = linked 16000 ++ (call 50 (link 0) ∷ every 38 80 60 (steady_at 6000));
      entries =
          row 3050 tick 0 band_c 1 1000 false 0 1
          ∷ row 4050 (driven_at 6000) 0 band_c 2 50 false 0 1
          ∷ row 4051 (link 6000) 0 band_c 2 50 false 0 1
          ∷ row 4060 (driven_at 6000) 0 band_c 2 50 false 0 1
          ∷ row 4070 (driven_at 6000) 0 band_c 2 50 true 0 2
          ∷ [];
    }

-- limit and grant, one stop for both: limit 0 at 50, grant 0 at 1,050, limit back at 2,050
abbrev pub one_stop : Sequence
one_stop =
    record {
      start = digital32_a;
      first =
          linked 16000
          ++ (call 50 (limit 0)
          ∷ every 13 80 60 (steady_at 6000)
          ++ (call 1050 (link 0) ∷ every 13 80 1060 (steady_at 6000) ++ (call 2050 (limit 32000) ∷ every 13 80 2060 (steady_at 6000))));
      entries =
          row 3049 tick 0 band_c 1 1000 true 0 1
          ∷ row 3050 tick 0 band_c 1 1000 false 0 1
          ∷ [];
    }

-- refusals of a link call: 3, 2, then 11
abbrev pub link_refused : Sequence
link_refused =
    record {
      start = digital32_a;
      first = linked 16000;
      entries =
          row 1000000000001 (link 80001) 3 band_c 2 50 true 0 1
          ∷ row 39 (link 80001) 2 band_c 2 50 true 0 1
          ∷ row 50 (link 80001) 11 band_c 2 50 true 0 1
          ∷ row 50 (link 80000) 0 band_c 2 50 true 0 1
          ∷ [];
    }

-- and 12 before 11 in a plain post
abbrev pub link_to_plain : Sequence
link_to_plain =
    record {
      start = at32_a 0;
      first = charging 0 32000;
      entries =
          row 1000000000001 (link 80001) 3 band_c 2 533 true 0 1
          ∷ row 39 (link 80001) 2 band_c 2 533 true 0 1
          ∷ row 50 (link 80001) 12 band_c 2 533 true 0 1
          ∷ row 50 (link 6000) 12 band_c 2 533 true 0 1
          ∷ [];
    }

-- 5 % is driven: a missing diode shows under it
abbrev pub digital_diode : Sequence
digital_diode =
    record {
      start = digital32_a;
      first = linked 16000;
      entries =
          row 50 (steady_at 6000) 0 band_c 2 50 true 0 1
          ∷ row 60 (steady_at 6000) 0 letter_f 0 0 false 1 1
          ∷ [];
    }

-- A takes the grant away, also from a link call, and also between two samples of the next van in B
abbrev pub unplugged : Sequence
unplugged =
    record {
      start = digital32_a;
      first = linked 16000;
      entries =
          row 50 (driven_at 12000) 0 band_c 2 50 true 0 1
          ∷ row 60 (driven_at 12000) 0 band_a 1 1000 false 0 1
          ∷ row 70 (link 16000) 0 band_a 1 1000 false 0 1
          ∷ row 80 (steady_at 9000) 0 band_a 1 1000 false 0 1
          ∷ row 85 (link 32000) 0 band_a 1 1000 false 0 1
          ∷ row 90 (steady_at 9000) 0 band_b 2 50 false 0 1
          ∷ row 1100 (driven_at 6000) 0 band_b 2 50 false 0 1
          ∷ row 1110 (driven_at 6000) 0 band_c 2 50 false 0 1
          ∷ row 1120 (link 16000) 0 band_c 2 50 false 0 1
          ∷ row 1130 (driven_at 6000) 0 band_c 2 50 true 0 2
          ∷ [];
    }

-- nothing else does: it outlives a fault, U, an opening and a clear
abbrev pub grant_outlives : Sequence
grant_outlives =
    record {
      start = digital32_a;
      first = linked 16000;
      entries =
          row 50 (fault 3) 0 letter_f 0 0 false 3 1
          ∷ row 60 clear 0 letter_u 0 1000 false 0 1
          ∷ row 70 (steady_at 9000) 0 letter_u 0 1000 false 0 1
          ∷ row 80 (steady_at 9000) 0 band_b 2 50 false 0 1
          ∷ row 1050 (driven_at 6000) 0 band_b 2 50 false 0 1
          ∷ row 1060 (driven_at 6000) 0 band_c 2 50 true 0 2
          ∷ [];
    }

-- a fault keeps no link call out, and the link call drops no fault: the grant is stored under it, for the closings after the clear
abbrev pub grant_under_fault : Sequence
grant_under_fault =
    record {
      start = digital32_a;
      first = linked 16000;
      entries =
          row 50 (fault 3) 0 letter_f 0 0 false 3 1
          ∷ row 55 (link 0) 0 letter_f 0 0 false 3 1
          ∷ row 60 clear 0 letter_u 0 1000 false 0 1
          ∷ row 70 (steady_at 9000) 0 letter_u 0 1000 false 0 1
          ∷ row 80 (steady_at 9000) 0 band_b 2 50 false 0 1
          ∷ row 1050 (driven_at 6000) 0 band_b 2 50 false 0 1
          ∷ row 1060 (driven_at 6000) 0 band_c 2 50 false 0 1
          ∷ row 1065 (fault 3) 0 letter_f 0 0 false 3 1
          ∷ row 1070 (link 20000) 0 letter_f 0 0 false 3 1
          ∷ row 1075 clear 0 letter_u 0 1000 false 0 1
          ∷ row 1080 (steady_at 6000) 0 letter_u 0 1000 false 0 1
          ∷ row 1090 (steady_at 6000) 0 band_c 2 50 false 0 1
          ∷ row 1100 (driven_at 6000) 0 band_c 2 50 false 0 1
          ∷ row 1110 (driven_at 6000) 0 band_c 2 50 true 0 2
          ∷ [];
    }

-- an over-run against the grant, which neither a lower grant nor a lower limit restarts: fault 2 at 5,000
abbrev pub digital_overrun : Sequence
digital_overrun =
    record {
      start = digital32_a;
      first =
          linked 16000
          ++ (call 100 (measure (on_line1 17601))
          ∷ every 25 80 100 (driven_at 6000) ++ (call 2020 (link 10000) ∷ call 2021 (limit 9000) ∷ every 38 80 2100 (driven_at 6000)));
      entries =
          showing (on_line1 17601) 5099 tick 0 band_c 2 50 true 0 1
          ∷ showing (on_line1 17601) 5100 tick 0 letter_f 0 0 false 2 1
          ∷ [];
    }

-- A settles and fault 2 latches in one call: the grant is taken in step 1, though step 2 unsettles
abbrev pub taken_then_unsettled : Sequence
taken_then_unsettled =
    record {
      start = digital32_a;
      first = linked 16000 ++ (call 100 (measure (on_line1 17601)) ∷ every 62 80 110 (driven_at 6000));
      entries =
          showing (on_line1 17601) 5060 (driven_at 12000) 0 band_c 2 50 true 0 1
          ∷ showing (on_line1 17601) 5100 (driven_at 12000) 0 letter_f 0 0 false 2 1
          ∷ showing (on_line1 17601) 5110 clear 0 letter_u 0 1000 false 0 1
          ∷ showing (on_line1 17601) 5120 (steady_at 9000) 0 letter_u 0 1000 false 0 1
          ∷ showing (on_line1 17601) 5130 (steady_at 9000) 0 band_b 2 50 false 0 1
          ∷ showing (on_line1 17601) 6110 (driven_at 6000) 0 band_b 2 50 false 0 1
          ∷ showing (on_line1 17601) 6120 (driven_at 6000) 0 band_c 2 50 false 0 1
          ∷ [];
    }

abbrev pub digital_rows : List Sequence
digital_rows = grant_first ∷ grant_taken_back ∷ proven_afresh ∷ one_stop ∷ link_refused ∷ link_to_plain ∷ digital_diode ∷ unplugged ∷ grant_outlives ∷ grant_under_fault ∷ digital_overrun ∷ taken_then_unsettled ∷ []

-- charging with this grant, then this limit, a measure at 50
abbrev measured_at : ℕ → ℕ → ℕ → List LevelCall
measured_at granted depot line = linked granted ++ (call 45 (limit depot) ∷ call 50 (measure (on_line1 line)) ∷ [])

-- whether it starts an over-run
abbrev pub Starts : ℕ → ℕ → ℕ → Bool → Type 0
Starts granted depot line over = (lent_after digital32_a (map call_of (measured_at granted depot line))).state.overrun.set ≡ over

-- a tenth above the least of grant, rated (32,000) and limit, to the milliamp: the duty for 16,059 would be read as 16,020
abbrev pub LeastRow : Type 0
LeastRow =
    Starts 16000 32000 17600 false × Starts 16000 32000 17601 true
    × Starts 80000 80000 35200 false × Starts 80000 80000 35201 true
    × Starts 16000 10000 11000 false × Starts 16000 10000 11001 true
    × Starts 16059 32000 17664 false × Starts 16059 32000 17665 true

-- a controller that no list leads to: mark, contactor, settled state, grant, wave and over-run
abbrev unreached_with : Bool → Bool → ℕ → ℕ → ℕ → Moment → Lent
unreached_with digital closed settled granted wave overrun =
    record {
      state = record {
        settings = record { rated = 80000; pause = 1000; ventilation = false; digital = digital };
        limit = 80000;
        grant = granted;
        wave = wave;
        closed = closed;
        settled = settled;
        faults = no_faults;
        last = 100;
        sound = set_to 100;
        opening = empty;
        overrun = overrun;
        stop = empty;
        previous = forgotten;
        lines = no_currents;
      };
      closings = 7;
    }

-- the grant that is kept after a call at 110
abbrev pub grant_after : Bool → ℕ → Event Levels → ℕ
grant_after digital settled event = (lent_after (unreached_with digital false settled 16000 1000 empty) (map call_of (call 110 event ∷ []))).state.grant

-- A after step 1 takes it, though step 2 unsettles, and in a plain post too; another state leaves it, whatever the call
abbrev pub GrantRow : Type 0
GrantRow =
    (grant_after true band_a (fault 3) ≡ 0) × (grant_after true band_a tick ≡ 0) × (grant_after true band_a (link 20000) ≡ 0) × (grant_after false band_a tick ≡ 0)
    × (grant_after true band_b (fault 3) ≡ 16000) × (grant_after true band_b (limit 0) ≡ 16000) × (grant_after true band_b (measure (on_line1 20000)) ≡ 16000)
    × (grant_after true band_b clear ≡ 16000) × (grant_after true band_b (link 20000) ≡ 20000) × (grant_after false band_b tick ≡ 16000)

-- closed with A settled, 5 %, and an over-run since 100 that would latch at 5,100
abbrev in_a : Lent
in_a = unreached_with true true band_a 16000 50 (set_to 100)

-- a measure is judged by the grant that it finds, which A takes afterwards: 17,600 ends the over-run, so nothing latches
abbrev pub FoundRow : Type 0
FoundRow =
    let after = (lent_after in_a (map call_of (call 5100 (measure (on_line1 17600)) ∷ []))).state in
    (after.faults.overcurrent ≡ 0) × (after.grant ≡ 0)

-- of a lent controller: mark, wave and grant
abbrev marked : Bool → ℕ → ℕ → Lent
marked digital wave granted = unreached_with digital false band_b granted wave empty

-- in range: a limit of 80,001 is refused with 13
abbrev pub marked_inside : List Lent
marked_inside = marked true 0 0 ∷ marked true 50 80000 ∷ marked true 1000 0 ∷ marked false 0 80000 ∷ marked false 100 80000 ∷ marked false 960 0 ∷ marked false 1000 0 ∷ []

-- out of range: with 1
abbrev pub marked_outside : List Lent
marked_outside =
    marked true 49 0
    ∷ marked true 51 0
    ∷ marked true 100 0
    ∷ marked true 533 0
    ∷ marked true 960 0
    ∷ marked true 999 0
    ∷ marked true 50 80001
    ∷ marked false 50 0
    ∷ marked false 960 80001
    ∷ []

abbrev pub MarkedRowsHold : Type 0
MarkedRowsHold = RefusedAll 110 13 marked_inside × RefusedAll 110 1 marked_outside

-- the digit: 50 is driven in a digital post alone, 100 to 960 in both
abbrev pub DigitRow : Type 0
DigitRow =
    map (λ lent. (shown 0 lent).digit) (marked true 50 0 ∷ marked false 50 0 ∷ marked true 533 0 ∷ marked false 533 0 ∷ marked true 51 0 ∷ marked true 1000 0 ∷ [])
    ≡ 2 ∷ 1 ∷ 2 ∷ 2 ∷ 1 ∷ 1 ∷ []

grants : Tells grant_first × Tells grant_taken_back × Tells proven_afresh × Tells one_stop
unfolding computed
grants = (
  tells_by grant_first _ refl refl refl refl,
  tells_by grant_taken_back _ refl refl refl refl,
  tells_by proven_afresh _ refl refl refl refl,
  tells_by one_stop _ refl refl refl refl,
)

refusals : Tells link_refused × Tells link_to_plain × Tells digital_diode
unfolding computed
refusals = (tells_by link_refused _ refl refl refl refl, tells_by link_to_plain _ refl refl refl refl, tells_by digital_diode _ refl refl refl refl)

resets : Tells unplugged × Tells grant_outlives × Tells grant_under_fault
unfolding computed
resets = (tells_by unplugged _ refl refl refl refl, tells_by grant_outlives _ refl refl refl refl, tells_by grant_under_fault _ refl refl refl refl)

overruns : Tells digital_overrun × Tells taken_then_unsettled
unfolding computed
overruns = (tells_by digital_overrun _ refl refl refl refl, tells_by taken_then_unsettled _ refl refl refl refl)

pub digital_rows_lem : AllTell digital_rows
digital_rows_lem = (grants.0, (grants.1, (grants.2, (grants.3, (refusals.0, (refusals.1, (refusals.2, (resets.0, (resets.1, (resets.2, (overruns.0, (overruns.1, tt))))))))))))

starts : (granted depot line : ℕ) (over : Bool) → all_square (measured_at granted depot line) ≡ true
    → (lent_on digital32_a (measured_at granted depot line)).state.overrun.set ≡ over → Starts granted depot line over
starts granted depot line over right is = rw (lent_on_lem digital32_a (measured_at granted depot line) right) is

pub least_row : LeastRow
unfolding computed
least_row = (
  starts 16000 32000 17600 false refl refl,
  starts 16000 32000 17601 true refl refl,
  starts 80000 80000 35200 false refl refl,
  starts 80000 80000 35201 true refl refl,
  starts 16000 10000 11000 false refl refl,
  starts 16000 10000 11001 true refl refl,
  starts 16059 32000 17664 false refl refl,
  starts 16059 32000 17665 true refl refl,
)

stays : (digital : Bool) (settled : ℕ) (event : Event Levels) → is_square event ≡ true
    → grant_after digital settled event ≡ (computed (unreached_with digital false settled 16000 1000 empty) (call 110 event ∷ [])).state.grant
unfolding computed
stays digital settled event right = ap (λ l. l.state.grant) (lent_on_lem (unreached_with digital false settled 16000 1000 empty) (call 110 event ∷ []) (rw right))

pub grant_row : GrantRow
unfolding computed
grant_row = (
  stays true band_a (fault 3) refl,
  stays true band_a tick refl,
  stays true band_a (link 20000) refl,
  stays false band_a tick refl,
  stays true band_b (fault 3) refl,
  stays true band_b (limit 0) refl,
  stays true band_b (measure (on_line1 20000)) refl,
  stays true band_b clear refl,
  stays true band_b (link 20000) refl,
  stays false band_b tick refl,
)

pub found_row : FoundRow
unfolding computed
found_row =
    let is = lent_on_lem in_a (call 5100 (measure (on_line1 17600)) ∷ []) refl in
    (ap (λ l. l.state.faults.overcurrent) is, ap (λ l. l.state.grant) is)

pub marked_rows : MarkedRowsHold
unfolding from_to driven rated_allowed pause_allowed duty_allowed wave_allowed stored_allowed times_allowed in_range altered lent_refusal time_refusal limit_allowed grant_allowed argument_refusal
marked_rows = (refl, refl)

pub digit_row : DigitRow
unfolding from_to driven driven_in is_settled any_fault letter digit
digit_row = refl
