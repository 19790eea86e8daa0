-- More sequences: the faults seen in the field, and rules that no other theorem pins down.
use mathlib.Core.Bool.{Bool, true, false}
use mathlib.Core.List.{List, [], ◌∷◌, ◌++◌}
use mathlib.Core.Path.{refl}
use Prim.Native.Nat.{ℕ}
use Rattle.pilot.specs.Bands.{band_a, band_b, band_c, band_d, band_e}
use Rattle.rules.specs.Calls.{limit, measure, fault, clear, tick}
use Rattle.rules.specs.Faults.{Faults, no_faults}
use Rattle.rules.specs.Altered.{Lent}
use Rattle.rules.specs.Lines.{no_currents, on_line1}
use Rattle.rules.specs.Reply.{letter_f, letter_u}
use Rattle.rules.proofs.Rows.Sequences.{Sequence, steady_at, driven_at, call, every, on, row, showing, at32_a, at80_a, with_ventilation, charging, Tells, AllTell}
use Rattle.rules.specs.State.{Moment, Previous, empty, forgotten}
use Rattle.rules.proofs.Rows.Sequences.{tells_by, computed}

-- a limit of 0 that is repeated does not start the stop afresh
abbrev pub limit_repeated : Sequence
limit_repeated =
    record {
      start = at32_a 4900;
      first = charging 4900 32000 ++ (call 5000 (limit 0) ∷ (every 12 80 5020 (steady_at 6000) ++ (call 5970 (limit 0) ∷ every 26 80 5980 (steady_at 6000))));
      entries =
          row 7999 tick 0 band_c 1 1000 true 0 1
          ∷ row 8000 tick 0 band_c 1 1000 false 0 1
          ∷ [];
    }

-- a measure within the bound ends an over-run, and one above it does not start a running one afresh
abbrev pub over_run_ends : Sequence
over_run_ends =
    record {
      start = at80_a 0;
      first = charging 0 80000 ++ (call 100 (measure (on_line1 88001)) ∷ call 110 (measure (on_line1 88000)) ∷ call 120 (measure (on_line1 88001))
          ∷ (every 60 80 120 (driven_at 6000) ++ (call 4900 (measure (on_line1 200000)) ∷ every 3 80 4900 (driven_at 6000))));
      entries =
          showing (on 200000 0 0) 5119 tick 0 band_c 2 960 true 0 1
          ∷ showing (on 200000 0 0) 5120 tick 0 letter_f 0 0 false 2 1
          ∷ showing (on 200000 0 0) 5125 tick 0 letter_f 0 0 false 2 1
          ∷ showing (on 200000 0 0) 5126 (fault 3) 0 letter_f 0 0 false 2 1
          ∷ showing (on 200000 0 0) 5130 clear 0 letter_u 0 1000 false 0 1
          ∷ [];
    }

-- whatever is measured, an open contactor starts no over-run
abbrev pub over_run_open : Sequence
over_run_open =
    record {
      start = at80_a 0;
      first = call 0 (limit 80000) ∷ call 10 (steady_at 9000) ∷ call 20 (steady_at 9000) ∷ call 25 (measure (on_line1 200000)) ∷ call 30 (driven_at 6000) ∷ every 64 80 40 (driven_at 6000);
      entries =
          showing (on 200000 0 0) 5100 tick 0 band_c 2 960 true 0 1
          ∷ [];
    }

-- between two bands nothing settles; 7,499 is sound and 7,500 is not
abbrev pub between_bands : Sequence
between_bands =
    record {
      start = at80_a 0;
      first = charging 0 80000;
      entries =
          row 50 (driven_at 7200) 0 band_c 2 960 true 0 1
          ∷ row 60 (driven_at 7200) 0 band_c 2 960 true 0 1
          ∷ row 70 (driven_at 7499) 0 band_c 2 960 true 0 1
          ∷ row 80 (driven_at 7500) 0 band_c 2 960 true 0 1
          ∷ row 90 (driven_at 7500) 0 band_c 2 960 false 0 1
          ∷ [];
    }

-- two diode-bad samples latch fault 1, and the second one is forgotten with the first
abbrev pub no_diode : Sequence
no_diode =
    record {
      start = at80_a 0;
      first = charging 0 80000;
      entries =
          row 50 (steady_at 6000) 0 band_c 2 960 true 0 1
          ∷ row 60 (steady_at 6000) 0 letter_f 0 0 false 1 1
          ∷ row 65 tick 0 letter_f 0 0 false 1 1
          ∷ row 66 (fault 3) 0 letter_f 0 0 false 1 1
          ∷ row 70 clear 0 letter_u 0 1000 false 0 1
          ∷ row 80 (steady_at 6000) 0 letter_u 0 1000 false 0 1
          ∷ row 90 (steady_at 6000) 0 band_c 2 960 false 0 1
          ∷ [];
    }

-- a diode-bad sample from before an opening does not count
abbrev pub diode_before : Sequence
diode_before =
    record {
      start = at80_a 0;
      first = charging 0 80000;
      entries =
          row 50 (steady_at 6000) 0 band_c 2 960 true 0 1
          ∷ row 121 tick 0 band_c 2 960 false 0 1
          ∷ row 130 (steady_at 6000) 0 band_c 2 960 false 0 1
          ∷ row 140 (steady_at 6000) 0 letter_f 0 0 false 1 1
          ∷ row 150 clear 0 letter_u 0 1000 false 0 1
          ∷ row 160 (steady_at 6000) 0 letter_u 0 1000 false 0 1
          ∷ [];
    }

-- before a limit is told there is no duty; no call is earlier than begin
abbrev pub no_limit : Sequence
no_limit =
    record {
      start = at80_a 4900;
      first = [];
      entries =
          row 4899 tick 2 letter_u 0 1000 false 0 0
          ∷ row 4900 (steady_at 9000) 0 letter_u 0 1000 false 0 0
          ∷ row 4910 (steady_at 9000) 0 band_b 1 1000 false 0 0
          ∷ row 4920 (limit 80000) 0 band_b 2 960 false 0 0
          ∷ [];
    }

-- a refused call moves no clock; equal times are accepted
abbrev pub clock : Sequence
clock =
    record {
      start = at80_a 0;
      first = [];
      entries =
          row 100 (limit 80001) 13 letter_u 0 1000 false 0 0
          ∷ row 50 (limit 80000) 0 letter_u 0 1000 false 0 0
          ∷ row 49 tick 2 letter_u 0 1000 false 0 0
          ∷ row 50 tick 0 letter_u 0 1000 false 0 0
          ∷ row 1000000000001 tick 3 letter_u 0 1000 false 0 0
          ∷ row 1000000000000 tick 0 letter_u 0 1000 false 0 0
          ∷ row 50 tick 2 letter_u 0 1000 false 0 0
          ∷ [];
    }

-- refusals 7, 8 and 13 stand beside the reply as it was
abbrev pub refused_arguments : Sequence
refused_arguments =
    record {
      start = at80_a 0;
      first = charging 0 80000;
      entries =
          row 50 (measure (on_line1 200001)) 7 band_c 2 960 true 0 1
          ∷ showing (on 200000 0 0) 50 (measure (on_line1 200000)) 0 band_c 2 960 true 0 1
          ∷ showing (on 200000 0 0) 50 (fault 2) 8 band_c 2 960 true 0 1
          ∷ showing (on 200000 0 0) 50 (fault 6) 8 band_c 2 960 true 0 1
          ∷ showing (on 200000 0 0) 50 (limit 80001) 13 band_c 2 960 true 0 1
          ∷ showing (on 200000 0 0) 50 (limit 4294967295) 13 band_c 2 960 true 0 1
          ∷ [];
    }

-- each fault of a fault call, and clear
abbrev pub faults_told : Sequence
faults_told =
    record {
      start = at80_a 0;
      first = charging 0 80000;
      entries =
          row 50 (fault 4) 0 letter_f 0 0 false 4 1
          ∷ row 60 (fault 3) 0 letter_f 0 0 false 4 1
          ∷ row 60 (fault 5) 0 letter_f 0 0 false 4 1
          ∷ row 70 clear 0 letter_u 0 1000 false 0 1
          ∷ row 80 (steady_at 6000) 0 letter_u 0 1000 false 0 1
          ∷ row 90 (steady_at 6000) 0 band_c 2 960 false 0 1
          ∷ row 100 (fault 5) 0 letter_f 0 0 false 5 1
          ∷ row 110 clear 0 letter_u 0 1000 false 0 1
          ∷ [];
    }

-- a fault call unsettles and forgets, also for a latched fault; under a fault samples settle
abbrev pub fault_again : Sequence
fault_again =
    record {
      start = at80_a 0;
      first = call 0 (limit 80000) ∷ [];
      entries =
          row 10 (fault 3) 0 letter_f 0 0 false 3 0
          ∷ row 20 (steady_at 9000) 0 letter_f 0 0 false 3 0
          ∷ row 30 (steady_at 9000) 0 letter_f 0 0 false 3 0
          ∷ row 35 clear 0 band_b 2 960 false 0 0
          ∷ row 36 (fault 3) 0 letter_f 0 0 false 3 0
          ∷ row 37 (fault 3) 0 letter_f 0 0 false 3 0
          ∷ row 38 (steady_at 9000) 0 letter_f 0 0 false 3 0
          ∷ row 39 (steady_at 9000) 0 letter_f 0 0 false 3 0
          ∷ row 40 (fault 3) 0 letter_f 0 0 false 3 0
          ∷ row 50 clear 0 letter_u 0 1000 false 0 0
          ∷ row 60 (steady_at 9000) 0 letter_u 0 1000 false 0 0
          ∷ row 70 (fault 4) 0 letter_f 0 0 false 4 0
          ∷ row 80 clear 0 letter_u 0 1000 false 0 0
          ∷ row 90 (steady_at 9000) 0 letter_u 0 1000 false 0 0
          ∷ row 100 (steady_at 9000) 0 band_b 2 960 false 0 0
          ∷ [];
    }

-- with ventilation D is ready; the pause as begin names it
abbrev pub ventilated_post : Sequence
ventilated_post =
    record {
      start = with_ventilation;
      first = [];
      entries =
          row 0 (limit 80000) 0 letter_u 0 1000 false 0 0
          ∷ row 10 (steady_at 3000) 0 letter_u 0 1000 false 0 0
          ∷ row 20 (steady_at 3000) 0 band_d 2 960 false 0 0
          ∷ row 30 (driven_at 3000) 0 band_d 2 960 false 0 0
          ∷ row 40 (driven_at 3000) 0 band_d 2 960 true 0 1
          ∷ row 50 (driven_at 9000) 0 band_d 2 960 true 0 1
          ∷ row 60 (driven_at 9000) 0 band_b 2 960 false 0 1
          ∷ row 1050 (driven_at 6000) 0 band_b 2 960 false 0 1
          ∷ row 1059 (driven_at 6000) 0 band_c 2 960 false 0 1
          ∷ row 1060 (driven_at 6000) 0 band_c 2 960 true 0 2
          ∷ [];
    }

-- without it D opens and gets no duty
abbrev pub plain_post : Sequence
plain_post =
    record {
      start = at80_a 0;
      first = charging 0 80000;
      entries =
          row 50 (driven_at 3000) 0 band_c 2 960 true 0 1
          ∷ row 60 (driven_at 3000) 0 band_d 1 1000 false 0 1
          ∷ row 70 (steady_at 3000) 0 band_d 1 1000 false 0 1
          ∷ [];
    }

-- A and E get no duty; a limit below 6,000 gives none, and one above the rated current no more than that
abbrev pub other_states : Sequence
other_states =
    record {
      start = at32_a 0;
      first = [];
      entries =
          row 0 (limit 32000) 0 letter_u 0 1000 false 0 0
          ∷ row 10 (steady_at 12000) 0 letter_u 0 1000 false 0 0
          ∷ row 20 (steady_at 12000) 0 band_a 1 1000 false 0 0
          ∷ row 30 (steady_at 0) 0 band_a 1 1000 false 0 0
          ∷ row 40 (steady_at 0) 0 band_e 0 1000 false 0 0
          ∷ row 50 (steady_at 9000) 0 band_e 0 1000 false 0 0
          ∷ row 60 (steady_at 9000) 0 band_b 2 533 false 0 0
          ∷ row 70 (limit 5999) 0 band_b 1 1000 false 0 0
          ∷ row 80 (limit 6000) 0 band_b 2 100 false 0 0
          ∷ row 90 (limit 80000) 0 band_b 2 533 false 0 0
          ∷ [];
    }

-- a sample without a band is the previous one all the same
abbrev pub no_band_between : Sequence
no_band_between =
    record {
      start = at80_a 0;
      first = [];
      entries =
          row 0 (limit 80000) 0 letter_u 0 1000 false 0 0
          ∷ row 10 (steady_at 9000) 0 letter_u 0 1000 false 0 0
          ∷ row 20 (steady_at 9000) 0 band_b 2 960 false 0 0
          ∷ row 30 (driven_at 6000) 0 band_b 2 960 false 0 0
          ∷ row 40 (driven_at 7200) 0 band_b 2 960 false 0 0
          ∷ row 50 (driven_at 6000) 0 band_b 2 960 false 0 0
          ∷ row 60 (driven_at 6000) 0 band_c 2 960 true 0 1
          ∷ [];
    }

-- calls between two samples do not part them
abbrev pub calls_between : Sequence
calls_between =
    record {
      start = at80_a 0;
      first = call 0 (limit 80000) ∷ [];
      entries =
          row 10 (steady_at 9000) 0 letter_u 0 1000 false 0 0
          ∷ row 15 tick 0 letter_u 0 1000 false 0 0
          ∷ row 20 (steady_at 9000) 0 band_b 2 960 false 0 0
          ∷ row 30 (driven_at 6000) 0 band_b 2 960 false 0 0
          ∷ row 31 (limit 80000) 0 band_b 2 960 false 0 0
          ∷ row 32 (measure no_currents) 0 band_b 2 960 false 0 0
          ∷ row 33 clear 0 band_b 2 960 false 0 0
          ∷ row 34 (fault 9) 8 band_b 2 960 false 0 0
          ∷ row 40 (driven_at 6000) 0 band_c 2 960 true 0 1
          ∷ [];
    }

-- only clear drops a fault
abbrev pub calls_under_fault : Sequence
calls_under_fault =
    record {
      start = at80_a 0;
      first = charging 0 80000;
      entries =
          row 50 (fault 5) 0 letter_f 0 0 false 5 1
          ∷ row 51 (limit 80000) 0 letter_f 0 0 false 5 1
          ∷ row 52 (measure no_currents) 0 letter_f 0 0 false 5 1
          ∷ row 53 tick 0 letter_f 0 0 false 5 1
          ∷ row 54 (steady_at 6000) 0 letter_f 0 0 false 5 1
          ∷ row 55 clear 0 letter_u 0 1000 false 0 1
          ∷ [];
    }

-- a limit or a clear leaves an over-run running
abbrev pub calls_in_over_run : Sequence
calls_in_over_run =
    record {
      start = at80_a 0;
      first = charging 0 80000 ++ (call 100 (measure (on_line1 88001)) ∷ call 105 (limit 80000) ∷ call 106 clear ∷ every 62 80 110 (driven_at 6000));
      entries =
          showing (on 88001 0 0) 5060 (driven_at 6000) 0 band_c 2 960 true 0 1
          ∷ showing (on 88001 0 0) 5099 tick 0 band_c 2 960 true 0 1
          ∷ showing (on 88001 0 0) 5100 tick 0 letter_f 0 0 false 2 1
          ∷ [];
    }

-- a limit that comes back ends the stop
abbrev pub limit_back : Sequence
limit_back =
    record {
      start = at80_a 0;
      first = charging 0 80000 ++ (call 50 (limit 0) ∷ (every 37 80 60 (steady_at 6000) ++ (call 3010 (limit 80000) ∷ [])));
      entries =
          row 3020 (driven_at 6000) 0 band_c 2 960 true 0 1
          ∷ row 3060 tick 0 band_c 2 960 true 0 1
          ∷ [];
    }

-- a controller that no list leads to, in range: contactor, settled state, faults, last sound sample and previous sample as given
abbrev pub unreached_by_sample : Bool → ℕ → Faults → Moment → Previous → Lent
unreached_by_sample closed settled faults sound previous =
    record {
      state = record {
        settings = record { rated = 80000; pause = 3000; ventilation = false; digital = false };
        limit = 80000;
        grant = 0;
        wave = 960;
        closed = closed;
        settled = settled;
        faults = faults;
        last = 100;
        sound = sound;
        opening = empty;
        overrun = empty;
        stop = empty;
        previous = previous;
        lines = no_currents;
      };
      closings = 7;
    }

-- a verdict that is not kept is no partner
abbrev pub no_partner : Sequence
no_partner =
    record {
      start = unreached_by_sample false band_b no_faults empty (record { kept = false; verdict = record { band = band_c; sound = true; proven = true; diodebad = false } });
      first = [];
      entries = row 110 (driven_at 6000) 0 band_b 2 960 false 0 7 ∷ row 120 (driven_at 6000) 0 band_c 2 960 true 0 8 ∷ [];
    }

-- nor does it count for a missing diode
abbrev pub no_partner_diode : Sequence
no_partner_diode =
    record {
      start = unreached_by_sample false band_c no_faults empty (record { kept = false; verdict = record { band = band_c; sound = false; proven = false; diodebad = true } });
      first = [];
      entries = row 110 (steady_at 6000) 0 band_c 2 960 false 0 7 ∷ row 120 (steady_at 6000) 0 letter_f 0 0 false 1 7 ∷ [];
    }

-- closed without a sound sample so far
abbrev pub never_sound : Sequence
never_sound = record { start = unreached_by_sample true band_c no_faults empty forgotten; first = []; entries = row 110 tick 0 band_c 2 960 false 0 7 ∷ [] }

-- a kept letter that is none of A to E, here F, acts as U and is shown as U. The letters are in ASCII: F is 70 and U is 85
abbrev pub no_letter : Sequence
no_letter =
    record {
      start = unreached_by_sample false 70 no_faults empty forgotten;
      first = [];
      entries = row 110 tick 0 85 0 1000 false 0 7 ∷ row 120 (fault 3) 0 70 0 0 false 3 7 ∷ [];
    }

abbrev pub other_rows : List Sequence
other_rows =
    limit_repeated
    ∷ over_run_ends
    ∷ over_run_open
    ∷ between_bands
    ∷ no_diode
    ∷ diode_before
    ∷ no_limit
    ∷ clock
    ∷ refused_arguments
    ∷ faults_told
    ∷ fault_again
    ∷ ventilated_post
    ∷ plain_post
    ∷ other_states
    ∷ no_band_between
    ∷ calls_between
    ∷ calls_under_fault
    ∷ calls_in_over_run
    ∷ limit_back
    ∷ no_partner
    ∷ no_partner_diode
    ∷ never_sound
    ∷ no_letter
    ∷ []

limit_repeated_lem : Tells limit_repeated
unfolding computed
limit_repeated_lem = tells_by limit_repeated _ refl refl refl refl

over_run_ends_lem : Tells over_run_ends
unfolding computed
over_run_ends_lem = tells_by over_run_ends _ refl refl refl refl

over_run_open_lem : Tells over_run_open
unfolding computed
over_run_open_lem = tells_by over_run_open _ refl refl refl refl

between_bands_lem : Tells between_bands
unfolding computed
between_bands_lem = tells_by between_bands _ refl refl refl refl

no_diode_lem : Tells no_diode
unfolding computed
no_diode_lem = tells_by no_diode _ refl refl refl refl

diode_before_lem : Tells diode_before
unfolding computed
diode_before_lem = tells_by diode_before _ refl refl refl refl

no_limit_lem : Tells no_limit
unfolding computed
no_limit_lem = tells_by no_limit _ refl refl refl refl

clock_row : Tells clock
unfolding computed
clock_row = tells_by clock _ refl refl refl refl

refused_arguments_lem : Tells refused_arguments
unfolding computed
refused_arguments_lem = tells_by refused_arguments _ refl refl refl refl

faults_told_lem : Tells faults_told
unfolding computed
faults_told_lem = tells_by faults_told _ refl refl refl refl

fault_again_lem : Tells fault_again
unfolding computed
fault_again_lem = tells_by fault_again _ refl refl refl refl

ventilated_post_lem : Tells ventilated_post
unfolding computed
ventilated_post_lem = tells_by ventilated_post _ refl refl refl refl

plain_post_lem : Tells plain_post
unfolding computed
plain_post_lem = tells_by plain_post _ refl refl refl refl

other_states_lem : Tells other_states
unfolding computed
other_states_lem = tells_by other_states _ refl refl refl refl

no_band_between_lem : Tells no_band_between
unfolding computed
no_band_between_lem = tells_by no_band_between _ refl refl refl refl

calls_between_lem : Tells calls_between
unfolding computed
calls_between_lem = tells_by calls_between _ refl refl refl refl

calls_under_fault_lem : Tells calls_under_fault
unfolding computed
calls_under_fault_lem = tells_by calls_under_fault _ refl refl refl refl

calls_in_over_run_lem : Tells calls_in_over_run
unfolding computed
calls_in_over_run_lem = tells_by calls_in_over_run _ refl refl refl refl

limit_back_lem : Tells limit_back
unfolding computed
limit_back_lem = tells_by limit_back _ refl refl refl refl

no_partner_lem : Tells no_partner
unfolding computed
no_partner_lem = tells_by no_partner _ refl refl refl refl

no_partner_diode_lem : Tells no_partner_diode
unfolding computed
no_partner_diode_lem = tells_by no_partner_diode _ refl refl refl refl

never_sound_lem : Tells never_sound
unfolding computed
never_sound_lem = tells_by never_sound _ refl refl refl refl

no_letter_lem : Tells no_letter
unfolding computed
no_letter_lem = tells_by no_letter _ refl refl refl refl

pub other_rows_lem : AllTell other_rows
other_rows_lem =
    (limit_repeated_lem, (over_run_ends_lem, (over_run_open_lem, (between_bands_lem, (no_diode_lem, (diode_before_lem, (no_limit_lem, (clock_row, (refused_arguments_lem, (faults_told_lem, (fault_again_lem, (ventilated_post_lem, (plain_post_lem, (other_states_lem, (no_band_between_lem, (calls_between_lem, (calls_under_fault_lem, (calls_in_over_run_lem, (limit_back_lem, (no_partner_lem, (no_partner_diode_lem, (never_sound_lem, (no_letter_lem, tt)))))))))))))))))))))))
