-- A van that is still slowing down (document 02, c): what restarts an over-run, and when fault 2 comes then. 80,000 gives 960, 79,750 to 79,999 give
-- 959, and 79,749 gives 958.
use mathlib.Core.Bool.{Bool, true, false}
use mathlib.Core.List.{List, [], ◌∷◌, ◌++◌, map}
use mathlib.Core.Path.{◌≡◌, refl, ◌∙◌, ap}
use Prim.Native.Nat.{ℕ}
use Rattle.pilot.specs.Bands.{band_c}
use Rattle.rules.specs.Answer.{lent_after}
use Rattle.rules.specs.Calls.{Event, limit, measure, tick}
use Rattle.rules.specs.Faults.{no_faults}
use Rattle.rules.specs.Altered.{Lent}
use Rattle.rules.specs.Lines.{on_line1}
use Rattle.rules.specs.Reply.{letter_f}
use Rattle.rules.specs.State.{Moment, empty, set_to}
use Rattle.rules.proofs.Rows.Sequences.{Levels, LevelCall, Entry, Sequence, driven_at, call_of, call, every, showing, at80_a, charging, is_square, Tells, AllTell, lent_on, lent_on_lem, lent_append, tells_by, computed}
use Rattle.rules.proofs.Rows.StateRows.{unreached_by}

-- from begin on: charging at 80 A under this limit, an over-run since 100, and sound samples up to 5,060
abbrev pub overrunning : ℕ → List LevelCall
overrunning current = charging 0 current ++ (call 100 (measure (on_line1 200000)) ∷ every 63 80 100 (driven_at 6000))

-- and so for 63 samples more
abbrev longer : List LevelCall
longer = every 63 80 5100 (driven_at 6000)

-- a call with such a van, and the reply to it
abbrev pub over : ℕ → Event Levels → ℕ → ℕ → ℕ → Bool → ℕ → Entry
over time event letter digit wave closed kind = showing (on_line1 200000) time event 0 letter digit wave closed kind 1

-- lowered at 4,999 of the over-run: fault 2 at 9,999 of it, not at 9,998
abbrev pub lowered_at4999 : Sequence
lowered_at4999 =
    record {
      start = at80_a 0;
      first = overrunning 80000 ++ (call 5099 (limit 79999) ∷ longer);
      entries =
          over 10098 tick band_c 2 959 true 0
          ∷ over 10099 tick letter_f 0 0 false 2
          ∷ [];
    }

-- lowered at 5,000 of it: latched in that call
abbrev pub lowered_at5000 : Sequence
lowered_at5000 =
    record {
      start = at80_a 0;
      first = overrunning 80000 ++ [];
      entries =
          over 5100 (limit 79999) letter_f 0 0 false 2
          ∷ [];
    }

-- lowered twice: fault 2 is counted from the second time
abbrev pub lowered_twice : Sequence
lowered_twice =
    record {
      start = at80_a 0;
      first = overrunning 80000 ++ (call 5080 (limit 79999) ∷ call 5099 (limit 79749) ∷ longer);
      entries =
          over 10098 tick band_c 2 958 true 0
          ∷ over 10099 tick letter_f 0 0 false 2
          ∷ [];
    }

-- fault 2 at 5,000 of it, as without this limit: raised; the same limit once more; lowered by so little that the duty stays
abbrev pub still_latches : ℕ → ℕ → ℕ → Sequence
still_latches before after duty =
    record {
      start = at80_a 0;
      first = overrunning before ++ [];
      entries =
          over 5099 (limit after) band_c 2 duty true 0
          ∷ over 5100 tick letter_f 0 0 false 2
          ∷ [];
    }

abbrev pub slowing_rows : List Sequence
slowing_rows =
    lowered_at4999
    ∷ lowered_at5000
    ∷ lowered_twice
    ∷ still_latches 79999 80000 960
    ∷ still_latches 80000 80000 960
    ∷ still_latches 79999 79750 959
    ∷ []

-- the over-run that is kept after a call at 110, with the last one at 100: controllers that no list leads to
abbrev pub kept_after : ℕ → ℕ → Bool → Moment → Event Levels → Moment
kept_after current wave closed overrun event =
    (lent_after (unreached_by current wave closed no_faults overrun empty 100) (map call_of (call 110 event ∷ []))).state.overrun

abbrev pub RestartRow : Type 0
RestartRow =
    -- any call that lowers the duty restarts it, with the contactor open as well
    (kept_after 80000 960 true (set_to 50) (limit 79999) ≡ set_to 110)
    × (kept_after 79999 960 true (set_to 50) tick ≡ set_to 110)
    × (kept_after 79999 960 true (set_to 50) (driven_at 6000) ≡ set_to 110)
    × (kept_after 79999 960 false (set_to 50) tick ≡ set_to 110)
    -- a measure is judged before, by the wave that it finds: it ends the over-run, or leaves it to restart
    × (kept_after 79999 960 true (set_to 50) (measure (on_line1 88000)) ≡ empty)
    × (kept_after 79999 960 true (set_to 50) (measure (on_line1 88001)) ≡ set_to 110)
    -- none runs, and none starts
    × (kept_after 79999 960 true empty tick ≡ empty)
    -- raised, the same, from steady, and to steady
    × (kept_after 80000 959 true (set_to 50) tick ≡ set_to 50)
    × (kept_after 80000 960 true (set_to 50) tick ≡ set_to 50)
    × (kept_after 80000 1000 true (set_to 50) tick ≡ set_to 50)
    × (kept_after 80000 960 true (set_to 50) (limit 5999) ≡ empty)

-- where the calls up to 5,060 lead: computed once for each limit, and the rest of a row from there
abbrev pub since100 : ℕ → ℕ → Lent
since100 current wave =
    record {
      state = record {
        settings = record { rated = 80000; pause = 10000; ventilation = false; digital = false };
        limit = current;
        grant = 0;
        wave = wave;
        closed = true;
        settled = band_c;
        faults = no_faults;
        last = 5060;
        sound = set_to 5060;
        opening = empty;
        overrun = set_to 100;
        stop = empty;
        previous = record { kept = true; verdict = record { band = band_c; sound = true; proven = true; diodebad = false } };
        lines = on_line1 200000;
      };
      closings = 1;
    }

pub at_960 : lent_on (at80_a 0) (overrunning 80000) ≡ since100 80000 960
unfolding computed
at_960 = refl

at_959 : lent_on (at80_a 0) (overrunning 79999) ≡ since100 79999 959
unfolding computed
at_959 = refl

pub then : (current wave : ℕ) → lent_on (at80_a 0) (overrunning current) ≡ since100 current wave → (rest : List LevelCall) (lent : Lent) → lent_on (since100 current wave) rest ≡ lent
    → lent_on (at80_a 0) (overrunning current ++ rest) ≡ lent
then current wave comes rest lent is = lent_append (at80_a 0) (overrunning current) rest ∙ ap (λ l. lent_on l rest) comes ∙ is

lowered : Tells lowered_at4999 × Tells lowered_at5000 × Tells lowered_twice
unfolding computed
lowered = (
  tells_by lowered_at4999 _ refl refl (then 80000 960 at_960 (call 5099 (limit 79999) ∷ longer) _ refl) refl,
  tells_by lowered_at5000 _ refl refl (then 80000 960 at_960 [] _ refl) refl,
  tells_by lowered_twice _ refl refl (then 80000 960 at_960 (call 5080 (limit 79999) ∷ call 5099 (limit 79749) ∷ longer) _ refl) refl,
)

still_latch : Tells (still_latches 79999 80000 960) × Tells (still_latches 80000 80000 960) × Tells (still_latches 79999 79750 959)
unfolding computed
still_latch = (
  tells_by (still_latches 79999 80000 960) _ refl refl (then 79999 959 at_959 [] _ refl) refl,
  tells_by (still_latches 80000 80000 960) _ refl refl (then 80000 960 at_960 [] _ refl) refl,
  tells_by (still_latches 79999 79750 959) _ refl refl (then 79999 959 at_959 [] _ refl) refl,
)

kept : (current wave : ℕ) (closed : Bool) (overrun : Moment) (event : Event Levels) → is_square event ≡ true
    → kept_after current wave closed overrun event ≡ (computed (unreached_by current wave closed no_faults overrun empty 100) (call 110 event ∷ [])).state.overrun
unfolding computed
kept current wave closed overrun event right =
    ap (λ l. l.state.overrun) (lent_on_lem (unreached_by current wave closed no_faults overrun empty 100) (call 110 event ∷ []) (rw right))

pub restart_row : RestartRow
unfolding computed
restart_row = (
  kept 80000 960 true (set_to 50) (limit 79999) refl,
  kept 79999 960 true (set_to 50) tick refl,
  kept 79999 960 true (set_to 50) (driven_at 6000) refl,
  kept 79999 960 false (set_to 50) tick refl,
  kept 79999 960 true (set_to 50) (measure (on_line1 88000)) refl,
  kept 79999 960 true (set_to 50) (measure (on_line1 88001)) refl,
  kept 79999 960 true empty tick refl,
  kept 80000 959 true (set_to 50) tick refl,
  kept 80000 960 true (set_to 50) tick refl,
  kept 80000 1000 true (set_to 50) tick refl,
  kept 80000 960 true (set_to 50) (limit 5999) refl,
)

pub slowing_rows_lem : AllTell slowing_rows
slowing_rows_lem = (lowered.0, (lowered.1, (lowered.2, (still_latch.0, (still_latch.1, (still_latch.2, tt))))))
