-- Which fault came first (document 02, f).
use mathlib.Core.Path.{◌≡◌, refl, ◌∙◌, ap}
use mathlib.Core.Bool.{true, false}
use mathlib.Core.List.{List, [], ◌∷◌, ◌++◌, map}
use Prim.Native.Nat.{ℕ}
use Rattle.rules.specs.Answer.{lent_after}
use Rattle.rules.specs.Calls.{Event, fault, clear, tick}
use Rattle.rules.specs.Faults.{Faults}
use Rattle.rules.specs.Altered.{Lent}
use Rattle.rules.specs.Reply.{letter_f, letter_u}
use Rattle.rules.specs.State.{empty, set_to}
use Rattle.rules.proofs.Rows.Sequences.{Levels, LevelCall, Entry, Sequence, steady_at, call_of, call, row, at80_a, all_square, Tells, AllTell, lent_on, lent_on_lem, tells_by, computed}
use Rattle.rules.proofs.Rows.SlowingRows.{overrunning, over, at_960, then}
use Rattle.rules.proofs.Rows.StateRows.{unreached_by}

-- a call under a fault, which shows this one
abbrev under : ℕ → Event Levels → ℕ → Entry
under time event kind = row time event 0 letter_f 0 0 false kind 0

-- a clear that leaves no fault
abbrev cleared : ℕ → Entry
cleared time = row time clear 0 letter_u 0 1000 false 0 0

-- residual current and then a second fault behind it; the lower number is not shown for being lower, nor the later one for being later
abbrev pub residual_first : Sequence
residual_first =
    record {
      start = at80_a 0;
      first = [];
      entries =
          under 10 (fault 3) 3
          ∷ under 20 (fault 4) 3
          ∷ under 30 tick 3
          ∷ cleared 40
          ∷ under 50 (fault 5) 5
          ∷ under 60 (fault 3) 5
          ∷ under 70 (fault 4) 5
          ∷ [];
    }

-- welded, residual, welded again: it keeps its place. Refused calls change nothing, and show the first. A clear, and the order afresh
abbrev pub told_again : Sequence
told_again =
    record {
      start = at80_a 0;
      first = [];
      entries =
          under 10 (fault 4) 4
          ∷ under 20 (fault 3) 4
          ∷ under 30 (fault 4) 4
          ∷ under 40 (fault 3) 4
          ∷ row 40 (fault 6) 8 letter_f 0 0 false 4 0
          ∷ row 39 (fault 5) 2 letter_f 0 0 false 4 0
          ∷ cleared 50
          ∷ under 60 (fault 3) 3
          ∷ under 70 (fault 4) 3
          ∷ cleared 80
          ∷ [];
    }

-- an over-run of 5,000 latches 2 in a fault call: the call's own fault comes first, a third behind both
abbrev pub own_before_two : Sequence
own_before_two =
    record {
      start = at80_a 0;
      first = overrunning 80000 ++ [];
      entries =
          over 5100 (fault 3) letter_f 0 0 false 3
          ∷ over 5110 tick letter_f 0 0 false 3
          ∷ over 5120 (fault 4) letter_f 0 0 false 3
          ∷ over 5130 clear letter_u 0 1000 false 0
          ∷ [];
    }

-- a missing diode and over-current in one call: 1 comes first
abbrev pub one_before_two : Sequence
one_before_two =
    record {
      start = at80_a 0;
      first = overrunning 80000 ++ (call 5080 (steady_at 6000) ∷ []);
      entries =
          over 5100 (steady_at 6000) letter_f 0 0 false 1
          ∷ over 5110 (fault 3) letter_f 0 0 false 1
          ∷ over 5120 clear letter_u 0 1000 false 0
          ∷ [];
    }

-- a clear as that call: 2 latches in its step 2, and is first
abbrev pub clear_before_two : Sequence
clear_before_two =
    record {
      start = at80_a 0;
      first = overrunning 80000 ++ [];
      entries =
          over 5100 clear letter_f 0 0 false 2
          ∷ over 5110 (fault 3) letter_f 0 0 false 2
          ∷ over 5120 clear letter_u 0 1000 false 0
          ∷ over 5130 (fault 3) letter_f 0 0 false 3
          ∷ [];
    }

abbrev pub fault_rows : List Sequence
fault_rows = residual_first ∷ told_again ∷ own_before_two ∷ one_before_two ∷ clear_before_two ∷ []

-- the places: of no diode, over-current, residual current, welded contact and over-temperature
abbrev pub order : ℕ → ℕ → ℕ → ℕ → ℕ → Faults
order one two three four five = record { diode = one; overcurrent = two; residual = three; welded = four; temperature = five }

-- the order after calls
abbrev pub order_after : Lent → List LevelCall → Faults
order_after start calls = (lent_after start (map call_of calls)).state.faults

-- calls with further faults behind the first
abbrev pub three_calls : List LevelCall
three_calls = call 10 (fault 4) ∷ call 20 (fault 3) ∷ call 30 (fault 4) ∷ call 40 (fault 5) ∷ []

abbrev pub behind_own : List LevelCall
behind_own = call 5100 (fault 3) ∷ call 5110 (fault 5) ∷ []

abbrev pub behind_one : List LevelCall
behind_one = call 5080 (steady_at 6000) ∷ call 5100 (steady_at 6000) ∷ call 5110 (fault 4) ∷ []

abbrev pub behind_clear : List LevelCall
behind_clear = call 5100 clear ∷ call 5110 (fault 5) ∷ []

-- what the replies do not show: the places behind the first
abbrev pub OrderRow : Type 0
OrderRow =
    (order_after (at80_a 0) three_calls ≡ order 0 0 2 1 3)
    × (order_after (at80_a 0) (overrunning 80000 ++ behind_own) ≡ order 0 2 1 0 3)
    × (order_after (at80_a 0) (overrunning 80000 ++ behind_one) ≡ order 1 2 0 3 0)
    × (order_after (at80_a 0) (overrunning 80000 ++ behind_clear) ≡ order 0 1 0 0 2)

-- controllers that no list leads to, with these places, closed, and an over-run that began at this time
abbrev unreached : Faults → ℕ → Lent
unreached faults began = unreached_by 80000 960 true faults (set_to began) empty 5100

-- residual current, and over-current behind it; residual current told again
abbrev pub latches_behind : Sequence
latches_behind =
    record {
      start = unreached (order 0 0 1 0 0) 100;
      first = [];
      entries = row 5100 tick 0 letter_f 0 0 false 3 7 ∷ row 5110 (fault 3) 0 letter_f 0 0 false 3 7 ∷ [];
    }

-- places that are no order: some latched fault is shown, here the lowest
abbrev pub no_first : Sequence
no_first =
    record {
      start = unreached (order 0 0 0 9 2) 5000;
      first = [];
      entries = row 5100 tick 0 letter_f 0 0 false 4 7 ∷ row 5110 (fault 3) 0 letter_f 0 0 false 3 7 ∷ row 5120 clear 0 letter_u 0 1000 false 0 7 ∷ [];
    }

-- a clear that finds a fault and latches 2: step 1 has emptied the order, and 2 is first
abbrev pub clears_and_latches : Sequence
clears_and_latches = record { start = unreached (order 0 0 1 0 0) 100; first = []; entries = row 5100 clear 0 letter_f 0 0 false 2 7 ∷ [] }

-- the tick latches 2 behind residual current, the clear in the place of it
abbrev pub BehindRow : Type 0
BehindRow =
    (order_after (unreached (order 0 0 1 0 0) 100) (call 5100 tick ∷ []) ≡ order 0 2 1 0 0)
    × (order_after (unreached (order 0 0 1 0 0) 100) (call 5100 clear ∷ []) ≡ order 0 1 0 0 0)

abbrev pub unreached_rows : List Sequence
unreached_rows = latches_behind ∷ no_first ∷ clears_and_latches ∷ []

by_calls : Tells residual_first × Tells told_again
unfolding computed
by_calls = (tells_by residual_first _ refl refl refl refl, tells_by told_again _ refl refl refl refl)

with_two : Tells own_before_two × Tells one_before_two × Tells clear_before_two
unfolding computed
with_two = (
  tells_by own_before_two _ refl refl (then 80000 960 at_960 [] _ refl) refl,
  tells_by one_before_two _ refl refl (then 80000 960 at_960 (call 5080 (steady_at 6000) ∷ []) _ refl) refl,
  tells_by clear_before_two _ refl refl (then 80000 960 at_960 [] _ refl) refl,
)

pub fault_rows_lem : AllTell fault_rows
fault_rows_lem = (by_calls.0, (by_calls.1, (with_two.0, (with_two.1, (with_two.2, tt)))))

-- the order after calls, computed on levels
order_by : (start : Lent) (calls : List LevelCall) (lent : Lent) → all_square calls ≡ true → lent_on start calls ≡ lent → order_after start calls ≡ lent.state.faults
order_by start calls lent right comes = ap (λ l. l.state.faults) (lent_on_lem start calls right ∙ comes)

pub order_row : OrderRow
unfolding computed
order_row = (
  order_by (at80_a 0) three_calls _ refl refl,
  order_by (at80_a 0) (overrunning 80000 ++ behind_own) _ refl (then 80000 960 at_960 behind_own _ refl),
  order_by (at80_a 0) (overrunning 80000 ++ behind_one) _ refl (then 80000 960 at_960 behind_one _ refl),
  order_by (at80_a 0) (overrunning 80000 ++ behind_clear) _ refl (then 80000 960 at_960 behind_clear _ refl),
)

pub unreached_rows_lem : AllTell unreached_rows
unfolding computed
unreached_rows_lem = (
  tells_by latches_behind _ refl refl refl refl,
  (tells_by no_first _ refl refl refl refl, (tells_by clears_and_latches _ refl refl refl refl, tt)),
)

pub behind_row : BehindRow
unfolding computed
behind_row = (
  order_by (unreached (order 0 0 1 0 0) 100) (call 5100 tick ∷ []) _ refl refl,
  order_by (unreached (order 0 0 1 0 0) 100) (call 5100 clear ∷ []) _ refl refl,
)
