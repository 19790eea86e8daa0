-- The reply (document 01, "The calls"): what is shown of a lent controller, beside the refusal number.
use Rattle.std.specs.Prelude.{Bool, ◌||◌, cond, ℕ, eqb}
use Rattle.pilot.specs.Bands.{band_e}
use Rattle.rules.specs.Altered.{Lent}
use Rattle.rules.specs.Faults.{any_fault, first_of}
use Rattle.rules.specs.Lines.{Lines}
use Rattle.rules.specs.State.{State, is_driven}
use Rattle.rules.specs.Step3Wave.{is_settled}

-- the reply: refusal number (0 if accepted), letter, digit, wave, contactor, fault (0 if none, else the first of those latched), closings, and the current on
-- each line
pub record Reply : Type 0 where
  pub refusal : ℕ
  pub letter : ℕ
  pub digit : ℕ
  pub wave : ℕ
  pub closed : Bool
  pub fault : ℕ
  pub closings : ℕ
  pub lines : Lines

-- F: a fault is latched; letters are in ASCII
abbrev pub letter_f : ℕ
letter_f = 70

-- U: nothing is settled
abbrev pub letter_u : ℕ
letter_u = 85

-- the letter: F under a fault, and U where nothing is settled
unfoldable pub letter : Bool → ℕ → ℕ
letter faulted settled = cond faulted letter_f (cond (is_settled settled) settled letter_u)

-- the letter of a state
abbrev pub letter_of : State → ℕ
letter_of s = letter (any_fault s.faults) s.settled

-- digit: 0 for U, E and F, else 2 with a driven wave and 1 without
unfoldable pub digit : ℕ → Bool → ℕ
digit shown driven = cond (eqb shown letter_u || (eqb shown band_e || eqb shown letter_f)) 0 (cond driven 2 1)

-- the reply to a call: the number, and the rest as the controller has it
abbrev pub shown : ℕ → Lent → Reply
shown number lent =
    record {
      refusal = number;
      letter = letter_of lent.state;
      digit = digit (letter_of lent.state) (is_driven lent.state);
      wave = lent.state.wave;
      closed = lent.state.closed;
      fault = first_of lent.state.faults;
      closings = lent.closings;
      lines = lent.state.lines;
    }
