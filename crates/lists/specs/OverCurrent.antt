-- When fault 2 comes in a list (document 01, steps 1 and 2; document 02, c, and e for a digital post's bound): exactly with a call that finds the van
-- over its bound for 5,000 or longer, and that comes 5,000 or longer after every lowered duty. Proved in proofs/OverCurrent.antt.
use Rattle.std.specs.Prelude.{◌≡◌, true, List, ◌↔◌, ℕ, suc, ◌+◌, ◌*◌, ◌≤◌, ◌<◌, length}
use Rattle.rules.specs.Begin.{Begin}
use Rattle.rules.specs.Calls.{Call}
use Rattle.rules.specs.Faults.{overcurrent}
use Rattle.rules.specs.Lines.{Lines, largest}
use Rattle.rules.specs.Refusals.{is_accepted}
use Rattle.rules.specs.State.{is_driven}
use Rattle.rules.specs.Step1Event.{allowed_current}
use Rattle.lists.specs.FirstFault.{Latches}
use Rattle.lists.specs.LastMeasured.{Measures}
use Rattle.lists.specs.Traces.{before, call_at}

module _ (begin : Begin) (calls : List Call) where
  -- call k latches fault 2
  abbrev pub LatchesTwo : ℕ → Type 0
  LatchesTwo k = Latches begin calls overcurrent k

  -- call k is a measure that is judged: accepted, and made with the contactor closed and the wave driven
  pub record Judged (k : ℕ) (lines : Lines) : Type 0 where
    pub measures : Measures begin calls k lines
    pub closed : (before begin calls k).closed ≡ true
    pub driven_wave : is_driven (before begin calls k) ≡ true

  -- it is over its bound: its largest current is more than a tenth above what is allowed
  abbrev pub Over : ℕ → Type 0
  Over k = (lines : Lines) × Judged k lines × (11 * allowed_current (before begin calls k) < 10 * largest lines)

  -- it is within its bound
  abbrev pub Within : ℕ → Type 0
  Within k = (lines : Lines) × Judged k lines × (10 * largest lines ≤ 11 * allowed_current (before begin calls k))

  -- call k is accepted and lowers a driven duty to another driven one
  pub record Lowers (k : ℕ) : Type 0 where
    pub below : k < length calls
    pub accepted : is_accepted (before begin calls k) (call_at begin calls k) ≡ true
    pub was_driven : is_driven (before begin calls k) ≡ true
    pub still_driven : is_driven (before begin calls (suc k)) ≡ true
    pub lower : (before begin calls (suc k)).wave < (before begin calls k).wave

  -- call k finds the van over its bound for too long
  pub record OverTooLong (k : ℕ) : Type 0 where
    pub below : k < length calls
    pub accepted : is_accepted (before begin calls k) (call_at begin calls k) ≡ true
    -- a measure at least 5,000 before it was over its bound, and since then none was within its bound
    pub start : ℕ
    pub earlier : start < k
    pub over : Over start
    pub long_ago : (call_at begin calls start).time + 5000 ≤ (call_at begin calls k).time
    pub none_within : (i : ℕ) → start < i → i ≤ k → Within i → ⊥
    -- since then the contactor has been closed, and the wave driven
    pub closed_since : (i : ℕ) → start < i → i ≤ k → (before begin calls i).closed ≡ true
    pub driven_since : (i : ℕ) → start < i → i ≤ k → is_driven (before begin calls i) ≡ true
    -- no call lowered the duty less than 5,000 before it
    pub none_lowered : (i : ℕ) → i ≤ k → (call_at begin calls k).time < (call_at begin calls i).time + 5000 → Lowers i → ⊥

  -- fault 2 comes with that call and with no other
  abbrev pub OverCurrentExactly : Type 0
  OverCurrentExactly = (k : ℕ) → LatchesTwo k ↔ OverTooLong k

  -- a digital post has one driven duty and lowers none, so there no over-run restarts (document 02, c and e)
  abbrev pub DigitalLowersNone : Type 0
  DigitalLowersNone = begin.digital ≡ true → (k : ℕ) → Lowers k → ⊥
