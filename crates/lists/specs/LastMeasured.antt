-- The currents that a reply shows (document 02, b): the three of the last accepted measure before it, 0 if there was none. Proved in
-- proofs/LastMeasured.antt.
use Rattle.std.specs.Prelude.{◌≡◌, true, List, ℕ, ◌<◌, length, get_or}
use Rattle.rules.specs.Begin.{Begin}
use Rattle.rules.specs.Calls.{Call, measure}
use Rattle.rules.specs.Lines.{Lines, no_currents}
use Rattle.rules.specs.Refusals.{is_accepted}
use Rattle.lists.specs.LastSet.{LastSet}
use Rattle.lists.specs.Traces.{no_call, before, call_at}

module _ (begin : Begin) (calls : List Call) where
  -- call k is a measure of these currents, and accepted
  pub record Measures (k : ℕ) (lines : Lines) : Type 0 where
    pub below : k < length calls
    pub brings : (get_or calls k no_call).event ≡ measure lines
    pub accepted : is_accepted (before begin calls k) (call_at begin calls k) ≡ true

  -- these are the currents of the last accepted measure before call k; with none so far, 0 on each line
  abbrev pub LastMeasured : ℕ → Lines → Type 0
  LastMeasured k lines = LastSet Measures no_currents k lines
