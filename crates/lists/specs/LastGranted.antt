-- The grant that is kept (document 02, e): that of the last accepted link call, unless A was settled after its step 1 or in an accepted call since.
-- Proved in proofs/LastGranted.antt.
use Rattle.std.specs.Prelude.{◌≡◌, List, ℕ, get_or}
use Rattle.pilot.specs.Bands.{band_a}
use Rattle.rules.specs.Accepted.{settled_at}
use Rattle.rules.specs.Begin.{Begin}
use Rattle.rules.specs.Calls.{Call, link}
use Rattle.lists.specs.LastSet.{LastSet}
use Rattle.lists.specs.Traces.{no_call, before, call_at, Accepts}

module _ (begin : Begin) (calls : List Call) where
  -- A is settled after step 1 of call k
  abbrev pub InA : ℕ → Type 0
  InA k = settled_at (before begin calls k) (call_at begin calls k) ≡ band_a

  -- call k sets the grant: to 0 with A settled after its step 1, also if it is a link call; else a link call to what it grants
  pub data SetsGrant (k : ℕ) (grant : ℕ) : Type 0 where
    in_a : Accepts begin calls k → InA k → grant ≡ 0 → SetsGrant k grant
    by_link : Accepts begin calls k → (InA k → ⊥) → (get_or calls k no_call).event ≡ link grant → SetsGrant k grant

  -- this is what the last such call before call k set it to; with none so far, 0
  abbrev pub LastGranted : ℕ → ℕ → Type 0
  LastGranted k grant = LastSet SetsGrant 0 k grant
