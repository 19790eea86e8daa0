-- What every state has that some list leads to.
use mathlib.Core.List.{List}
use Rattle.rules.specs.Begin.{Begin}
use Rattle.rules.specs.Calls.{Call}
use Rattle.laws.specs.Reached.{Reached}
use Rattle.laws.proofs.Invariant.{Invariant, invariant_holds, fresh_invariant}
use Rattle.lists.specs.Replay.{replay}
use Rattle.lists.proofs.Kept.{replay_keeps}

pub list_reaches : (begin : Begin) (calls : List Call) → Reached (replay begin calls)
list_reaches begin calls = (replay_keeps Invariant invariant_holds begin calls (fresh_invariant begin)).reached
