use Rattle.std.proofs.Common.{◌≡◌, ◌<◌, ◌+◌, drop}
use Rattle.window.specs.Support.{supporters, supported}
use Rattle.window.specs.Evaluation.{supported_levels}
use Rattle.window.specs.Search.{gather}
use Rattle.window.specs.Numbers.{as_found}
use Rattle.window.proofs.search.levels.Given as goal

-- the levels found so far, and what is left of the window, give the window's levels
abbrev pub invariant-loop-reading : goal.invariant-loop-reading
invariant-loop-reading l = gather (supported l.window) (as_found l.found) (drop l.reading-index l.window) ≡ supported_levels l.window

-- the supporters among the readings passed are counted, and are fewer than the level needs
abbrev pub invariant-count : goal.invariant-count
invariant-count l = record {
  same : l.found ≡ l.initial.found;
  few : l.count < l.wanted;
  rest : l.count + supporters l.level.0 (drop l.other-index l.window) ≡ supporters l.level.0 l.window;
}
