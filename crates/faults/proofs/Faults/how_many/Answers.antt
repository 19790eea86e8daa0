-- The sum over the places: 1 for each that is not 0, so 5 at most.
use native.Mathlib.Omega.{arith}
use Prim.Native.Nat.{◌<◌}
use Rattle.std.proofs.Common.{rules, tests}
use Rattle.std.specs.List.{sum_by}
use Rattle.std.proofs.lemmas.Iterator.{YieldsList-from_slice, YieldsList-from_map}
use Rattle.std.proofs.lemmas.Iterator.Consumers.{sum_by_from_yields_List, fits_by_from_yields_list}
use Rattle.rules.specs.Faults.{Faults, count_of, how_many}
use Rattle.rules.proofs.Counts.{many_most}
use Rattle.faults.specs.Views.{as_faults, places}
use Rattle.faults.proofs.Faults.how_many.Goals as goal

-- the sum fits a byte
fits : (s : Faults) → sum_by count_of (places s) < 256
unfolding how_many
fits s = omega (arith, many_most s)

pub sum-requires-clause-fits : goal.sum-requires-clause-fits
sum-requires-clause-fits c =
    let all = places (as_faults c.args.self) in
    fits_by_from_yields_list count_of all c.map.result 256 (YieldsList-from_map _ count_of (YieldsList-from_slice all cc) c.map.ensures.closure (λ x r q k. search (rules, tests))) (fits (as_faults c.args.self))

pub returns : goal.returns
unfolding how_many
returns c =
    let all = places (as_faults c.args.self) in
    let counted = sum_by_from_yields_List count_of all c.map.result _ c.sum.ensures.ran (YieldsList-from_map _ count_of (YieldsList-from_slice all cc) c.map.ensures.closure (λ x r q k. search (rules, tests))) in
    omega (arith, counted)
