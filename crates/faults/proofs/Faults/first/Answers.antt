-- The number of the first place that a search finds is the lowest number whose fault passes.
use mathlib.Core.Bool.{Bool, true, false, cond}
use Prim.Native.Nat.{ℕ, ◌+◌}
use Rattle.std.proofs.Common.{◌≡◌, ◌∙◌, refl, eqb, Option, Some, None, rules, tests}
use Rattle.std.proofs.lemmas.Iterator.{YieldsList-from_slice}
use Rattle.std.proofs.lemmas.Iterator.Search.{position_from_yields_List}
use Rattle.std.proofs.lemmas.Iterator.Adapters.{position_from-zero}
use Rattle.std.specs.List.{position_from}
use Rattle.std.specs.Option.{option_or, option_map_or}
use Rattle.rules.specs.Faults.{Faults, is_place, place_of, lowest_of, lowest, first_of}
use Rattle.faults.specs.Views.{as_faults, places}
use Rattle.faults.proofs.Faults.first.Goals as goal

-- the number of what is found; `other` if nothing is
abbrev number : Option ℕ → ℕ → ℕ
number found other = option_map_or (λ index. index + 1) found other

number_of_first : (test : ℕ → Bool) (f : Faults) (other : ℕ) → number (position_from test 0 (places f)) other ≡ lowest_of (λ fault. test (place_of f fault)) other
number_of_first test f other = by_tests (test f.diode) (test f.overcurrent) (test f.residual) (test f.welded) (test f.temperature)
  where
    by_tests : (one two three four five : Bool) → number (cond one (Some 0) (cond two (Some 1) (cond three (Some 2) (cond four (Some 3) (cond five (Some 4) None))))) other ≡ cond one 1 (cond two 2 (cond three 3 (cond four 4 (cond five 5 other))))
    by_tests true _ _ _ _ = refl
    by_tests false true _ _ _ = refl
    by_tests false false true _ _ = refl
    by_tests false false false true _ = refl
    by_tests false false false false true = refl
    by_tests false false false false false = refl

number_of_either : (found second : Option ℕ) → number (option_or found second) 0 ≡ number found (number second 0)
number_of_either None second = refl
number_of_either (Some index) second = refl

pub returns : goal.returns
unfolding first_of lowest
returns c =
    let f = as_faults c.args.self in
    let is_first : ℕ → Bool = λ place. eqb place 1 in
    let first = position_from_yields_List is_first _ _ c.position-first.result c.position-first.ensures.ran (YieldsList-from_slice (places f) cc) (λ x b q k. search (rules, tests)) ∙ position_from-zero is_first (places f) in
    let lowest = position_from_yields_List is_place _ _ c.position-lowest.result c.position-lowest.ensures.ran (YieldsList-from_slice (places f) cc) (λ x b q k. search (rules, tests)) ∙ position_from-zero is_place (places f) in
    let shown : c.map_or.result ≡ number c.or.result 0 = search (rules, tests) in
    simp (shown, c.or.ensures, first, lowest, number_of_either, number_of_first is_first f, number_of_first is_place f) refl
