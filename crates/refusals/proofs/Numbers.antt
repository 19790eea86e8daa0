-- Every refusal has a number of its own, and none is 0.
use mathlib.Core.Path.{◌≡◌, refl, sym, ◌∙◌, ap}
use mathlib.Core.Bool.{false, cond}
use Prim.Native.Nat.{ℕ}
use lib.Dec.{eqb}
use Rattle.std.specs.Prelude.{Result, Ok, Err}
use Rattle.window.specs.declared.Refused.TheVariants as refused
use Rattle.refusals.specs.Numbers.{number_of, refusal_number}
use Rattle.refusals.specs.declared.refusal.Refusal.{Refusal}
use Rattle.refusals.specs.declared.refusal.Refusal.TheVariants.{Settings, Earlier, Late, Window, Measure, Kind, Grant, Plain, Limit}

pub some_number : (refusal : Refusal) → eqb (number_of refusal) 0 ≡ false
some_number Settings = refl
some_number Earlier = refl
some_number Late = refl
some_number (Window refused.Length) = refl
some_number (Window refused.Range) = refl
some_number (Window refused.Support) = refl
some_number Measure = refl
some_number Kind = refl
some_number Grant = refl
some_number Plain = refl
some_number Limit = refl

-- a number fixes its refusal, and an answer's number the answer: each map has an inverse
refusal_from : ℕ → Refusal
refusal_from n =
    cond (eqb n 1) Settings (cond (eqb n 2) Earlier (cond (eqb n 3) Late
    (cond (eqb n 4) (Window refused.Length) (cond (eqb n 5) (Window refused.Range) (cond (eqb n 6) (Window refused.Support)
    (cond (eqb n 7) Measure (cond (eqb n 8) Kind (cond (eqb n 11) Grant (cond (eqb n 12) Plain Limit)))))))))

number_back : (refusal : Refusal) → refusal_from (number_of refusal) ≡ refusal
unfolding refusal_from
number_back Settings = refl
number_back Earlier = refl
number_back Late = refl
number_back (Window refused.Length) = refl
number_back (Window refused.Range) = refl
number_back (Window refused.Support) = refl
number_back Measure = refl
number_back Kind = refl
number_back Grant = refl
number_back Plain = refl
number_back Limit = refl

answer_from : ℕ → Result (Unit {0}) Refusal
answer_from n = cond (eqb n 0) (Ok tt) (Err (refusal_from n))

answer_back : (r : Result (Unit {0}) Refusal) → answer_from (refusal_number r) ≡ r
unfolding answer_from
answer_back (Ok accepted) = refl
answer_back (Err refusal) = rw (some_number refusal, number_back refusal)

pub number_fixes : (r s : Refusal) → number_of r ≡ number_of s → r ≡ s
number_fixes r s e = sym (number_back r) ∙ ap refusal_from e ∙ number_back s

pub refusal_fixes : (r s : Result (Unit {0}) Refusal) → refusal_number r ≡ refusal_number s → r ≡ s
refusal_fixes r s e = sym (answer_back r) ∙ ap answer_from e ∙ answer_back s
