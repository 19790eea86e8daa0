-- When each refusal number comes, exactly.
use mathlib.Core.Path.{◌≡◌, refl, sym, ◌∙◌, ap, subst}
use mathlib.Core.Bool.{Bool, true, false, ◌&&◌, cond}
use mathlib.Core.List.{List}
use mathlib.Core.Logic.{◌↔◌, ◌⊎◌, inl, inr}
use Prim.Native.Nat.{ℕ, ◌≤◌, ◌<◌}
use native.Mathlib.Omega.{arith}
use lib.Dec.{leb, ltb}
use lib.IntN.{ℤ}
use borrow.Author.Tests.{ltb-true, ltb-false, leb-false, lt-leb}
use Rattle.units.specs.Range.{from_to, Outside}
use Rattle.units.proofs.Booleans.{clash}
use Rattle.units.proofs.FromTo.{outside_exactly}
use Rattle.window.specs.Evaluation.{Evaluation, levels, refused, evaluate}
use Rattle.window.proofs.Laws.{refused_exactly}
use Rattle.rules.specs.Altered.{Lent, altered, lent_refusal}
use Rattle.rules.specs.Begin.{largest_time}
use Rattle.rules.specs.Calls.{Event, Call, sample, limit, measure, link, fault, clear, tick, evaluated, evaluated_call}
use Rattle.rules.specs.Lines.{Lines, line_allowed, lines_allowed}
use Rattle.rules.specs.Refusals.{or_else, time_refusal, window_refusal, kind_allowed, limit_allowed, grant_allowed, link_refusal, argument_refusal}
use Rattle.laws.specs.RefusedExactly.{Altered, OnTime, ArgumentsAsked, AnyLineAbove, WrongFor, MeasureAbove, measured, LimitAbove, limited, RefusedBy}
use Rattle.laws.proofs.AlteredExactly.{altered_exactly}

-- the tests in their order
abbrev first : Bool → Bool → Bool → ℕ → ℕ
first late early changed number = or_else (cond late 3 (cond early 2 0)) (or_else (cond changed 1 0) number)

pub data Way (lent : Lent) (call : Call) : Type 0 where
  late : lent_refusal lent (evaluated_call call) ≡ 3 → largest_time < call.time → Way lent call
  early : lent_refusal lent (evaluated_call call) ≡ 2 → call.time ≤ largest_time → call.time < lent.state.last → Way lent call
  changed : lent_refusal lent (evaluated_call call) ≡ 1 → OnTime lent call → Altered lent → Way lent call
  judged : lent_refusal lent (evaluated_call call) ≡ argument_refusal lent.state.settings.digital (evaluated call.event) → ArgumentsAsked lent call → Way lent call

way : (lent : Lent) (call : Call) → Way lent call
unfolding lent_refusal time_refusal
way lent call = go (ltb largest_time call.time) (ltb call.time lent.state.last) (altered lent) refl refl refl
  where
    is : (a b c : Bool) → ltb largest_time call.time ≡ a → ltb call.time lent.state.last ≡ b → altered lent ≡ c
        → lent_refusal lent (evaluated_call call) ≡ first a b c (argument_refusal lent.state.settings.digital (evaluated call.event))
    is a b c p q r = rw (p, q, r)

    go : (a b c : Bool) → ltb largest_time call.time ≡ a → ltb call.time lent.state.last ≡ b → altered lent ≡ c → Way lent call
    go true b c p q r = late (is true b c p q r) (ltb-true largest_time call.time p)
    go false true c p q r =
        early (is false true c p q r) (ltb-false largest_time call.time p) (ltb-true call.time lent.state.last q)
    go false false c p q r = by c r (ltb-false largest_time call.time p, ltb-false call.time lent.state.last q)
      where
        by : (c : Bool) → altered lent ≡ c → OnTime lent call → Way lent call
        by true r on_time = changed (is false false true p q r) on_time ((altered_exactly lent).0 r)
        by false r on_time = judged (is false false false p q r) (on_time, λ known. clash ((altered_exactly lent).1 known) r)

-- a test that refuses by a number where it fails, and what it means that it fails
refused_if : (test : Bool) (number n : ℕ) (Wrong : Type 0) → (test ≡ false) ↔ Wrong → 4 ≤ n → (cond test 0 number ≡ n) ↔ ((n ≡ number) × Wrong)
refused_if true number n Wrong means big = (λ e. absurd (omega arith), λ e. clash refl (means.1 e.1))
refused_if false number n Wrong means big = (λ e. (sym e, means.0 refl), λ e. sym e.0)

above_exactly : (current most : ℕ) → (leb current most ≡ false) ↔ (most < current)
above_exactly current most = (leb-false current most, lt-leb current most)

-- one of two tests fails
not_both : (a b : Bool) (P Q : Type 0) → (a ≡ false) ↔ P → (b ≡ false) ↔ Q → (a && b ≡ false) ↔ (P ⊎ Q)
not_both true true P Q p q = (λ e. clash refl e, λ known. none known)
  where
    none : P ⊎ Q → true ≡ false
    none (inl known) = p.1 known
    none (inr known) = q.1 known
not_both true false P Q p q = (λ e. inr (q.0 refl), λ known. refl)
not_both false b P Q p q = (λ e. inl (p.0 refl), λ known. refl)

any_line_exactly : (lines : Lines) → (lines_allowed lines ≡ false) ↔ AnyLineAbove lines
unfolding lines_allowed line_allowed
any_line_exactly lines =
    not_both (leb lines.line1 200000) _ (200000 < lines.line1) _ (above_exactly lines.line1 200000)
    (not_both (leb lines.line2 200000) (leb lines.line3 200000) (200000 < lines.line2) (200000 < lines.line3) (above_exactly lines.line2 200000) (above_exactly lines.line3 200000))

refused_with : (w : Evaluation) (n : ℕ) → 4 ≤ n → (window_refusal w ≡ n) ↔ (w ≡ refused n)
refused_with (levels high low) n big = (λ e. absurd (omega arith), λ e. ap window_refusal e)
refused_with (refused number) n big = (λ e. ap refused e, λ e. ap window_refusal e)

-- a link call's refusal: 12 in a plain post, and 11 for a grant above 80,000 in a digital one
link_exactly : (digital : Bool) (granted n : ℕ) → 4 ≤ n
    → (link_refusal digital granted ≡ n) ↔ (((n ≡ 12) × (digital ≡ false)) ⊎ ((n ≡ 11) × (digital ≡ true) × (80000 < granted)))
unfolding link_refusal grant_allowed
link_exactly true granted n big = (λ e. inr (to (test.0 e)), λ wrong. test.1 (from wrong))
  where
    test : (cond (leb granted 80000) 0 11 ≡ n) ↔ ((n ≡ 11) × (80000 < granted))
    test = refused_if (leb granted 80000) 11 n (80000 < granted) (above_exactly granted 80000) big

    to : (n ≡ 11) × (80000 < granted) → (n ≡ 11) × (true ≡ true) × (80000 < granted)
    to known = (known.0, refl, known.1)

    from : ((n ≡ 12) × (true ≡ false)) ⊎ ((n ≡ 11) × (true ≡ true) × (80000 < granted)) → (n ≡ 11) × (80000 < granted)
    from (inl (is, plain)) = clash refl plain
    from (inr (is, digital, above)) = (is, above)
link_exactly false granted n big = (λ e. inl (sym e, refl), λ wrong. from wrong)
  where
    from : ((n ≡ 12) × (false ≡ false)) ⊎ ((n ≡ 11) × (false ≡ true) × (80000 < granted)) → 12 ≡ n
    from (inl (is, plain)) = sym is
    from (inr (is, digital, above)) = clash digital refl

-- the arguments' refusal, number by number
arguments : (digital : Bool) (event : Event (List ℤ)) (n : ℕ) → 4 ≤ n → (argument_refusal digital (evaluated event) ≡ n) ↔ WrongFor n digital event
unfolding evaluated argument_refusal limit_allowed kind_allowed
arguments digital (sample window) n big = (
  λ e. (refused_exactly window n).0 ((refused_with (evaluate window) n big).0 e),
  λ wrong. (refused_with (evaluate window) n big).1 ((refused_exactly window n).1 wrong),
)
arguments digital (limit current) n big = refused_if (leb current 80000) 13 n (80000 < current) (above_exactly current 80000) big
arguments digital (measure lines) n big = refused_if (lines_allowed lines) 7 n (AnyLineAbove lines) (any_line_exactly lines) big
arguments digital (link granted) n big = link_exactly digital granted n big
arguments digital (fault kind) n big = refused_if (from_to 3 5 kind) 8 n (Outside 3 5 kind) (outside_exactly 3 5 kind) big
arguments digital clear n big = (λ e. absurd (omega arith), λ e. absurd e)
arguments digital tick n big = (λ e. absurd (omega arith), λ e. absurd e)

-- up to 8, or 11 to 13
abbrev Few : ℕ → Type 0
Few n = (n ≤ 8) ⊎ ((11 ≤ n) × (n ≤ 13))

at_most : (n : ℕ) → Few n → n ≤ 13
at_most n (inl small) = omega arith
at_most n (inr (from, to)) = to

skips : (n : ℕ) → Few n → 9 ≤ n → 11 ≤ n
skips n (inl small) above = absurd (omega arith)
skips n (inr (from, to)) above = from

-- it is 0 or one of 4 to 8 and 11 to 13
abbrev Numbered : ℕ → Type 0
Numbered n = (4 ≤ n) × Few n

abbrev Known : ℕ → Type 0
Known n = (n ≡ 0) ⊎ Numbered n

known_if : (b : Bool) (number : ℕ) → Numbered number → Known (cond b 0 number)
known_if true number numbered = inl refl
known_if false number numbered = inr numbered

wrong_number : (digital : Bool) (event : Event (List ℤ)) (n : ℕ) → WrongFor n digital event → Numbered n
wrong_number digital (sample window) n (inl (is, out)) = (omega arith, inl (omega arith))
wrong_number digital (sample window) n (inr (inl (is, one))) = (omega arith, inl (omega arith))
wrong_number digital (sample window) n (inr (inr (is, none))) = (omega arith, inl (omega arith))
wrong_number digital (limit current) n (is, above) = (omega arith, inr (omega arith, omega arith))
wrong_number digital (measure lines) n (is, above) = (omega arith, inl (omega arith))
wrong_number digital (link granted) n (inl (is, plain)) = (omega arith, inr (omega arith, omega arith))
wrong_number digital (link granted) n (inr (is, marked, above)) = (omega arith, inr (omega arith, omega arith))
wrong_number digital (fault kind) n (is, out) = (omega arith, inl (omega arith))
wrong_number digital clear n none = absurd none
wrong_number digital tick n none = absurd none

window_number : (window : List ℤ) (w : Evaluation) → evaluate window ≡ w → Known (window_refusal w)
window_number window (levels high low) e = inl refl
window_number window (refused number) e = inr (wrong_number true (sample window) number ((refused_exactly window number).0 e))

argument_number : (digital : Bool) (event : Event (List ℤ)) → Known (argument_refusal digital (evaluated event))
unfolding evaluated argument_refusal link_refusal
argument_number digital (sample window) = window_number window (evaluate window) refl
argument_number digital (limit current) = known_if (limit_allowed current) 13 (omega arith, inr (omega arith, omega arith))
argument_number digital (measure lines) = known_if (lines_allowed lines) 7 (omega arith, inl (omega arith))
argument_number true (link granted) = known_if (grant_allowed granted) 11 (omega arith, inr (omega arith, omega arith))
argument_number false (link granted) = inr (omega arith, inr (omega arith, omega arith))
argument_number digital (fault kind) = known_if (kind_allowed kind) 8 (omega arith, inl (omega arith))
argument_number digital clear = inl refl
argument_number digital tick = inl refl

-- 7 is a measure's and 13 a limit's: no other call is wrong by these numbers
told : (digital : Bool) (event : Event (List ℤ)) (n : ℕ) → WrongFor n digital event → (n ≡ 7 → MeasureAbove event) × (n ≡ 13 → LimitAbove event)
told digital (sample window) n (inl (is, out)) = (λ e. absurd (omega arith), λ e. absurd (omega arith))
told digital (sample window) n (inr (inl (is, one))) = (λ e. absurd (omega arith), λ e. absurd (omega arith))
told digital (sample window) n (inr (inr (is, none))) = (λ e. absurd (omega arith), λ e. absurd (omega arith))
told digital (limit current) n (is, above) = (λ e. absurd (omega arith), λ e. limited current refl (omega arith))
told digital (measure lines) n (is, above) = (λ e. measured lines refl above, λ e. absurd (omega arith))
told digital (link granted) n (inl (is, plain)) = (λ e. absurd (omega arith), λ e. absurd (omega arith))
told digital (link granted) n (inr (is, marked, above)) = (λ e. absurd (omega arith), λ e. absurd (omega arith))
told digital (fault kind) n (is, out) = (λ e. absurd (omega arith), λ e. absurd (omega arith))
told digital clear n none = absurd none
told digital tick n none = absurd none

seven_for : (digital : Bool) (event : Event (List ℤ)) → WrongFor 7 digital event ↔ MeasureAbove event
seven_for digital event = (λ wrong. (told digital event 7 wrong).0 refl, from)
  where
    from : MeasureAbove event → WrongFor 7 digital event
    from (measured lines is above) = subst (WrongFor 7 digital) (sym is) (refl, above)

thirteen_for : (digital : Bool) (event : Event (List ℤ)) → WrongFor 13 digital event ↔ LimitAbove event
thirteen_for digital event = (λ wrong. (told digital event 13 wrong).1 refl, from)
  where
    from : LimitAbove event → WrongFor 13 digital event
    from (limited current is above) = subst (WrongFor 13 digital) (sym is) (refl, omega arith)

module _ (lent : Lent) (call : Call) where
  -- a number from 1 to 3 is not that of the arguments
  not_judged : {X : Type 0} (n : ℕ) → 1 ≤ n → n ≤ 3 → lent_refusal lent (evaluated_call call) ≡ n
      → lent_refusal lent (evaluated_call call) ≡ argument_refusal lent.state.settings.digital (evaluated call.event) → X
  not_judged {X} n some few is same = go (argument_number lent.state.settings.digital call.event)
    where
      go : Known (argument_refusal lent.state.settings.digital (evaluated call.event)) → X
      go (inl none) = absurd (omega arith)
      go (inr big) = absurd (omega (arith, big.0))

  pub refused_by : RefusedBy lent call (lent_refusal lent (evaluated_call call))
  refused_by =
      record {
        three = (λ e. three (way lent call) e, λ h. three_back (way lent call) h);
        two = (λ e. two (way lent call) e, λ h. two_back (way lent call) h);
        one = (λ e. one (way lent call) e, λ h. one_back (way lent call) h);
        later = λ n big. (λ e. later n big (way lent call) e, λ h. later_back n big (way lent call) h);
        seven = through 7 (omega arith) (seven_for lent.state.settings.digital call.event);
        thirteen = through 13 (omega arith) (thirteen_for lent.state.settings.digital call.event);
        none = (λ e. none (way lent call) e, λ h. none_back (way lent call) (argument_number lent.state.settings.digital call.event) h);
        no_other = (
          omega (arith, at_most (lent_refusal lent (evaluated_call call)) range),
          λ e. absurd (omega (arith, skips (lent_refusal lent (evaluated_call call)) range (omega arith))),
          λ e. absurd (omega (arith, skips (lent_refusal lent (evaluated_call call)) range (omega arith))),
        );
      }
    where
      three : Way lent call → lent_refusal lent (evaluated_call call) ≡ 3 → largest_time < call.time
      three (late is h) e = h
      three (early is h k) e = absurd (omega arith)
      three (changed is h k) e = absurd (omega arith)
      three (judged is h) e = not_judged 3 (omega arith) (omega arith) e is

      three_back : Way lent call → largest_time < call.time → lent_refusal lent (evaluated_call call) ≡ 3
      three_back (late is h) after = is
      three_back (early is h k) after = absurd (omega arith)
      three_back (changed is h k) after = absurd (omega arith)
      three_back (judged is h) after = absurd (omega (arith, h.0))

      two : Way lent call → lent_refusal lent (evaluated_call call) ≡ 2 → (call.time ≤ largest_time) × (call.time < lent.state.last)
      two (late is h) e = absurd (omega arith)
      two (early is h k) e = (h, k)
      two (changed is h k) e = absurd (omega arith)
      two (judged is h) e = not_judged 2 (omega arith) (omega arith) e is

      two_back : Way lent call → (call.time ≤ largest_time) × (call.time < lent.state.last) → lent_refusal lent (evaluated_call call) ≡ 2
      two_back (late is h) before = absurd (omega arith)
      two_back (early is h k) before = is
      two_back (changed is h k) before = absurd (omega arith)
      two_back (judged is h) before = absurd (omega (arith, h.0))

      one : Way lent call → lent_refusal lent (evaluated_call call) ≡ 1 → OnTime lent call × Altered lent
      one (late is h) e = absurd (omega arith)
      one (early is h k) e = absurd (omega arith)
      one (changed is h k) e = (h, k)
      one (judged is h) e = not_judged 1 (omega arith) (omega arith) e is

      one_back : Way lent call → OnTime lent call × Altered lent → lent_refusal lent (evaluated_call call) ≡ 1
      one_back (late is h) both = absurd (omega (arith, both.0))
      one_back (early is h k) both = absurd (omega (arith, both.0))
      one_back (changed is h k) both = is
      one_back (judged is h) both = absurd (h.1 both.1)

      later : (n : ℕ) → 4 ≤ n → Way lent call → lent_refusal lent (evaluated_call call) ≡ n → ArgumentsAsked lent call × WrongFor n lent.state.settings.digital call.event
      later n big (late is h) e = absurd (omega arith)
      later n big (early is h k) e = absurd (omega arith)
      later n big (changed is h k) e = absurd (omega arith)
      later n big (judged is h) e = (h, (arguments lent.state.settings.digital call.event n big).0 (sym is ∙ e))

      later_back : (n : ℕ) → 4 ≤ n → Way lent call → ArgumentsAsked lent call × WrongFor n lent.state.settings.digital call.event → lent_refusal lent (evaluated_call call) ≡ n
      later_back n big (late is h) all = absurd (omega (arith, all.0.0))
      later_back n big (early is h k) all = absurd (omega (arith, all.0.0))
      later_back n big (changed is h k) all = absurd (all.0.1 k)
      later_back n big (judged is h) all = is ∙ (arguments lent.state.settings.digital call.event n big).1 all.1

      -- what else one number's condition means
      through : {X : Type 0} (n : ℕ) → 4 ≤ n → WrongFor n lent.state.settings.digital call.event ↔ X
          → (lent_refusal lent (evaluated_call call) ≡ n) ↔ (ArgumentsAsked lent call × X)
      through n big means = (
        λ e. let both = later n big (way lent call) e in (both.0, means.0 both.1),
        λ both. later_back n big (way lent call) (both.0, means.1 both.1),
      )

      none : Way lent call → lent_refusal lent (evaluated_call call) ≡ 0 → ArgumentsAsked lent call × ((n : ℕ) → WrongFor n lent.state.settings.digital call.event → ⊥)
      none (late is h) e = absurd (omega arith)
      none (early is h k) e = absurd (omega arith)
      none (changed is h k) e = absurd (omega arith)
      none (judged is h) e = (
        h,
        λ n wrong.
            let big = (wrong_number lent.state.settings.digital call.event n wrong).0 in
            let same = (arguments lent.state.settings.digital call.event n big).1 wrong in
            absurd (omega arith),
      )

      none_back : Way lent call → Known (argument_refusal lent.state.settings.digital (evaluated call.event)) → ArgumentsAsked lent call × ((n : ℕ) → WrongFor n lent.state.settings.digital call.event → ⊥)
          → lent_refusal lent (evaluated_call call) ≡ 0
      none_back (late is h) number all = absurd (omega (arith, all.0.0))
      none_back (early is h k) number all = absurd (omega (arith, all.0.0))
      none_back (changed is h k) number all = absurd (all.0.1 k)
      none_back (judged is h) (inl zero) all = is ∙ zero
      none_back (judged is h) (inr big) all = absurd (all.1 _ ((arguments lent.state.settings.digital call.event _ big.0).0 refl))

      few : Way lent call → Known (argument_refusal lent.state.settings.digital (evaluated call.event)) → Few (lent_refusal lent (evaluated_call call))
      few (late is h) number = inl (omega arith)
      few (early is h k) number = inl (omega arith)
      few (changed is h k) number = inl (omega arith)
      few (judged is h) (inl zero) = inl (omega arith)
      few (judged is h) (inr (big, inl small)) = inl (omega arith)
      few (judged is h) (inr (big, inr (from, to))) = inr (omega arith, omega arith)

      range : Few (lent_refusal lent (evaluated_call call))
      range = few (way lent call) (argument_number lent.state.settings.digital call.event)
