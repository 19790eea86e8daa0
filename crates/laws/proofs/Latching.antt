-- One fault that latches, and the order of the latched faults.
use mathlib.Core.Path.{◌≡◌, refl, sym, ◌∙◌, ap}
use mathlib.Core.Bool.{Bool, true, false, ◌||◌, not, cond}
use Prim.Native.Nat.{ℕ, zero, suc, ◌≤◌, ◌<◌}
use native.Mathlib.Decide.{dec_lt}
use native.Mathlib.Omega.{arith}
use lib.Dec.{eqb}
use borrow.Author.Tests.{eqb-true, eqb-false, eq-eqb, ne_eqb}
use Rattle.units.proofs.Booleans.{clash, or_true, or_false, or_right}
use Rattle.rules.specs.Faults.{Fault, Faults, diode, overcurrent, residual, welded, temperature, number_of, no_faults, place_of, is_place, is_latched, any_fault, how_many, placed, put_at, latch, latch_if}
use Rattle.laws.specs.FaultOrder.{EachOnce}

-- a number that is a place, and one that is not
pub is_place_lem : (place : ℕ) → 1 ≤ place → is_place place ≡ true
is_place_lem place some = ap not (ne_eqb place 0 (λ e. absurd (omega (arith, e))))

pub some_place : (place : ℕ) → is_place place ≡ true → 1 ≤ place
some_place zero is = clash refl (sym is)
some_place (suc n) is = omega arith

pub no_place : (place : ℕ) → is_place place ≡ false → place ≡ 0
no_place zero is = refl
no_place (suc n) is = clash (is_place_lem (suc n) (omega arith)) is

-- a fault by its number
abbrev named : ℕ → Fault
named n = cond (eqb n 1) diode (cond (eqb n 2) overcurrent (cond (eqb n 3) residual (cond (eqb n 4) welded temperature)))

name_is : (f : Fault) → named (number_of f) ≡ f
name_is diode = refl
name_is overcurrent = refl
name_is residual = refl
name_is welded = refl
name_is temperature = refl

pub number_fixes : (f g : Fault) → number_of f ≡ number_of g → f ≡ g
number_fixes f g same = sym (name_is f) ∙ ap named same ∙ name_is g

-- a latched fault is some fault
pub latched_any : (s : Faults) (f : Fault) → is_latched s f ≡ true → any_fault s ≡ true
unfolding any_fault
latched_any s diode is = rw is
latched_any s overcurrent is = or_right (is_place s.diode) _ (rw is)
latched_any s residual is = or_right (is_place s.diode) _ (or_right (is_place s.overcurrent) _ (rw is))
latched_any s welded is = or_right (is_place s.diode) _ (or_right (is_place s.overcurrent) _ (or_right (is_place s.residual) _ (rw is)))
latched_any s temperature is =
    or_right (is_place s.diode) _
    (or_right (is_place s.overcurrent) _ (or_right (is_place s.residual) _ (or_right (is_place s.welded) _ is)))

-- and some fault is a latched one
pub any_latched : (s : Faults) → any_fault s ≡ true → (f : Fault) × (is_latched s f ≡ true)
unfolding any_fault
any_latched s any = go (is_place s.diode) (is_place s.overcurrent) (is_place s.residual) (is_place s.welded) refl refl refl refl any
  where
    go : (a b c d : Bool) → is_place s.diode ≡ a → is_place s.overcurrent ≡ b → is_place s.residual ≡ c → is_place s.welded ≡ d
        → a || (b || (c || (d || is_place s.temperature))) ≡ true → (f : Fault) × (is_latched s f ≡ true)
    go true b c d one two three four is = (diode, one)
    go false true c d one two three four is = (overcurrent, two)
    go false false true d one two three four is = (residual, three)
    go false false false true one two three four is = (welded, four)
    go false false false false one two three four is = (temperature, is)

-- a fault put at a place is there, and the others stay
place_put : (f : Fault) (place : ℕ) (s : Faults) (g : Fault) → place_of (put_at f place s) g ≡ placed f place s g
unfolding put_at
place_put f place s diode = refl
place_put f place s overcurrent = refl
place_put f place s residual = refl
place_put f place s welded = refl
place_put f place s temperature = refl

module _ (f : Fault) (place : ℕ) (s : Faults) where
  pub at_own : place_of (put_at f place s) f ≡ place
  at_own = place_put f place s f ∙ ap (λ b. cond b place (place_of s f)) (eq-eqb (number_of f) (number_of f) refl)

  pub at_other : (g : Fault) → (f ≡ g → ⊥) → place_of (put_at f place s) g ≡ place_of s g
  at_other g other =
      place_put f place s g ∙ ap (λ b. cond b place (place_of s g)) (ne_eqb (number_of f) (number_of g) (λ same. other (number_fixes f g same)))

-- the same fault, or another
pub same_fault : (f g : Fault) → Dec (f ≡ g)
same_fault f g = go (eqb (number_of f) (number_of g)) refl
  where
    go : (b : Bool) → eqb (number_of f) (number_of g) ≡ b → Dec (f ≡ g)
    go true is = yes (number_fixes f g (eqb-true (number_of f) (number_of g) is))
    go false is = no (λ same. eqb-false (number_of f) (number_of g) is (ap number_of same))

-- one fault more is latched
put_more : (f : Fault) (place : ℕ) (s : Faults) → place_of s f ≡ 0 → 1 ≤ place → how_many (put_at f place s) ≡ suc (how_many s)
unfolding how_many put_at
put_more diode place s none some = rw (none, is_place_lem place some) (omega arith)
put_more overcurrent place s none some = rw (none, is_place_lem place some) (omega arith)
put_more residual place s none some = rw (none, is_place_lem place some) (omega arith)
put_more welded place s none some = rw (none, is_place_lem place some) (omega arith)
put_more temperature place s none some = rw (none, is_place_lem place some) (omega arith)

-- a fault in its turn: all stays as it was, or it comes behind those that are latched
pub data Turned (f : Fault) (s after : Faults) : Type 0 where
  as_was : after ≡ s → Turned f s after
  comes_last : place_of s f ≡ 0 → after ≡ put_at f (suc (how_many s)) s → Turned f s after

pub turned : (holds : Bool) (f : Fault) (s : Faults) → Turned f s (latch_if holds f s)
unfolding latch
turned false f s = as_was refl
turned true f s = go (is_latched s f) refl
  where
    go : (b : Bool) → is_latched s f ≡ b → Turned f s (latch_if true f s)
    go true is = as_was (rw is)
    go false is = comes_last (no_place (place_of s f) is) (rw is)

-- a fault's test latches that fault and no other
pub latched_own : (holds : Bool) (f : Fault) (s : Faults) → is_latched (latch_if holds f s) f ≡ (is_latched s f || holds)
unfolding latch
latched_own false f s = sym (or_false (is_latched s f))
latched_own true f s = go (is_latched s f) refl ∙ sym (or_true (is_latched s f))
  where
    go : (b : Bool) → is_latched s f ≡ b → is_latched (latch_if true f s) f ≡ true
    go true is = ap (λ b. is_latched (cond b s (put_at f (suc (how_many s)) s)) f) is ∙ is
    go false is = rw is (ap is_place (at_own f (suc (how_many s)) s) ∙ is_place_lem (suc (how_many s)) (omega arith))

pub alone : (holds : Bool) (f : Fault) (s : Faults) (g : Fault) → (f ≡ g → ⊥) → place_of (latch_if holds f s) g ≡ place_of s g
alone holds f s g other = go (turned holds f s)
  where
    go : Turned f s (latch_if holds f s) → place_of (latch_if holds f s) g ≡ place_of s g
    go (as_was same) = ap (λ x. place_of x g) same
    go (comes_last none is) = ap (λ x. place_of x g) is ∙ at_other f (suc (how_many s)) s g other

-- what such turns leave: the places of those that were latched, and the others behind them
pub record Grows (s after : Faults) : Type 0 where
  pub kept : (g : Fault) → is_latched s g ≡ true → place_of after g ≡ place_of s g
  pub behind : (g : Fault) → is_latched s g ≡ false → is_latched after g ≡ true → how_many s < place_of after g
  pub more : how_many s ≤ how_many after

pub grows_still : (s : Faults) → Grows s s
grows_still s = record { kept = λ g is. refl; behind = λ g none is. clash is none; more = omega arith }

module _ (f : Fault) (s : Faults) where
  -- one turn
  pub grows : (after : Faults) → Turned f s after → Grows s after
  grows after (as_was same) = rw same (grows_still s)
  grows after (comes_last none is) = rw is (record { kept = kept; behind = behind; more = omega (arith, put_more f (suc (how_many s)) s none (omega arith)) })
    where
      put : Faults
      put = put_at f (suc (how_many s)) s

      kept : (g : Fault) → is_latched s g ≡ true → place_of put g ≡ place_of s g
      kept g latched = at_other f (suc (how_many s)) s g (λ same. clash latched (ap is_place (ap (place_of s) (sym same) ∙ none)))

      behind : (g : Fault) → is_latched s g ≡ false → is_latched put g ≡ true → how_many s < place_of put g
      behind g not_yet latched = go (same_fault f g)
        where
          go : Dec (f ≡ g) → how_many s < place_of put g
          go (yes same) = omega (arith, ap (place_of put) (sym same) ∙ at_own f (suc (how_many s)) s)
          go (no other) = clash (ap is_place (sym (at_other f (suc (how_many s)) s g other)) ∙ latched) not_yet

  -- and it is still an order
  pub stays_each_once : (after : Faults) → Turned f s after → EachOnce s → EachOnce after
  stays_each_once after (as_was same) known = rw same known
  stays_each_once after (comes_last none is) known = rw is (record { no_further = no_further; each_held = each_held; never_two = never_two })
    where
      put : Faults
      put = put_at f (suc (how_many s)) s

      many : how_many put ≡ suc (how_many s)
      many = put_more f (suc (how_many s)) s none (omega arith)

      own : place_of put f ≡ suc (how_many s)
      own = at_own f (suc (how_many s)) s

      other : (g : Fault) → (f ≡ g → ⊥) → place_of put g ≡ place_of s g
      other = at_other f (suc (how_many s)) s

      no_further : (g : Fault) → place_of put g ≤ how_many put
      no_further g = go (same_fault f g)
        where
          go : Dec (f ≡ g) → place_of put g ≤ how_many put
          go (yes same) = omega (arith, many, ap (place_of put) (sym same) ∙ own)
          go (no another) = omega (arith, many, other g another, known.no_further g)

      each_held : (place : ℕ) → 1 ≤ place → place ≤ how_many put → (g : Fault) × (place_of put g ≡ place)
      each_held place some within = go (dec_lt (how_many s) place)
        where
          go : Dec (how_many s < place) → (g : Fault) × (place_of put g ≡ place)
          go (yes last) = (f, omega (arith, own, many, within))
          go (no inside) =
              let held = known.each_held place some (omega arith) in
              (held.0, other held.0 (λ same. absurd (omega (arith, held.1, ap (place_of s) (sym same) ∙ none))) ∙ held.1)

      never_two : (g h : Fault) → is_latched put g ≡ true → place_of put g ≡ place_of put h → g ≡ h
      never_two g h latched same = go (same_fault f g) (same_fault f h)
        where
          go : Dec (f ≡ g) → Dec (f ≡ h) → g ≡ h
          go (yes is_g) (yes is_h) = sym is_g ∙ is_h
          go (yes is_g) (no not_h) =
              absurd (omega (arith, ap (place_of put) (sym is_g) ∙ own, same, other h not_h, known.no_further h))
          go (no not_g) (yes is_h) =
              absurd (omega (arith, ap (place_of put) (sym is_h) ∙ own, same, other g not_g, known.no_further g))
          go (no not_g) (no not_h) =
              known.never_two g h (ap is_place (sym (other g not_g)) ∙ latched) (sym (other g not_g) ∙ same ∙ other h not_h)

-- some fault is latched after it, if one was or if it latches
pub any_kept : (holds : Bool) (f : Fault) (s : Faults) → any_fault s ≡ true → any_fault (latch_if holds f s) ≡ true
any_kept holds f s any =
    let was = any_latched s any in
    latched_any (latch_if holds f s) was.0 (ap is_place ((grows f s (latch_if holds f s) (turned holds f s)).kept was.0 was.1) ∙ was.1)

pub any_by : (holds : Bool) (f : Fault) (s : Faults) → holds ≡ true → any_fault (latch_if holds f s) ≡ true
any_by holds f s is = latched_any (latch_if holds f s) f (latched_own holds f s ∙ or_right (is_latched s f) holds is)

-- one turn after another
pub grows_on : (s then after : Faults) → Grows s then → Grows then after → Grows s after
grows_on s then after first second =
    record {
      kept = λ g is. second.kept g (ap is_place (first.kept g is) ∙ is) ∙ first.kept g is;
      behind = λ g none is. behind g none is (is_latched then g) refl;
      more = omega (arith, first.more, second.more);
    }
  where
    behind : (g : Fault) → is_latched s g ≡ false → is_latched after g ≡ true → (b : Bool) → is_latched then g ≡ b → how_many s < place_of after g
    behind g none is true now = omega (arith, first.behind g none now, second.kept g now)
    behind g none is false not_yet = omega (arith, first.more, second.behind g not_yet is)

-- no fault: the order is empty
pub none_each_once : EachOnce no_faults
unfolding how_many
none_each_once =
    record {
      no_further = λ f. omega (arith, none_latched f);
      each_held = λ place some within. absurd (omega arith);
      never_two = λ f g is same. clash is (ap is_place (none_latched f));
    }
  where
    none_latched : (f : Fault) → place_of no_faults f ≡ 0
    none_latched diode = refl
    none_latched overcurrent = refl
    none_latched residual = refl
    none_latched welded = refl
    none_latched temperature = refl
