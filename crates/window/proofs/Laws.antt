-- The laws of the levels and of the refusals 4, 5 and 6.
use mathlib.Core.Path.{◌≡◌, refl, sym, ◌∙◌, ap}
use mathlib.Core.Bool.{Bool, true, false, cond}
use mathlib.Core.List.Memᴰ
use mathlib.Core.List.{List, [], ◌∷◌, Memᴰ}
use mathlib.Core.Logic.{◌↔◌, inl, inr}
use native.Mathlib.Omega.{arith}
use Prim.Native.Nat.{ℕ}
use lib.Dec.{eqb}
use lib.IntN.{ℤ}
use lib.ListN.{length}
use lib.Signed.{le_z}
use Rattle.std.specs.Prelude.{Result, Ok, Err}
use Rattle.units.specs.Range.{higher, lower}
use Rattle.units.specs.declared.Levels.{Levels}
use Rattle.units.proofs.FromTo.{outside_exactly}
use Rattle.units.proofs.LevelOrder.{le_itself, le_through, higher_bounds, lower_bounds, higher_one, lower_one}
use Rattle.units.proofs.Booleans.{both_ways}
use Rattle.window.specs.Support.{supported}
use Rattle.window.specs.Evaluation.{Evaluation, levels, refused, length_allowed, all_allowed, select, extreme, greatest, least, levels_of, supported_levels, evaluate}
use Rattle.window.specs.Numbers.{as_evaluation}
use Rattle.window.specs.declared.Refused.{Refused}
use Rattle.window.specs.declared.Refused.TheVariants.{Length, Range, Support}
use Rattle.window.specs.Laws.{LevelsOf, OneOutOfRange, NoneSupported, RefusedFor}
use Rattle.window.proofs.Extremes.{selected, is_selected, extreme_member, extreme_bounds}
use Rattle.window.proofs.Refusals.{all_right, one_wrong, wrong_length, out_of_range, evaluated}

-- a number that tells the answers apart
tag_of : Evaluation → ℕ
tag_of (levels high low) = 0
tag_of (refused number) = number

is_refused : Evaluation → Bool
is_refused (levels high low) = false
is_refused (refused number) = true

module _ (window : List ℤ) where
  -- a nonempty list of supported readings gives the levels
  levels_of_lem : (first : ℤ) (rest : List ℤ) → select (supported window) window ≡ first ∷ rest → length_allowed window ≡ true → all_allowed window ≡ true
      → LevelsOf window (greatest first rest) (least first rest)
  unfolding greatest least
  levels_of_lem first rest e l a = record {
    length_right = l;
    readings_right = all_right window a;
    high_reading = (in_window high_in).0;
    high_supported = (in_window high_in).1;
    low_reading = (in_window low_in).0;
    low_supported = (in_window low_in).1;
    between = λ x m s. let here = rw e at (is_selected (supported window) x window m s) in (low_bound x here, high_bound x here);
  }
    where
      in_window : {x : ℤ} → Memᴰ x (first ∷ rest) → Memᴰ x window × (supported window x ≡ true)
      in_window {x} m = selected (supported window) x window (rw e m)

      high_in : Memᴰ (extreme higher first rest) (first ∷ rest)
      high_in = extreme_member higher (λ a b. le_z a b ≡ true) le_itself le_through higher_bounds higher_one rest first

      low_in : Memᴰ (extreme lower first rest) (first ∷ rest)
      low_in = extreme_member lower (λ a b. le_z b a ≡ true) le_itself (λ a b c p q. le_through c b a q p) lower_bounds lower_one rest first

      high_bound : (x : ℤ) → Memᴰ x (first ∷ rest) → le_z x (extreme higher first rest) ≡ true
      high_bound x = extreme_bounds higher (λ a b. le_z a b ≡ true) le_itself le_through higher_bounds higher_one rest first x

      low_bound : (x : ℤ) → Memᴰ x (first ∷ rest) → le_z (extreme lower first rest) x ≡ true
      low_bound x = extreme_bounds lower (λ a b. le_z b a ≡ true) le_itself (λ a b c p q. le_through c b a q p) lower_bounds lower_one rest first x

  levels_by : (first : ℤ) (rest : List ℤ) → select (supported window) window ≡ first ∷ rest
      → supported_levels window ≡ levels (greatest first rest) (least first rest)
  unfolding supported_levels levels_of
  levels_by first rest e = rw e

  six_of : select (supported window) window ≡ [] → supported_levels window ≡ refused 6
  unfolding supported_levels levels_of
  six_of e = rw e

  -- two different answers to one window
  differ : {X : Type 0} {a b : Evaluation} → evaluate window ≡ a → evaluate window ≡ b → (tag_of a ≡ tag_of b → ⊥) → X
  differ e f apart = absurd (apart (sym (ap tag_of e) ∙ ap tag_of f))

  -- the four ways in which a window is answered
  data Way : Type 0 where
    four : length_allowed window ≡ false → evaluate window ≡ refused 4 → Way
    five : OneOutOfRange window → evaluate window ≡ refused 5 → Way
    six : NoneSupported window → evaluate window ≡ refused 6 → Way
    found : (high low : ℤ) → LevelsOf window high low → evaluate window ≡ levels high low → Way

  way : Way
  way = by_length (length_allowed window) refl
    where
      none : select (supported window) window ≡ [] → (x : ℤ) → Memᴰ x window → supported window x ≡ false
      none e x m = go (supported window x) refl
        where
          go : (t : Bool) → supported window x ≡ t → t ≡ false
          go true s = absurd (Memᴰ.not-nil (rw e at (is_selected (supported window) x window m s)))
          go false s = refl

      by_list : (chosen : List ℤ) → select (supported window) window ≡ chosen → length_allowed window ≡ true → all_allowed window ≡ true → Way
      by_list [] e l a = six (record { length_right = l; readings_right = all_right window a; none = none e }) (evaluated window l a ∙ six_of e)
      by_list (first ∷ rest) e l a = found (greatest first rest) (least first rest) (levels_of_lem first rest e l a) (evaluated window l a ∙ levels_by first rest e)

      by_readings : (t : Bool) → all_allowed window ≡ t → length_allowed window ≡ true → Way
      by_readings true a l = by_list (select (supported window) window) refl l a
      by_readings false a l =
          let wrong = one_wrong window a in
          five (record { length_right = l; reading = wrong.0; in_window = wrong.1; out_of_range = wrong.2 }) (out_of_range window l a)

      by_length : (t : Bool) → length_allowed window ≡ t → Way
      by_length true l = by_readings (all_allowed window) refl l
      by_length false l = four l (wrong_length window l)

  -- what the two levels are
  pub levels_are : (high low : ℤ) → evaluate window ≡ levels high low → LevelsOf window high low
  unfolding tag_of
  levels_are high low e = go way
    where
      go : Way → LevelsOf window high low
      go (four l w) = differ e w (λ c. omega arith)
      go (five o w) = differ e w (λ c. omega arith)
      go (six n w) = differ e w (λ c. omega arith)
      go (found h l are w) =
          let same_high : h ≡ high = cc in
          let same_low : l ≡ low = cc in
          rw (← same_high, ← same_low) are

  -- after the length comes a reading out of range, and then the support
  five_by : OneOutOfRange window → evaluate window ≡ refused 5
  five_by o = go way
    where
      go : Way → evaluate window ≡ refused 5
      go (four l w) = both_ways (sym o.length_right ∙ l)
      go (five p w) = w
      go (six n w) = both_ways (sym (n.readings_right o.reading o.in_window) ∙ o.out_of_range)
      go (found h l are w) = both_ways (sym (are.readings_right o.reading o.in_window) ∙ o.out_of_range)

  six_by : NoneSupported window → evaluate window ≡ refused 6
  six_by n = go way
    where
      go : Way → evaluate window ≡ refused 6
      go (four l w) = both_ways (sym n.length_right ∙ l)
      go (five o w) = both_ways (sym (n.readings_right o.reading o.in_window) ∙ o.out_of_range)
      go (six m w) = w
      go (found h l are w) = both_ways (sym are.high_supported ∙ n.none h are.high_reading)

  -- a window is refused by 4, 5 and 6, each for its reason, and by no other number
  pub refused_exactly : (number : ℕ) → (evaluate window ≡ refused number) ↔ RefusedFor number window
  unfolding tag_of is_refused length_allowed
  refused_exactly number = (λ e. go e way, λ reason. back reason)
    where
      go : evaluate window ≡ refused number → Way → RefusedFor number window
      go e (four l w) = inl (sym (ap tag_of e) ∙ ap tag_of w, (outside_exactly 256 1024 (length window)).0 l)
      go e (five o w) = inr (inl (sym (ap tag_of e) ∙ ap tag_of w, o))
      go e (six n w) = inr (inr (sym (ap tag_of e) ∙ ap tag_of w, n))
      go e (found h l are w) = both_ways (sym (ap is_refused e) ∙ ap is_refused w)

      back : RefusedFor number window → evaluate window ≡ refused number
      back (inl (is, out)) = wrong_length window ((outside_exactly 256 1024 (length window)).1 out) ∙ ap refused (sym is)
      back (inr (inl (is, o))) = five_by o ∙ ap refused (sym is)
      back (inr (inr (is, n))) = six_by n ∙ ap refused (sym is)

-- an answer's meaning fixes the answer: the map has an inverse
evaluated_from : Evaluation → Result Levels Refused
evaluated_from (levels high low) = Ok (record { high = record { 0 = high }; low = record { 0 = low } })
evaluated_from (refused number) = Err (cond (eqb number 4) Length (cond (eqb number 5) Range Support))

evaluated_back : (r : Result Levels Refused) → evaluated_from (as_evaluation r) ≡ r
unfolding evaluated_from
evaluated_back (Ok both) = refl
evaluated_back (Err Length) = refl
evaluated_back (Err Range) = refl
evaluated_back (Err Support) = refl

pub evaluation_fixes : (r s : Result Levels Refused) → as_evaluation r ≡ as_evaluation s → r ≡ s
evaluation_fixes r s e = sym (evaluated_back r) ∙ ap evaluated_from e ∙ evaluated_back s
