-- The search gathers the levels of the supported readings, one reading after the other.
use mathlib.Core.Path.{◌≡◌, refl, ◌∙◌, sym, ap}
use mathlib.Core.Bool.{Bool, true, false, cond}
use mathlib.Core.List.{List, [], ◌∷◌}
use Prim.Native.Nat.{ℕ, ◌+◌, ◌<◌, ◌≤◌}
use lib.IntN.{ℤ, pos}
use lib.ListN.{length, get_or, drop}
use Rattle.std.proofs.lemmas.List.{drop_more, drop_all}
use Rattle.units.proofs.LevelOrder.{within_parts}
use Rattle.units.proofs.Booleans.{both_ways}
use Rattle.units.specs.Range.{higher, lower}
use Rattle.window.specs.Support.{supported}
use Rattle.window.specs.Evaluation.{Evaluation, levels, refused, select, extreme, greatest, least, levels_of, supported_levels}
use Rattle.window.specs.Search.{inside, widen, gather}

module _ (test : ℤ → Bool) where
  -- from levels on, the greatest and the least are widened
  gather_levels : (readings : List ℤ) (high low : ℤ)
      → gather test (levels high low) readings ≡ levels (greatest high (select test readings)) (least low (select test readings))
  unfolding gather select extreme greatest least widen
  gather_levels [] high low = refl
  gather_levels (x ∷ xs) high low = go (test x) (gather_levels xs)
    where
      go : (t : Bool) → ((h l : ℤ) → gather test (levels h l) xs ≡ levels (greatest h (select test xs)) (least l (select test xs)))
          → gather test (cond t (levels (higher high x) (lower low x)) (levels high low)) xs
          ≡ levels (greatest high (cond t (x ∷ select test xs) (select test xs))) (least low (cond t (x ∷ select test xs) (select test xs)))
      go true ih = ih (higher high x) (lower low x)
      go false ih = ih high low

  -- from nothing on, the first that passes is both
  gather_all : (readings : List ℤ) → gather test (refused 6) readings ≡ levels_of (select test readings)
  unfolding gather select levels_of widen
  gather_all [] = refl
  gather_all (x ∷ xs) = go (test x) (gather_all xs)
    where
      go : (t : Bool) → gather test (refused 6) xs ≡ levels_of (select test xs)
          → gather test (cond t (levels x x) (refused 6)) xs ≡ levels_of (cond t (x ∷ select test xs) (select test xs))
      go true ih = gather_levels xs x x
      go false ih = ih

  gather_cons : (found : Evaluation) (x : ℤ) (xs : List ℤ) → gather test found (x ∷ xs) ≡ gather test (cond (test x) (widen found x) found) xs
  unfolding gather
  gather_cons found x xs = refl

-- a reading within the levels leaves them as they are
pub inside_keeps : (found : Evaluation) (x : ℤ) → inside found x ≡ true → widen found x ≡ found
unfolding inside widen higher lower
inside_keeps (levels high low) x e =
    let both = within_parts low high x e in
    rw (both.0, both.1)
inside_keeps (refused number) x e = both_ways (sym e)

-- the whole search
pub whole : (window : List ℤ) → gather (supported window) (refused 6) window ≡ supported_levels window
unfolding supported_levels
whole window = gather_all (supported window) window

-- the end of it
pub over : (test : ℤ → Bool) (found : Evaluation) (window : List ℤ) (i : ℕ) → length window ≤ i → gather test found (drop i window) ≡ found
unfolding gather
over test found window i h = rw (drop_all i window h)

module _ (test : ℤ → Bool) (found : Evaluation) (window : List ℤ) (i : ℕ) (x : ℤ) (h : i < length window) (here : x ≡ get_or window i (pos 0)) where
  -- a reading that passes widens the levels
  pub passed : test x ≡ true → gather test (widen found x) (drop (i + 1) window) ≡ gather test found (drop i window)
  passed passes = rw (drop_more window i (pos 0) h, ← here, gather_cons, passes)

  -- one that does not changes nothing
  pub failed : test x ≡ false → gather test found (drop (i + 1) window) ≡ gather test found (drop i window)
  failed fails = rw (drop_more window i (pos 0) h, ← here, gather_cons, fails)

  -- nor does one that leaves the levels as they are, whether it passes or not
  pub gather_kept : widen found x ≡ found → gather test found (drop (i + 1) window) ≡ gather test found (drop i window)
  gather_kept same = go (test x) refl
    where
      go : (t : Bool) → test x ≡ t → gather test found (drop (i + 1) window) ≡ gather test found (drop i window)
      go true passes = ap (λ (f : Evaluation). gather test f (drop (i + 1) window)) (sym same) ∙ passed passes
      go false fails = failed fails

  -- so one that the levels hold already changes nothing
  pub held : inside found x ≡ true → gather test found (drop (i + 1) window) ≡ gather test found (drop i window)
  held within = gather_kept (inside_keeps found x within)

pub ruleset gathering = (whole, over, passed, failed, held)
