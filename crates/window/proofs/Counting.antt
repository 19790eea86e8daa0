-- The count of a reading's supporters, turn by turn.
use mathlib.Core.Path.{◌≡◌}
use mathlib.Core.Bool.{true, false}
use mathlib.Core.List.{List}
use Prim.Native.Nat.{ℕ, suc, ◌+◌, ◌≤◌, ◌<◌}
use native.Mathlib.Omega.{arith}
use lib.IntN.{ℤ, pos}
use lib.ListN.{length, get_or, drop}
use Rattle.std.proofs.lemmas.List.{drop_more, drop_all}
use borrow.Author.Tests.{le-leb, lt-leb}
use Rattle.window.specs.Support.{near, supporters, needed, supported}

-- a window asks for a supporter
pub some_needed : (n : ℕ) → 0 < needed n
unfolding needed
some_needed n = omega arith

module _ (x : ℤ) (window : List ℤ) (i : ℕ) where
  pub close_next : i < length window → near x (get_or window i (pos 0)) ≡ true → supporters x (drop i window) ≡ suc (supporters x (drop (i + 1) window))
  unfolding supporters
  close_next h close = rw (drop_more window i (pos 0) h, close)

  pub apart_next : i < length window → near x (get_or window i (pos 0)) ≡ false → supporters x (drop i window) ≡ supporters x (drop (i + 1) window)
  unfolding supporters
  apart_next h apart = rw (drop_more window i (pos 0) h, apart)

  pub none_left : length window ≤ i → supporters x (drop i window) ≡ 0
  unfolding supporters
  none_left all = rw (drop_all i window all)

  module _ (count wanted : ℕ) (asked : wanted ≡ needed (length window)) (counted : count + supporters x (drop i window) ≡ supporters x window) where
    -- the count is left at the needed number of supporters
    pub enough : i < length window → near x (get_or window i (pos 0)) ≡ true → wanted ≤ count + 1 → supported window x ≡ true
    unfolding supported
    enough h close reached = le-leb (needed (length window)) (supporters x window) (omega (arith, close_next h close))

    -- the whole window was counted
    pub too_few : length window ≤ i → count < wanted → supported window x ≡ false
    unfolding supported
    too_few all few = lt-leb (needed (length window)) (supporters x window) (omega (arith, none_left all))

pub ruleset counting = (some_needed, close_next, apart_next, enough, too_few)
