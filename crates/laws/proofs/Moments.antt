-- How long ago a stored time lies, in numbers.
use mathlib.Core.Path.{◌≡◌, refl}
use mathlib.Core.Bool.{Bool, true, false}
use mathlib.Core.Logic.{◌↔◌}
use Prim.Native.Nat.{ℕ, ◌+◌, ◌≤◌}
use borrow.Author.Tests.{leb-true, le-leb, ltb-false}
use Rattle.units.proofs.Booleans.{clash}
use Rattle.rules.specs.State.{Moment, never_or_ago, never_or_longer_ago}

module _ (span time : ℕ) (last : Moment) where
  -- never so far, or a span ago or longer
  pub never_or_ago_lem : (never_or_ago span time last ≡ true) ↔ (last.set ≡ true → last.time + span ≤ time)
  never_or_ago_lem = (λ long was. leb-true (last.time + span) time (rw was at long), λ long. go last.set refl long)
    where
      go : (b : Bool) → last.set ≡ b → (last.set ≡ true → last.time + span ≤ time) → never_or_ago span time last ≡ true
      go true was long = rw was (le-leb (last.time + span) time (long was))
      go false was long = rw was

  -- neither never nor longer ago than the span: there was one, and it is no older
  pub not_longer_ago : never_or_longer_ago span time last ≡ false → (last.set ≡ true) × (time ≤ last.time + span)
  not_longer_ago recent = go last.set refl recent
    where
      go : (b : Bool) → last.set ≡ b → never_or_longer_ago span time last ≡ false → (last.set ≡ true) × (time ≤ last.time + span)
      go true was e = (was, ltb-false (last.time + span) time (rw was at e))
      go false was e = clash (rw was) e
