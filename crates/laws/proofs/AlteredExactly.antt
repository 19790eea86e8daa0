-- Refusal 1 comes exactly for the conditions that the table names.
use mathlib.Core.Path.{◌≡◌, refl}
use mathlib.Core.Bool.{Bool, true, false, ◌&&◌, ◌||◌, not}
use mathlib.Core.Logic.{◌↔◌}
use Prim.Native.Nat.{ℕ, ◌<◌}
use lib.Dec.{eqb, leb}
use borrow.Author.Tests.{eqb-false, ne_eqb, leb-false, lt-leb, not-false}
use Rattle.units.specs.Wave.{driven, five_percent, steady_low, steady_high}
use Rattle.units.proofs.Booleans.{and_parts, clash}
use Rattle.units.proofs.FromTo.{outside_exactly}
use Rattle.rules.specs.Altered.{Lent, most_closings, duty_allowed, wave_allowed, stored_allowed, times_allowed, in_range, altered}
use Rattle.rules.specs.Begin.{rated_allowed, pause_allowed}
use Rattle.rules.specs.Refusals.{limit_allowed, grant_allowed}
use Rattle.rules.specs.State.{State, Moment}
use Rattle.laws.specs.RefusedExactly.{DutyOut, WaveOut, StoredAbove, Altered, wave_out, limit_out, grant_out, rated_out, pause_out, sound_above, opening_above, overrun_above, stop_above, closings_out}
use Rattle.laws.proofs.Ranges.{InRange, range_parts}

-- each test, and what it means that it fails
driven_exactly : (digital : Bool) (wave : ℕ) → (duty_allowed digital wave ≡ false) ↔ DutyOut digital wave
unfolding duty_allowed driven
driven_exactly true wave = (eqb-false wave five_percent, ne_eqb wave five_percent)
driven_exactly false wave = outside_exactly 100 960 wave

wave_exactly : (digital : Bool) (wave : ℕ) → (wave_allowed digital wave ≡ false) ↔ WaveOut digital wave
unfolding wave_allowed
wave_exactly digital wave = (λ e. to (eqb wave steady_low) (duty_allowed digital wave) (eqb wave steady_high) refl refl refl e, λ out. from out)
  where
    to : (l d h : Bool) → eqb wave steady_low ≡ l → duty_allowed digital wave ≡ d → eqb wave steady_high ≡ h → l || (d || h) ≡ false → WaveOut digital wave
    to true d h p q r e = clash refl e
    to false true h p q r e = clash refl e
    to false false true p q r e = clash refl e
    to false false false p q r e = (eqb-false wave steady_low p, (driven_exactly digital wave).0 q, eqb-false wave steady_high r)

    from : WaveOut digital wave → wave_allowed digital wave ≡ false
    from (not_low, out, not_high) = rw (ne_eqb wave steady_low not_low, (driven_exactly digital wave).1 out, ne_eqb wave steady_high not_high)

limit_exactly : (limit : ℕ) → (limit_allowed limit ≡ false) ↔ (80000 < limit)
unfolding limit_allowed
limit_exactly limit = (leb-false limit 80000, lt-leb limit 80000)

grant_exactly : (grant : ℕ) → (grant_allowed grant ≡ false) ↔ (80000 < grant)
unfolding grant_allowed
grant_exactly grant = (leb-false grant 80000, lt-leb grant 80000)

stored_exactly : (last : ℕ) (stored : Moment) → (stored_allowed last stored ≡ false) ↔ StoredAbove last stored
unfolding stored_allowed
stored_exactly last stored = (λ e. to stored.set refl e, λ above. rw (above.0, lt-leb stored.time last above.1))
  where
    to : (b : Bool) → stored.set ≡ b → not b || leb stored.time last ≡ false → StoredAbove last stored
    to true p e = (p, leb-false stored.time last e)
    to false p e = clash refl e

module _ (lent : Lent) where
  abbrev s : State
  s = lent.state

  to_altered : altered lent ≡ true → Altered lent
  unfolding altered in_range times_allowed rated_allowed pause_allowed
  to_altered e =
      go (wave_allowed s.settings.digital s.wave) (limit_allowed s.limit) (grant_allowed s.grant) (rated_allowed s.settings.rated)
      (pause_allowed s.settings.pause) (stored_allowed s.last s.sound) (stored_allowed s.last s.opening) (stored_allowed s.last s.overrun)
      (stored_allowed s.last s.stop) (leb lent.closings most_closings) refl refl refl refl refl refl refl refl refl refl e
    where
      go : (w l g r p a b c d n : Bool) → wave_allowed s.settings.digital s.wave ≡ w → limit_allowed s.limit ≡ l → grant_allowed s.grant ≡ g
          → rated_allowed s.settings.rated ≡ r → pause_allowed s.settings.pause ≡ p → stored_allowed s.last s.sound ≡ a
          → stored_allowed s.last s.opening ≡ b → stored_allowed s.last s.overrun ≡ c → stored_allowed s.last s.stop ≡ d
          → leb lent.closings most_closings ≡ n
          → not ((w && (l && (g && (r && (p && (a && (b && (c && d)))))))) && n) ≡ true → Altered lent
      go false l g r p a b c d n e1 e2 e3 e4 e5 e6 e7 e8 e9 e10 e = wave_out ((wave_exactly s.settings.digital s.wave).0 e1)
      go true false g r p a b c d n e1 e2 e3 e4 e5 e6 e7 e8 e9 e10 e = limit_out ((limit_exactly s.limit).0 e2)
      go true true false r p a b c d n e1 e2 e3 e4 e5 e6 e7 e8 e9 e10 e = grant_out ((grant_exactly s.grant).0 e3)
      go true true true false p a b c d n e1 e2 e3 e4 e5 e6 e7 e8 e9 e10 e = rated_out ((outside_exactly 6000 80000 s.settings.rated).0 e4)
      go true true true true false a b c d n e1 e2 e3 e4 e5 e6 e7 e8 e9 e10 e = pause_out ((outside_exactly 1000 60000 s.settings.pause).0 e5)
      go true true true true true false b c d n e1 e2 e3 e4 e5 e6 e7 e8 e9 e10 e = sound_above ((stored_exactly s.last s.sound).0 e6)
      go true true true true true true false c d n e1 e2 e3 e4 e5 e6 e7 e8 e9 e10 e = opening_above ((stored_exactly s.last s.opening).0 e7)
      go true true true true true true true false d n e1 e2 e3 e4 e5 e6 e7 e8 e9 e10 e = overrun_above ((stored_exactly s.last s.overrun).0 e8)
      go true true true true true true true true false n e1 e2 e3 e4 e5 e6 e7 e8 e9 e10 e = stop_above ((stored_exactly s.last s.stop).0 e9)
      go true true true true true true true true true false e1 e2 e3 e4 e5 e6 e7 e8 e9 e10 e = closings_out (leb-false lent.closings most_closings e10)
      go true true true true true true true true true true e1 e2 e3 e4 e5 e6 e7 e8 e9 e10 e = clash e refl

  -- with every test passed none of the conditions holds
  not_altered : InRange s → leb lent.closings most_closings ≡ true → Altered lent → ⊥
  unfolding rated_allowed pause_allowed
  not_altered range few (wave_out out) = clash range.wave ((wave_exactly s.settings.digital s.wave).1 out)
  not_altered range few (limit_out out) = clash range.limit ((limit_exactly s.limit).1 out)
  not_altered range few (grant_out out) = clash range.grant ((grant_exactly s.grant).1 out)
  not_altered range few (rated_out out) = clash range.rated ((outside_exactly 6000 80000 s.settings.rated).1 out)
  not_altered range few (pause_out out) = clash range.pause ((outside_exactly 1000 60000 s.settings.pause).1 out)
  not_altered range few (sound_above above) = clash range.sound ((stored_exactly s.last s.sound).1 above)
  not_altered range few (opening_above above) = clash range.opening ((stored_exactly s.last s.opening).1 above)
  not_altered range few (overrun_above above) = clash range.overrun ((stored_exactly s.last s.overrun).1 above)
  not_altered range few (stop_above above) = clash range.stop ((stored_exactly s.last s.stop).1 above)
  not_altered range few (closings_out out) = clash few (lt-leb lent.closings most_closings out)

  pub altered_exactly : (altered lent ≡ true) ↔ Altered lent
  unfolding altered
  altered_exactly = (to_altered, λ known. go (altered lent) refl known)
    where
      go : (b : Bool) → altered lent ≡ b → Altered lent → b ≡ true
      go true e known = refl
      go false e known =
          let parts = and_parts (in_range s) (leb lent.closings most_closings) (not-false _ e) in
          absurd (not_altered (range_parts s parts.0) parts.1 known)
