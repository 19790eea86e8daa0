-- Demand 2's law of the duty: it is the greatest allowed one, and refusal 10 comes exactly below 6,000.
use mathlib.Core.Path.{◌≡◌, refl, sym, ◌∙◌, ap}
use mathlib.Core.Bool.{Bool, true, false}
use mathlib.Core.Logic.{◌↔◌}
use Prim.Native.Nat.{ℕ, ◌+◌, ◌*◌, ◌-◌, ◌/◌, ◌≤◌, ◌<◌}
use native.Mathlib.Decide.{dec_lt}
use native.Mathlib.Omega.{arith}
use Rattle.std.specs.Prelude.{Result, Ok, Err}
use Rattle.units.proofs.Booleans.{both_ways}
use Rattle.units.specs.Range.{from_to}
use Rattle.duty.specs.Reading.{Reads, no_charging, digital_only, current, refused, reading_of}
use Rattle.duty.specs.DutyFor.{Sends, duty, refusal, allowed, or_refusal, duty_for, IsGreatest}
use Rattle.duty.specs.Numbers.{as_reads, as_sends}
use Rattle.duty.specs.declared.AboveScale.{AboveScale}
use Rattle.duty.specs.declared.Reading.{Reading}
use Rattle.duty.specs.declared.Reading.TheVariants.{NoCharging, DigitalOnly, Current}
use Rattle.duty.specs.declared.TooLow.{TooLow}
use Rattle.duty.proofs.Values.{same_at}
use Rattle.duty.proofs.GreatestBelow.{is_greatest, none_greatest}
use Rattle.duty.proofs.Ranges.{reads_lower, reads_upper, above_scale, allowed_by, denied_by, denied_under}

-- a duty from 100 to 960 reads more than the current, if the formula of its range does
reads_more : (available e : ℕ) → 100 ≤ e → e ≤ 960 → (e ≤ 850 → available < 60 * e) → (850 < e → available < 250 * (e - 640))
    → (milliamps : ℕ) × (reading_of e ≡ current milliamps) × (available < milliamps)
reads_more available e h k lower upper = go (dec_lt 850 e)
  where
    go : Dec (850 < e) → (milliamps : ℕ) × (reading_of e ≡ current milliamps) × (available < milliamps)
    go (yes l) = (250 * (e - 640), reads_upper e l k, upper l)
    go (no l) = (60 * e, reads_lower e h (omega arith), lower (omega arith))

-- there is one greatest duty, and duty_for is it
pub unique : (available d : ℕ) → IsGreatest available d → duty_for available ≡ duty d
unfolding duty_for or_refusal
unique available d g =
    rw (is_greatest (allowed available) 961 d (omega (arith, g.most))
    (allowed_by available d g.fits.0 g.least g.most g.fits.1 g.fits.2) above)
  where
    above : (e : ℕ) → d < e → e < 961 → allowed available e ≡ false
    above e h k =
        let m = g.above e h (omega arith) in
        denied_by available e m.0 (omega (arith, g.least)) (omega arith) m.1 m.2

module _ (available : ℕ) where
  -- from 6,000 up to 51,000
  pub greatest_lower : 6000 ≤ available → available < 51000 → IsGreatest available (available / 60)
  greatest_lower h k = record {
    least = omega arith;
    most = omega arith;
    fits = (60 * (available / 60), reads_lower (available / 60) (omega arith) (omega arith), omega arith);
    above = λ e l m. reads_more available e (omega arith) m (λ u. omega arith) (λ u. omega arith);
  }

  -- from 51,000 up to 52,750, where the next duty reads too much
  pub greatest_between : 51000 ≤ available → available < 52750 → IsGreatest available 850
  greatest_between h k = record {
    least = omega arith;
    most = omega arith;
    fits = (51000, reads_lower 850 (omega arith) (omega arith), h);
    above = λ e l m. reads_more available e (omega arith) m (λ u. omega arith) (λ u. omega arith);
  }

  -- from 52,750 up to 80,000
  pub greatest_upper : 52750 ≤ available → available < 80000 → IsGreatest available (available / 250 + 640)
  greatest_upper h k = record {
    least = omega arith;
    most = omega arith;
    fits = (250 * (available / 250 + 640 - 640), reads_upper (available / 250 + 640) (omega arith) (omega arith), omega arith);
    above = λ e l m. reads_more available e (omega arith) m (λ u. omega arith) (λ u. omega arith);
  }

  -- from 80,000 on
  pub greatest_top : 80000 ≤ available → IsGreatest available 960
  greatest_top h = record {
    least = omega arith;
    most = omega arith;
    fits = (80000, reads_upper 960 (omega arith) (omega arith), h);
    above = λ e l m. absurd (omega arith);
  }

  -- demand 2: from 6,000 on there is a duty, and it is the greatest
  pub greatest : 6000 ≤ available → (d : ℕ) × (duty_for available ≡ duty d) × IsGreatest available d
  greatest h = go (dec_lt available 51000) (dec_lt available 52750) (dec_lt available 80000)
    where
      of : (d : ℕ) → IsGreatest available d → (e : ℕ) × (duty_for available ≡ duty e) × IsGreatest available e
      of d g = (d, unique available d g, g)

      go : Dec (available < 51000) → Dec (available < 52750) → Dec (available < 80000)
          → (d : ℕ) × (duty_for available ≡ duty d) × IsGreatest available d
      go (yes a) _ _ = of _ (greatest_lower h a)
      go (no a) (yes b) _ = of _ (greatest_between (omega arith) b)
      go (no a) (no b) (yes c) = of _ (greatest_upper (omega arith) c)
      go (no a) (no b) (no c) = of _ (greatest_top (omega arith))

  pub too_low : available < 6000 → duty_for available ≡ refusal 10
  unfolding duty_for or_refusal
  too_low h = rw (none_greatest (allowed available) 961 (λ e k. denied e k (dec_lt e 100)))
    where
      denied : (e : ℕ) → e < 961 → Dec (e < 100) → allowed available e ≡ false
      denied e k (yes l) = denied_under available e l
      denied e k (no l) =
          let m = reads_more available e (omega arith) (omega arith) (λ u. omega arith) (λ u. omega arith) in
          denied_by available e m.0 (omega arith) (omega arith) m.1 m.2

  -- the duty that is sent, range by range
  pub sent_lower : 6000 ≤ available → available < 51000 → duty (available / 60) ≡ duty_for available
  sent_lower h k = sym (unique _ _ (greatest_lower h k))

  pub sent_between : 51000 ≤ available → available < 52750 → duty 850 ≡ duty_for available
  sent_between h k = sym (unique _ _ (greatest_between h k))

  pub sent_upper : 52750 ≤ available → available < 80000 → duty (available / 250 + 640) ≡ duty_for available
  sent_upper h k = sym (unique _ _ (greatest_upper h k))

  pub sent_top : 80000 ≤ available → duty 960 ≡ duty_for available
  sent_top h = sym (unique _ _ (greatest_top h))

  -- refusal 10 comes below 6,000, and for nothing else
  pub refused_exactly : (duty_for available ≡ refusal 10) ↔ (available < 6000)
  refused_exactly = (λ r. go r (dec_lt available 6000), too_low)
    where
      go : duty_for available ≡ refusal 10 → Dec (available < 6000) → available < 6000
      go r (yes l) = l
      go r (no l) =
          let g = greatest (omega arith) in
          let clash : ◌≡◌ {A = ℕ} 0 1 = cc g.1 in
          absurd (omega arith)

is_read : Reads → Bool
is_read no_charging = true
is_read digital_only = true
is_read (current milliamps) = true
is_read (refused number) = false

-- every duty of the scale is read: one test, computed over all of them
on_scale : (d : ℕ) → d ≤ 1000 → is_read (reading_of d) ≡ true
unfolding is_read reading_of from_to
on_scale d h = same_at (λ (k : ℕ). is_read (reading_of k)) (λ k. true) 0 1000 refl d (omega arith) h

-- the number of a refusal
number_of : Reads → ℕ
number_of no_charging = 0
number_of digital_only = 0
number_of (current milliamps) = 0
number_of (refused number) = number

-- refusal 9 comes for a duty above 1000, and for nothing else
pub nine_exactly : (d : ℕ) → (reading_of d ≡ refused 9) ↔ (1000 < d)
unfolding is_read
nine_exactly d = (λ r. go r (dec_lt 1000 d), above_scale d)
  where
    go : reading_of d ≡ refused 9 → Dec (1000 < d) → 1000 < d
    go r (yes above) = above
    go r (no within) = both_ways (sym (on_scale d (omega arith)) ∙ ap is_read r)

-- and no other number comes
pub only_nine : (d number : ℕ) → reading_of d ≡ refused number → number ≡ 9
unfolding is_read number_of
only_nine d number r = go (dec_lt 1000 d)
  where
    go : Dec (1000 < d) → number ≡ 9
    go (yes above) = ap number_of (sym r ∙ above_scale d above)
    go (no within) = both_ways (sym (on_scale d (omega arith)) ∙ ap is_read r)

-- an answer's meaning fixes the answer: each map has an inverse
reading_from : Reads → Result Reading AboveScale
reading_from no_charging = Ok NoCharging
reading_from digital_only = Ok DigitalOnly
reading_from (current milliamps) = Ok (Current (record { 0 = milliamps }))
reading_from (refused number) = Err (record {})

sent_from : Sends → Result ℕ TooLow
sent_from (duty d) = Ok d
sent_from (refusal number) = Err (record {})

reading_back : (r : Result Reading AboveScale) → reading_from (as_reads r) ≡ r
unfolding reading_from
reading_back (Ok NoCharging) = refl
reading_back (Ok DigitalOnly) = refl
reading_back (Ok (Current milliamps)) = refl
reading_back (Err above) = refl

sent_back : (r : Result ℕ TooLow) → sent_from (as_sends r) ≡ r
unfolding sent_from
sent_back (Ok d) = refl
sent_back (Err low) = refl

pub reads_fixes : (r s : Result Reading AboveScale) → as_reads r ≡ as_reads s → r ≡ s
reads_fixes r s e = sym (reading_back r) ∙ ap reading_from e ∙ reading_back s

pub sends_fixes : (r s : Result ℕ TooLow) → as_sends r ≡ as_sends s → r ≡ s
sends_fixes r s e = sym (sent_back r) ∙ ap sent_from e ∙ sent_back s
