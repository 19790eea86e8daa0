-- What a closed contactor tells: no fault, a sound sample of late, and a ready state settled.
use mathlib.Core.Path.{◌≡◌, refl, sym, ◌∙◌, ap}
use mathlib.Core.Bool.{Bool, true, false, ◌&&◌, ◌||◌, not, cond}
use Prim.Native.Nat.{ℕ, ◌+◌, ◌≤◌}
use native.Mathlib.Omega.{arith}
use lib.Dec.{eqb}
use borrow.Author.Tests.{eqb-true}
use Rattle.units.specs.Range.{from_to}
use Rattle.units.proofs.Booleans.{and_parts, or_parts, clash}
use Rattle.pilot.specs.Bands.{band_c, band_d, no_band, ready}
use Rattle.pilot.specs.declared.verdicts.Verdict.{Verdict}
use Rattle.rules.specs.Accepted.{pair_at, unsettles_at, cause_at, opens_at, closes_at, after_wave, accept}
use Rattle.rules.specs.Calls.{EvaluatedCall, is_sample}
use Rattle.rules.specs.Faults.{any_fault}
use Rattle.rules.specs.Pairs.{Pair, verdict, paired, same_band, in_one_band, both_unsound}
use Rattle.rules.specs.Refusals.{is_accepted}
use Rattle.rules.specs.State.{State, set_to}
use Rattle.rules.specs.Step1Event.{settled_by, sound_by}
use Rattle.rules.specs.Step3Wave.{is_settled, is_uae, unventilated_d}
use Rattle.rules.specs.Step4Opening.{cause1, cause2, cause3, cause4, cause5, cause}
use Rattle.laws.proofs.Faulted.{unsettled_fault}
use Rattle.laws.proofs.Moments.{not_longer_ago}
use Rattle.laws.proofs.Offering.{driven_offers}
use Rattle.laws.proofs.OneCall.{previous_by, closed_next, previous_is, ProvenPair, in_band, closes_exactly, same_band_lem, some_band}
use Rattle.laws.proofs.Samples.{fits, verdict_fits, verdict_sound, verdict_ready}

-- what an accepted call leaves closed
pub record Closed (s : State) : Type 0 where
  pub no_fault : any_fault s.faults ≡ false
  pub has_sound : s.sound.set ≡ true
  pub recent : s.last ≤ s.sound.time + 80
  pub ready_settled : ready s.settled s.settings.ventilation ≡ true

module _ (s : State) (call : EvaluatedCall) where
  settled_is : unsettles_at s call ≡ false → (accept s call).settled ≡ settled_by (pair_at s call) s.settled
  settled_is e = ap (λ b. cond b 0 (settled_by (pair_at s call) s.settled)) e

  -- closing by the call
  closing_closed : closes_at s call ≡ true → Closed (accept s call)
  unfolding sound_by settled_by is_uae is_settled from_to
  closing_closed met =
      let all = (closes_exactly s call).0 met in
      let offer = driven_offers s call all.driven_wave in
      let sound : (accept s call).sound ≡ set_to call.time =
      rw (all.pair.sampled, verdict_sound s call.event all.pair.second_proven) in
      record {
        no_fault = offer.0;
        has_sound = ap (λ m. m.set) sound;
        recent = rw sound (omega arith);
        ready_settled = settled (unsettles_at s call) refl all.pair offer.1.state;
      }
    where
      settled : (u : Bool) → unsettles_at s call ≡ u → ProvenPair (pair_at s call) → is_uae (accept s call).settled ≡ false
          → ready (accept s call).settled s.settings.ventilation ≡ true
      settled true p pair state = clash (ap (λ b. is_uae (cond b 0 (settled_by (pair_at s call) s.settled))) p) state
      settled false p pair state =
          let is : (accept s call).settled ≡ (verdict s call.event).band =
          settled_is p ∙ ap (λ b. cond b (verdict s call.event).band s.settled) (in_band (pair_at s call) pair) in
          rw is (verdict_ready s call.event pair.second_proven)

  -- the causes that did not hold
  record NoCause : Type 0 where
    one : both_unsound (pair_at s call) ≡ false
    two : cause2 call.time (after_wave s call) ≡ false
    three : unventilated_d (after_wave s call).settled (after_wave s call).settings.ventilation ≡ false
    five : any_fault (accept s call).faults ≡ false

  no_cause : cause_at s call ≡ false → NoCause
  unfolding cause cause1 cause3 cause5
  no_cause e =
      let one = or_parts (both_unsound (pair_at s call)) _ e in
      let two = or_parts (cause2 call.time (after_wave s call)) _ one.1 in
      let three = or_parts (unventilated_d (after_wave s call).settled (after_wave s call).settings.ventilation) _ two.1 in
      let four = or_parts (cause4 call.time (after_wave s call)) (any_fault (accept s call).faults) three.1 in
      record { one = one.0; two = two.0; three = three.0; five = four.1 }

  sound_recent : cause2 call.time (after_wave s call) ≡ false
      → ((accept s call).sound.set ≡ true) × (call.time ≤ (accept s call).sound.time + 80)
  unfolding cause2
  sound_recent e = not_longer_ago 80 call.time (accept s call).sound e

-- a band that fits a sound sample is ready, where D has ventilation
fits_ready : (band : ℕ) (ventilation : Bool) → fits band ≡ true → (band ≡ no_band → ⊥) → eqb band band_d && not ventilation ≡ false
    → ready band ventilation ≡ true
unfolding ready
fits_ready band ventilation fit some plain = go (eqb band no_band) (eqb band band_c) (eqb band band_d) ventilation refl fit plain
  where
    go : (n c d v : Bool) → eqb band no_band ≡ n → n || (c || d) ≡ true → d && not v ≡ false → c || (d && v) ≡ true
    go true c d v p f g = absurd (some (eqb-true band no_band p))
    go false true d v p f g = refl
    go false false true true p f g = refl
    go false false true false p f g = clash refl g
    go false false false v p f g = clash refl (sym f)

-- of a pair in one band that is not both unsound, the band fits
band_fits : (pair : Pair) → (pair.this.sound ≡ true → fits pair.this.band ≡ true)
    → (pair.previous.kept ≡ true → pair.previous.verdict.sound ≡ true → fits pair.previous.verdict.band ≡ true)
    → in_one_band pair ≡ true → both_unsound pair ≡ false → (fits pair.this.band ≡ true) × (pair.this.band ≡ no_band → ⊥)
unfolding in_one_band both_unsound paired
band_fits pair this old in_band sound =
    (go old_verdict.sound pair.this.sound refl refl sound, some_band old_verdict.band pair.this.band parts.1)
  where
    old_verdict : Verdict
    old_verdict = pair.previous.verdict

    parts : (paired pair ≡ true) × (same_band old_verdict.band pair.this.band ≡ true)
    parts = and_parts (paired pair) (same_band old_verdict.band pair.this.band) in_band

    go : (a b : Bool) → old_verdict.sound ≡ a → pair.this.sound ≡ b → paired pair && (not old_verdict.sound && not pair.this.sound) ≡ false
        → fits pair.this.band ≡ true
    go a true p q f = this q
    go true false p q f =
        ap fits (sym (same_band_lem old_verdict.band pair.this.band parts.1)) ∙ old (and_parts pair.sampled pair.previous.kept parts.0).1 p
    go false false p q f = clash refl (rw (parts.0, p, q) at f)

module _ (s : State) (call : EvaluatedCall) (into : is_accepted s call ≡ true)
    (old : s.previous.kept ≡ true → s.previous.verdict.sound ≡ true → fits s.previous.verdict.band ≡ true) where
  -- closed before the call, and not opened by it
  held_closed : ready s.settled s.settings.ventilation ≡ true → cause_at s call ≡ false → Closed (accept s call)
  unfolding settled_by unventilated_d
  held_closed before none =
      let calm = no_cause s call none in
      let sound = sound_recent s call calm.two in
      record { no_fault = calm.five; has_sound = sound.0; recent = sound.1; ready_settled = settled (unsettles_at s call) refl calm }
    where
      settled : (u : Bool) → unsettles_at s call ≡ u → NoCause s call → ready (accept s call).settled s.settings.ventilation ≡ true
      settled true p calm = clash (unsettled_fault s call into p) calm.five
      settled false p calm = band (in_one_band (pair_at s call)) refl
        where
          band : (b : Bool) → in_one_band (pair_at s call) ≡ b → ready (accept s call).settled s.settings.ventilation ≡ true
          band false q =
              let is : (accept s call).settled ≡ s.settled =
              settled_is s call p ∙ ap (λ b. cond b (verdict s call.event).band s.settled) q in
              rw is before
          band true q =
              let is : (accept s call).settled ≡ (verdict s call.event).band =
              settled_is s call p ∙ ap (λ b. cond b (verdict s call.event).band s.settled) q in
              let fit = band_fits (pair_at s call) (verdict_fits s call.event) old q calm.one in
              rw is (fits_ready (verdict s call.event).band s.settings.ventilation fit.0 fit.1
              (ap (λ n. eqb n band_d && not s.settings.ventilation) (sym is) ∙ calm.three))

  pub left_closed : (s.closed ≡ true → ready s.settled s.settings.ventilation ≡ true) → (accept s call).closed ≡ true → Closed (accept s call)
  left_closed before e = go s.closed (cause_at s call) (closes_at s call) refl refl refl (sym (closed_next s call) ∙ e)
    where
      go : (c r m : Bool) → s.closed ≡ c → cause_at s call ≡ r → closes_at s call ≡ m → (c && not r) || m ≡ true → Closed (accept s call)
      go c r true p q w f = closing_closed s call w
      go true false false p q w f = held_closed (before p) q
      go true true false p q w f = clash refl (sym f)
      go false r false p q w f = clash refl (sym f)

  pub previous_fits : (accept s call).previous.kept ≡ true → (accept s call).previous.verdict.sound ≡ true
      → fits (accept s call).previous.verdict.band ≡ true
  previous_fits keeps sound = go (unsettles_at s call || opens_at s call) (is_sample call.event) (previous_is s call)
    where
      go : (f a : Bool) → (accept s call).previous ≡ previous_by f a (verdict s call.event) s.previous
          → fits (accept s call).previous.verdict.band ≡ true
      go true a is = clash keeps (ap (λ p. p.kept) is)
      go false true is =
          ap (λ p. fits p.verdict.band) is ∙ verdict_fits s call.event (sym (ap (λ p. p.verdict.sound) is) ∙ sound)
      go false false is =
          ap (λ p. fits p.verdict.band) is ∙ old (sym (ap (λ p. p.kept) is) ∙ keeps) (sym (ap (λ p. p.verdict.sound) is) ∙ sound)
