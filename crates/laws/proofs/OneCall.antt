-- The laws of one accepted call that the list theorem rests on.
use mathlib.Core.Path.{◌≡◌, refl, sym, ◌∙◌, ap}
use mathlib.Core.Bool.{Bool, true, false, ◌&&◌, ◌||◌, not, cond}
use mathlib.Core.Logic.{◌↔◌}
use Prim.Native.Nat.{ℕ, ◌+◌, ◌≤◌}
use lib.Dec.{eqb}
use borrow.Author.Tests.{eqb-true, eqb-false, eq-eqb, ne_eqb, not-true, leb-true, le-leb}
use Rattle.units.proofs.Booleans.{and_parts, clash, or_true}
use Rattle.pilot.specs.Bands.{no_band}
use Rattle.pilot.specs.declared.verdicts.Verdict.{Verdict}
use Rattle.rules.specs.Accepted.{pair_at, grant_at, unsettles_at, cause_at, opens_at, closes_at, after_opening, accept}
use Rattle.rules.specs.Calls.{EvaluatedCall, is_sample}
use Rattle.rules.specs.Pairs.{Pair, verdict, paired, same_band, in_one_band, both_proven}
use Rattle.rules.specs.State.{State, Previous, is_driven, set_to, never_or_ago, forgotten, kept_sample}
use Rattle.rules.specs.Step4Opening.{opens}
use Rattle.rules.specs.Step5Closing.{pause_over, has_grant, closes}
use Rattle.laws.proofs.Moments.{never_or_ago_lem}

-- the previous sample after an accepted call: none, the call's own, or the one before it
abbrev pub previous_by : Bool → Bool → Verdict → Previous → Previous
previous_by forgets sampled verdict old = cond forgets forgotten (cond sampled (kept_sample verdict) old)

module _ (s : State) (call : EvaluatedCall) where
  pub closed_next : (accept s call).closed ≡ ((s.closed && not (cause_at s call)) || closes_at s call)
  unfolding opens
  closed_next = ap (λ b. b || closes_at s call) (go s.closed (cause_at s call))
    where
      go : (c r : Bool) → c && not (c && r) ≡ c && not r
      go true r = refl
      go false r = refl

  pub opening_next : (accept s call).opening ≡ cond (s.closed && cause_at s call) (set_to call.time) s.opening
  unfolding opens
  opening_next = refl

  -- an opening is a cause in a closed contactor
  pub opens_when : s.closed ≡ true → cause_at s call ≡ true → opens_at s call ≡ true
  unfolding opens
  opens_when closed cause = ap (λ b. b && cause_at s call) closed ∙ cause

  -- what is remembered of the samples: nothing where the call forgets, else its own sample or the one before it
  pub previous_is : (accept s call).previous
      ≡ previous_by (unsettles_at s call || opens_at s call) (is_sample call.event) (verdict s call.event) s.previous
  previous_is = go (opens_at s call) (unsettles_at s call) (is_sample call.event) refl refl refl
    where
      go : (opened unsettled sampled : Bool) → opens_at s call ≡ opened → unsettles_at s call ≡ unsettled → is_sample call.event ≡ sampled
          → (accept s call).previous
          ≡ previous_by (unsettles_at s call || opens_at s call) (is_sample call.event) (verdict s call.event) s.previous
      go true true true p q r = rw (p, q, r)
      go true true false p q r = rw (p, q, r)
      go true false true p q r = rw (p, q, r)
      go true false false p q r = rw (p, q, r)
      go false true true p q r = rw (p, q, r)
      go false true false p q r = rw (p, q, r)
      go false false true p q r = rw (p, q, r)
      go false false false p q r = rw (p, q, r)

  -- an opening forgets
  pub opening_forgets : s.closed ≡ true → cause_at s call ≡ true → unsettles_at s call || opens_at s call ≡ true
  opening_forgets closed cause = rw (opens_when closed cause) (or_true (unsettles_at s call))

-- what two samples show that are both proven in the same band
pub record ProvenPair (pair : Pair) : Type 0 where
  pub sampled : pair.sampled ≡ true
  pub partner : pair.previous.kept ≡ true
  pub first_proven : pair.previous.verdict.proven ≡ true
  pub second_proven : pair.this.proven ≡ true
  pub one_band : pair.previous.verdict.band ≡ pair.this.band
  pub has_band : pair.this.band ≡ no_band → ⊥

module _ (a b : ℕ) (same : same_band a b ≡ true) where
  pub same_band_lem : a ≡ b
  unfolding same_band
  same_band_lem = eqb-true a b (and_parts (not (eqb a no_band)) (eqb a b) same).1

  pub some_band : b ≡ no_band → ⊥
  unfolding same_band
  some_band none = eqb-false a no_band (not-true (eqb a no_band) (and_parts (not (eqb a no_band)) (eqb a b) same).0) (same_band_lem ∙ none)

band_same : (a b : ℕ) → a ≡ b → (b ≡ no_band → ⊥) → same_band a b ≡ true
unfolding same_band
band_same a b is some = rw (ne_eqb a no_band (λ none. some (sym is ∙ none)), eq-eqb a b is)

pub in_band : (pair : Pair) → ProvenPair pair → in_one_band pair ≡ true
unfolding in_one_band paired
in_band pair known =
    rw (known.sampled, known.partner, band_same pair.previous.verdict.band pair.this.band known.one_band known.has_band)

pub proven_exactly : (pair : Pair) → (both_proven pair ≡ true) ↔ ProvenPair pair
unfolding both_proven in_one_band paired
proven_exactly pair = (λ holds. to holds, λ known. from known)
  where
    to : both_proven pair ≡ true → ProvenPair pair
    to holds =
        let old = pair.previous.verdict in
        let halves = and_parts (in_one_band pair) (old.proven && pair.this.proven) holds in
        let proven = and_parts old.proven pair.this.proven halves.1 in
        let band = and_parts (paired pair) (same_band old.band pair.this.band) halves.0 in
        let samples = and_parts pair.sampled pair.previous.kept band.0 in
        record {
          sampled = samples.0;
          partner = samples.1;
          first_proven = proven.0;
          second_proven = proven.1;
          one_band = same_band_lem old.band pair.this.band band.1;
          has_band = some_band old.band pair.this.band band.1;
        }

    from : ProvenPair pair → both_proven pair ≡ true
    from known = rw (in_band pair known, known.first_proven, known.second_proven)

-- the closing conditions: the contactor was open before the call, and so neither closed nor opened by it; the wave is driven; a digital
-- post has its grant; two proven samples in one band; and the pause, if there was an opening
pub record MeetsAll (s : State) (call : EvaluatedCall) : Type 0 where
  pub was_open : s.closed ≡ false
  pub driven_wave : is_driven (accept s call) ≡ true
  pub has_grant_lem : s.settings.digital ≡ true → 6000 ≤ grant_at s call
  pub pair : ProvenPair (pair_at s call)
  pub pauses : s.opening.set ≡ true → s.opening.time + s.settings.pause ≤ call.time

-- a grant of at least 6,000 is asked in a digital post alone
has_grant_exactly : (digital : Bool) (grant : ℕ) → (has_grant digital grant ≡ true) ↔ (digital ≡ true → 6000 ≤ grant)
unfolding has_grant
has_grant_exactly true grant = (λ e is. leb-true 6000 grant e, λ some. le-leb 6000 grant (some refl))
has_grant_exactly false grant = (λ e is. clash is refl, λ some. refl)

module _ (s : State) (call : EvaluatedCall) where
  not_opened : s.closed ≡ false → opens_at s call ≡ false
  unfolding opens
  not_opened was = ap (λ b. b && cause_at s call) was

  -- the last opening, where this call does not open
  opening_same : opens_at s call ≡ false → (after_opening s call).opening ≡ s.opening
  opening_same still = ap (λ b. cond b (set_to call.time) s.opening) still

  -- a call meets every closing condition exactly if these hold
  pub closes_exactly : (closes_at s call ≡ true) ↔ MeetsAll s call
  unfolding closes pause_over
  closes_exactly = (λ met. to met, λ all. from all)
    where
      pause : ℕ
      pause = s.settings.pause

      was : (c o : Bool) → c && not o ≡ false → o ≡ false → c ≡ false
      was true true e p = clash refl p
      was true false e p = clash refl e
      was false o e p = refl

      six : (c o d g p r : Bool) → c ≡ false → o ≡ false → d ≡ true → g ≡ true → p ≡ true → r ≡ true → not c && (not o && (d && (g && (p && r)))) ≡ true
      six c o d g p r ec eo ed eg ep er = rw (ec, eo, ed, eg, ep, er)

      to : closes_at s call ≡ true → MeetsAll s call
      to met =
          let after = after_opening s call in
          let one = and_parts (not after.closed) _ met in
          let two = and_parts (not (opens_at s call)) _ one.1 in
          let three = and_parts (is_driven after) _ two.1 in
          let grant = and_parts (has_grant s.settings.digital (grant_at s call)) _ three.1 in
          let four = and_parts (both_proven (pair_at s call)) (pause_over call.time after) grant.1 in
          let still = not-true (opens_at s call) two.0 in
          record {
            was_open = was s.closed (opens_at s call) (not-true after.closed one.0) still;
            driven_wave = three.0;
            has_grant_lem = (has_grant_exactly s.settings.digital (grant_at s call)).0 grant.0;
            pair = (proven_exactly (pair_at s call)).0 four.0;
            pauses = (never_or_ago_lem pause call.time s.opening).0 (ap (never_or_ago pause call.time) (sym (opening_same still)) ∙ four.1);
          }

      from : MeetsAll s call → closes_at s call ≡ true
      from all =
          let still = not_opened all.was_open in
          let long : pause_over call.time (after_opening s call) ≡ true =
          ap (never_or_ago pause call.time) (opening_same still) ∙ (never_or_ago_lem pause call.time s.opening).1 all.pauses in
          six (after_opening s call).closed (opens_at s call) (is_driven (accept s call)) (has_grant s.settings.digital (grant_at s call)) (both_proven (pair_at s call))
          (pause_over call.time (after_opening s call))
          (ap (λ b. b && not (opens_at s call)) all.was_open) still all.driven_wave ((has_grant_exactly s.settings.digital (grant_at s call)).1 all.has_grant_lem) ((proven_exactly (pair_at s call)).1 all.pair) long
