-- Which sample is the previous one: the last accepted sample, with no opening from it on.
use mathlib.Core.Path.{◌≡◌, refl, sym, ◌∙◌, ap}
use mathlib.Core.Bool.{Bool, true, false, cond}
use Prim.Native.Nat.{ℕ, zero, suc, ◌≤◌, ◌<◌}
use native.Mathlib.Decide.{dec_lt}
use native.Mathlib.Omega.{arith}
use Rattle.units.proofs.Booleans.{clash}
use Rattle.laws.proofs.OneCall.{previous_by}
use Rattle.lists.specs.Demand3.{Trace, Closing, Successive, Proves}
use Rattle.lists.proofs.Lawful.{Memory, Lawful, Law, Meets, Outcome, refused, stays, shuts, opens, outcome}

module _ (t : Trace) (memory : Memory) (laws : Lawful t memory) where
  -- the sample j is the previous one before call k
  pub record Remembered (j k : ℕ) : Type 0 where
    pub before : j < k
    pub accepted : t.accepted j ≡ true
    pub sampled : t.sampled j ≡ true
    pub verdict : (memory.previous k).verdict ≡ t.verdict j
    pub none_between : (i : ℕ) → j < i → i < k → t.accepted i ≡ true → t.sampled i ≡ false
    pub no_opening : (o : ℕ) → j ≤ o → o < k → t.told_closed o ≡ true → t.told_closed (suc o) ≡ false → ⊥

  module _ (k : ℕ) (law : Law t memory k) (keeps : (memory.previous (suc k)).kept ≡ true) where
    -- a call after which a previous sample is kept is no opening
    not_opening : t.told_closed k ≡ true → t.told_closed (suc k) ≡ false → ⊥
    not_opening closed opened = go (outcome t memory k law)
      where
        go : Outcome t memory k → ⊥
        go (refused out same move) = clash closed (sym same ∙ opened)
        go (stays into same move no_cause unmet) = clash closed (sym same ∙ opened)
        go (shuts into was time move met) = clash closed was
        go (opens into was time move why unmet forgot) = clash keeps forgot

    -- the previous sample stays the same over call k
    longer : (j : ℕ) → Remembered j k → memory.previous (suc k) ≡ memory.previous k → (t.accepted k ≡ true → t.sampled k ≡ false)
        → Remembered j (suc k)
    longer j known same here =
        record {
          before = omega (arith, known.before);
          accepted = known.accepted;
          sampled = known.sampled;
          verdict = ap (λ p. p.verdict) same ∙ known.verdict;
          none_between = λ i after below into. between i after below into (dec_lt i k);
          no_opening = λ o from below closed opened. quiet o from below closed opened (dec_lt o k);
        }
      where
        between : (i : ℕ) → j < i → i < suc k → t.accepted i ≡ true → Dec (i < k) → t.sampled i ≡ false
        between i after below into (yes earlier) = known.none_between i after earlier into
        between i after below into (no later) =
            let is : i ≡ k = omega arith in
            rw is (here (rw (← is) into))

        quiet : (o : ℕ) → j ≤ o → o < suc k → t.told_closed o ≡ true → t.told_closed (suc o) ≡ false → Dec (o < k) → ⊥
        quiet o from below closed opened (yes earlier) = known.no_opening o from earlier closed opened
        quiet o from below closed opened (no later) =
            let is : o ≡ k = omega arith in
            not_opening (rw (← is) closed) (rw (← is) opened)

    -- call k is the sample
    newest : t.accepted k ≡ true → t.sampled k ≡ true → (memory.previous (suc k)).verdict ≡ t.verdict k → Remembered k (suc k)
    newest into is_sample own =
        record {
          before = omega arith;
          accepted = into;
          sampled = is_sample;
          verdict = own;
          none_between = λ i after below accepted. absurd (omega arith);
          no_opening = λ o from below closed opened.
              let is : o ≡ k = omega arith in
              not_opening (rw (← is) closed) (rw (← is) opened);
        }

  pub remembered : (k : ℕ) → k ≤ t.length → (memory.previous k).kept ≡ true → (j : ℕ) × Remembered j k
  remembered zero within keeps = clash keeps laws.starts_alone
  remembered (suc k) within keeps =
      go (t.accepted k) (memory.forgets k) (t.sampled k) refl refl law.previous_next (remembered k (omega arith))
    where
      law : Law t memory k
      law = laws.each k within

      -- the previous sample is the one before call k
      same_as : memory.previous (suc k) ≡ memory.previous k → (t.accepted k ≡ true → t.sampled k ≡ false)
          → ((memory.previous k).kept ≡ true → (j : ℕ) × Remembered j k) → (j : ℕ) × Remembered j (suc k)
      same_as same here earlier =
          let known = earlier (sym (ap (λ p. p.kept) same) ∙ keeps) in
          (known.0, longer k law keeps known.0 known.1 same here)

      go : (a f s : Bool) → t.accepted k ≡ a → t.sampled k ≡ s
          → memory.previous (suc k) ≡ cond a (previous_by f s (t.verdict k) (memory.previous k)) (memory.previous k)
          → ((memory.previous k).kept ≡ true → (j : ℕ) × Remembered j k) → (j : ℕ) × Remembered j (suc k)
      go false f s out kind is earlier = same_as is (λ into. clash into out) earlier
      go true true s into kind is earlier = clash keeps (ap (λ p. p.kept) is)
      go true false true into kind is earlier = (k, newest k law keeps into kind (ap (λ p. p.verdict) is))
      go true false false into kind is earlier = same_as is (λ again. kind) earlier

  -- a closing is an accepted call that met every closing condition
  pub closing_meets : (k : ℕ) → Closing t k → (t.accepted k ≡ true) × Meets t memory k
  closing_meets k closing = go (outcome t memory k law)
    where
      law : Law t memory k
      law = laws.each k closing.0

      go : Outcome t memory k → (t.accepted k ≡ true) × Meets t memory k
      go (refused out same move) = clash closing.2 (same ∙ closing.1)
      go (stays into same move no_cause unmet) = clash closing.2 (same ∙ closing.1)
      go (shuts into was time move met) = (into, law.meets met)
      go (opens into closed time move why unmet forgot) = clash closing.2 time

  pub partner : (k : ℕ) → Closing t k → (j : ℕ) × Remembered j k
  partner k closing = remembered k (omega (arith, closing.0)) (closing_meets k closing).1.partner

  pub proves : (k : ℕ) → Closing t k → (j : ℕ) × Proves t j k
  proves k closing =
      let known = partner k closing in
      (known.0, pair known.0 known.1 (closing_meets k closing).0 (closing_meets k closing).1)
    where
      pair : (j : ℕ) → Remembered j k → t.accepted k ≡ true → Meets t memory k → Proves t j k
      pair j known into meets =
          record {
            successive = record {
              before = known.before;
              first = (omega (arith, known.before, closing.0), known.accepted);
              first_sample = known.sampled;
              second = (closing.0, into);
              second_sample = meets.sampled;
              none_between = known.none_between;
            };
            first_proven = sym (ap (λ v. v.proven) known.verdict) ∙ meets.first_proven;
            second_proven = meets.second_proven;
            one_band = sym (ap (λ v. v.band) known.verdict) ∙ meets.one_band;
            has_band = meets.has_band;
          }

  -- of two samples before call k with no accepted sample after them, neither is the later
  pub only_one : (i j k : ℕ) → Remembered i k → Successive t j k → i ≡ j
  only_one i j k known other = go (dec_lt i j) (dec_lt j i)
    where
      go : Dec (i < j) → Dec (j < i) → i ≡ j
      go (yes less) any = clash other.first_sample (known.none_between j less other.before other.first.1)
      go (no at_least_lem) (yes less) = clash known.sampled (other.none_between i less known.before known.accepted)
      go (no at_least_lem) (no at_most) = omega arith
