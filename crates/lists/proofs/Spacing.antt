-- The number of closings, and how far apart they lie.
use mathlib.Core.Path.{◌≡◌, refl, sym, ◌∙◌}
use mathlib.Core.Bool.{Bool, true, false, ◌&&◌, not, cond}
use Prim.Native.Nat.{ℕ, zero, suc, ◌+◌, ◌*◌, ◌-◌, ◌≤◌, ◌<◌}
use native.Mathlib.Decide.{dec_lt}
use native.Mathlib.Nat.{not-suc-le-zero}
use native.Mathlib.Omega.{arith}
use Rattle.units.proofs.Booleans.{clash}
use Rattle.rules.specs.Altered.{most_closings}
use Rattle.rules.specs.Step5Closing.{closings_by}
use Rattle.lists.specs.Demand3.{Trace, Closing, closings_in, least_pause, Spans}
use Rattle.lists.proofs.Lawful.{Memory, Lawful, Law, Outcome, refused, stays, shuts, opens, outcome}
use Rattle.lists.proofs.Pauses.{LastOpening, between, paused}
use Rattle.lists.proofs.Remembered.{closing_meets}

module _ (t : Trace) (memory : Memory) (laws : Lawful t memory) where
  -- the clock: the last accepted time never falls
  pub not_before : (i m : ℕ) → t.accepted i ≡ true → i < m → m ≤ t.length → t.time i ≤ memory.last m
  not_before i zero into after within = absurd (not-suc-le-zero after)
  not_before i (suc m) into after within = go (dec_lt i m) (t.accepted m) refl (λ later. not_before i m into later (omega arith))
    where
      law : Law t memory m
      law = laws.each m within

      next : (a : Bool) → t.accepted m ≡ a → memory.last (suc m) ≡ cond a (t.time m) (memory.last m)
      next a e = law.last_next ∙ rw e

      go : Dec (i < m) → (a : Bool) → t.accepted m ≡ a → (i < m → t.time i ≤ memory.last m) → t.time i ≤ memory.last (suc m)
      go (yes later) true e earlier = rw (next true e) (omega (arith, earlier later, law.not_back e))
      go (yes later) false e earlier = rw (next false e) (earlier later)
      go (no first) a e earlier =
          let is : i ≡ m = omega arith in
          let here : t.accepted m ≡ true = rw (← is) into in
          rw (next true here, is) (omega arith)

  pub in_order : (i k : ℕ) → t.accepted i ≡ true → t.accepted k ≡ true → i < k → k < t.length → t.time i ≤ t.time k
  in_order i k first second after within = omega (arith, not_before i k first after (omega arith), (laws.each k within).not_back second)

  -- call k is a closing, as a test
  abbrev closes_in : ℕ → Bool
  closes_in k = not (t.told_closed k) && t.told_closed (suc k)

  is_closing : (k : ℕ) → k < t.length → closes_in k ≡ true → Closing t k
  is_closing k within e = go (t.told_closed k) (t.told_closed (suc k)) refl refl e
    where
      go : (a b : Bool) → t.told_closed k ≡ a → t.told_closed (suc k) ≡ b → not a && b ≡ true → Closing t k
      go false true p q r = (within, p, q)
      go false false p q r = clash refl (sym r)
      go true b p q r = clash refl (sym r)

  is_tested : (k : ℕ) → Closing t k → closes_in k ≡ true
  is_tested k closing = rw (closing.1, closing.2)

  -- the first and the last closing among the first n calls, so far apart that a pause of `least` fits between any two
  pub record SpansIn (least n : ℕ) : Type 0 where
    pub first : ℕ
    pub first_closes : Closing t first
    pub none_before : (k : ℕ) → k < first → Closing t k → ⊥
    pub last : ℕ
    pub last_closes : Closing t last
    pub last_below : last < n
    pub none_after : (k : ℕ) → last < k → k < n → Closing t k → ⊥
    pub spaced : (c : ℕ) → closings_in t n ≡ suc c → c * least + t.time first ≤ t.time last

  none_counted : (n k : ℕ) → closings_in t n ≡ 0 → k < n → Closing t k → ⊥
  none_counted zero k none below closing = not-suc-le-zero below
  none_counted (suc n) k none below closing = go (dec_lt k n) (closes_in n) refl none (λ rest earlier. none_counted n k rest earlier closing)
    where
      go : Dec (k < n) → (b : Bool) → closes_in n ≡ b → cond b (suc (closings_in t n)) (closings_in t n) ≡ 0
          → (closings_in t n ≡ 0 → k < n → ⊥) → ⊥
      go d true e none' earlier = omega arith
      go (yes less) false e none' earlier = earlier none' less
      go (no more) false e none' earlier =
          let is : k ≡ n = omega arith in
          clash (rw is at (is_tested k closing)) e

  -- no pause in force at a call is below `least`
  abbrev AtLeast : ℕ → Type 0
  AtLeast least = (k : ℕ) → k < t.length → least ≤ t.pause k

  pub spans_in : (least : ℕ) → AtLeast least → (n : ℕ) → n ≤ t.length → 1 ≤ closings_in t n → SpansIn least n
  spans_in least pauses zero within some = absurd (not-suc-le-zero some)
  spans_in least pauses (suc n) within some =
      go (closes_in n) refl (closings_in t n) refl (spans_in least pauses n (omega arith)) some
    where
      later : closes_in n ≡ false → SpansIn least n → SpansIn least (suc n)
      later e known =
          record {
            first = known.first;
            first_closes = known.first_closes;
            none_before = known.none_before;
            last = known.last;
            last_closes = known.last_closes;
            last_below = omega (arith, known.last_below);
            none_after = λ k after below closing. none k after below closing (dec_lt k n);
            spaced = λ c count. known.spaced c (rw e at count);
          }
        where
          none : (k : ℕ) → known.last < k → k < suc n → Closing t k → Dec (k < n) → ⊥
          none k after below closing (yes less) = known.none_after k after less closing
          none k after below closing (no more) =
              let is : k ≡ n = omega arith in
              clash (rw is at (is_tested k closing)) e

      only : closes_in n ≡ true → closings_in t n ≡ 0 → SpansIn least (suc n)
      only e none =
          record {
            first = n;
            first_closes = is_closing n within e;
            none_before = λ k below closing. none_counted n k none below closing;
            last = n;
            last_closes = is_closing n within e;
            last_below = omega arith;
            none_after = λ k after below closing. absurd (omega arith);
            spaced = λ c count. let is : c ≡ 0 = omega (arith, rw e at count) in rw is (omega arith);
          }

      another : (c : ℕ) → closes_in n ≡ true → closings_in t n ≡ suc c → SpansIn least n → SpansIn least (suc n)
      another c e count known =
          record {
            first = known.first;
            first_closes = known.first_closes;
            none_before = known.none_before;
            last = n;
            last_closes = here;
            last_below = omega arith;
            none_after = λ k after below closing. absurd (omega arith);
            spaced = λ d more.
                let is : d ≡ suc c = omega (arith, rw e at more) in
                rw is (omega (arith, known.spaced c count, paused t memory laws known.last gap.0 n here gap.1, ordered, pauses n within));
          }
        where
          here : Closing t n
          here = is_closing n within e

          gap : (o : ℕ) × LastOpening t memory laws known.last o n
          gap = between t memory laws known.last n known.last_below known.last_closes here

          ordered : t.time known.last ≤ t.time gap.0
          ordered =
              in_order known.last gap.0 (closing_meets t memory laws known.last known.last_closes).0 gap.1.accepted
              gap.1.after_closing (omega (arith, gap.1.before))

      go : (b : Bool) → closes_in n ≡ b → (c : ℕ) → closings_in t n ≡ c → (1 ≤ closings_in t n → SpansIn least n)
          → 1 ≤ cond b (suc (closings_in t n)) (closings_in t n) → SpansIn least (suc n)
      go false e c count earlier some' = later e (earlier some')
      go true e zero count earlier some' = only e count
      go true e (suc c) count earlier some' = another c e count (earlier (omega arith))

  -- so many pauses of 1,000 fit between the first time and the largest
  pub at_most : (n : ℕ) → n ≤ t.length → closings_in t n ≤ most_closings
  at_most n within = go (closings_in t n) refl
    where
      go : (c : ℕ) → closings_in t n ≡ c → c ≤ most_closings
      go zero e = omega arith
      go (suc c) e =
          let known = spans_in 1000 laws.pause_least n within (omega arith) in
          let late = (laws.each known.last known.last_closes.0).not_late (closing_meets t memory laws known.last known.last_closes).0 in
          omega (arith, known.spaced c e, late)

  -- the least pause is not above any of them
  pub least_of : (n k : ℕ) → k < n → least_pause t n ≤ t.pause k
  least_of zero k below = absurd (not-suc-le-zero below)
  least_of (suc n) k below = go (dec_lt k n) (λ less. least_of n k less)
    where
      go : Dec (k < n) → (k < n → least_pause t n ≤ t.pause k) → least_pause t (suc n) ≤ t.pause k
      go (yes less) earlier = omega (arith, earlier less)
      go (no more) earlier =
          let is : k ≡ n = omega arith in
          rw is (omega arith)

  pub spans : 1 ≤ closings_in t t.length → Spans t
  spans some =
      let known = spans_in (least_pause t t.length) (least_of t.length) t.length (omega arith) some in
      record {
        first = known.first;
        first_closes = known.first_closes;
        none_before = known.none_before;
        last = known.last;
        last_closes = known.last_closes;
        none_after = λ k after closing. known.none_after k after closing.0 closing;
        spaced = wide known;
      }
    where
      wide : (known : SpansIn (least_pause t t.length) t.length) → (closings_in t t.length - 1) * least_pause t t.length ≤ t.time known.last - t.time known.first
      wide known =
          let count : closings_in t t.length ≡ suc (closings_in t t.length - 1) = omega arith in
          omega (arith, known.spaced (closings_in t t.length - 1) count)

  -- the carried count is the number of closings
  pub counts : (n : ℕ) → n ≤ t.length → t.carried n ≡ closings_in t n
  unfolding closings_by
  counts zero within = laws.starts_at_none
  counts (suc n) within = go (outcome t memory n law) (counts n (omega arith))
    where
      law : Law t memory n
      law = laws.each n within

      go : Outcome t memory n → t.carried n ≡ closings_in t n → t.carried (suc n) ≡ closings_in t (suc n)
      go what ih = law.carried_next ∙ tally what
        where
          quiet : (b : Bool) → not b && b ≡ false
          quiet true = refl
          quiet false = refl

          tally : Outcome t memory n → closings_by (t.accepted n && t.closes n) (t.carried n) ≡ closings_in t (suc n)
          tally (refused out same move) = rw (out, same, quiet (t.told_closed n), ih)
          tally (stays into same move no_cause unmet) = rw (into, unmet, same, quiet (t.told_closed n), ih)
          tally (shuts into was time move met) = rw (into, met, was, time, ih)
          tally (opens into was time move why unmet forgot) = rw (into, unmet, was, ih)

-- the least of pauses that are all the same
pub least_is : (t : Trace) (n pause : ℕ) → ((k : ℕ) → t.pause k ≡ pause) → least_pause t n ≡ pause
least_is t zero pause same = same 0
least_is t (suc n) pause same = rw (least_is t n pause same, same n) (omega arith)
