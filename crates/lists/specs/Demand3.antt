-- Demand 3: one claim about a whole list. Call k of it is the one with k calls before it.
use Rattle.std.specs.Prelude.{◌≡◌, Bool, true, false, ◌&&◌, not, cond, ◌↔◌, ℕ, zero, suc, ◌+◌, ◌*◌, ◌-◌, min, ◌≤◌, ◌<◌}
use Rattle.pilot.specs.Bands.{no_band}
use Rattle.pilot.specs.declared.verdicts.Verdict.{Verdict}
use Rattle.rules.specs.Altered.{most_closings}

-- what the claim speaks of
pub record Trace : Type 0 where
  -- how many calls the list has
  pub length : ℕ
  -- contactor and closings as told before call k: by the reply of the call before it, or by begin's
  pub told_closed : ℕ → Bool
  pub carried : ℕ → ℕ
  -- of call k, by the replay: the table has no refusal for it; its time; it is a sample, and its verdict
  pub accepted : ℕ → Bool
  pub time : ℕ → ℕ
  pub sampled : ℕ → Bool
  pub verdict : ℕ → Verdict
  -- call k meets every closing condition; an opening cause holds in it
  pub closes : ℕ → Bool
  pub cause : ℕ → Bool
  -- the post is digital; the grant at call k, after its step 1
  pub digital : Bool
  pub grant : ℕ → ℕ
  -- the pause in force when call k is made
  pub pause : ℕ → ℕ

module _ (t : Trace) where
  -- call k of the list, accepted
  abbrev pub Accepted : ℕ → Type 0
  Accepted k = (k < t.length) × (t.accepted k ≡ true)

  -- a closing: told closed where the reply before told open
  abbrev pub Closing : ℕ → Type 0
  Closing k = (k < t.length) × (t.told_closed k ≡ false) × (t.told_closed (suc k) ≡ true)

  -- an opening: the reverse
  abbrev pub Opening : ℕ → Type 0
  Opening k = (k < t.length) × (t.told_closed k ≡ true) × (t.told_closed (suc k) ≡ false)

  -- an accepted call that met every closing condition, with no opening cause in a later accepted one
  pub record HeldSince (k : ℕ) : Type 0 where
    pub accepted : Accepted k
    pub met : t.closes k ≡ true
    pub no_cause : (j : ℕ) → k < j → Accepted j → t.cause j ≡ false

  -- successive samples: accepted, with no accepted sample between them
  pub record Successive (j k : ℕ) : Type 0 where
    pub before : j < k
    pub first : Accepted j
    pub first_sample : t.sampled j ≡ true
    pub second : Accepted k
    pub second_sample : t.sampled k ≡ true
    pub none_between : (i : ℕ) → j < i → i < k → t.accepted i ≡ true → t.sampled i ≡ false

  -- both proven, in one band
  pub record Proves (j k : ℕ) : Type 0 where
    pub successive : Successive j k
    pub first_proven : (t.verdict j).proven ≡ true
    pub second_proven : (t.verdict k).proven ≡ true
    pub one_band : (t.verdict j).band ≡ (t.verdict k).band
    pub has_band : (t.verdict k).band ≡ no_band → ⊥

  -- between closing i and closing k with its samples j and k: an opening before both samples, and before the closing the pause that is in
  -- force there
  pub record PausedBetween (i j k : ℕ) : Type 0 where
    pub opening : ℕ
    pub opens : Opening opening
    pub after_closing : i < opening
    pub before_samples : opening < j
    pub paused : t.time opening + t.pause k ≤ t.time k

  -- how many of the first n calls are closings
  abbrev pub closings_in : ℕ → ℕ
  closings_in zero = 0
  closings_in (suc k) = cond (not (t.told_closed k) && t.told_closed (suc k)) (suc (closings_in k)) (closings_in k)

  -- the least pause in force at begin and at the first n calls
  abbrev pub least_pause : ℕ → ℕ
  least_pause zero = t.pause 0
  least_pause (suc k) = min (least_pause k) (t.pause k)

  -- the span: the time of the last closing less that of the first
  pub record Spans : Type 0 where
    pub first : ℕ
    pub first_closes : Closing first
    pub none_before : (k : ℕ) → k < first → Closing k → ⊥
    pub last : ℕ
    pub last_closes : Closing last
    pub none_after : (k : ℕ) → last < k → Closing k → ⊥
    pub spaced : (closings_in t.length - 1) * least_pause t.length ≤ t.time last - t.time first

  -- demand 3
  pub record Demand3 : Type 0 where
    pub exactly : (t.told_closed t.length ≡ true) ↔ ((k : ℕ) × HeldSince k)
    pub proves : (k : ℕ) → Closing k → (j : ℕ) × Proves j k
    -- a digital post closes with a grant of at least 6,000 (document 02, e)
    pub grants : t.digital ≡ true → (k : ℕ) → Closing k → 6000 ≤ t.grant k
    pub pauses : (i j k : ℕ) → i < k → Closing i → Closing k → Proves j k → PausedBetween i j k
    pub counts : t.carried t.length ≡ closings_in t.length
    pub at_most : closings_in t.length ≤ most_closings
    pub spans : 1 ≤ closings_in t.length → Spans
