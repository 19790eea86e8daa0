-- The laws of one call that the list theorem rests on. A change of a step touches these laws, and not the theorem.
use mathlib.Core.Path.{◌≡◌, refl, sym, ◌∙◌, ap}
use mathlib.Core.Bool.{Bool, true, false, ◌&&◌, ◌||◌, not, cond}
use Prim.Native.Nat.{ℕ, suc, ◌+◌, ◌≤◌, ◌<◌}
use Rattle.units.proofs.Booleans.{clash}
use Rattle.pilot.specs.Bands.{no_band}
use Rattle.rules.specs.Begin.{largest_time}
use Rattle.rules.specs.State.{Moment, Previous, set_to, forgotten}
use Rattle.rules.specs.Step5Closing.{closings_by}
use Rattle.laws.proofs.OneCall.{previous_by}
use Rattle.lists.specs.Demand3.{Trace}

-- what is kept before call k, beside what the claim speaks of
pub record Memory : Type 0 where
  pub last : ℕ → ℕ
  pub opening : ℕ → Moment
  pub previous : ℕ → Previous
  -- of call k: if accepted, it forgets the previous sample
  pub forgets : ℕ → Bool

module _ (t : Trace) (memory : Memory) where
  -- what a call shows that meets every closing condition
  pub record Meets (k : ℕ) : Type 0 where
    pub was_open : t.told_closed k ≡ false
    pub sampled : t.sampled k ≡ true
    pub partner : (memory.previous k).kept ≡ true
    pub first_proven : (memory.previous k).verdict.proven ≡ true
    pub second_proven : (t.verdict k).proven ≡ true
    pub one_band : (memory.previous k).verdict.band ≡ (t.verdict k).band
    pub has_band : (t.verdict k).band ≡ no_band → ⊥
    pub has_grant_lem : t.digital ≡ true → 6000 ≤ t.grant k
    pub pause_over : (memory.opening k).set ≡ true → (memory.opening k).time + t.pause k ≤ t.time k

  pub record Law (k : ℕ) : Type 0 where
    pub told_next : t.told_closed (suc k) ≡ cond (t.accepted k) ((t.told_closed k && not (t.cause k)) || t.closes k) (t.told_closed k)
    pub carried_next : t.carried (suc k) ≡ closings_by (t.accepted k && t.closes k) (t.carried k)
    pub last_next : memory.last (suc k) ≡ cond (t.accepted k) (t.time k) (memory.last k)
    pub opening_next : memory.opening (suc k) ≡ cond (t.accepted k && (t.told_closed k && t.cause k)) (set_to (t.time k)) (memory.opening k)
    pub previous_next : memory.previous (suc k)
        ≡ cond (t.accepted k) (previous_by (memory.forgets k) (t.sampled k) (t.verdict k) (memory.previous k)) (memory.previous k)
    pub opening_forgets : t.told_closed k ≡ true → t.cause k ≡ true → memory.forgets k ≡ true
    -- the clock
    pub not_back : t.accepted k ≡ true → memory.last k ≤ t.time k
    pub not_late : t.accepted k ≡ true → t.time k ≤ largest_time
    pub meets : t.closes k ≡ true → Meets k

  pub record Lawful : Type 0 where
    pub starts_open : t.told_closed 0 ≡ false
    pub starts_at_none : t.carried 0 ≡ 0
    pub starts_alone : (memory.previous 0).kept ≡ false
    pub each : (k : ℕ) → k < t.length → Law k
    pub pause_least : (k : ℕ) → k < t.length → 1000 ≤ t.pause k

  -- the four effects that a call can have
  pub data Outcome (k : ℕ) : Type 0 where
    refused : t.accepted k ≡ false → t.told_closed (suc k) ≡ t.told_closed k → memory.opening (suc k) ≡ memory.opening k → Outcome k
    stays : t.accepted k ≡ true → t.told_closed (suc k) ≡ t.told_closed k → memory.opening (suc k) ≡ memory.opening k
        → (t.told_closed k ≡ true → t.cause k ≡ false) → t.closes k ≡ false → Outcome k
    shuts : t.accepted k ≡ true → t.told_closed k ≡ false → t.told_closed (suc k) ≡ true → memory.opening (suc k) ≡ memory.opening k
        → t.closes k ≡ true → Outcome k
    opens : t.accepted k ≡ true → t.told_closed k ≡ true → t.told_closed (suc k) ≡ false → memory.opening (suc k) ≡ set_to (t.time k)
        → t.cause k ≡ true → t.closes k ≡ false → (memory.previous (suc k)).kept ≡ false → Outcome k

  pub outcome : (k : ℕ) → Law k → Outcome k
  outcome k law = go (t.accepted k) (t.told_closed k) (t.cause k) (t.closes k) refl refl refl refl
    where
      next : (a c r m : Bool) → t.accepted k ≡ a → t.told_closed k ≡ c → t.cause k ≡ r → t.closes k ≡ m
          → t.told_closed (suc k) ≡ cond a ((c && not r) || m) c
      next a c r m ea ec er em = law.told_next ∙ rw (ea, ec, er, em)

      moved : (a c r : Bool) → t.accepted k ≡ a → t.told_closed k ≡ c → t.cause k ≡ r
          → memory.opening (suc k) ≡ cond (a && (c && r)) (set_to (t.time k)) (memory.opening k)
      moved a c r ea ec er = law.opening_next ∙ rw (ea, ec, er)

      none_kept : t.accepted k ≡ true → memory.forgets k ≡ true → memory.previous (suc k) ≡ forgotten
      none_kept into forgets = law.previous_next ∙ rw (into, forgets)

      go : (a c r m : Bool) → t.accepted k ≡ a → t.told_closed k ≡ c → t.cause k ≡ r → t.closes k ≡ m → Outcome k
      go false c r m ea ec er em = refused ea (next false c r m ea ec er em ∙ sym ec) (moved false c r ea ec er)
      go true true true true ea ec er em = clash ec (law.meets em).was_open
      go true true false true ea ec er em = clash ec (law.meets em).was_open
      go true true true false ea ec er em =
          opens ea ec (next true true true false ea ec er em) (moved true true true ea ec er) er em
          (ap (λ p. p.kept) (none_kept ea (law.opening_forgets ec er)))
      go true true false false ea ec er em =
          stays ea (next true true false false ea ec er em ∙ sym ec) (moved true true false ea ec er) (λ c. er) em
      go true false r true ea ec er em = shuts ea ec (next true false r true ea ec er em) (moved true false r ea ec er) em
      go true false r false ea ec er em =
          stays ea (next true false r false ea ec er em ∙ sym ec) (moved true false r ea ec er) (λ c. clash c ec) em
