-- What a board gets that calls every 20 ms or sooner (document 01, "The calls"): a closed contactor has had a sound sample in the last 100 ms, which is
-- the bound of source 001, table A3.4. Proved in proofs/ClosedIsSound.antt.
use Rattle.std.specs.Prelude.{◌≡◌, true, false, ℕ, ◌+◌, ◌≤◌, ◌<◌}
use Rattle.lists.specs.Demand3.{Trace, Accepted}

module _ (t : Trace) where
  -- call i is the last accepted one among the first n
  pub record LastAccepted (i n : ℕ) : Type 0 where
    pub accepted : Accepted t i
    pub before : i < n
    pub within : n ≤ t.length
    pub none_later : (j : ℕ) → i < j → j < n → t.accepted j ≡ false

  -- calls i and k are accepted, and none between them is
  pub record Consecutive (i k : ℕ) : Type 0 where
    pub last : LastAccepted i k
    pub next : Accepted t k

  -- the board calls every 20 ms or sooner
  abbrev pub Every20 : Type 0
  Every20 = (i k : ℕ) → Consecutive i k → t.time k ≤ t.time i + 20

  -- a sound sample among the first n calls, at most 100 before the moment
  pub record SoundWithin100 (n instant : ℕ) : Type 0 where
    pub sample : ℕ
    pub before : sample < n
    pub accepted : Accepted t sample
    pub sampled : t.sampled sample ≡ true
    pub sound : (t.verdict sample).sound ≡ true
    pub past : t.time sample ≤ instant
    pub recent : instant ≤ t.time sample + 100

  -- closed only with a sound sample that is at most 100 old
  pub record ClosedIsSound : Type 0 where
    -- at any moment between two consecutive accepted calls of such a board, with n replies told so far
    pub between_calls : Every20 → (i k n instant : ℕ) → Consecutive i k → i < n → n ≤ k
        → t.time i ≤ instant → instant ≤ t.time k → t.told_closed n ≡ true → SoundWithin100 n instant
    -- at any moment up to 20 after the last accepted call, whether another one follows or not
    pub after_last : (i n instant : ℕ) → LastAccepted i n
        → t.time i ≤ instant → instant ≤ t.time i + 20 → t.told_closed n ≡ true → SoundWithin100 n instant
