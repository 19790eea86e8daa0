-- Between two closings lies an opening, before both samples of the later one, and the pause before it.
use mathlib.Core.Path.{◌≡◌, ◌∙◌, ap}
use mathlib.Core.Bool.{true, false}
use mathlib.Core.Logic.{◌⊎◌, inl, inr}
use Prim.Native.Nat.{ℕ, zero, suc, ◌+◌, ◌≤◌, ◌<◌}
use native.Mathlib.Decide.{dec_lt}
use native.Mathlib.Nat.{not-suc-le-zero}
use native.Mathlib.Omega.{arith}
use Rattle.units.proofs.Booleans.{clash}
use Rattle.rules.specs.State.{set_to}
use Rattle.lists.specs.Demand3.{Trace, Closing, Proves, PausedBetween}
use Rattle.lists.proofs.Lawful.{Memory, Lawful, Outcome, refused, stays, shuts, opens, outcome}
use Rattle.lists.proofs.Remembered.{Remembered, closing_meets, partner, only_one}

module _ (t : Trace) (memory : Memory) (laws : Lawful t memory) where
  -- the last opening before call m is call o, and it lies after call i
  pub record LastOpening (i o m : ℕ) : Type 0 where
    pub after_closing : i < o
    pub before : o < m
    pub was_closed : t.told_closed o ≡ true
    pub now_open : t.told_closed (suc o) ≡ false
    pub accepted : t.accepted o ≡ true
    pub stored : memory.opening m ≡ set_to (t.time o)

  -- after a closing the contactor is closed, or it was opened since
  pub opened_since : (i m : ℕ) → Closing t i → i < m → m ≤ t.length → (t.told_closed m ≡ true) ⊎ ((o : ℕ) × LastOpening i o m)
  opened_since i zero closing after within = absurd (not-suc-le-zero after)
  opened_since i (suc m) closing after within = go (dec_lt i m) (outcome t memory m (laws.each m within)) (λ later. opened_since i m closing later (omega arith))
    where
      same_opening : (o : ℕ) → LastOpening i o m → memory.opening (suc m) ≡ memory.opening m → LastOpening i o (suc m)
      same_opening o known move =
          record {
            after_closing = known.after_closing;
            before = omega (arith, known.before);
            was_closed = known.was_closed;
            now_open = known.now_open;
            accepted = known.accepted;
            stored = move ∙ known.stored;
          }

      unmoved : t.told_closed (suc m) ≡ t.told_closed m → memory.opening (suc m) ≡ memory.opening m
          → (t.told_closed m ≡ true) ⊎ ((o : ℕ) × LastOpening i o m) → (t.told_closed (suc m) ≡ true) ⊎ ((o : ℕ) × LastOpening i o (suc m))
      unmoved same move (inl closed) = inl (same ∙ closed)
      unmoved same move (inr known) = inr (known.0, same_opening known.0 known.1 move)

      go : Dec (i < m) → Outcome t memory m → (i < m → (t.told_closed m ≡ true) ⊎ ((o : ℕ) × LastOpening i o m))
          → (t.told_closed (suc m) ≡ true) ⊎ ((o : ℕ) × LastOpening i o (suc m))
      go (no first) what earlier =
          let is : i ≡ m = omega arith in
          inl (rw is at closing.2)
      go (yes later) (refused out same move) earlier = unmoved same move (earlier later)
      go (yes later) (stays into same move no_cause unmet) earlier = unmoved same move (earlier later)
      go (yes later) (shuts into was shut move met) earlier = inl shut
      go (yes later) (opens into was opened move why unmet forgot) earlier =
          inr (m, record { after_closing = later; before = omega arith; was_closed = was; now_open = opened; accepted = into; stored = move })

  -- the opening between two closings
  pub between : (i k : ℕ) → i < k → Closing t i → Closing t k → (o : ℕ) × LastOpening i o k
  between i k after first second = go (opened_since i k first after (omega (arith, second.0)))
    where
      go : (t.told_closed k ≡ true) ⊎ ((o : ℕ) × LastOpening i o k) → (o : ℕ) × LastOpening i o k
      go (inl closed) = clash closed second.1
      go (inr known) = known

  pub paused : (i o k : ℕ) → Closing t k → LastOpening i o k → t.time o + t.pause k ≤ t.time k
  paused i o k second known =
      let meets = (closing_meets t memory laws k second).1 in
      let set = ap (λ m. m.set) known.stored in
      let time = ap (λ m. m.time) known.stored in
      rw time at (meets.pause_over set)

  pub pauses : (i j k : ℕ) → i < k → Closing t i → Closing t k → Proves t j k → PausedBetween t i j k
  pauses i j k after first second pair = rest (between i k after first second) (partner t memory laws k second)
    where
      rest : ((o : ℕ) × LastOpening i o k) → ((p : ℕ) × Remembered t memory laws p k) → PausedBetween t i j k
      rest last sample =
          let o = last.0 in
          let known = last.1 in
          let same = only_one t memory laws sample.0 j k sample.1 pair.successive in
          record {
            opening = o;
            opens = (omega (arith, known.before, second.0), known.was_closed, known.now_open);
            after_closing = known.after_closing;
            before_samples = earlier o known (rw same at sample.1) (dec_lt o j);
            paused = paused i o k second known;
          }
        where
          earlier : (o : ℕ) → LastOpening i o k → Remembered t memory laws j k → Dec (o < j) → o < j
          earlier o known remembered (yes less) = less
          earlier o known remembered (no from) =
              absurd (remembered.no_opening o (omega arith) known.before known.was_closed known.now_open)
