-- One controller lent from call to call keeps what the replay keeps, and refusal 1 never comes.
use mathlib.Core.Path.{◌≡◌, refl, sym, ◌∙◌, ap}
use mathlib.Core.Bool.{Bool, true, false, ◌&&◌}
use mathlib.Core.List.{List}
use Prim.Native.Nat.{ℕ, zero, suc, ◌≤◌, ◌<◌}
use native.Mathlib.Omega.{arith}
use lib.Dec.{eqb}
use lib.ListN.{length, take}
use borrow.Author.Tests.{le-leb}
use Rattle.rules.specs.Accepted.{closes_at}
use Rattle.rules.specs.Altered.{Lent, most_closings, altered, lent_refusal}
use Rattle.rules.specs.Begin.{Begin, begin_refusal}
use Rattle.rules.specs.Calls.{Call, EvaluatedCall, in_turn}
use Rattle.rules.specs.Faults.{first_of}
use Rattle.rules.specs.Answer.{begun, next}
use Rattle.rules.specs.Refusals.{refusal, is_accepted}
use Rattle.rules.specs.State.{State}
use Rattle.rules.specs.Step5Closing.{closings_by}
use Rattle.laws.proofs.NextLent.{lent_refusal_lem, next_by}
use Rattle.laws.proofs.Ranges.{range_whole}
use Rattle.lists.specs.Demand3.{Trace, Demand3}
use Rattle.lists.specs.Replay.{step, replay}
use Rattle.lists.specs.Traces.{before, call_at, trace_of, lent_at, reply_before, answered}
use Rattle.lists.proofs.Lawful.{Lawful}
use Rattle.lists.proofs.Kept.{list_in_range}
use Rattle.lists.proofs.Replayed.{memory_of, Follows, lawful, demand3_told}
use Rattle.lists.proofs.Spacing.{in_order, at_most, counts}
use Rattle.lists.proofs.Stepped.{before_next, step_by}
use Rattle.lists.proofs.Turns.{turn_next}

-- then it goes on as the replay does, and counts the closings
next_follows : (s : State) (n : ℕ) (call : EvaluatedCall) → altered (record { state = s; closings = n }) ≡ false
    → next (record { state = s; closings = n }) call
    ≡ record { state = step s call; closings = closings_by (is_accepted s call && closes_at s call) n }
unfolding closings_by
next_follows s n call same = go (is_accepted s call) refl
  where
    lent : Lent
    lent = record { state = s; closings = n }

    go : (a : Bool) → is_accepted s call ≡ a
        → next lent call ≡ record { state = step s call; closings = closings_by (is_accepted s call && closes_at s call) n }
    go true into =
        next_by lent call true (ap (λ r. eqb r 0) (lent_refusal_lem lent call same) ∙ into)
        ∙ rw (step_by s call true into, into)
    go false out =
        next_by lent call false (ap (λ r. eqb r 0) (lent_refusal_lem lent call same) ∙ out)
        ∙ rw (step_by s call false out, out)

module _ (begin : Begin) (calls : List Call) (accepted : begin_refusal begin ≡ 0) where
  -- the closings of the replay before call k
  abbrev tally : ℕ → ℕ
  tally zero = 0
  tally (suc k) = closings_by (is_accepted (before begin calls k) (call_at begin calls k) && closes_at (before begin calls k) (call_at begin calls k)) (tally k)

  by_replay : Follows begin calls (λ k. (before begin calls k).closed) tally
  by_replay = record { told_is = λ k below. refl; carried_none = refl; carried_next = λ k below. refl }

  -- the trace of the replay's own contactor and closings
  abbrev replayed : Trace
  replayed = trace_of begin calls (λ k. (before begin calls k).closed) tally

  laws : Lawful replayed (memory_of begin calls)
  laws = lawful begin calls _ tally by_replay accepted

  tally_most : (k : ℕ) → k ≤ length calls → tally k ≤ most_closings
  tally_most k within = rw (counts replayed (memory_of begin calls) laws k within) (at_most replayed (memory_of begin calls) laws k within)

  -- the clock: the times of accepted calls do not fall
  pub times_in_order : (i k : ℕ) → is_accepted (before begin calls i) (call_at begin calls i) ≡ true → is_accepted (before begin calls k) (call_at begin calls k) ≡ true
      → i < k → k < length calls → (call_at begin calls i).time ≤ (call_at begin calls k).time
  times_in_order = in_order replayed (memory_of begin calls) laws

  -- no list leads to a controller that refusal 1 names
  pub tally_not_altered : (k : ℕ) → k ≤ length calls → altered (record { state = before begin calls k; closings = tally k }) ≡ false
  unfolding altered
  tally_not_altered k within =
      rw (range_whole (before begin calls k) (list_in_range begin (take k calls) accepted), le-leb (tally k) most_closings (tally_most k within))

  pub lent_is : (k : ℕ) → k ≤ length calls → lent_at begin calls k ≡ record { state = before begin calls k; closings = tally k }
  unfolding replay in_turn
  lent_is zero within = refl
  lent_is (suc k) within =
      turn_next next (begun begin) calls k within
      ∙ ap (λ l. next l (call_at begin calls k)) (lent_is k (omega arith))
      ∙ next_follows (before begin calls k) (tally k) (call_at begin calls k) (tally_not_altered k (omega arith))
      ∙ ap (λ s. record { state = s; closings = tally (suc k) }) (sym (before_next begin calls k within))

  -- what a reply tells before call k is what the lent controller holds
  pub reply_is : {A : Type 0} (f : Lent → A) (g : ℕ → A) → g 0 ≡ f (begun begin)
      → ((k : ℕ) → g (suc k) ≡ f (next (lent_at begin calls k) (call_at begin calls k))) → (k : ℕ) → k ≤ length calls
      → g k ≡ f (record { state = before begin calls k; closings = tally k })
  unfolding replay in_turn
  reply_is f g first later zero within = first
  reply_is f g first later (suc k) within = later k ∙ ap f (sym (turn_next next (begun begin) calls k within) ∙ lent_is (suc k) within)

  pub contactor_told : (k : ℕ) → k ≤ length calls → (reply_before begin calls k).closed ≡ (before begin calls k).closed
  contactor_told = reply_is (λ l. l.state.closed) (λ k. (reply_before begin calls k).closed) refl (λ k. refl)

  pub closings_told : (k : ℕ) → k ≤ length calls → (reply_before begin calls k).closings ≡ tally k
  closings_told = reply_is (λ l. l.closings) (λ k. (reply_before begin calls k).closings) refl (λ k. refl)

  -- the controller lent to call k: the replay's state, and the closings that were last told; refusal 1 does not name it
  pub state_lent : (k : ℕ) → k ≤ length calls → (lent_at begin calls k).state ≡ before begin calls k
  state_lent k within = ap (λ l. l.state) (lent_is k within)

  pub closings_lent : (k : ℕ) → k ≤ length calls → (lent_at begin calls k).closings ≡ (reply_before begin calls k).closings
  closings_lent k within = ap (λ l. l.closings) (lent_is k within) ∙ sym (closings_told k within)

  pub not_altered : (k : ℕ) → k ≤ length calls → altered (lent_at begin calls k) ≡ false
  not_altered k within = ap altered (lent_is k within) ∙ tally_not_altered k within

  -- each reply's refusal number is the table's; wave, lines and fault are those of the replay
  pub refusal_told : (k : ℕ) → k < length calls → (reply_before begin calls (suc k)).refusal ≡ refusal (before begin calls k) (call_at begin calls k)
  refusal_told k below =
      ap (λ l. lent_refusal l (call_at begin calls k)) (lent_is k (omega arith)) ∙ lent_refusal_lem _ (call_at begin calls k) (tally_not_altered k (omega arith))

  pub wave_told : (k : ℕ) → k ≤ length calls → (reply_before begin calls k).wave ≡ (before begin calls k).wave
  wave_told = reply_is (λ l. l.state.wave) (λ k. (reply_before begin calls k).wave) refl (λ k. refl)

  pub lines_told : (k : ℕ) → k ≤ length calls → (reply_before begin calls k).lines ≡ (before begin calls k).lines
  lines_told = reply_is (λ l. l.state.lines) (λ k. (reply_before begin calls k).lines) refl (λ k. refl)

  pub fault_told : (k : ℕ) → k ≤ length calls → (reply_before begin calls k).fault ≡ first_of (before begin calls k).faults
  fault_told = reply_is (λ l. first_of l.state.faults) (λ k. (reply_before begin calls k).fault) refl (λ k. refl)

  -- demand 3, of any contactor and count that these replies tell
  pub demand3_replied : (told_closed : ℕ → Bool) (carried : ℕ → ℕ)
      → ((k : ℕ) → k ≤ length calls → told_closed k ≡ (reply_before begin calls k).closed)
      → ((k : ℕ) → k ≤ length calls → carried k ≡ (reply_before begin calls k).closings)
      → Demand3 (trace_of begin calls told_closed carried)
  demand3_replied told_closed carried tells counts =
      demand3_told begin calls told_closed carried
      (record {
        told_is = λ k within. tells k within ∙ contactor_told k within;
        carried_none = counts 0 (omega arith);
        carried_next = λ k below.
            counts (suc k) below ∙ closings_told (suc k) below ∙ rw (counts k (omega arith), closings_told k (omega arith));
      })
      accepted

  pub demand3 : Demand3 (answered begin calls)
  demand3 = demand3_replied _ _ (λ k within. refl) (λ k within. refl)
