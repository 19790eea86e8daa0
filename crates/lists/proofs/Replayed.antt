-- The replay has the laws of one call, so demand 3 holds of every list.
use mathlib.Core.Path.{◌≡◌, refl, sym, ◌∙◌, ap}
use mathlib.Core.Bool.{Bool, true, false, ◌&&◌, ◌||◌, not, cond}
use mathlib.Core.List.{List}
use Prim.Native.Nat.{ℕ, suc, ◌≤◌, ◌<◌}
use native.Mathlib.Omega.{arith}
use lib.ListN.{length, take}
use Rattle.rules.specs.Accepted.{unsettles_at, cause_at, opens_at, closes_at}
use Rattle.rules.specs.Begin.{Begin, begin_refusal, fresh}
use Rattle.rules.specs.Calls.{Call, EvaluatedCall, in_turn}
use Rattle.rules.specs.Refusals.{is_accepted}
use Rattle.rules.specs.State.{State, set_to}
use Rattle.rules.specs.Step5Closing.{closings_by}
use Rattle.laws.proofs.Acceptance.{on_time}
use Rattle.laws.proofs.OneCall.{closed_next, opening_next, previous_is, opening_forgets, closes_exactly}
use Rattle.laws.proofs.Ranges.{pause_least}
use Rattle.lists.specs.Demand3.{Demand3}
use Rattle.lists.specs.Replay.{replay}
use Rattle.lists.specs.Traces.{before, call_at, trace_of}
use Rattle.lists.proofs.Demand3.{demand3_of}
use Rattle.lists.proofs.Lawful.{Memory, Meets, Law, Lawful}
use Rattle.lists.proofs.Kept.{list_in_range}
use Rattle.lists.proofs.Stepped.{mark_is, next_is}

module _ (begin : Begin) (calls : List Call) where
  abbrev pub memory_of : Memory
  memory_of =
      record {
        last = λ k. (before begin calls k).last;
        opening = λ k. (before begin calls k).opening;
        previous = λ k. (before begin calls k).previous;
        forgets = λ k. unsettles_at (before begin calls k) (call_at begin calls k) || opens_at (before begin calls k) (call_at begin calls k);
      }

  -- contactor and closings as told, tied to the replay
  pub record Follows (told_closed : ℕ → Bool) (carried : ℕ → ℕ) : Type 0 where
    pub told_is : (k : ℕ) → k ≤ length calls → told_closed k ≡ (before begin calls k).closed
    pub carried_none : carried 0 ≡ 0
    pub carried_next : (k : ℕ) → k < length calls
        → carried (suc k) ≡ closings_by (is_accepted (before begin calls k) (call_at begin calls k) && closes_at (before begin calls k) (call_at begin calls k)) (carried k)

  module _ (told_closed : ℕ → Bool) (carried : ℕ → ℕ) (tells : Follows told_closed carried) where
    module _ (k : ℕ) (below : k < length calls) where
      abbrev s : State
      s = before begin calls k

      abbrev call : EvaluatedCall
      call = call_at begin calls k

      told_here : told_closed k ≡ s.closed
      told_here = tells.told_is k (omega arith)

      told_next : told_closed (suc k) ≡ cond (is_accepted s call) ((told_closed k && not (cause_at s call)) || closes_at s call) (told_closed k)
      told_next =
          tells.told_is (suc k) below ∙ next_is begin calls k below (λ x. x.closed) _ (closed_next s call)
          ∙ ap (λ b. cond (is_accepted s call) ((b && not (cause_at s call)) || closes_at s call) b) (sym told_here)

      opening_law : (before begin calls (suc k)).opening
          ≡ cond (is_accepted s call && (told_closed k && cause_at s call)) (set_to call.time) s.opening
      opening_law =
          next_is begin calls k below (λ x. x.opening) _ (opening_next s call)
          ∙ nested (is_accepted s call) (s.closed && cause_at s call)
          ∙ ap (λ b. cond (is_accepted s call && (b && cause_at s call)) (set_to call.time) s.opening) (sym told_here)
        where
          nested : (a b : Bool) → cond a (cond b (set_to call.time) s.opening) s.opening ≡ cond (a && b) (set_to call.time) s.opening
          nested true b = refl
          nested false b = refl

      meets_law : closes_at s call ≡ true → Meets (trace_of begin calls told_closed carried) memory_of k
      meets_law met =
          let all = (closes_exactly s call).0 met in
          record {
            was_open = told_here ∙ all.was_open;
            sampled = all.pair.sampled;
            partner = all.pair.partner;
            first_proven = all.pair.first_proven;
            second_proven = all.pair.second_proven;
            one_band = all.pair.one_band;
            has_band = all.pair.has_band;
            has_grant_lem = λ digital. all.has_grant_lem (mark_is begin calls k ∙ digital);
            pause_over = all.pauses;
          }

      law : Law (trace_of begin calls told_closed carried) memory_of k
      law =
          record {
            told_next = told_next;
            carried_next = tells.carried_next k below;
            last_next = next_is begin calls k below (λ x. x.last) call.time refl;
            opening_next = opening_law;
            previous_next = next_is begin calls k below (λ x. x.previous) _ (previous_is s call);
            opening_forgets = λ closed cause. opening_forgets s call (sym told_here ∙ closed) cause;
            not_back = λ into. (on_time s call into).0;
            not_late = λ into. (on_time s call into).1;
            meets = meets_law;
          }

    pub lawful : begin_refusal begin ≡ 0 → Lawful (trace_of begin calls told_closed carried) memory_of
    unfolding replay in_turn fresh
    lawful accepted =
        record {
          starts_open = tells.told_is 0 (omega arith);
          starts_at_none = tells.carried_none;
          starts_alone = refl;
          each = law;
          pause_least = λ k within. pause_least (before begin calls k) (list_in_range begin (take k calls) accepted);
        }

    -- demand 3, from a contactor and a count that follow the replay
    pub demand3_told : begin_refusal begin ≡ 0 → Demand3 (trace_of begin calls told_closed carried)
    demand3_told accepted = demand3_of (trace_of begin calls told_closed carried) memory_of (lawful accepted)
