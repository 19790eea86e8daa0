-- In every list fault 2 comes exactly with a call that finds the van over its bound for too long.
use mathlib.Core.Path.{◌≡◌, refl, sym, ◌∙◌, ap}
use mathlib.Core.Bool.{Bool, true, false, cond}
use mathlib.Core.List.{List}
use Prim.Native.Nat.{ℕ, zero, suc, ◌+◌, ◌≤◌, ◌<◌}
use native.Mathlib.Decide.{dec_lt}
use native.Mathlib.Nat.{not-suc-le-zero}
use native.Mathlib.Omega.{arith}
use lib.ListN.{length, take}
use Rattle.units.specs.Wave.{five_percent}
use Rattle.units.proofs.Booleans.{clash}
use Rattle.rules.specs.Accepted.{accept}
use Rattle.rules.specs.Begin.{Begin, begin_refusal}
use Rattle.rules.specs.Calls.{Call, EvaluatedCall}
use Rattle.rules.specs.Faults.{overcurrent, is_latched}
use Rattle.rules.specs.Lines.{Lines}
use Rattle.rules.specs.Refusals.{is_accepted}
use Rattle.rules.specs.State.{State, is_driven, set_to}
use Rattle.laws.proofs.Acceptance.{on_time}
use Rattle.laws.proofs.Latching.{latched_any}
use Rattle.laws.proofs.Offering.{driven_offers}
use Rattle.laws.proofs.Overruns.{restarted, JudgedBy, AboveBound, after_step1, ByEvent, left, starts, ends, by_event, same_lines, stays_closed, restarts_at, latches, latches_when}
use Rattle.lists.specs.OverCurrent.{LatchesTwo, Over, Within, Lowers, OverTooLong, OverCurrentExactly, DigitalLowersNone}
use Rattle.lists.specs.Traces.{before, call_at}
use Rattle.lists.proofs.FirstFault.{latching_is}
use Rattle.lists.proofs.OverrunSince.{Since, since, not_later}
use Rattle.lists.proofs.OverrunsAt.{call_time, overrun_start, judged_by, judged_at, lowers_at, next_run}
use Rattle.lists.proofs.Reaching.{list_reaches}
use Rattle.lists.proofs.Stepped.{mark_is, accepted_is, refused_is}

module _ (begin : Begin) (calls : List Call) (begins : begin_refusal begin ≡ 0) where
  abbrev at : ℕ → ℕ
  at = call_time begin calls

  abbrev began : ℕ → ℕ
  began = overrun_start begin calls

  -- fault 2 comes only with such a call
  module _ (k : ℕ) (two : LatchesTwo begin calls k) where
    abbrev found : State
    found = before begin calls k

    abbrev latching : EvaluatedCall
    latching = call_at begin calls k

    module _ (into : is_accepted found latching ≡ true) where
      two_is : is_latched (accept found latching).faults overcurrent ≡ true
      two_is = sym (ap (λ x. is_latched x.faults overcurrent) (accepted_is begin calls k two.below into)) ∙ two.latched

      -- under fault 2 the wave is 0
      not_lowered : Lowers begin calls k → ⊥
      not_lowered lowers =
          let wave = sym (ap (λ x. is_driven x) (accepted_is begin calls k two.below into)) ∙ lowers.still_driven in
          clash (latched_any (accept found latching).faults overcurrent two_is) (driven_offers found latching wave).0

      from_start : (j : ℕ) → Since begin calls begins j k → began k + 5000 ≤ at k → ((lines : Lines) → JudgedBy found latching lines → AboveBound found latching lines)
          → OverTooLong begin calls k
      from_start j run old over =
          record {
            below = two.below;
            accepted = into;
            start = j;
            earlier = run.earlier;
            over = run.over;
            long_ago = omega (arith, run.not_sooner);
            none_within = λ i after until. within i after (omega arith) (dec_lt i k);
            closed_since = λ i after until. run.closed_since i after (omega arith);
            driven_since = λ i after until. run.driven_since i after (omega arith);
            none_lowered = λ i until recent lowers. low i (omega arith) (omega arith) lowers (dec_lt i k);
          }
        where
          within : (i : ℕ) → j < i → i ≤ k → Dec (i < k) → Within begin calls i → ⊥
          within i after until (yes earlier) = run.none_within i after earlier
          within i after until (no later) =
              let is : i ≡ k = omega arith in
              rw is (λ judged. omega (arith, judged.2, over judged.0 (judged_by begin calls k judged.0 judged.1)))

          low : (i : ℕ) → i ≤ k → at k < at i + 5000 → Lowers begin calls i → Dec (i < k) → ⊥
          low i until recent lowers (yes earlier) = omega (arith, run.lowered i earlier lowers)
          low i until recent lowers (no later) =
              let is : i ≡ k = omega arith in
              not_lowered (rw (← is) lowers)

    comes : OverTooLong begin calls k
    comes =
        let into = latching_is begin calls overcurrent k two in
        let known = latches found latching two.not_yet (two_is into) in
        let run = since begin calls begins k (omega (arith, two.below)) known.0 in
        from_start into run.0 run.1 known.1 known.2

  -- and with every such call
  module _ (k : ℕ) (long : OverTooLong begin calls k) where
    -- the over-run before call n began 5,000 or more before call k
    record Old (n : ℕ) : Type 0 where
      runs : (before begin calls n).overrun.set ≡ true
      old : began n + 5000 ≤ at k

    lowered_old : (n : ℕ) → n ≤ k → Lowers begin calls n → at n + 5000 ≤ at k
    lowered_old n until lowers = go (dec_lt (at k) (at n + 5000))
      where
        go : Dec (at k < at n + 5000) → at n + 5000 ≤ at k
        go (yes recent) = absurd (long.none_lowered n until (omega arith) lowers)
        go (no late) = omega arith

    module _ (n : ℕ) (until : n < k) where
      abbrev s : State
      s = before begin calls n

      abbrev call : EvaluatedCall
      call = call_at begin calls n

      below : n < length calls
      below = omega (arith, long.below)

      -- it stays so over an accepted call that does not end it
      outlasts : long.start ≤ n → is_accepted s call ≡ true → s.closed ≡ true → (after_step1 s call).set ≡ true → (after_step1 s call).time + 5000 ≤ at k → Old (suc n)
      outlasts from into closed runs old = go (restarts_at s call) refl next
        where
          is : before begin calls (suc n) ≡ accept s call
          is = accepted_is begin calls n below into

          next : (before begin calls (suc n)).overrun ≡ cond (restarts_at s call) (set_to call.time) (after_step1 s call)
          next =
              next_run begin calls n below into
              (stays_closed s call closed (sym (ap (λ x. x.closed) is) ∙ long.closed_since (suc n) (omega arith) (omega arith)))
              (long.driven_since (suc n) (omega arith) (omega arith))

          go : (b : Bool) → restarts_at s call ≡ b → (before begin calls (suc n)).overrun ≡ cond b (set_to call.time) (after_step1 s call) → Old (suc n)
          go true p e =
              let lowers = lowers_at begin calls n below into (restarted s.settings.digital s.wave (accept s call).wave (after_step1 s call) p).1 in
              record { runs = ap (λ m. m.set) e; old = rw (ap (λ m. m.time) e) (lowered_old n (omega arith) lowers) }
          go false p e = record { runs = ap (λ m. m.set) e ∙ runs; old = rw (ap (λ m. m.time) e) old }

      -- one call more, after the start
      stays : long.start < n → Old n → Old (suc n)
      stays later known = go (is_accepted s call) refl (by_event s call)
        where
          go : (a : Bool) → is_accepted s call ≡ a → ByEvent s call → Old (suc n)
          go false out event =
              let same = refused_is begin calls n below out in
              record { runs = ap (λ x. x.overrun.set) same ∙ known.runs; old = rw (ap (λ x. x.overrun.time) same) known.old }
          go true into (left same judged) =
              outlasts (omega arith) into (long.closed_since n later (omega arith)) (ap (λ m. m.set) same ∙ known.runs) (rw (ap (λ m. m.time) same) known.old)
          go true into (starts lines judged is unset same) = clash known.runs unset
          go true into (ends lines judged within same) =
              absurd (long.none_within n later (omega arith) (lines, judged_at begin calls n below into lines judged, within))

    starts_old : Old (suc long.start)
    starts_old = go long.over
      where
        first : State
        first = before begin calls long.start

        measuring : EvaluatedCall
        measuring = call_at begin calls long.start

        run : (lines : Lines) → JudgedBy first measuring lines → AboveBound first measuring lines → is_accepted first measuring ≡ true → ByEvent first measuring
            → ((after_step1 first measuring).set ≡ true) × ((after_step1 first measuring).time + 5000 ≤ at k)
        run lines by over into (left same judged) = (
          ap (λ m. m.set) same ∙ (judged lines by).1,
          rw (ap (λ m. m.time) same) (omega (arith, not_later begin calls begins long.start (judged lines by).1, (on_time first measuring into).0, long.long_ago)),
        )
        run lines by over into (starts given also is unset same) = (ap (λ m. m.set) same, rw (ap (λ m. m.time) same) (omega (arith, long.long_ago)))
        run lines by over into (ends given also within same) = absurd (omega (arith, rw (same_lines first measuring given lines also.is by.is) at within))

        go : Over begin calls long.start → Old (suc long.start)
        go (lines, judged, over) =
            let into = judged.measures.accepted in
            let known = run lines (judged_by begin calls long.start lines judged) (omega (arith, over)) into (by_event first measuring) in
            outlasts long.start long.earlier (omega arith) into judged.closed known.0 known.1

    stays_old : (n : ℕ) → long.start < n → n ≤ k → Old n
    stays_old zero after until = absurd (not-suc-le-zero after)
    stays_old (suc n) after until = go (dec_lt long.start n) (λ later. stays_old n later (omega arith))
      where
        go : Dec (long.start < n) → (long.start < n → Old n) → Old (suc n)
        go (yes later) earlier = stays n until later (earlier later)
        go (no first) earlier =
            let is : n ≡ long.start = omega arith in
            rw is starts_old

    goes : LatchesTwo begin calls k
    goes =
        record {
          below = long.below;
          not_yet = none (is_latched (before begin calls k).faults overcurrent) refl;
          latched = ap (λ x. is_latched x.faults overcurrent) (accepted_is begin calls k long.below long.accepted) ∙ now (by_event last_state last_call);
        }
      where
        last_state : State
        last_state = before begin calls k

        last_call : EvaluatedCall
        last_call = call_at begin calls k

        none : (b : Bool) → is_latched last_state.faults overcurrent ≡ b → b ≡ false
        none false p = refl
        none true p = clash (latched_any last_state.faults overcurrent p) ((list_reaches begin (take k calls)).closed_no_fault (long.closed_since k long.earlier (omega arith)))

        known : Old k
        known = stays_old k long.earlier (omega arith)

        now : ByEvent last_state last_call → is_latched (accept last_state last_call).faults overcurrent ≡ true
        now (left same judged) = latches_when last_state last_call same known.runs known.old
        now (starts lines judged is unset same) = clash known.runs unset
        now (ends lines judged within same) =
            absurd (long.none_within k long.earlier (omega arith) (lines, judged_at begin calls k long.below long.accepted lines judged, within))

  pub over_current : OverCurrentExactly begin calls
  over_current k = (comes k, goes k)

-- a digital post drives 5 % before and after
pub digital_lowers_none : (begin : Begin) (calls : List Call) → DigitalLowersNone begin calls
digital_lowers_none begin calls digital k lowers =
    absurd (omega (arith, lowers.lower, five k lowers.was_driven, five (suc k) lowers.still_driven))
  where
    five : (n : ℕ) → is_driven (before begin calls n) ≡ true → (before begin calls n).wave ≡ five_percent
    five n = (list_reaches begin (take n calls)).driven_five (mark_is begin calls n ∙ digital)
