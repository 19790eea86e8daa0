-- What an over-run that runs in a list began with, and when it restarted.
use mathlib.Core.Path.{◌≡◌, refl, sym, ◌∙◌, ap}
use mathlib.Core.Bool.{Bool, true, false, cond}
use mathlib.Core.List.{List}
use Prim.Native.Nat.{ℕ, zero, suc, ◌≤◌, ◌<◌}
use native.Mathlib.Decide.{dec_lt}
use native.Mathlib.Omega.{arith}
use lib.ListN.{length, take}
use borrow.Author.Tests.{leb-true}
use Rattle.units.proofs.Booleans.{clash}
use Rattle.rules.specs.Accepted.{accept}
use Rattle.rules.specs.Altered.{stored_allowed}
use Rattle.rules.specs.Begin.{Begin, begin_refusal, fresh}
use Rattle.rules.specs.Calls.{Call, EvaluatedCall, in_turn}
use Rattle.rules.specs.Lines.{Lines}
use Rattle.rules.specs.Refusals.{is_accepted}
use Rattle.rules.specs.State.{State, is_driven, empty, set_to}
use Rattle.rules.specs.Step3Wave.{restarts}
use Rattle.laws.proofs.Acceptance.{on_time}
use Rattle.laws.proofs.Opened.{none_restarts}
use Rattle.laws.proofs.Overruns.{restarts_when, restarted, JudgedBy, AboveBound, after_step1, ByEvent, left, starts, ends, by_event, restarts_at, not_ended}
use Rattle.lists.specs.OverCurrent.{Over, Within, Lowers}
use Rattle.lists.specs.Replay.{replay}
use Rattle.lists.specs.Traces.{before, call_at}
use Rattle.lists.proofs.LentReplies.{times_in_order}
use Rattle.lists.proofs.Kept.{list_in_range}
use Rattle.lists.proofs.OverrunsAt.{call_time, overrun_start, judged_by, judged_at, lowers_to, next_run}
use Rattle.lists.proofs.Reaching.{list_reaches}
use Rattle.lists.proofs.Stepped.{accepted_is, refused_is}

module _ (begin : Begin) (calls : List Call) (begins : begin_refusal begin ≡ 0) where
  abbrev at : ℕ → ℕ
  at = call_time begin calls

  abbrev began : ℕ → ℕ
  began = overrun_start begin calls

  -- a running over-run began not later than the last accepted call
  pub not_later : (k : ℕ) → (before begin calls k).overrun.set ≡ true → began k ≤ (before begin calls k).last
  unfolding stored_allowed
  not_later k runs = leb-true (began k) (before begin calls k).last (rw runs at (list_in_range begin (take k calls) begins).overrun)

  -- an over-run runs before call n: it began with measure j, or restarted with the last call since that lowered the duty
  pub record Since (j n : ℕ) : Type 0 where
    pub earlier : j < n
    pub over : Over begin calls j
    pub none_within : (i : ℕ) → j < i → i < n → Within begin calls i → ⊥
    pub closed_since : (i : ℕ) → j < i → i ≤ n → (before begin calls i).closed ≡ true
    pub driven_since : (i : ℕ) → j < i → i ≤ n → is_driven (before begin calls i) ≡ true
    pub not_sooner : at j ≤ began n
    pub lowered : (i : ℕ) → i < n → Lowers begin calls i → at i ≤ began n

  module _ (n : ℕ) (below : n < length calls) (set : (before begin calls (suc n)).overrun.set ≡ true) where
    abbrev s : State
    s = before begin calls n

    abbrev call : EvaluatedCall
    call = call_at begin calls n

    closed_after : (before begin calls (suc n)).closed ≡ true
    closed_after = (list_reaches begin (take (suc n) calls)).overrun_closed set

    driven_after : is_driven (before begin calls (suc n)) ≡ true
    driven_after = (list_reaches begin (take (suc n) calls)).overrun_driven set

    -- call n leaves it running
    longer : (j : ℕ) → Since j n → (Within begin calls n → ⊥) → began n ≤ began (suc n) → (Lowers begin calls n → at n ≤ began (suc n)) → Since j (suc n)
    longer j known not_within later lowers =
        record {
          earlier = omega (arith, known.earlier);
          over = known.over;
          none_within = λ i after until. within i after until (dec_lt i n);
          closed_since = λ i after until. closed i after until (dec_lt i (suc n));
          driven_since = λ i after until. wave i after until (dec_lt i (suc n));
          not_sooner = omega (arith, known.not_sooner);
          lowered = λ i until lowers. low i until lowers (dec_lt i n);
        }
      where
        within : (i : ℕ) → j < i → i < suc n → Dec (i < n) → Within begin calls i → ⊥
        within i after until (yes before) = known.none_within i after before
        within i after until (no later) =
            let is : i ≡ n = omega arith in
            rw is not_within

        closed : (i : ℕ) → j < i → i ≤ suc n → Dec (i < suc n) → (before begin calls i).closed ≡ true
        closed i after until (yes before) = known.closed_since i after (omega arith)
        closed i after until (no later) =
            let is : i ≡ suc n = omega arith in
            rw is closed_after

        wave : (i : ℕ) → j < i → i ≤ suc n → Dec (i < suc n) → is_driven (before begin calls i) ≡ true
        wave i after until (yes before) = known.driven_since i after (omega arith)
        wave i after until (no later) =
            let is : i ≡ suc n = omega arith in
            rw is driven_after

        low : (i : ℕ) → i < suc n → Lowers begin calls i → Dec (i < n) → at i ≤ began (suc n)
        low i until lowers_it (yes before) = omega (arith, known.lowered i before lowers_it)
        low i until lowers_it (no later) =
            let is : i ≡ n = omega arith in
            rw is (lowers (rw (← is) lowers_it))

    module _ (into : is_accepted s call ≡ true) where
      next : (before begin calls (suc n)).overrun ≡ cond (restarts_at s call) (set_to call.time) (after_step1 s call)
      next =
          next_run begin calls n below into
          (not_ended s call (sym (ap (λ x. x.overrun.set) (accepted_is begin calls n below into)) ∙ set)) driven_after

      -- call n starts it
      newest : Over begin calls n → began (suc n) ≡ at n → Since n (suc n)
      newest over now =
          record {
            earlier = omega arith;
            over = over;
            none_within = λ i after until. absurd (omega arith);
            closed_since = λ i after until.
                let is : i ≡ suc n = omega arith in
                rw is closed_after;
            driven_since = λ i after until.
                let is : i ≡ suc n = omega arith in
                rw is driven_after;
            not_sooner = rw now (omega arith);
            lowered = λ i until lowers. low i until lowers (dec_lt i n);
          }
        where
          low : (i : ℕ) → i < suc n → Lowers begin calls i → Dec (i < n) → at i ≤ began (suc n)
          low i until lowers (yes earlier) = rw now (times_in_order begin calls begins i n lowers.accepted into earlier below)
          low i until lowers (no later) =
              let is : i ≡ n = omega arith in
              rw (now, is) (omega arith)

      -- its event leaves it: it restarts, or runs on
      goes_on : after_step1 s call ≡ s.overrun → ((lines : Lines) → JudgedBy s call lines → AboveBound s call lines × (s.overrun.set ≡ true))
          → (s.overrun.set ≡ true → (j : ℕ) × Since j n) → (j : ℕ) × Since j (suc n)
      goes_on same judged earlier = by (restarts_at s call) refl next
        where
          not_within : Within begin calls n → ⊥
          not_within (lines, by, within) = omega (arith, (judged lines (judged_by begin calls n lines by)).0)

          by : (b : Bool) → restarts_at s call ≡ b → (before begin calls (suc n)).overrun ≡ cond b (set_to call.time) (after_step1 s call) → (j : ℕ) × Since j (suc n)
          by true p e =
              let ran = sym (ap (λ m. m.set) same) ∙ (restarted s.settings.digital s.wave (accept s call).wave (after_step1 s call) p).0 in
              let now : began (suc n) ≡ at n = ap (λ m. m.time) e in
              let known = earlier ran in
              (known.0, longer known.0 known.1 not_within (rw now (omega (arith, not_later n ran, (on_time s call into).0))) (λ lowers. rw now (omega arith)))
          by false p e =
              let ran = sym (ap (λ m. m.set) (e ∙ same)) ∙ set in
              let kept : began (suc n) ≡ began n = ap (λ m. m.time) (e ∙ same) in
              let known = earlier ran in
              let runs = ap (λ m. m.set) same ∙ ran in (
                known.0,
                longer known.0 known.1 not_within (rw kept (omega arith))
                    (λ lowers. clash (restarts_when s.settings.digital s.wave (accept s call).wave (after_step1 s call) runs (lowers_to begin calls n below into lowers)) p),
              )

      -- one call more, by its event
      one_more : (s.overrun.set ≡ true → (j : ℕ) × Since j n) → (j : ℕ) × Since j (suc n)
      one_more earlier = go (by_event s call)
        where
          either : (b : Bool) → cond b (set_to call.time) (set_to call.time) ≡ set_to call.time
          either true = refl
          either false = refl

          now : after_step1 s call ≡ set_to call.time → began (suc n) ≡ at n
          now same = ap (λ m. m.time) (next ∙ ap (λ m. cond (restarts_at s call) (set_to call.time) m) same ∙ either (restarts_at s call))

          go : ByEvent s call → (j : ℕ) × Since j (suc n)
          go (left same judged) = goes_on same judged earlier
          go (starts lines by over unset same) =
              (n, newest (lines, judged_at begin calls n below into lines by, omega (arith, over)) (now same))
          go (ends lines by within same) =
              clash set (ap (λ m. m.set) (next ∙ ap (λ m. cond (restarts s.settings.digital s.wave (accept s call).wave m) (set_to call.time) m) same)
              ∙ none_restarts s.settings.digital s.wave (accept s call).wave call.time empty refl)

  pub since : (n : ℕ) → n ≤ length calls → (before begin calls n).overrun.set ≡ true → (j : ℕ) × Since j n
  unfolding replay in_turn fresh
  since zero within set = clash set refl
  since (suc n) within set = go (is_accepted (before begin calls n) (call_at begin calls n)) refl (since n (omega arith))
    where
      go : (a : Bool) → is_accepted (before begin calls n) (call_at begin calls n) ≡ a → ((before begin calls n).overrun.set ≡ true → (j : ℕ) × Since j n)
          → (j : ℕ) × Since j (suc n)
      go true into earlier = one_more n within set into earlier
      go false out earlier =
          let same = ap (λ x. x.overrun) (refused_is begin calls n within out) in
          let known = earlier (sym (ap (λ m. m.set) same) ∙ set) in
          let kept : began (suc n) ≡ began n = ap (λ m. m.time) same in
          (known.0, longer n within set known.0 known.1 (λ judged. clash judged.1.measures.accepted out) (rw kept (omega arith)) (λ lowers. clash lowers.accepted out))
