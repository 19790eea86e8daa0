-- A closed contactor has had a sound sample at most 80 before the last accepted call, so at most 100 before any moment up to 20 after that call.
use mathlib.Core.Path.{◌≡◌, refl, sym, ◌∙◌, ap}
use mathlib.Core.Bool.{Bool, true, false, ◌&&◌, cond}
use mathlib.Core.List.{List}
use Prim.Native.Nat.{ℕ, zero, suc, ◌+◌, ◌≤◌, ◌<◌}
use native.Mathlib.Decide.{dec_lt}
use native.Mathlib.Nat.{not-suc-le-zero}
use native.Mathlib.Omega.{arith}
use lib.ListN.{length, take}
use borrow.Author.Tests.{leb-true}
use Rattle.units.proofs.Booleans.{and_parts, clash}
use Rattle.rules.specs.Altered.{stored_allowed}
use Rattle.rules.specs.Begin.{Begin, begin_refusal, fresh}
use Rattle.rules.specs.Calls.{Call, EvaluatedCall, is_sample, in_turn}
use Rattle.rules.specs.Pairs.{verdict}
use Rattle.rules.specs.Refusals.{is_accepted}
use Rattle.rules.specs.State.{State, set_to}
use Rattle.rules.specs.Step1Event.{sound_by}
use Rattle.lists.specs.ClosedIsSound.{LastAccepted, Consecutive, SoundWithin100, ClosedIsSound}
use Rattle.lists.specs.Demand3.{Trace}
use Rattle.lists.specs.Replay.{replay}
use Rattle.lists.specs.Traces.{before, call_at, trace_of}
use Rattle.lists.proofs.Kept.{list_in_range}
use Rattle.lists.proofs.Reaching.{list_reaches}
use Rattle.lists.proofs.Stepped.{accepted_is, refused_is, next_is}

module _ (begin : Begin) (calls : List Call) where
  -- call j is the sound sample whose time is kept before call n
  record LastSound (j n : ℕ) : Type 0 where
    earlier : j < n
    accepted : is_accepted (before begin calls j) (call_at begin calls j) ≡ true
    sampled : is_sample (call_at begin calls j).event ≡ true
    sound : (verdict (before begin calls j) (call_at begin calls j).event).sound ≡ true
    stored : (call_at begin calls j).time ≡ (before begin calls n).sound.time

  last_sound : (n : ℕ) → n ≤ length calls → (before begin calls n).sound.set ≡ true → (j : ℕ) × LastSound j n
  unfolding replay in_turn fresh sound_by
  last_sound zero within set = clash set refl
  last_sound (suc n) within set =
      go (is_accepted s call) (is_sample call.event && (verdict s call.event).sound) refl refl
      (next_is begin calls n within (λ x. x.sound) (cond (is_sample call.event && (verdict s call.event).sound) (set_to call.time) s.sound) refl)
      (last_sound n (omega arith))
    where
      s : State
      s = before begin calls n

      call : EvaluatedCall
      call = call_at begin calls n

      same : (before begin calls (suc n)).sound ≡ s.sound → (s.sound.set ≡ true → (j : ℕ) × LastSound j n) → (j : ℕ) × LastSound j (suc n)
      same is earlier =
          let known = earlier (sym (ap (λ m. m.set) is) ∙ set) in (
            known.0,
            record {
              earlier = omega (arith, known.1.earlier);
              accepted = known.1.accepted;
              sampled = known.1.sampled;
              sound = known.1.sound;
              stored = known.1.stored ∙ sym (ap (λ m. m.time) is);
            },
          )

      go : (a b : Bool) → is_accepted s call ≡ a → is_sample call.event && (verdict s call.event).sound ≡ b
          → (before begin calls (suc n)).sound ≡ cond a (cond b (set_to call.time) s.sound) s.sound
          → (s.sound.set ≡ true → (j : ℕ) × LastSound j n) → (j : ℕ) × LastSound j (suc n)
      go false b out own is earlier = same is earlier
      go true false into own is earlier = same is earlier
      go true true into own is earlier =
          let parts = and_parts (is_sample call.event) (verdict s call.event).sound own in (
            n,
            record { earlier = omega arith; accepted = into; sampled = parts.0; sound = parts.1; stored = sym (ap (λ m. m.time) is) },
          )

  -- it is not later than the last accepted call
  sound_past : begin_refusal begin ≡ 0 → (n : ℕ) → (before begin calls n).sound.set ≡ true → (before begin calls n).sound.time ≤ (before begin calls n).last
  unfolding stored_allowed
  sound_past accepted n set =
      let s = before begin calls n in
      leb-true s.sound.time s.last (rw set at (list_in_range begin (take n calls) accepted).sound)

  module _ (accepted : begin_refusal begin ≡ 0) (told_closed : ℕ → Bool) (carried : ℕ → ℕ) (told_is : (k : ℕ) → k ≤ length calls → told_closed k ≡ (before begin calls k).closed) where
    abbrev t : Trace
    t = trace_of begin calls told_closed carried

    -- the time of the last accepted call is kept
    last_is : (i n : ℕ) → LastAccepted t i n → (before begin calls n).last ≡ t.time i
    last_is i zero known = absurd (not-suc-le-zero known.before)
    last_is i (suc n) known = go (dec_lt i n) (λ shorter. last_is i n shorter)
      where
        go : Dec (i < n) → (LastAccepted t i n → (before begin calls n).last ≡ t.time i) → (before begin calls (suc n)).last ≡ t.time i
        go (yes less) earlier =
            ap (λ x. x.last) (refused_is begin calls n known.within (known.none_later n less (omega arith)))
            ∙ earlier (record {
              accepted = known.accepted;
              before = less;
              within = omega (arith, known.within);
              none_later = λ j after below. known.none_later j after (omega arith);
            })
        go (no more) earlier =
            let is : i ≡ n = omega (arith, known.before) in
            ap (λ x. x.last) (accepted_is begin calls n known.within (rw is at known.accepted.1)) ∙ ap (λ k. t.time k) (sym is)

    after_last : (i n instant : ℕ) → LastAccepted t i n → t.time i ≤ instant → instant ≤ t.time i + 20 → t.told_closed n ≡ true → SoundWithin100 t n instant
    after_last i n instant known past due closed =
        let here = list_reaches begin (take n calls) in
        let is : (before begin calls n).closed ≡ true = sym (told_is n known.within) ∙ closed in
        let sample = last_sound n known.within (here.closed_has_sound is) in
        let recent = here.closed_sound is in
        let last = last_is i n known in
        let stored = sample.1.stored in
        let before_last = sound_past accepted n (here.closed_has_sound is) in
        record {
          sample = sample.0;
          before = sample.1.earlier;
          accepted = (omega (arith, sample.1.earlier, known.within), sample.1.accepted);
          sampled = sample.1.sampled;
          sound = sample.1.sound;
          past = omega (arith, rw last at before_last);
          recent = omega (arith, rw last at recent);
        }

    pub closed_is_sound : ClosedIsSound t
    closed_is_sound =
        record {
          between_calls = λ every i k n instant two after within past until closed.
              let due = every i k two in
              after_last i n instant (cut two after within) past (omega arith) closed;
          after_last = after_last;
        }
      where
        cut : {i k n : ℕ} → Consecutive t i k → i < n → n ≤ k → LastAccepted t i n
        cut two after within =
            record {
              accepted = two.last.accepted;
              before = after;
              within = omega (arith, two.last.within);
              none_later = λ j later below. two.last.none_later j later (omega arith);
            }
