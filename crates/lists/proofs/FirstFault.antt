-- Which fault came first: the order of a list is that in which its faults were latched, and the first of it is shown.
use mathlib.Core.Path.{◌≡◌, refl, sym, ◌∙◌, ap, subst}
use mathlib.Core.Bool.{Bool, true, false}
use mathlib.Core.List.{List}
use mathlib.Core.Logic.{◌⊎◌, inl, inr}
use Prim.Native.Nat.{ℕ, zero, suc, ◌≤◌, ◌<◌}
use native.Mathlib.Decide.{dec_lt}
use native.Mathlib.Omega.{arith}
use lib.IntN.{ℤ}
use lib.ListN.{length, take}
use borrow.Author.Tests.{eqb-true, eqb-false}
use Rattle.units.proofs.Booleans.{clash}
use Rattle.window.specs.Evaluation.{Evaluation}
use Rattle.rules.specs.Accepted.{accept}
use Rattle.rules.specs.Begin.{Begin, fresh}
use Rattle.rules.specs.Calls.{Event, Call, sample, limit, measure, link, fault, clear, tick, evaluated, is_sample, is_fault, in_turn}
use Rattle.rules.specs.Faults.{Fault, Faults, diode, overcurrent, residual, welded, temperature, number_of, place_of, is_latched, lowest, first_of}
use Rattle.rules.specs.Refusals.{is_accepted}
use Rattle.rules.specs.State.{State}
use Rattle.laws.specs.FaultOrder.{SomeLatched, none as shows_none, some as shows_some}
use Rattle.laws.specs.Reached.{Reached}
use Rattle.laws.proofs.FaultsOfCall.{none_latched, two_behind, own_latched, own_only, one_latched, one_only, by_sample, clear_only, clear_drops, place_kept, comes_behind}
use Rattle.laws.proofs.Latching.{is_place_lem, some_place, number_fixes, same_fault}
use Rattle.laws.proofs.ShownFault.{Lowest, found, not_found, is_first, shown_is, some_latched}
use Rattle.lists.specs.FirstFault.{none, CameBefore, event_at, diode_bad_at, latched_at, Latches, LatchedSince, OrderKept, FirstLatched, first}
use Rattle.lists.specs.Replay.{replay}
use Rattle.lists.specs.Traces.{before, call_at, Accepts}
use Rattle.lists.proofs.Reaching.{list_reaches}
use Rattle.lists.proofs.Stepped.{accepted_is, refused_is}

-- the kind of a fault call
abbrev kind_of : Event Evaluation → ℕ
kind_of (sample window) = 0
kind_of (limit given) = 0
kind_of (measure lines) = 0
kind_of (link granted) = 0
kind_of (fault kind) = kind
kind_of clear = 0
kind_of tick = 0

-- a fault call and a clear are that also where windows are not evaluated
fault_given : (event : Event (List ℤ)) (number : ℕ) → evaluated event ≡ fault number → event ≡ fault number
unfolding evaluated
fault_given (fault kind) number e = ap fault (ap kind_of e)
fault_given (sample window) number e = clash (ap is_fault e) refl
fault_given (limit given) number e = clash (ap is_fault e) refl
fault_given (measure lines) number e = clash (ap is_fault e) refl
fault_given (link granted) number e = clash (ap is_fault e) refl
fault_given clear number e = clash (ap is_fault e) refl
fault_given tick number e = clash (ap is_fault e) refl

abbrev is_clear : Event Evaluation → Bool
is_clear (sample window) = false
is_clear (limit given) = false
is_clear (measure lines) = false
is_clear (link granted) = false
is_clear (fault kind) = false
is_clear clear = true
is_clear tick = false

clear_given : (event : Event (List ℤ)) → evaluated event ≡ clear → event ≡ clear
unfolding evaluated
clear_given clear e = refl
clear_given (sample window) e = clash (ap is_clear e) refl
clear_given (limit given) e = clash (ap is_clear e) refl
clear_given (measure lines) e = clash (ap is_clear e) refl
clear_given (link granted) e = clash (ap is_clear e) refl
clear_given (fault kind) e = clash (ap is_clear e) refl
clear_given tick e = clash (ap is_clear e) refl

-- a fault that is neither 2 nor 1 is told by the host
own_number : (f : Fault) → (f ≡ overcurrent → ⊥) → (f ≡ diode → ⊥) → 3 ≤ number_of f
own_number diode not_two not_one = absurd (not_one refl)
own_number overcurrent not_two not_one = absurd (not_two refl)
own_number residual not_two not_one = omega arith
own_number welded not_two not_one = omega arith
own_number temperature not_two not_one = omega arith

module _ (begin : Begin) (calls : List Call) where
  abbrev faults_at : ℕ → Faults
  faults_at k = (before begin calls k).faults

  reached : (k : ℕ) → Reached (before begin calls k)
  reached k = list_reaches begin (take k calls)

  -- a begin latches nothing
  none_at_first : (f : Fault) → latched_at begin calls f 0 ≡ false
  unfolding replay in_turn fresh
  none_at_first f = none_latched f

  -- a fault that is latched before a call and after it keeps its place
  next_kept : (f : Fault) (k : ℕ) → k < length calls → latched_at begin calls f k ≡ true → latched_at begin calls f (suc k) ≡ true
      → place_of (faults_at (suc k)) f ≡ place_of (faults_at k) f
  next_kept f k below was is = go (is_accepted (before begin calls k) (call_at begin calls k)) refl
    where
      go : (a : Bool) → is_accepted (before begin calls k) (call_at begin calls k) ≡ a → place_of (faults_at (suc k)) f ≡ place_of (faults_at k) f
      go true into =
          let same = ap (λ x. x.faults) (accepted_is begin calls k below into) in
          ap (λ x. place_of x f) same ∙ place_kept (before begin calls k) (call_at begin calls k) (reached k) f was (ap (λ x. is_latched x f) (sym same) ∙ is)
      go false out = ap (λ x. place_of x.faults f) (refused_is begin calls k below out)

  -- from call i on, as long as it is latched
  kept_since : (f : Fault) (i k : ℕ) → i ≤ k → k ≤ length calls → ((n : ℕ) → i ≤ n → n ≤ k → latched_at begin calls f n ≡ true)
      → place_of (faults_at k) f ≡ place_of (faults_at i) f
  kept_since f i zero from within still =
      let same : i ≡ 0 = omega arith in
      ap (λ n. place_of (faults_at n) f) (sym same)
  kept_since f i (suc k) from within still =
      go (dec_lt k i) (λ later. kept_since f i k later (omega arith) (λ n low high. still n low (omega arith)))
    where
      go : Dec (k < i) → (i ≤ k → place_of (faults_at k) f ≡ place_of (faults_at i) f) → place_of (faults_at (suc k)) f ≡ place_of (faults_at i) f
      go (yes last) so_far =
          let same : i ≡ suc k = omega arith in
          ap (λ n. place_of (faults_at n) f) (sym same)
      go (no earlier) so_far =
          next_kept f k within (still k (omega arith) (omega arith)) (still (suc k) (omega arith) (omega arith)) ∙ so_far (omega arith)

  -- a call that latches is accepted
  pub latching_is : (f : Fault) (k : ℕ) → Latches begin calls f k → is_accepted (before begin calls k) (call_at begin calls k) ≡ true
  latching_is f k now = go (is_accepted (before begin calls k) (call_at begin calls k)) refl
    where
      go : (a : Bool) → is_accepted (before begin calls k) (call_at begin calls k) ≡ a → a ≡ true
      go true into = refl
      go false out = clash now.latched (ap (λ x. is_latched x.faults f) (refused_is begin calls k now.below out) ∙ now.not_yet)

  -- what an accepted call leaves is latched before the next one
  module _ (k : ℕ) (below : k < length calls) (into : is_accepted (before begin calls k) (call_at begin calls k) ≡ true) where
    abbrev after : Faults
    after = (accept (before begin calls k) (call_at begin calls k)).faults

    after_is : faults_at (suc k) ≡ after
    after_is = ap (λ x. x.faults) (accepted_is begin calls k below into)

    on_after : (f : Fault) (b : Bool) → latched_at begin calls f (suc k) ≡ b → is_latched after f ≡ b
    on_after f b is = ap (λ x. is_latched x f) (sym after_is) ∙ is

  -- right after the call that latches g, a fault that came before it has the earlier place
  behind_at : (f g : Fault) (i : ℕ) → latched_at begin calls f (suc i) ≡ true → Latches begin calls g i
      → (latched_at begin calls f i ≡ true) ⊎ ((g ≡ overcurrent) × (f ≡ overcurrent → ⊥)) → place_of (faults_at (suc i)) f < place_of (faults_at (suc i)) g
  behind_at f g i f_is now came =
      let into = latching_is g i now in
      rw (after_is i now.below into) (go came (on_after i now.below into f true f_is) (on_after i now.below into g true now.latched))
    where
      s : State
      s = before begin calls i

      go : (latched_at begin calls f i ≡ true) ⊎ ((g ≡ overcurrent) × (f ≡ overcurrent → ⊥)) → is_latched (accept s (call_at begin calls i)).faults f ≡ true
          → is_latched (accept s (call_at begin calls i)).faults g ≡ true
          → place_of (accept s (call_at begin calls i)).faults f < place_of (accept s (call_at begin calls i)).faults g
      go (inl was) f_after g_after = comes_behind s (call_at begin calls i) (reached i) f g was now.not_yet f_after g_after
      go (inr two) f_after g_after =
          let behind = two_behind s (call_at begin calls i) (reached i).each_once f two.1 (ap (λ x. latched_at begin calls x i) (sym two.0) ∙ now.not_yet) f_after
          (ap (is_latched (accept s (call_at begin calls i)).faults) (sym two.0) ∙ g_after) in
          omega (arith, behind, ap (place_of (accept s (call_at begin calls i)).faults) two.0)

  -- of two latched faults, the one that came first has the earlier place
  in_the_order : (k : ℕ) → k ≤ length calls → (f g : Fault) (j i : ℕ) → LatchedSince begin calls f j k → LatchedSince begin calls g i k
      → CameBefore f j g i → place_of (faults_at k) f < place_of (faults_at k) g
  in_the_order k within f g j i f_since g_since came =
      omega (
        arith,
        kept_since f (suc i) k g_since.earlier within (λ n low high. f_since.still n (omega (arith, after_f)) high),
        kept_since g (suc i) k g_since.earlier within (λ n low high. g_since.still n (omega arith) high),
        behind_at f g i (f_since.still (suc i) (omega (arith, after_f)) g_since.earlier) g_since.latches (go came),
      )
    where
      after_f : j ≤ i
      after_f = order came
        where
          order : CameBefore f j g i → j ≤ i
          order (inl earlier) = omega arith
          order (inr same) = omega (arith, same.0)

      go : CameBefore f j g i → (latched_at begin calls f i ≡ true) ⊎ ((g ≡ overcurrent) × (f ≡ overcurrent → ⊥))
      go (inl earlier) = inl (f_since.still i earlier (omega (arith, g_since.earlier)))
      go (inr same) = inr (same.1, same.2)

  -- one call longer
  longer : (f : Fault) (j k : ℕ) → LatchedSince begin calls f j k → latched_at begin calls f (suc k) ≡ true → LatchedSince begin calls f j (suc k)
  longer f j k known is = record { latches = known.latches; earlier = omega (arith, known.earlier); still = still }
    where
      still : (i : ℕ) → j < i → i ≤ suc k → latched_at begin calls f i ≡ true
      still i after until = by (dec_lt k i)
        where
          by : Dec (k < i) → latched_at begin calls f i ≡ true
          by (yes last) =
              let same : i ≡ suc k = omega arith in
              rw same is
          by (no earlier) = known.still i after (omega arith)

  -- a latched fault was latched by some call, and has been since
  since : (f : Fault) (k : ℕ) → k ≤ length calls → latched_at begin calls f k ≡ true → (j : ℕ) × LatchedSince begin calls f j k
  since f zero within is = clash is (none_at_first f)
  since f (suc k) within is = go (latched_at begin calls f k) refl (since f k (omega arith))
    where
      go : (b : Bool) → latched_at begin calls f k ≡ b → (latched_at begin calls f k ≡ true → (j : ℕ) × LatchedSince begin calls f j k)
          → (j : ℕ) × LatchedSince begin calls f j (suc k)
      go true was so_far = ((so_far was).0, longer f (so_far was).0 k (so_far was).1 is)
      go false not_yet so_far = (
        k,
        record {
          latches = record { below = within; not_yet = not_yet; latched = is };
          earlier = omega arith;
          still = λ i after until.
              let same : i ≡ suc k = omega arith in
              rw same is;
        },
      )

  -- 3, 4 and 5 come by their own fault call alone, and 1 by two diode-bad samples
  by_own : (k : ℕ) (f : Fault) → 3 ≤ number_of f → Latches begin calls f k → Accepts begin calls k × (event_at begin calls k ≡ fault (number_of f))
  by_own k f least now =
      let into = latching_is f k now in
      let is = own_only (before begin calls k) (call_at begin calls k) f least now.not_yet (on_after k now.below into f true now.latched) in
      ((now.below, into), fault_given (event_at begin calls k) (number_of f) is)

  by_two_bad : (k : ℕ) → Latches begin calls diode k → Accepts begin calls k × (diode_bad_at begin calls k ≡ true)
  by_two_bad k now =
      let into = latching_is diode k now in
      ((now.below, into), one_only (before begin calls k) (call_at begin calls k) now.not_yet (on_after k now.below into diode true now.latched))

  -- a fault is dropped by an accepted clear alone
  by_clear : (k : ℕ) (f : Fault) → k < length calls → latched_at begin calls f k ≡ true → latched_at begin calls f (suc k) ≡ false
      → Accepts begin calls k × (event_at begin calls k ≡ clear)
  by_clear k f below was gone = go (is_accepted (before begin calls k) (call_at begin calls k)) refl
    where
      go : (a : Bool) → is_accepted (before begin calls k) (call_at begin calls k) ≡ a → Accepts begin calls k × (event_at begin calls k ≡ clear)
      go true into =
          let is = clear_only (before begin calls k) (call_at begin calls k) f was (on_after k below into f false gone) in
          ((below, into), clear_given (event_at begin calls k) is)
      go false out = clash (ap (λ x. is_latched x.faults f) (refused_is begin calls k below out) ∙ was) gone

  pub order_kept : OrderKept begin calls
  unfolding evaluated
  order_kept =
      record {
        as_latched = λ k within. record { each_since = λ f. since f k within; as_they_came = in_the_order k within };
        own_latched = λ k f accepts is.
            ap (λ x. is_latched x f) (after_is k accepts.0 accepts.1) ∙ own_latched (before begin calls k) (call_at begin calls k) f accepts.1 (ap evaluated is);
        own_only = by_own;
        one_latched = λ k accepts bad.
            ap (λ x. is_latched x diode) (after_is k accepts.0 accepts.1) ∙ one_latched (before begin calls k) (call_at begin calls k) bad;
        one_only = by_two_bad;
        keeps_place = λ k f below. next_kept f k below;
        clear_only = by_clear;
        clear_empties = λ k f accepts is was.
            ap (λ x. is_latched x f) (after_is k accepts.0 accepts.1 ∙ clear_drops (before begin calls k) (call_at begin calls k) (reached k) f (ap evaluated is) was)
            ∙ none_latched f;
      }

  -- of two faults that one call latches, one is 2
  one_is_two : (f g : Fault) (k : ℕ) → Latches begin calls f k → Latches begin calls g k → (g ≡ f → ⊥) → (g ≡ overcurrent) ⊎ (f ≡ overcurrent)
  unfolding evaluated
  one_is_two f g k f_now g_now other = go (same_fault g overcurrent) (same_fault f overcurrent) (same_fault g diode) (same_fault f diode)
    where
      by_fault : (h : Fault) → Latches begin calls h k → (h ≡ overcurrent → ⊥) → (h ≡ diode → ⊥) → (call_at begin calls k).event ≡ fault (number_of h)
      by_fault h now not_two not_one = ap evaluated (by_own k h (own_number h not_two not_one) now).1

      sampled : (h : Fault) → Latches begin calls h k → h ≡ diode → is_sample (call_at begin calls k).event ≡ true
      sampled h now is =
          by_sample (before begin calls k) (call_at begin calls k) (by_two_bad k (subst (λ x. Latches begin calls x k) is now)).1

      go : Dec (g ≡ overcurrent) → Dec (f ≡ overcurrent) → Dec (g ≡ diode) → Dec (f ≡ diode) → (g ≡ overcurrent) ⊎ (f ≡ overcurrent)
      go (yes is) b c d = inl is
      go (no not_g) (yes is) c d = inr is
      go (no not_g) (no not_f) (yes g_one) (yes f_one) = absurd (other (g_one ∙ sym f_one))
      go (no not_g) (no not_f) (yes g_one) (no f_own) = clash (sampled g g_now g_one) (ap is_sample (by_fault f f_now not_f f_own))
      go (no not_g) (no not_f) (no g_own) (yes f_one) = clash (sampled f f_now f_one) (ap is_sample (by_fault g g_now not_g g_own))
      go (no not_g) (no not_f) (no g_own) (no f_own) =
          absurd (other (number_fixes g f (ap kind_of (sym (by_fault g g_now not_g g_own) ∙ by_fault f f_now not_f f_own))))

  -- the fault at the first place came before all others
  came_first : (k : ℕ) → k ≤ length calls → (f : Fault) (j : ℕ) → place_of (faults_at k) f ≡ 1 → LatchedSince begin calls f j k
      → (g : Fault) (i : ℕ) → LatchedSince begin calls g i k → (g ≡ f) ⊎ CameBefore f j g i
  came_first k within f j place f_since g i g_since = go (same_fault g f) (dec_lt j i) (dec_lt i j)
    where
      has_place : 1 ≤ place_of (faults_at k) g
      has_place = some_place (place_of (faults_at k) g) (g_since.still k g_since.earlier (omega arith))

      not_before : CameBefore g i f j → ⊥
      not_before came = omega (arith, in_the_order k within g f i j g_since f_since came, place, has_place)

      -- by one call: then it is f that came first, and g is 2
      at_once : (g ≡ f → ⊥) → i ≡ j → (g ≡ overcurrent) ⊎ (f ≡ overcurrent) → CameBefore f j g i
      at_once other same (inl two) = inr (sym same, two, λ is. other (two ∙ sym is))
      at_once other same (inr two) = absurd (not_before (inr (same, two, λ is. other (is ∙ sym two))))

      go : Dec (g ≡ f) → Dec (j < i) → Dec (i < j) → (g ≡ f) ⊎ CameBefore f j g i
      go (yes same) a b = inl same
      go (no other) (yes earlier) b = inr (inl earlier)
      go (no other) (no not_earlier) (yes later) = absurd (not_before (inl later))
      go (no other) (no not_earlier) (no not_later) =
          let same : i ≡ j = omega arith in
          inr (at_once other same (one_is_two f g j f_since.latches (subst (λ n. Latches begin calls g n) same g_since.latches) other))

  pub first_latched : (k : ℕ) → k ≤ length calls → FirstLatched begin calls k (first_of (faults_at k))
  first_latched k within = go (shown_is (faults_at k)) (some_latched (faults_at k))
    where
      go : Lowest (is_first (faults_at k)) (lowest (faults_at k)) (first_of (faults_at k)) → SomeLatched (faults_at k) (first_of (faults_at k))
          → FirstLatched begin calls k (first_of (faults_at k))
      go (found f is first_place) known =
          let place = eqb-true (place_of (faults_at k) f) 1 first_place in
          let by = since f k within (is_place_lem (place_of (faults_at k) f) (omega (arith, place))) in
          first f by.0 is place by.1 (came_first k within f by.0 place by.1)
      go (not_found all is) (shows_none nothing none_latched_now) = none nothing none_latched_now
      go (not_found all is) (shows_some f number latched) =
          let many = some_place (place_of (faults_at k) f) latched in
          let held = (reached k).each_once.each_held 1 (omega arith) (omega (arith, many, (reached k).each_once.no_further f)) in
          absurd (eqb-false (place_of (faults_at k) held.0) 1 (all held.0) held.1)

  -- and no other is: the statement leaves one answer
  pub first_fixed : (k a b : ℕ) → FirstLatched begin calls k a → FirstLatched begin calls k b → a ≡ b
  first_fixed k a b (none is nothing) (none is' nothing') = is ∙ sym is'
  first_fixed k a b (none is nothing) (first f j number place f_since before_all) = clash (f_since.still k f_since.earlier (omega arith)) (nothing f)
  first_fixed k a b (first f j number place f_since before_all) (none is nothing) = clash (f_since.still k f_since.earlier (omega arith)) (nothing f)
  first_fixed k a b (first f j number place f_since before_all) (first g i number' place' g_since before_all') =
      number ∙ ap number_of (go (before_all g i g_since) (before_all' f j f_since)) ∙ sym number'
    where
      apart : CameBefore f j g i → CameBefore g i f j → ⊥
      apart (inl earlier) (inl later) = omega arith
      apart (inl earlier) (inr same) = omega (arith, same.0)
      apart (inr same) (inl later) = omega (arith, same.0)
      apart (inr same) (inr other) = other.2 same.1

      go : (g ≡ f) ⊎ CameBefore f j g i → (f ≡ g) ⊎ CameBefore g i f j → f ≡ g
      go (inl same) other = sym same
      go (inr came) (inl same) = same
      go (inr came) (inr later) = absurd (apart came later)
