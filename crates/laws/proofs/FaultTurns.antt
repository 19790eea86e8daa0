-- The turns in which the faults of one call latch: any five tests, in turn.
use mathlib.Core.Path.{◌≡◌, refl, sym, ◌∙◌, ap}
use mathlib.Core.Bool.{Bool, true, false, ◌||◌}
use Prim.Native.Nat.{ℕ, zero, suc, ◌≤◌, ◌<◌}
use native.Mathlib.Decide.{dec_lt}
use native.Mathlib.Omega.{arith}
use Rattle.units.proofs.Booleans.{or_right}
use Rattle.rules.specs.Faults.{Fault, Faults, diode, overcurrent, residual, welded, temperature, place_of, is_place, is_latched, latch_if}
use Rattle.laws.specs.FaultOrder.{EachOnce}
use Rattle.laws.proofs.Latching.{turned, latched_own, alone, Grows, grows, grows_on, grows_still, stays_each_once}

-- the turns in which a call's faults latch: a fault call's own (one of 3, 4 and 5), then 1, then 2
abbrev turn : Fault → ℕ
turn residual = 1
turn welded = 2
turn temperature = 3
turn diode = 4
turn overcurrent = 5

-- the fault of a turn
abbrev pub fault_of : ℕ → Fault
fault_of zero = residual
fault_of (suc zero) = residual
fault_of (suc (suc zero)) = welded
fault_of (suc (suc (suc zero))) = temperature
fault_of (suc (suc (suc (suc zero)))) = diode
fault_of (suc (suc (suc (suc (suc n))))) = overcurrent

turn_is : (n : ℕ) → n < 5 → turn (fault_of (suc n)) ≡ suc n
turn_is zero below = refl
turn_is (suc zero) below = refl
turn_is (suc (suc zero)) below = refl
turn_is (suc (suc (suc zero))) below = refl
turn_is (suc (suc (suc (suc zero)))) below = refl
turn_is (suc (suc (suc (suc (suc n))))) below = absurd (omega arith)

turn_most : (f : Fault) → turn f ≤ 5
turn_most diode = omega arith
turn_most overcurrent = omega arith
turn_most residual = omega arith
turn_most welded = omega arith
turn_most temperature = omega arith

-- the last turn is that of 2
pub two_last : (f : Fault) → (f ≡ overcurrent → ⊥) → turn f < 5
two_last diode other = omega arith
two_last overcurrent other = absurd (other refl)
two_last residual other = omega arith
two_last welded other = omega arith
two_last temperature other = omega arith

-- five turns, each with its test
module _ (holds : ℕ → Bool) (base : Faults) where
  abbrev pub stage : ℕ → Faults
  stage zero = base
  stage (suc n) = latch_if (holds n) (fault_of (suc n)) (stage n)

  pub stage_each_once : EachOnce base → (n : ℕ) → EachOnce (stage n)
  stage_each_once known zero = known
  stage_each_once known (suc n) = stays_each_once (fault_of (suc n)) (stage n) (stage (suc n)) (turned (holds n) (fault_of (suc n)) (stage n)) (stage_each_once known n)

  pub stage_grows : (i n : ℕ) → i ≤ n → Grows (stage i) (stage n)
  stage_grows i zero within =
      let same : i ≡ 0 = omega arith in
      rw same (grows_still base)
  stage_grows i (suc n) within = go (dec_lt n i) (stage_grows i n)
    where
      go : Dec (n < i) → (i ≤ n → Grows (stage i) (stage n)) → Grows (stage i) (stage (suc n))
      go (yes last) so_far =
          let same : i ≡ suc n = omega arith in
          rw same (grows_still (stage (suc n)))
      go (no earlier) so_far =
          grows_on (stage i) (stage n) (stage (suc n)) (so_far (omega arith))
          (grows (fault_of (suc n)) (stage n) (stage (suc n)) (turned (holds n) (fault_of (suc n)) (stage n)))

  -- another fault's turn leaves a fault where it is
  left_alone : (g : Fault) (n : ℕ) → n < 5 → (turn g ≡ suc n → ⊥) → place_of (stage (suc n)) g ≡ place_of (stage n) g
  left_alone g n below other = alone (holds n) (fault_of (suc n)) (stage n) g (λ same. other (ap turn (sym same) ∙ turn_is n below))

  before_turn : (g : Fault) (n : ℕ) → n < turn g → place_of (stage n) g ≡ place_of base g
  before_turn g zero below = refl
  before_turn g (suc n) below =
      left_alone g n (omega (arith, turn_most g)) (λ e. absurd (omega (arith, e))) ∙ before_turn g n (omega arith)

  after_turn : (g : Fault) (n : ℕ) → turn g ≤ n → n ≤ 5 → place_of (stage n) g ≡ place_of (stage (turn g)) g
  after_turn g zero within most =
      let same : turn g ≡ 0 = omega arith in
      ap (λ x. place_of (stage x) g) (sym same)
  after_turn g (suc n) within most = go (dec_lt n (turn g)) (after_turn g n)
    where
      go : Dec (n < turn g) → (turn g ≤ n → n ≤ 5 → place_of (stage n) g ≡ place_of (stage (turn g)) g) → place_of (stage (suc n)) g ≡ place_of (stage (turn g)) g
      go (yes own) so_far =
          let same : turn g ≡ suc n = omega arith in
          ap (λ x. place_of (stage x) g) (sym same)
      go (no later) so_far = left_alone g n (omega arith) (λ e. absurd (omega (arith, e))) ∙ so_far (omega arith) (omega arith)

  -- of two that latch, the one in the earlier turn comes first
  pub by_turns : EachOnce base → (f g : Fault) → turn f < turn g → is_latched base g ≡ false → is_latched (stage 5) f ≡ true → is_latched (stage 5) g ≡ true
      → place_of (stage 5) f < place_of (stage 5) g
  by_turns known f g earlier not_yet f_is g_is =
      let cut = stage_grows (turn f) 5 (turn_most f) in
      let f_now = ap is_place (sym (after_turn f 5 (turn_most f) (omega arith))) ∙ f_is in
      let g_later = ap is_place (before_turn g (turn f) earlier) ∙ not_yet in
      omega (arith, cut.kept f f_now, cut.behind g g_later g_is, (stage_each_once known (turn f)).no_further f)

  -- the test of a turn latches its fault
  pub test_latches : (n : ℕ) → n < 5 → holds n ≡ true → is_latched (stage 5) (fault_of (suc n)) ≡ true
  test_latches n below is =
      let own = fault_of (suc n) in
      ap is_place (after_turn own 5 (turn_most own) (omega arith) ∙ ap (λ m. place_of (stage m) own) (turn_is n below))
      ∙ latched_own (holds n) own (stage n)
      ∙ or_right (is_latched (stage n) own) (holds n) is

  -- and nothing else does
  pub latched_by_test : (n : ℕ) → n < 5 → is_latched base (fault_of (suc n)) ≡ false → is_latched (stage 5) (fault_of (suc n)) ≡ true → holds n ≡ true
  latched_by_test n below not_yet is =
      let own = fault_of (suc n) in
      let first = ap is_place (before_turn own n (omega (arith, turn_is n below))) ∙ not_yet in
      ap (λ b. b || holds n) (sym first)
      ∙ sym (latched_own (holds n) own (stage n))
      ∙ ap is_place (sym (after_turn own 5 (turn_most own) (omega arith) ∙ ap (λ m. place_of (stage m) own) (turn_is n below)))
      ∙ is
