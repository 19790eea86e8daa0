-- Which fault came first (document 02, f): in every list the fault that is shown is the first among those still latched, and the replay's order is that in
-- which they were latched. Proved in proofs/FirstFault.antt.
use Rattle.std.specs.Prelude.{◌≡◌, Bool, true, false, List, ◌⊎◌, ℕ, suc, ◌≤◌, ◌<◌, ℤ, length, get_or}
use Rattle.rules.specs.Accepted.{pair_at}
use Rattle.rules.specs.Begin.{Begin}
use Rattle.rules.specs.Calls.{Event, Call, fault, clear}
use Rattle.rules.specs.Faults.{Fault, diode, overcurrent, number_of, place_of, is_latched}
use Rattle.rules.specs.Pairs.{both_diode_bad}
use Rattle.lists.specs.Traces.{no_call, before, call_at, Accepts}

-- f, latched by call j, came before g, latched by call i: by an earlier call; or by the same one, where 2 comes behind the other, be that 1 or the fault
-- call's own
abbrev pub CameBefore : Fault → ℕ → Fault → ℕ → Type 0
CameBefore f j g i = (j < i) ⊎ ((j ≡ i) × (g ≡ overcurrent) × (f ≡ overcurrent → ⊥))

module _ (begin : Begin) (calls : List Call) where
  -- kind and arguments of call k, as they were given
  abbrev pub event_at : ℕ → Event (List ℤ)
  event_at k = (get_or calls k no_call).event

  -- this and the previous sample are both diode-bad in call k
  abbrev pub diode_bad_at : ℕ → Bool
  diode_bad_at k = both_diode_bad (pair_at (before begin calls k) (call_at begin calls k))

  -- the fault is latched before call k
  abbrev pub latched_at : Fault → ℕ → Bool
  latched_at f k = is_latched (before begin calls k).faults f

  -- call k latches the fault: it is not latched before the call, and is after it
  pub record Latches (f : Fault) (k : ℕ) : Type 0 where
    pub below : k < length calls
    pub not_yet : latched_at f k ≡ false
    pub latched : latched_at f (suc k) ≡ true

  -- call j latched it, and it has been latched since, up to call k
  pub record LatchedSince (f : Fault) (j k : ℕ) : Type 0 where
    pub latches : Latches f j
    pub earlier : j < k
    pub still : (i : ℕ) → j < i → i ≤ k → latched_at f i ≡ true

  -- the order before call k is that in which the faults were latched
  pub record AsLatched (k : ℕ) : Type 0 where
    pub each_since : (f : Fault) → latched_at f k ≡ true → (j : ℕ) × LatchedSince f j k
    pub as_they_came : (f g : Fault) (j i : ℕ) → LatchedSince f j k → LatchedSince g i k → CameBefore f j g i
        → place_of (before begin calls k).faults f < place_of (before begin calls k).faults g

  -- what the calls of a list do to the faults and their order
  pub record OrderKept : Type 0 where
    pub as_latched : (k : ℕ) → k ≤ length calls → AsLatched k
    -- an accepted fault call leaves its own fault latched, and 3, 4 and 5 come by such a call alone
    pub own_latched : (k : ℕ) (f : Fault) → Accepts begin calls k → event_at k ≡ fault (number_of f) → latched_at f (suc k) ≡ true
    pub own_only : (k : ℕ) (f : Fault) → 3 ≤ number_of f → Latches f k → Accepts begin calls k × (event_at k ≡ fault (number_of f))
    -- 1 comes with two diode-bad samples, and with nothing else (2: OverCurrentExactly)
    pub one_latched : (k : ℕ) → Accepts begin calls k → diode_bad_at k ≡ true → latched_at diode (suc k) ≡ true
    pub one_only : (k : ℕ) → Latches diode k → Accepts begin calls k × (diode_bad_at k ≡ true)
    -- a fault that stays latched keeps its place, also where it is told again
    pub keeps_place : (k : ℕ) (f : Fault) → k < length calls → latched_at f k ≡ true → latched_at f (suc k) ≡ true
        → place_of (before begin calls (suc k)).faults f ≡ place_of (before begin calls k).faults f
    -- only an accepted clear drops a fault, and it drops every one that it finds. Under a fault no over-run runs: a clear latches 2 only where it
    -- finds no fault, and 2 is then the first
    pub clear_only : (k : ℕ) (f : Fault) → k < length calls → latched_at f k ≡ true → latched_at f (suc k) ≡ false
        → Accepts begin calls k × (event_at k ≡ clear)
    pub clear_empties : (k : ℕ) (f : Fault) → Accepts begin calls k → event_at k ≡ clear → latched_at f k ≡ true → latched_at f (suc k) ≡ false

  -- what is shown before call k: 0 if no fault is latched, else the first of the replay's order, which came before all others that are still latched
  pub data FirstLatched (k shown : ℕ) : Type 0 where
    none : shown ≡ 0 → ((f : Fault) → latched_at f k ≡ false) → FirstLatched k shown
    first : (f : Fault) (j : ℕ) → shown ≡ number_of f → place_of (before begin calls k).faults f ≡ 1 → LatchedSince f j k
        → ((g : Fault) (i : ℕ) → LatchedSince g i k → (g ≡ f) ⊎ CameBefore f j g i) → FirstLatched k shown
