-- What is true of every state that a list leads to. Proved in proofs/Invariant.antt: a fresh controller has it, and every accepted call keeps it.
use Rattle.std.specs.Prelude.{◌≡◌, true, false, ◌↔◌, ◌⊎◌, ◌+◌, ◌≤◌, ◌<◌}
use Rattle.units.specs.Wave.{five_percent, steady_low, steady_high}
use Rattle.pilot.specs.Bands.{band_a, band_b, ready}
use Rattle.duty.specs.DutyFor.{IsGreatest}
use Rattle.rules.specs.Faults.{Fault, is_latched, any_fault}
use Rattle.rules.specs.State.{State, is_driven, available}
use Rattle.laws.specs.FaultOrder.{EachOnce}

pub record Reached (s : State) : Type 0 where
  -- the wave: steady -12 V exactly under a fault, else steady +12 V or driven
  pub wave_low : (s.wave ≡ steady_low) ↔ ((f : Fault) × (is_latched s.faults f ≡ true))
  pub wave_kinds : (s.wave ≡ steady_low) ⊎ ((s.wave ≡ steady_high) ⊎ (is_driven s ≡ true))
  -- driven, it is the greatest allowed duty for the lesser of rated and limit in a plain post (demand 2), and 5 % in a digital one
  pub driven_greatest : s.settings.digital ≡ false → is_driven s ≡ true → IsGreatest (available s) s.wave
  pub driven_five : s.settings.digital ≡ true → is_driven s ≡ true → s.wave ≡ five_percent
  -- and there is no fault, B, C or ventilated D is settled, and 6,000 or more is available
  pub driven_no_fault : is_driven s ≡ true → any_fault s.faults ≡ false
  pub driven_settled : is_driven s ≡ true → (s.settled ≡ band_b) ⊎ (ready s.settled s.settings.ventilation ≡ true)
  pub driven_available : is_driven s ≡ true → 6000 ≤ available s
  -- and a digital post that is closed has its grant
  pub driven_granted : s.settings.digital ≡ true → s.closed ≡ true → is_driven s ≡ true → 6000 ≤ s.grant
  -- the grant is 0 while A is settled, and in a plain post
  pub none_in_a : s.settled ≡ band_a → s.grant ≡ 0
  pub none_in_plain : s.settings.digital ≡ false → s.grant ≡ 0
  -- a stop runs exactly if the contactor is closed and the wave is steady +12 V
  pub stop_exactly : (s.stop.set ≡ true) ↔ ((s.closed ≡ true) × (s.wave ≡ steady_high))
  -- so a digital post that is closed with a grant below 6,000 stops its van
  pub low_grant_stops : s.settings.digital ≡ true → s.closed ≡ true → s.grant < 6000 → (s.wave ≡ steady_high) × (s.stop.set ≡ true)
  -- the order of the faults holds just those latched, each once (document 02, f)
  pub each_once : EachOnce s.faults
  -- open: no over-run and no stop
  pub open_no_overrun : s.closed ≡ false → s.overrun.set ≡ false
  pub open_no_stop : s.closed ≡ false → s.stop.set ≡ false
  -- an over-run runs only closed and driven
  pub overrun_closed : s.overrun.set ≡ true → s.closed ≡ true
  pub overrun_driven : s.overrun.set ≡ true → is_driven s ≡ true
  -- closed: no fault, a sound sample within 80 of the last accepted call, and C or ventilated D settled
  pub closed_no_fault : s.closed ≡ true → any_fault s.faults ≡ false
  pub closed_has_sound : s.closed ≡ true → s.sound.set ≡ true
  pub closed_sound : s.closed ≡ true → s.last ≤ s.sound.time + 80
  pub closed_ready : s.closed ≡ true → ready s.settled s.settings.ventilation ≡ true
