-- The duty for an available current (document 01, "Duty and current").
use Rattle.std.specs.Prelude.{Bool, false, ◌&&◌, ◌≡◌, ℕ, ◌≤◌, ◌<◌, leb}
use Rattle.std.proofs.Math.Option.{Option, none, some}
use Rattle.units.specs.Range.{from_to}
use Rattle.duty.specs.GreatestBelow.{greatest_below}
use Rattle.duty.specs.Reading.{Reads, no_charging, digital_only, current, refused, reading_of}

-- a duty to send, or the number of the refusal
pub data Sends : Type 0 where
  duty : ℕ → Sends
  refusal : ℕ → Sends

-- the reading is a current, and at most the available one
unfoldable pub at_most : ℕ → Reads → Bool
at_most available no_charging = false
at_most available digital_only = false
at_most available (current milliamps) = leb milliamps available
at_most available (refused number) = false

-- allowed: a duty of a driven wave that tells no more than what is available
unfoldable pub allowed : ℕ → ℕ → Bool
allowed available d = from_to 100 960 d && at_most available (reading_of d)

-- the duty that was found, or the refusal where there is none
unfoldable pub or_refusal : ℕ → Option ℕ → Sends
or_refusal number none = refusal number
or_refusal number (some d) = duty d

-- the duty for an available current: the greatest that is allowed, or refusal 10 where none is. When that is so is a law
-- (proofs/Laws.antt, refused_exactly).
unfoldable pub duty_for : ℕ → Sends
duty_for available = or_refusal 10 (greatest_below (allowed available) 961)

-- What "greatest" means: the duty is allowed for the current, and every greater duty up to 960 reads more than it.
pub record IsGreatest (available d : ℕ) : Type 0 where
  pub least : 100 ≤ d
  pub most : d ≤ 960
  pub fits : (milliamps : ℕ) × (reading_of d ≡ current milliamps) × (milliamps ≤ available)
  pub above : (e : ℕ) → d < e → e ≤ 960 → (milliamps : ℕ) × (reading_of e ≡ current milliamps) × (available < milliamps)
