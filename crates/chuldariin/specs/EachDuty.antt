-- Demands 1 and 2 of the reading of a duty and of the duty for a current, as the host gets them. Proved in proofs/EachDuty.antt.
use Rattle.std.specs.Prelude.{◌≡◌, ◌↔◌, ℕ, ◌≤◌, ◌<◌}
use Rattle.duty.specs.DutyFor.{IsGreatest}
use Rattle.chuldariin.specs.declared.duties.ReadingReply.{ReadingReply}
use Rattle.chuldariin.specs.declared.duties.DutyReply.{DutyReply}

-- refused by 9 above the scale and by nothing else, and then the number comes alone
pub record EachReading (tenths : ℕ) (reply : ReadingReply) : Type 0 where
  pub nine : (◌≡◌ {A = ℕ} reply.refusal 9) ↔ (1000 < tenths)
  pub none : (◌≡◌ {A = ℕ} reply.refusal 0) ↔ (tenths ≤ 1000)
  pub comes_alone : 1000 < tenths → reply ≡ record { refusal = 9; kind = 0; current = 0 }

-- refused by 10 below 6,000 and by nothing else, and then the number comes alone; else the greatest allowed duty
pub record EachDuty (current : ℕ) (reply : DutyReply) : Type 0 where
  pub ten : (◌≡◌ {A = ℕ} reply.refusal 10) ↔ (current < 6000)
  pub none : (◌≡◌ {A = ℕ} reply.refusal 0) ↔ (6000 ≤ current)
  pub comes_alone : current < 6000 → reply ≡ record { refusal = 10; duty = 0 }
  pub greatest : 6000 ≤ current → IsGreatest current reply.duty
