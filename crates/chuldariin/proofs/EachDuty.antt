-- What the exported reading and duty tell: refusals 9 and 10, each for its condition and alone, no other number, and the greatest duty.
use mathlib.Core.Path.{◌≡◌, refl, ◌∙◌, ap}
use Prim.Native.Nat.{ℕ, ◌≤◌, ◌<◌}
use native.Mathlib.Decide.{dec_lt}
use native.Mathlib.Omega.{arith}
use Rattle.duty.specs.Reading.{Reads, no_charging, digital_only, current, refused, reading_of}
use Rattle.duty.specs.DutyFor.{duty_for}
use Rattle.duty.proofs.Laws.{nine_exactly, only_nine, greatest, too_low}
use Rattle.chuldariin.specs.Duties.{host_reading, host_duty}
use Rattle.chuldariin.specs.EachDuty.{EachReading, EachDuty}
use Rattle.chuldariin.specs.declared.duties.ReadingReply.{ReadingReply}
use Rattle.chuldariin.specs.declared.duties.DutyReply.{DutyReply}

pub each-reading : (tenths : ℕ) (reply : ReadingReply) → reply ≡ host_reading (reading_of tenths) → EachReading tenths reply
each-reading tenths reply is = go (dec_lt 1000 tenths)
  where
    on_scale : (reads : Reads) → reading_of tenths ≡ reads → tenths ≤ 1000 → ◌≡◌ {A = ℕ} (host_reading reads).refusal 0
    on_scale no_charging e within = refl
    on_scale digital_only e within = refl
    on_scale (current milliamps) e within = refl
    on_scale (refused number) e within =
        let above = (nine_exactly tenths).0 (e ∙ ap refused (only_nine tenths number e)) in
        absurd (omega arith)

    go : Dec (1000 < tenths) → EachReading tenths reply
    go (yes above) =
        let alone : reply ≡ record { refusal = 9; kind = 0; current = 0 } = is ∙ ap host_reading ((nine_exactly tenths).1 above) in
        let number : ◌≡◌ {A = ℕ} reply.refusal 9 = ap (λ r. r.refusal) alone in
        record { nine = (λ e. omega arith, λ h. number); none = (λ e. absurd (omega arith), λ h. absurd (omega arith)); comes_alone = λ h. alone }
    go (no within) =
        let number : ◌≡◌ {A = ℕ} reply.refusal 0 = ap (λ r. r.refusal) is ∙ on_scale (reading_of tenths) refl (omega arith) in
        record { nine = (λ e. absurd (omega arith), λ h. absurd (omega arith)); none = (λ e. omega arith, λ h. number); comes_alone = λ h. absurd (omega arith) }

pub each-duty : (available : ℕ) (reply : DutyReply) → reply ≡ host_duty (duty_for available) → EachDuty available reply
each-duty available reply is = go (dec_lt available 6000)
  where
    go : Dec (available < 6000) → EachDuty available reply
    go (yes low) =
        let alone : reply ≡ record { refusal = 10; duty = 0 } = is ∙ ap host_duty (too_low available low) in
        let number : ◌≡◌ {A = ℕ} reply.refusal 10 = ap (λ r. r.refusal) alone in
        record {
          ten = (λ e. omega arith, λ h. number);
          none = (λ e. absurd (omega arith), λ h. absurd (omega arith));
          comes_alone = λ h. alone;
          greatest = λ h. absurd (omega arith);
        }
    go (no high) =
        let known = greatest available (omega arith) in
        let sent : reply ≡ record { refusal = 0; duty = known.0 } = is ∙ ap host_duty known.1 in
        let number : ◌≡◌ {A = ℕ} reply.refusal 0 = ap (λ r. r.refusal) sent in
        record {
          ten = (λ e. absurd (omega arith), λ h. absurd (omega arith));
          none = (λ e. omega arith, λ h. number);
          comes_alone = λ h. absurd (omega arith);
          greatest = λ h. rw (ap (λ r. r.duty) sent) known.2;
        }
