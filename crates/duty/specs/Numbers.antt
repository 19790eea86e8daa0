-- For each case of the functions' answers, document 01's number and values.
use Rattle.std.specs.Prelude.{ℕ, Result, Ok, Err}
use Rattle.duty.specs.Reading.{Reads, no_charging, digital_only, current, refused}
use Rattle.duty.specs.DutyFor.{Sends, duty, refusal}
use Rattle.duty.specs.declared.AboveScale.{AboveScale}
use Rattle.duty.specs.declared.Reading.{Reading}
use Rattle.duty.specs.declared.Reading.TheVariants.{NoCharging, DigitalOnly, Current}
use Rattle.duty.specs.declared.TooLow.{TooLow}

-- the reading of a duty; above 1000, refusal 9
abbrev pub as_reads : Result Reading AboveScale → Reads
as_reads (Ok NoCharging) = no_charging
as_reads (Ok DigitalOnly) = digital_only
as_reads (Ok (Current milliamps)) = current milliamps.0
as_reads (Err above) = refused 9

-- the duty for an available current; below 6,000, refusal 10
abbrev pub as_sends : Result ℕ TooLow → Sends
as_sends (Ok d) = duty d
as_sends (Err low) = refusal 10
