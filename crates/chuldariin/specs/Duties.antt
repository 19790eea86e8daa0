-- A reading and a duty as the host gets them: the number of the refusal, then the values, with zeros beside a refusal.
use Rattle.duty.specs.Reading.{Reads, no_charging, digital_only, current, refused}
use Rattle.duty.specs.DutyFor.{Sends, duty, refusal}
use Rattle.chuldariin.specs.declared.duties.ReadingReply.{ReadingReply}
use Rattle.chuldariin.specs.declared.duties.DutyReply.{DutyReply}

-- kinds: 0 no charging, 1 digital only, 2 a current
abbrev pub host_reading : Reads → ReadingReply
host_reading no_charging = record { refusal = 0; kind = 0; current = 0 }
host_reading digital_only = record { refusal = 0; kind = 1; current = 0 }
host_reading (current milliamps) = record { refusal = 0; kind = 2; current = milliamps }
host_reading (refused number) = record { refusal = number; kind = 0; current = 0 }

-- the duty for an available current, as the host gets it
abbrev pub host_duty : Sends → DutyReply
host_duty (duty d) = record { refusal = 0; duty = d }
host_duty (refusal number) = record { refusal = number; duty = 0 }
