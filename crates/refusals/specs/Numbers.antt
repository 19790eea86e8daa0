-- For each refusal, document 01's number.
use Rattle.std.specs.Prelude.{ℕ, Result, Ok, Err}
use Rattle.window.specs.declared.Refused.TheVariants as refused
use Rattle.refusals.specs.declared.refusal.Refusal.{Refusal}
use Rattle.refusals.specs.declared.refusal.Refusal.TheVariants.{Settings, Earlier, Late, Window, Measure, Kind, Grant, Plain, Limit}

-- the number of a refusal
abbrev pub number_of : Refusal → ℕ
number_of Settings = 1
number_of Earlier = 2
number_of Late = 3
number_of (Window refused.Length) = 4
number_of (Window refused.Range) = 5
number_of (Window refused.Support) = 6
number_of Measure = 7
number_of Kind = 8
number_of Grant = 11
number_of Plain = 12
number_of Limit = 13

-- the same of an answer; 0 if there is none
abbrev pub refusal_number : {T : Type 0} → Result T Refusal → ℕ
refusal_number (Ok accepted) = 0
refusal_number (Err refusal) = number_of refusal
