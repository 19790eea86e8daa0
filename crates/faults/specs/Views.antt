-- What the structs of this crate stand for in the definitions of crate rules.
use Rattle.std.specs.Prelude.{List, [], ◌∷◌, ℕ}
use Rattle.rules.specs.Faults as faults
use Rattle.faults.specs.declared.Fault.{Fault}
use Rattle.faults.specs.declared.Fault.TheVariants.{Diode, Overcurrent, Residual, Welded, Temperature}
use Rattle.faults.specs.declared.Faults.{Faults}

-- a fault
abbrev pub as_fault : Fault → faults.Fault
as_fault Diode = faults.diode
as_fault Overcurrent = faults.overcurrent
as_fault Residual = faults.residual
as_fault Welded = faults.welded
as_fault Temperature = faults.temperature

-- the latched faults, in their order
abbrev pub as_faults : Faults → faults.Faults
as_faults f =
    record {
      diode = f.diode;
      overcurrent = f.overcurrent;
      residual = f.residual;
      welded = f.welded;
      temperature = f.temperature;
    }

-- the places, by the faults' numbers
abbrev pub places : faults.Faults → List ℕ
places f = f.diode ∷ f.overcurrent ∷ f.residual ∷ f.welded ∷ f.temperature ∷ []
