-- Demand 3 for every trace that has the laws of one call.
use native.Mathlib.Omega.{arith}
use Rattle.lists.specs.Demand3.{Trace, Demand3}
use Rattle.lists.proofs.Exactly.{exactly}
use Rattle.lists.proofs.Lawful.{Memory, Lawful}
use Rattle.lists.proofs.Pauses.{pauses}
use Rattle.lists.proofs.Remembered.{closing_meets, proves}
use Rattle.lists.proofs.Spacing.{counts, at_most, spans}

pub demand3_of : (t : Trace) (memory : Memory) → Lawful t memory → Demand3 t
demand3_of t memory laws =
    record {
      exactly = exactly t memory laws;
      proves = proves t memory laws;
      grants = λ digital k closing. omega (arith, (closing_meets t memory laws k closing).1.has_grant_lem digital);
      pauses = pauses t memory laws;
      counts = counts t memory laws t.length (omega arith);
      at_most = omega (arith, at_most t memory laws t.length (omega arith));
      spans = spans t memory laws;
    }
