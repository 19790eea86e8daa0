-- The starred rows hold. Each side of a row is computed.
use mathlib.Core.Path.{◌≡◌, refl, ◌∙◌}
use mathlib.Core.Bool.{false}
use mathlib.Core.List.{List, map}
use Rattle.units.specs.Range.{within, strictly_between, from_to}
use Rattle.duty.specs.DutyFor.{duty_for, at_most, allowed, or_refusal}
use Rattle.duty.specs.Reading.{reading_of}
use Rattle.duty.specs.GreatestBelow.{or_else, greatest_below}
use Rattle.pilot.specs.Bands.{band_of}
use Rattle.pilot.specs.Verdicts.{sound}
use Rattle.rules.specs.Begin.{rated_allowed, begin_refusal}
use Rattle.rules.specs.Lines.{no_currents}
use Rattle.rules.specs.Reply.{letter_u, shown}
use Rattle.rules.specs.Answer.{lent_after, replies_to}
use Rattle.rules.specs.Calls.{Call, in_turn}
use Rattle.rules.proofs.Rows.BenchRows.{first_charge}
use Rattle.rules.proofs.Rows.BenchRowsHold.{first_charge_lem}
use Rattle.rules.proofs.Rows.Sequences.{call_of, at32_a, computed, lent_on_lem}
use Rattle.claim.proofs.EveryRun.{begun_told, replies_told, final_told}
use Rattle.claim.proofs.Exists.{has_run}
use Rattle.starred.proofs.Starred.{Holds, after_first_charge, first_charge_run, AllHold, starred}

abbrev calls : List Call
calls = map (λ entry. call_of entry.call) first_charge.entries

replies_computed : replies_to (at32_a 0) calls ≡ map (λ entry. entry.reply) first_charge.entries
unfolding in_turn
replies_computed = first_charge_lem

final_computed : lent_after (at32_a 0) calls ≡ after_first_charge
unfolding computed
final_computed = lent_on_lem (at32_a 0) (map (λ entry. entry.call) first_charge.entries) refl

begun_computed : shown 0 (at32_a 0) ≡ record { refusal = 0; letter = letter_u; digit = 0; wave = 1000; closed = false; fault = 0; closings = 0; lines = no_currents }
unfolding computed
begun_computed = refl

begin_right : begin_refusal (record { time = 0; rated = 32000; pause = 0; ventilation = false; digital = false }) ≡ 0
unfolding begin_refusal rated_allowed from_to
begin_right = refl

-- what a run tells is what the definitions tell (crate claim), and that is computed
run_tells : Holds first_charge_run
run_tells = (
  λ lent. has_run lent _ calls begin_right,
  λ begun replies final run. (
    begun_told _ calls begun replies final run ∙ begun_computed,
    replies_told _ calls begun replies final run ∙ replies_computed,
    final_told _ calls begun replies final run ∙ final_computed,
  ),
)

pub starred_hold : AllHold starred
unfolding within strictly_between from_to at_most allowed or_refusal duty_for or_else greatest_below reading_of band_of sound
starred_hold =
    (refl, (refl, (refl, (refl, (refl, (refl, (refl, (refl, (refl, (refl, (refl, (refl, (λ wave low. refl, (λ wave low. refl, (run_tells, tt)))))))))))))))
