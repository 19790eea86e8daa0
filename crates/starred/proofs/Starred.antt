-- The starred rows of document 01, "Bench figures": one list, and one proposition over it. Proved in StarredHold.antt.
use mathlib.Core.Path.{◌≡◌}
use mathlib.Core.Bool.{Bool, false}
use mathlib.Core.List.{List, [], ◌∷◌, map}
use Prim.Native.Nat.{ℕ}
use lib.IntN.{ℤ, pos}
use Rattle.duty.specs.DutyFor.{Sends, duty, refusal, duty_for}
use Rattle.duty.specs.Reading.{Reads, current, reading_of}
use Rattle.pilot.specs.Bands.{band_c, no_band, band_of}
use Rattle.pilot.specs.Verdicts.{sound}
use Rattle.rules.specs.Begin.{Begin}
use Rattle.rules.specs.Faults.{no_faults}
use Rattle.rules.specs.Altered.{Lent}
use Rattle.rules.specs.Lines.{no_currents}
use Rattle.rules.specs.Reply.{Reply, letter_u}
use Rattle.rules.specs.State.{empty, set_to, forgotten}
use Rattle.rules.proofs.Rows.BenchRows.{first_charge}
use Rattle.rules.proofs.Rows.Sequences.{Entry, call_of}
use Rattle.parts.specs.declared.replies.Reply.{Reply as HostReply}
use Rattle.parts.specs.Views.{as_reply}
use Rattle.controller.specs.declared.Controller.{Controller}
use Rattle.controller.specs.View.{view}
use Rattle.claim.specs.Run.{Run, HasRun}

-- a row of the bench figures
pub data Row : Type 0 where
  -- an available current, and what is sent for it
  gives : ℕ → Sends → Row
  -- a duty, and its reading
  reads : ℕ → Reads → Row
  -- a high level, and its band
  has_band : ℤ → ℕ → Row
  -- a high level that makes a sample unsound, driven or not, whatever the low level
  unsound : ℤ → Row
  -- begin's values and reply, calls with windows of 256 readings and their replies, and the controller after them: there are runs, and so it is in each
  runs : Begin → Reply → List Entry → Lent → Row

-- what a row says
abbrev pub Holds : Row → Type 0
Holds (gives available sent) = duty_for available ≡ sent
Holds (reads d reading) = reading_of d ≡ reading
Holds (has_band high band) = band_of high ≡ band
Holds (unsound high) = (driven : Bool) (low : ℤ) → sound driven high low ≡ false
Holds (runs begin first entries after) =
    ((lent : Controller) → HasRun lent begin (map (λ entry. call_of entry.call) entries))
    × ((begun : HostReply) (replies : List HostReply) (final : Controller)
    → Run begin (map (λ entry. call_of entry.call) entries) begun replies final
    → (as_reply begun ≡ first) × (map as_reply replies ≡ map (λ entry. entry.reply) entries) × (view final ≡ after))

-- the controller after the starred sequence: opened at 121, sound last at 40
abbrev pub after_first_charge : Lent
after_first_charge =
    record {
      state = record {
        settings = record { rated = 32000; pause = 10000; ventilation = false; digital = false };
        limit = 32000;
        grant = 0;
        wave = 533;
        closed = false;
        settled = band_c;
        faults = no_faults;
        last = 121;
        sound = set_to 40;
        opening = set_to 121;
        overrun = empty;
        stop = empty;
        previous = forgotten;
        lines = no_currents;
      };
      closings = 1;
    }

-- the first charge: rated 32 A, pause 0, no ventilation
abbrev pub first_charge_run : Row
first_charge_run =
    runs
    (record { time = 0; rated = 32000; pause = 0; ventilation = false; digital = false })
    (record { refusal = 0; letter = letter_u; digit = 0; wave = 1000; closed = false; fault = 0; closings = 0; lines = no_currents })
    first_charge.entries
    after_first_charge

-- every row of a list holds
abbrev pub AllHold : List Row → Type 0
AllHold [] = Unit {0}
AllHold (row ∷ rows) = Holds row × AllHold rows

-- the starred rows, and with them 6,059 and 6,060, which stand in a starred line
abbrev pub starred : List Row
starred =
    gives 6000 (duty 100)
    ∷ gives 6059 (duty 100)
    ∷ gives 6060 (duty 101)
    ∷ gives 32000 (duty 533)
    ∷ reads 533 (current 31980)
    ∷ gives 51000 (duty 850)
    ∷ gives 52749 (duty 850)
    ∷ gives 52750 (duty 851)
    ∷ gives 80000 (duty 960)
    ∷ gives 5999 (refusal 10)
    ∷ has_band (pos 7000) band_c
    ∷ has_band (pos 7001) no_band
    ∷ unsound (pos 7500)
    ∷ unsound (pos 1500)
    ∷ first_charge_run
    ∷ []
