-- A view has one controller.
use mathlib.Core.Path.{◌≡◌, refl, ap}
use Rattle.rules.specs.Altered.{Lent}
use Rattle.controller.specs.declared.Controller.{Controller}
use Rattle.controller.specs.View.{view}

-- the controller with a view
abbrev pub controller_of : Lent → Controller
controller_of lent =
    let s = lent.state in
    record {
      settings = record { rated = record { 0 = s.settings.rated }; pause = record { 0 = s.settings.pause }; ventilation = s.settings.ventilation; digital = s.settings.digital };
      limit = record { 0 = s.limit };
      grant = record { 0 = s.grant };
      wave = s.wave;
      closed = s.closed;
      settled = s.settled;
      faults = record {
        diode = s.faults.diode;
        overcurrent = s.faults.overcurrent;
        residual = s.faults.residual;
        welded = s.faults.welded;
        temperature = s.faults.temperature;
      };
      last = record { 0 = s.last };
      sound = record { set = s.sound.set; time = record { 0 = s.sound.time } };
      opening = record { set = s.opening.set; time = record { 0 = s.opening.time } };
      overrun = record { set = s.overrun.set; time = record { 0 = s.overrun.time } };
      stop = record { set = s.stop.set; time = record { 0 = s.stop.time } };
      previous = record { kept = s.previous.kept; verdict = s.previous.verdict };
      closings = lent.closings;
      lines = record { line1 = record { 0 = s.lines.line1 }; line2 = record { 0 = s.lines.line2 }; line3 = record { 0 = s.lines.line3 } };
    }

pub view_of : (lent : Lent) → view (controller_of lent) ≡ lent
view_of lent = refl

pub view_fixes : (a b : Controller) → view a ≡ view b → a ≡ b
view_fixes a b e = ap controller_of e
