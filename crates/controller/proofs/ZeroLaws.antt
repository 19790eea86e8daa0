-- Cleared memory is taken for no controller: every call that is not too late is refused by 1.
use mathlib.Core.Path.{◌≡◌, refl}
use mathlib.Core.Bool.{true}
use Rattle.units.specs.Range.{from_to}
use Rattle.rules.specs.Begin.{rated_allowed}
use Rattle.rules.specs.Altered.{wave_allowed, in_range, altered}
use Rattle.rules.specs.Refusals.{limit_allowed, grant_allowed}
use Rattle.controller.specs.Zeroed.{zeroed}

pub zeroed_altered : altered zeroed ≡ true
unfolding altered in_range wave_allowed from_to limit_allowed grant_allowed rated_allowed
zeroed_altered = refl
