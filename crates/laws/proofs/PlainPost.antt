-- Plain posts behave as before.
use mathlib.Core.Path.{◌≡◌}
use mathlib.Core.Bool.{false}
use Rattle.units.specs.Wave.{driven_in}
use Rattle.units.proofs.Booleans.{or_false}
use Rattle.rules.specs.Altered.{duty_allowed, wave_allowed, in_range}
use Rattle.rules.specs.Pairs.{window_verdict, verdict}
use Rattle.rules.specs.Refusals.{grant_allowed, link_refusal, argument_refusal}
use Rattle.rules.specs.State.{State}
use Rattle.rules.specs.Step1Event.{allowed_by, overrun_at, overrun_by}
use Rattle.rules.specs.Step3Wave.{low_grant, driven_wave, held_high, wave_for, lowers_duty, restarts, overrun_under, stop_under}
use Rattle.rules.specs.Step5Closing.{has_grant, closes}
use Rattle.laws.specs.PlainPost.{PlainPost}

pub plain_post_lem : (s : State) → s.settings.digital ≡ false → PlainPost s
unfolding driven_in verdict window_verdict allowed_by overrun_at overrun_by low_grant driven_wave held_high wave_for lowers_duty restarts overrun_under stop_under has_grant closes duty_allowed wave_allowed in_range grant_allowed link_refusal argument_refusal
plain_post_lem s plain =
    record {
      verdict_is = λ high low. rw plain;
      overrun_is = λ time lines. rw plain;
      wave_is = rw (plain, or_false _);
      overrun_under_is = λ time. rw plain;
      stop_under_is = λ time. rw plain;
      closes_is = λ opened time pair. rw plain;
      digit_is = λ number closings. rw plain;
      in_range_is = λ none. rw (plain, none);
      link_refused = λ granted. rw plain;
    }
