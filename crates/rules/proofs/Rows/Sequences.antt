-- How a sequence of calls with its replies is written, what it claims, and how it is computed: a square window is evaluated once and for all
-- (Squares.antt), and the calls then go by levels.
use mathlib.Core.Path.{◌≡◌, refl, ◌∙◌, ap}
use mathlib.Core.Bool.{Bool, true, false, ◌&&◌}
use mathlib.Core.List.{List, [], ◌∷◌, ◌++◌, map}
use Prim.Native.Nat.{ℕ, zero, suc, ◌+◌, ◌*◌, ◌≤◌, ◌<◌}
use native.Mathlib.Omega.{arith}
use lib.IntN.{ℤ, pos, neg_ℤ}
use lib.Signed.{le_z}
use Rattle.units.specs.Range.{within, strictly_between, from_to}
use Rattle.units.specs.Wave.{driven, driven_in}
use Rattle.units.proofs.Booleans.{and_parts}
use Rattle.pilot.specs.Bands.{band_of, ready, is_bcd}
use Rattle.pilot.specs.Verdicts.{sound, proven, diode_bad, verdict_of}
use Rattle.duty.specs.DutyFor.{at_most, allowed, or_refusal, duty_for}
use Rattle.duty.specs.GreatestBelow.{or_else, greatest_below}
use Rattle.duty.specs.Reading.{reading_of}
use Rattle.window.specs.Evaluation.{Evaluation, levels, reading_allowed}
use Rattle.rules.specs.Answer.{begun, next, reply_to, lent_after, replies_to}
use Rattle.rules.specs.Calls.{Event, Call, sample, limit, measure, link, fault, clear, tick, evaluated_call, EvaluatedCall, evaluated, in_turn}
use Rattle.rules.specs.Faults.{any_fault, how_many, put_at, latch, lowest, first_of}
use Rattle.rules.specs.Altered.{Lent, duty_allowed, wave_allowed, stored_allowed, times_allowed, in_range, altered, lent_refusal}
use Rattle.rules.specs.Lines.{Lines, no_currents, largest, line_allowed, lines_allowed}
use Rattle.rules.specs.Reply.{Reply, letter, digit}
use Rattle.rules.specs.Begin.{rated_allowed, pause_allowed, pause_for, fresh}
use Rattle.rules.specs.Pairs.{window_verdict, verdict, paired, same_band, in_one_band, both_proven, both_diode_bad, both_unsound}
use Rattle.rules.specs.Refusals.{time_refusal, kind_allowed, limit_allowed, grant_allowed, link_refusal, argument_refusal}
use Rattle.rules.specs.State.{available, least_of_three}
use Rattle.rules.specs.Step1Event.{settled_by, sound_by, limit_by, lines_by, with_kind, faults_by, grant_stored, grant_by, current_of, announced, allowed_by, is_over, overrun_at, overrun_by}
use Rattle.rules.specs.Step2Latches.{ran_for, over_current, unsettles, latched}
use Rattle.rules.specs.Step3Wave.{is_settled, is_uae, unventilated_d, no_duty, sent, low_grant, driven_wave, held_high, wave_for, lowers_duty, restarts, overrun_under, stop_under}
use Rattle.rules.specs.Step4Opening.{cause1, cause2, cause3, cause4, cause5, cause, opens}
use Rattle.rules.specs.Step5Closing.{pause_over, has_grant, closes, closings_by}
use Rattle.rules.proofs.Rows.Squares.{square_window, square_levels}

-- the two levels of a square window
pub record Levels : Type 0 where
  pub high : ℤ
  pub low : ℤ

-- a call that tells a window by its levels
pub record LevelCall : Type 0 where
  pub time : ℕ
  pub event : Event Levels

abbrev pub windowed : Event Levels → Event (List ℤ)
windowed (sample window) = sample (square_window window.high window.low)
windowed (limit current) = limit current
windowed (measure lines) = measure lines
windowed (link granted) = link granted
windowed (fault kind) = fault kind
windowed clear = clear
windowed tick = tick

abbrev pub call_of : LevelCall → Call
call_of call = record { time = call.time; event = windowed call.event }

-- a call, and the reply to it
pub record Entry : Type 0 where
  pub call : LevelCall
  pub reply : Reply

-- a controller; calls whose replies are not told; and then calls with their replies
pub record Sequence : Type 0 where
  pub start : Lent
  pub first : List LevelCall
  pub entries : List Entry

abbrev pub Tells : Sequence → Type 0
Tells sequence =
    replies_to (lent_after sequence.start (map call_of sequence.first)) (map (λ entry. call_of entry.call) sequence.entries)
    ≡ map (λ entry. entry.reply) sequence.entries

abbrev pub AllTell : List Sequence → Type 0
AllTell [] = Unit {0}
AllTell (sequence ∷ sequences) = Tells sequence × AllTell sequences

-- samples: the same level all the time, as under a steady wave; or high and -12,000, as under a driven one
abbrev pub steady_at : ℕ → Event Levels
steady_at high = sample (record { high = pos high; low = pos high })

abbrev pub driven_at : ℕ → Event Levels
driven_at high = sample (record { high = pos high; low = neg_ℤ (pos 12000) })

abbrev pub call : ℕ → Event Levels → LevelCall
call time event = record { time = time; event = event }

-- n calls, the first at a time and each of the others a gap after the one before it
abbrev pub every : ℕ → ℕ → ℕ → Event Levels → List LevelCall
every zero gap time event = []
every (suc n) gap time event = call time event ∷ every n gap (time + gap) event

-- the currents on the three lines
abbrev pub on : ℕ → ℕ → ℕ → Lines
on line1 line2 line3 = record { line1 = line1; line2 = line2; line3 = line3 }

-- a call and the reply to it: the currents that it shows; refusal, letter, digit, wave, contactor closed, fault, closings
abbrev pub showing : Lines → ℕ → Event Levels → ℕ → ℕ → ℕ → ℕ → Bool → ℕ → ℕ → Entry
showing lines time event number letter digit wave closed kind closings =
    record {
      call = call time event;
      reply = record { refusal = number; letter = letter; digit = digit; wave = wave; closed = closed; fault = kind; closings = closings; lines = lines };
    }

-- the same with 0 on each line
abbrev pub row : ℕ → Event Levels → ℕ → ℕ → ℕ → ℕ → Bool → ℕ → ℕ → Entry
row = showing no_currents

-- the controllers of begin at a time: rated 32 A with a pause that begin names, and rated 32 A and 80 A with pause 0; no ventilation
abbrev pub at32_a_with : ℕ → ℕ → Lent
at32_a_with pause time = begun (record { time = time; rated = 32000; pause = pause; ventilation = false; digital = false })

abbrev pub at32_a : ℕ → Lent
at32_a time = at32_a_with 0 time

abbrev pub at80_a : ℕ → Lent
at80_a time = begun (record { time = time; rated = 80000; pause = 0; ventilation = false; digital = false })

-- a post with ventilation, and a pause that begin names
abbrev pub with_ventilation : Lent
with_ventilation = begun (record { time = 0; rated = 80000; pause = 1000; ventilation = true; digital = false })

-- a first charge: B settles, and C closes 40 after begin
abbrev pub charging : ℕ → ℕ → List LevelCall
charging time current =
    call time (limit current)
    ∷ call (time + 10) (steady_at 9000)
    ∷ call (time + 20) (steady_at 9000)
    ∷ call (time + 30) (driven_at 6000)
    ∷ call (time + 40) (driven_at 6000)
    ∷ []

-- levels that a square window can have
abbrev pub is_square : Event Levels → Bool
is_square (sample window) = le_z window.low window.high && (reading_allowed window.high && reading_allowed window.low)
is_square (limit current) = true
is_square (measure lines) = true
is_square (link granted) = true
is_square (fault kind) = true
is_square clear = true
is_square tick = true

abbrev pub all_square : List LevelCall → Bool
all_square [] = true
all_square (first ∷ rest) = is_square first.event && all_square rest

abbrev pub event_of : Event Levels → Event Evaluation
event_of (sample window) = sample (levels window.high window.low)
event_of (limit current) = limit current
event_of (measure lines) = measure lines
event_of (link granted) = link granted
event_of (fault kind) = fault kind
event_of clear = clear
event_of tick = tick

abbrev pub evaluated_of : LevelCall → EvaluatedCall
evaluated_of call = record { time = call.time; event = event_of call.event }

pub evaluated_is : (time : ℕ) (event : Event Levels) → is_square event ≡ true → evaluated_call (call_of (record { time = time; event = event })) ≡ record { time = time; event = event_of event }
unfolding evaluated
evaluated_is time (sample window) right =
    let one = and_parts (le_z window.low window.high) _ right in
    let two = and_parts (reading_allowed window.high) (reading_allowed window.low) one.1 in
    ap (λ w. record { time = time; event = sample w }) (square_levels window.high window.low one.0 two.0 two.1)
evaluated_is time (limit current) right = refl
evaluated_is time (measure lines) right = refl
evaluated_is time (link granted) right = refl
evaluated_is time (fault kind) right = refl
evaluated_is time clear right = refl
evaluated_is time tick right = refl

-- the same over levels
abbrev pub lent_on : Lent → List LevelCall → Lent
lent_on lent [] = lent
lent_on lent (first ∷ rest) = lent_on (next lent (evaluated_of first)) rest

abbrev pub replies_on : Lent → List LevelCall → List Reply
replies_on lent [] = []
replies_on lent (first ∷ rest) = reply_to lent (evaluated_of first) ∷ replies_on (next lent (evaluated_of first)) rest

pub lent_on_lem : (lent : Lent) (calls : List LevelCall) → all_square calls ≡ true → lent_after lent (map call_of calls) ≡ lent_on lent calls
unfolding in_turn
lent_on_lem lent [] right = refl
lent_on_lem lent (first ∷ rest) right =
    let parts = and_parts (is_square first.event) (all_square rest) right in
    lent_on_lem (next lent (evaluated_call (call_of first))) rest parts.1
    ∙ ap (λ h. lent_on (next lent h) rest) (evaluated_is first.time first.event parts.0)

replies_on_lem : (lent : Lent) (entries : List Entry) → all_square (map (λ entry. entry.call) entries) ≡ true
    → replies_to lent (map (λ entry. call_of entry.call) entries) ≡ replies_on lent (map (λ entry. entry.call) entries)
unfolding replies_to
replies_on_lem lent [] right = refl
replies_on_lem lent (first ∷ rest) right =
    let parts = and_parts (is_square first.call.event) (all_square (map (λ entry. entry.call) rest)) right in
    let same = evaluated_is first.call.time first.call.event parts.0 in
    ap (λ l. reply_to lent (evaluated_call (call_of first.call)) ∷ l) (replies_on_lem (next lent (evaluated_call (call_of first.call))) rest parts.1)
    ∙ ap (λ h. reply_to lent h ∷ replies_on (next lent h) (map (λ entry. entry.call) rest)) same

pub tells_by : (sequence : Sequence) (lent : Lent) → all_square sequence.first ≡ true → all_square (map (λ entry. entry.call) sequence.entries) ≡ true
    → lent_on sequence.start sequence.first ≡ lent
    → replies_on lent (map (λ entry. entry.call) sequence.entries) ≡ map (λ entry. entry.reply) sequence.entries → Tells sequence
tells_by sequence lent right rights comes answers =
    ap (λ l. replies_to l (map (λ entry. call_of entry.call) sequence.entries)) (lent_on_lem sequence.start sequence.first right ∙ comes)
    ∙ replies_on_lem lent sequence.entries rights
    ∙ answers

-- a call computed on levels: what unfolds this unfolds every definition that a call goes through
unfoldable pub computed : Lent → List LevelCall → Lent
unfolding within strictly_between from_to driven driven_in band_of ready is_bcd sound proven diode_bad verdict_of at_most allowed or_refusal duty_for or_else greatest_below reading_of next rated_allowed pause_allowed pause_for fresh duty_allowed wave_allowed stored_allowed times_allowed in_range altered lent_refusal window_verdict verdict paired same_band in_one_band both_proven both_diode_bad both_unsound time_refusal kind_allowed limit_allowed grant_allowed largest line_allowed lines_allowed link_refusal argument_refusal letter digit any_fault how_many put_at latch lowest first_of settled_by sound_by limit_by lines_by with_kind faults_by grant_stored grant_by current_of announced allowed_by is_over overrun_at overrun_by ran_for over_current unsettles latched is_settled is_uae unventilated_d available least_of_three no_duty sent low_grant driven_wave held_high wave_for lowers_duty restarts overrun_under stop_under cause1 cause2 cause3 cause4 cause5 cause opens pause_over has_grant closes closings_by
computed lent calls = lent_on lent calls

pub lent_append : (lent : Lent) (first rest : List LevelCall) → lent_on lent (first ++ rest) ≡ lent_on (lent_on lent first) rest
lent_append lent [] rest = refl
lent_append lent (call ∷ calls) rest = lent_append (next lent (evaluated_of call)) calls rest

-- a controller that comes back to the same but for the times, call after call
module _ (lent : ℕ → Lent) (gap : ℕ) (event : Event Levels) (from end : ℕ)
    (again : (t : ℕ) → from ≤ t → t + gap < end → next (lent t) (evaluated_of (call (t + gap) event)) ≡ lent (t + gap)) where
  lasts : (n t : ℕ) → from ≤ t → t + n * gap < end → lent_on (lent t) (every n gap (t + gap) event) ≡ lent (t + n * gap)
  lasts zero t late early = ap lent (omega arith)
  lasts (suc n) t late early =
      ap (λ l. lent_on l (every n gap (t + gap + gap) event)) (again t late (omega arith))
      ∙ lasts n (t + gap) (omega arith) (omega arith)
      ∙ ap lent (omega arith)

  -- after some calls, so many more
  pub lasting : (start : Lent) (first : List LevelCall) (n t : ℕ) → lent_on start first ≡ lent t → from ≤ t → t + n * gap < end
      → lent_on start (first ++ every n gap (t + gap) event) ≡ lent (t + n * gap)
  lasting start first n t comes late early =
      lent_append start first (every n gap (t + gap) event)
      ∙ ap (λ l. lent_on l (every n gap (t + gap) event)) comes
      ∙ lasts n t late early
