-- Two replies compared, field by field.
use mathlib.Core.Path.{◌≡◌, refl, sym}
use mathlib.Core.Bool.{Bool, true, false, ◌&&◌, not}
use lib.Dec.{eqb}
use borrow.Author.Tests.{eqb-true}
use Rattle.units.proofs.Booleans.{both_ways, and_parts}
use Rattle.rules.specs.Lines.{Lines}
use Rattle.rules.specs.Reply.{Reply}

abbrev same_bool : Bool → Bool → Bool
same_bool true b = b
same_bool false b = not b

abbrev same_lines : Lines → Lines → Bool
same_lines a b = eqb a.line1 b.line1 && (eqb a.line2 b.line2 && eqb a.line3 b.line3)

abbrev pub same_reply : Reply → Reply → Bool
same_reply a b =
    eqb a.refusal b.refusal
    && (eqb a.letter b.letter
    && (eqb a.digit b.digit
    && (eqb a.wave b.wave
    && (same_bool a.closed b.closed
    && (eqb a.fault b.fault && (eqb a.closings b.closings && same_lines a.lines b.lines))))))

same_bool_lem : (a b : Bool) → same_bool a b ≡ true → a ≡ b
same_bool_lem true true e = refl
same_bool_lem true false e = both_ways (sym e)
same_bool_lem false true e = both_ways (sym e)
same_bool_lem false false e = refl

same_lines_lem : (a b : Lines) → same_lines a b ≡ true → a ≡ b
same_lines_lem a b e =
    let one = and_parts (eqb a.line1 b.line1) _ e in
    let two = and_parts (eqb a.line2 b.line2) (eqb a.line3 b.line3) one.1 in
    λ i. record {
      line1 = eqb-true a.line1 b.line1 one.0 i;
      line2 = eqb-true a.line2 b.line2 two.0 i;
      line3 = eqb-true a.line3 b.line3 two.1 i;
    }

pub same_reply_lem : (a b : Reply) → same_reply a b ≡ true → a ≡ b
same_reply_lem a b e =
    let one = and_parts (eqb a.refusal b.refusal) _ e in
    let two = and_parts (eqb a.letter b.letter) _ one.1 in
    let three = and_parts (eqb a.digit b.digit) _ two.1 in
    let four = and_parts (eqb a.wave b.wave) _ three.1 in
    let five = and_parts (same_bool a.closed b.closed) _ four.1 in
    let six = and_parts (eqb a.fault b.fault) _ five.1 in
    let seven = and_parts (eqb a.closings b.closings) (same_lines a.lines b.lines) six.1 in
    λ i. record {
      refusal = eqb-true a.refusal b.refusal one.0 i;
      letter = eqb-true a.letter b.letter two.0 i;
      digit = eqb-true a.digit b.digit three.0 i;
      wave = eqb-true a.wave b.wave four.0 i;
      closed = same_bool_lem a.closed b.closed five.0 i;
      fault = eqb-true a.fault b.fault six.0 i;
      closings = eqb-true a.closings b.closings seven.0 i;
      lines = same_lines_lem a.lines b.lines seven.1 i;
    }
