-- A controller with each of its fields computed, and handed on: a row goes from call to call by values, and computes none of them twice.
use mathlib.Core.Path.{◌≡◌, refl}
use mathlib.Core.Bool.{Bool, true, false}
use Prim.Native.Nat.{ℕ, zero, suc}
use Rattle.rules.specs.Altered.{Lent}
use Rattle.rules.specs.Faults.{Faults}
use Rattle.rules.specs.Lines.{Lines}
use Rattle.rules.specs.State.{Moment, Previous, Settings}

module _ {A : Type 0} where
  abbrev number : ℕ → (ℕ → A) → A
  number zero then = then zero
  number (suc n) then = then (suc n)

  abbrev bool : Bool → (Bool → A) → A
  bool true then = then true
  bool false then = then false

  abbrev moment : Moment → (Moment → A) → A
  moment m then = bool m.set (λ set. number m.time (λ time. then (record { set = set; time = time })))

  abbrev settings : Settings → (Settings → A) → A
  settings s then =
      number s.rated
      (λ rated. number s.pause (λ pause. bool s.ventilation (λ ventilation. bool s.digital (λ digital. then (record { rated = rated; pause = pause; ventilation = ventilation; digital = digital })))))

  abbrev faults : Faults → (Faults → A) → A
  faults f then =
      number f.diode
      (λ diode. number f.overcurrent
      (λ overcurrent. number f.residual
      (λ residual. number f.welded
      (λ welded. number f.temperature
      (λ temperature. then (record { diode = diode; overcurrent = overcurrent; residual = residual; welded = welded; temperature = temperature }))))))

  abbrev previous : Previous → (Previous → A) → A
  previous p then =
      bool p.kept
      (λ kept. number p.verdict.band
      (λ band. bool p.verdict.sound
      (λ sound. bool p.verdict.proven
      (λ proven. bool p.verdict.diodebad
      (λ diodebad. then (record { kept = kept; verdict = record { band = band; sound = sound; proven = proven; diodebad = diodebad } }))))))

  abbrev lines : Lines → (Lines → A) → A
  lines l then = number l.line1 (λ one. number l.line2 (λ two. number l.line3 (λ three. then (record { line1 = one; line2 = two; line3 = three }))))

  abbrev pub computing : Lent → (Lent → A) → A
  computing lent then =
      let s = lent.state in
      settings s.settings
      (λ settings. number s.limit
      (λ limit. number s.grant
      (λ grant. number s.wave
      (λ wave. bool s.closed
      (λ closed. number s.settled
      (λ settled. faults s.faults
      (λ faults. number s.last
      (λ last. moment s.sound
      (λ sound. moment s.opening
      (λ opening. moment s.overrun
      (λ overrun. moment s.stop
      (λ stop. previous s.previous
      (λ previous. lines s.lines
      (λ lines. number lent.closings
      (λ closings. then (record {
        state = record {
          settings = settings;
          limit = limit;
          grant = grant;
          wave = wave;
          closed = closed;
          settled = settled;
          faults = faults;
          last = last;
          sound = sound;
          opening = opening;
          overrun = overrun;
          stop = stop;
          previous = previous;
          lines = lines;
        };
        closings = closings;
      }))))))))))))))))

  number_is : (n : ℕ) (then : ℕ → A) → number n then ≡ then n
  number_is zero then = refl
  number_is (suc n) then = refl

  bool_is : (b : Bool) (then : Bool → A) → bool b then ≡ then b
  bool_is true then = refl
  bool_is false then = refl

  pub computing_is : (lent : Lent) (then : Lent → A) → computing lent then ≡ then lent
  computing_is lent then = simp (number_is, bool_is)
