-- The calls of a list (document 01, "The calls"; the link call: document 02, e): any numbers, any window.
use Rattle.std.specs.Prelude.{Bool, true, false, List, [], ◌∷◌, ℕ, ℤ}
use Rattle.window.specs.Evaluation.{Evaluation, evaluate}
use Rattle.rules.specs.Lines.{Lines}

-- kind and arguments of a call; a sample's window is its readings or, once evaluated, its levels or refusal
pub data Event (Window : Type 0) : Type 0 where
  sample : Window → Event Window
  limit : ℕ → Event Window
  measure : Lines → Event Window
  link : ℕ → Event Window
  fault : ℕ → Event Window
  clear : Event Window
  tick : Event Window

-- a call of a list: its time, its kind and its arguments
pub record Call : Type 0 where
  pub time : ℕ
  pub event : Event (List ℤ)

-- a call whose window is evaluated
pub record EvaluatedCall : Type 0 where
  pub time : ℕ
  pub event : Event Evaluation

-- the window evaluated to its levels, or to its refusal; the other calls as they are
unfoldable pub evaluated : Event (List ℤ) → Event Evaluation
evaluated (sample window) = sample (evaluate window)
evaluated (limit current) = limit current
evaluated (measure lines) = measure lines
evaluated (link granted) = link granted
evaluated (fault kind) = fault kind
evaluated clear = clear
evaluated tick = tick

-- a call of a list, its window evaluated
abbrev pub evaluated_call : Call → EvaluatedCall
evaluated_call call = record { time = call.time; event = evaluated call.event }

-- the calls of a list in turn, each from what the one before it left
unfoldable pub in_turn : {S : Type 0} → (S → EvaluatedCall → S) → S → List Call → S
in_turn one s [] = s
in_turn one s (call ∷ calls) = in_turn one (one s (evaluated_call call)) calls

-- a sample call
abbrev pub is_sample : Event Evaluation → Bool
is_sample (sample window) = true
is_sample (limit current) = false
is_sample (measure lines) = false
is_sample (link granted) = false
is_sample (fault kind) = false
is_sample clear = false
is_sample tick = false

-- a measure
abbrev pub is_measure : {Window : Type 0} → Event Window → Bool
is_measure (sample window) = false
is_measure (limit current) = false
is_measure (measure lines) = true
is_measure (link granted) = false
is_measure (fault kind) = false
is_measure clear = false
is_measure tick = false

-- a fault call
abbrev pub is_fault : Event Evaluation → Bool
is_fault (sample window) = false
is_fault (limit current) = false
is_fault (measure lines) = false
is_fault (link granted) = false
is_fault (fault kind) = true
is_fault clear = false
is_fault tick = false
