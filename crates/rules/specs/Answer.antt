-- What a call answers to any lent controller: the controller after it, and the reply.
use Rattle.std.specs.Prelude.{false, cond, List, [], ◌∷◌, ℕ, eqb}
use Rattle.rules.specs.Accepted.{accept, closes_at}
use Rattle.rules.specs.Altered.{Lent, lent_refusal}
use Rattle.rules.specs.Begin.{Begin, begin_refusal, fresh}
use Rattle.rules.specs.Calls.{Call, EvaluatedCall, evaluated_call, in_turn}
use Rattle.rules.specs.Lines.{no_currents}
use Rattle.rules.specs.Reply.{Reply, shown}
use Rattle.rules.specs.Step5Closing.{closings_by}

-- the controller of an accepted begin
abbrev pub begun : Begin → Lent
begun begin = record { state = fresh begin; closings = 0 }

-- an accepted call
abbrev pub accept_lent : Lent → EvaluatedCall → Lent
accept_lent lent call =
    record { state = accept lent.state call; closings = closings_by (closes_at lent.state call) lent.closings }

-- the controller after the call: unchanged if the call is refused
unfoldable pub next : Lent → EvaluatedCall → Lent
next lent call = cond (eqb (lent_refusal lent call) 0) (accept_lent lent call) lent

-- the reply; a refusal number stands beside the rest as the lent controller has it
abbrev pub reply_to : Lent → EvaluatedCall → Reply
reply_to lent call = shown (lent_refusal lent call) (next lent call)

-- what a call hands back, whole
pub record Answer : Type 0 where
  pub lent : Lent
  pub reply : Reply

-- lent any controller: what the call hands back
abbrev pub answer_to : Lent → EvaluatedCall → Answer
answer_to lent call = record { lent = next lent call; reply = reply_to lent call }

-- a refusal that comes alone: zeros beside the number
abbrev pub alone : ℕ → Reply
alone number = record { refusal = number; letter = 0; digit = 0; wave = 0; closed = false; fault = 0; closings = 0; lines = no_currents }

-- begin, lent any controller: accepted, the fresh one and what is shown of it; refused, the lent one, and the number alone
unfoldable pub answer_to_begin : Lent → Begin → Answer
answer_to_begin lent begin =
    cond (eqb (begin_refusal begin) 0)
    (record { lent = begun begin; reply = shown 0 (begun begin) })
    (record { lent = lent; reply = alone (begin_refusal begin) })

-- one controller, lent from call to call
abbrev pub lent_after : Lent → List Call → Lent
lent_after lent calls = in_turn next lent calls

-- the replies to calls, in turn
unfoldable pub replies_to : Lent → List Call → List Reply
replies_to lent [] = []
replies_to lent (call ∷ calls) = reply_to lent (evaluated_call call) ∷ replies_to (next lent (evaluated_call call)) calls
