-- In a list to a plain post the link calls change nothing (document 02, e: plain posts behave as before). Proved in proofs/WithoutLinks.antt.
use Rattle.std.specs.Prelude.{◌≡◌, Bool, true, false, cond, List, [], ◌∷◌}
use Rattle.rules.specs.Altered.{Lent}
use Rattle.rules.specs.Begin.{Begin}
use Rattle.rules.specs.Calls.{Event, Call, sample, limit, measure, link, fault, clear, tick, evaluated_call}
use Rattle.rules.specs.Answer.{begun, next, reply_to, lent_after, replies_to}
use Rattle.rules.specs.Reply.{Reply}

-- a link call
abbrev pub is_link : {Window : Type 0} → Event Window → Bool
is_link (sample window) = false
is_link (limit current) = false
is_link (measure lines) = false
is_link (link granted) = true
is_link (fault kind) = false
is_link clear = false
is_link tick = false

-- a list without its link calls
unfoldable pub without_links : List Call → List Call
without_links [] = []
without_links (call ∷ calls) = cond (is_link call.event) (without_links calls) (call ∷ without_links calls)

-- the replies to the other calls of a list
unfoldable pub replies_to_others : Lent → List Call → List Reply
replies_to_others lent [] = []
replies_to_others lent (call ∷ calls) =
    cond (is_link call.event)
    (replies_to_others (next lent (evaluated_call call)) calls)
    (reply_to lent (evaluated_call call) ∷ replies_to_others (next lent (evaluated_call call)) calls)

-- in a plain post the link calls of a list change nothing: the controller after it, and the reply to every other call, are those of the list without them
pub record LinksChangeNothing (begin : Begin) (calls : List Call) : Type 0 where
  pub controller : lent_after (begun begin) calls ≡ lent_after (begun begin) (without_links calls)
  pub replies : replies_to_others (begun begin) calls ≡ replies_to (begun begin) (without_links calls)
