-- The structs that cross to the host, as the lemma of crate lending takes them: the controller, the reply, and the answer of a call by value.
use Rattle.lending.proofs.Structs.{Plain, Pairs}
use Rattle.controller.specs.contracts.Controller as controller
use Rattle.controller.proofs.Controller.TheLaws as controller-laws
use Rattle.calls.specs.contracts.Answer as answer
use Rattle.parts.specs.contracts.replies.Reply as reply
use Rattle.parts.proofs.replies.Reply.TheLaws as reply-laws

abbrev pub lent : Plain
lent = record { type = controller.the_type; laws = controller-laws.the_laws; lowers = controller-laws.lowers; plain = controller-laws.the_plain }

abbrev pub replied : Plain
replied = record { type = reply.the_type; laws = reply-laws.the_laws; lowers = reply-laws.lowers; plain = reply-laws.the_plain }

abbrev pub answers : Pairs lent replied
answers = record { name = (answer.the_type).name; D = (answer.the_type).D; controller = λ a. a.controller; reply = λ a. a.reply; one = (answer.the_type).to_one; cover = (answer.the_type).cover; propositions = (answer.the_type).propositions }
