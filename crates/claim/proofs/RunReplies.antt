-- What a run lends and answers is what the definitions do.
use mathlib.Core.Path.{◌≡◌, refl, ◌∙◌, ap}
use mathlib.Core.List.{List, [], ◌∷◌, map}
use Prim.Native.Nat.{ℕ, zero, suc, ◌<◌}
use native.Mathlib.Nat.{not-suc-le-zero, le_of_suc-le-suc}
use lib.ListN.{length, get_or, take}
use Rattle.rules.specs.Calls.{Call, evaluated_call, in_turn}
use Rattle.rules.specs.Answer.{reply_to, lent_after, replies_to}
use Rattle.lists.specs.Traces.{no_call}
use Rattle.parts.specs.Views.{as_reply}
use Rattle.parts.specs.declared.replies.Reply.{Reply}
use Rattle.controller.specs.View.{view}
use Rattle.controller.specs.declared.Controller.{Controller}
use Rattle.claim.specs.Run.{Lends}

pub each_answered : (c : Controller) (calls : List Call) (replies : List Reply) (final : Controller)
    → Lends c calls replies final → length replies ≡ length calls
each_answered c [] [] final lends = refl
each_answered c [] (reply ∷ replies) final lends = absurd lends
each_answered c (call ∷ calls) [] final lends = absurd lends
each_answered c (call ∷ calls) (reply ∷ replies) final (after, answers, rest) = ap suc (each_answered after calls replies final rest)

pub final_is : (c : Controller) (calls : List Call) (replies : List Reply) (final : Controller)
    → Lends c calls replies final → view final ≡ lent_after (view c) calls
unfolding in_turn
final_is c [] [] final lends = ap view lends
final_is c [] (reply ∷ replies) final lends = absurd lends
final_is c (call ∷ calls) [] final lends = absurd lends
final_is c (call ∷ calls) (reply ∷ replies) final (after, answers, rest) =
    final_is after calls replies final rest ∙ ap (λ lent. lent_after lent calls) (ap (λ a. a.lent) answers)

pub reply_is : (c : Controller) (calls : List Call) (replies : List Reply) (final : Controller) → Lends c calls replies final
    → (none : Reply) (k : ℕ) → k < length calls
    → as_reply (get_or replies k none) ≡ reply_to (lent_after (view c) (take k calls)) (evaluated_call (get_or calls k no_call))
unfolding in_turn
reply_is c [] replies final lends none k below = absurd (not-suc-le-zero below)
reply_is c (call ∷ calls) [] final lends none k below = absurd lends
reply_is c (call ∷ calls) (reply ∷ replies) final (after, answers, rest) none zero below = ap (λ a. a.reply) answers
reply_is c (call ∷ calls) (reply ∷ replies) final (after, answers, rest) none (suc k) below =
    reply_is after calls replies final rest none k (le_of_suc-le-suc below)
    ∙ ap (λ lent. reply_to (lent_after lent (take k calls)) (evaluated_call (get_or calls k no_call))) (ap (λ a. a.lent) answers)

-- all replies of a run together
pub replies_are : (c : Controller) (calls : List Call) (replies : List Reply) (final : Controller)
    → Lends c calls replies final → map as_reply replies ≡ replies_to (view c) calls
unfolding replies_to
replies_are c [] [] final lends = refl
replies_are c [] (reply ∷ replies) final lends = absurd lends
replies_are c (call ∷ calls) [] final lends = absurd lends
replies_are c (call ∷ calls) (reply ∷ replies) final (after, answers, rest) =
    ap (λ l. as_reply reply ∷ l) (replies_are after calls replies final rest)
    ∙ ap (λ a. a.reply ∷ replies_to a.lent calls) answers
