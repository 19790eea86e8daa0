-- What holds of every exported call, and of every run of them: it is a run of the calls by value, with the same replies and the same final controller.
use mathlib.Core.Path.{◌≡◌, refl, subst}
use mathlib.Core.List.{List, [], ◌∷◌}
use denote.Ref.{MutBor, at_last}
use Rattle.rules.specs.Begin.{Begin, begin_refusal}
use Rattle.rules.specs.Calls.{Call}
use Rattle.parts.specs.declared.replies.Reply.{Reply}
use Rattle.controller.specs.declared.Controller.{Controller}
use Rattle.calls.specs.Answers.{Answers, Begins}
use Rattle.claim.specs.EachCall.{EachCall, EachBegin}
use Rattle.claim.specs.EveryRun.{EveryRun}
use Rattle.claim.specs.Lent.{AnswersLent, BeginsLent}
use Rattle.claim.specs.HostRun.{HostLends, HostRun, HasHostRun}
use Rattle.claim.specs.Run.{Lends}
use Rattle.claim.proofs.EachCall.{each_call, each_begin}
use Rattle.claim.proofs.EveryRun.{every_run}
use Rattle.claim.proofs.Exists.{has_run}

by_value : (before : Controller) (calls : List Call) (replies : List Reply) (final : Controller) → HostLends before calls replies final → Lends before calls replies final
by_value before [] [] final same = same
by_value before [] (reply ∷ replies) final none = absurd none
by_value before (call ∷ calls) [] final none = absurd none
by_value before (call ∷ calls) (reply ∷ replies) final (entry, exit, found, answers, rest) =
    (exit.now, subst (λ c. Answers call c reply exit.now) found answers, by_value exit.now calls replies final rest)

pub every_host_run : (begin : Begin) (calls : List Call) (begun : Reply) (replies : List Reply) (final : Controller)
    → HostRun begin calls begun replies final → EveryRun begin calls begun replies final
every_host_run begin calls begun replies final host =
    every_run begin calls begun replies final (record {
      lent = host.entry.now;
      fresh = host.exit.now;
      begins = host.begins;
      accepted = host.accepted;
      lends = by_value host.exit.now calls replies final host.lends;
    })

-- and every accepted begin and list has such a run, with any controller lent to begin
lent_on_lem : (c : MutBor Controller) (before : Controller) (calls : List Call) (replies : List Reply) (final : Controller) → Lends before calls replies final → HostLends before calls replies final
lent_on_lem c before [] [] final same = same
lent_on_lem c before [] (reply ∷ replies) final none = absurd none
lent_on_lem c before (call ∷ calls) [] final none = absurd none
lent_on_lem c before (call ∷ calls) (reply ∷ replies) final (after, answers, rest) =
    (at_last c before, at_last c after, refl, answers, lent_on_lem c after calls replies final rest)

pub has_host_run : (lent : MutBor Controller) (begin : Begin) (calls : List Call) → begin_refusal begin ≡ 0 → HasHostRun lent begin calls
has_host_run lent begin calls accepted =
    let (begun, replies, final, run, same) = has_run lent.now begin calls accepted in (
      begun,
      replies,
      final,
      record {
        entry = lent;
        exit = at_last lent run.fresh;
        begins = subst (λ c. Begins begin c begun run.fresh) same run.begins;
        accepted = run.accepted;
        lends = lent_on_lem lent run.fresh calls replies final run.lends;
      },
      refl,
    )

-- demand 1 of one exported call, whatever the host's controller holds
pub each_host_call : (call : Call) (entry : MutBor Controller) (reply : Reply) (exit : MutBor Controller) → AnswersLent call entry reply exit
    → EachCall call entry.now reply exit.now
each_host_call call entry reply exit = each_call call entry.now reply exit.now

pub each_host_begin : (begin : Begin) (entry : MutBor Controller) (reply : Reply) (exit : MutBor Controller) → BeginsLent begin entry reply exit
    → EachBegin begin entry.now reply exit.now
each_host_begin begin entry reply exit = each_begin begin entry.now reply exit.now
