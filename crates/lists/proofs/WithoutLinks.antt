-- In a list to a plain post the link calls change nothing.
use mathlib.Core.Path.{◌≡◌, refl, ◌∙◌, ap}
use mathlib.Core.Bool.{Bool, true, false, cond}
use mathlib.Core.List.{List, [], ◌∷◌}
use Prim.Native.Nat.{ℕ}
use lib.Dec.{eqb}
use lib.IntN.{ℤ}
use Rattle.units.proofs.Booleans.{clash}
use Rattle.rules.specs.Altered.{Lent, altered, lent_refusal}
use Rattle.rules.specs.Begin.{Begin, fresh}
use Rattle.rules.specs.Calls.{Event, Call, sample, limit, measure, link, fault, clear, tick, evaluated, evaluated_call, in_turn}
use Rattle.rules.specs.Answer.{begun, next, reply_to, lent_after, replies_to}
use Rattle.rules.specs.Refusals.{or_else, time_refusal, link_refusal, argument_refusal}
use Rattle.laws.proofs.NextLent.{next_by}
use Rattle.lists.specs.WithoutLinks.{is_link, without_links, replies_to_others, LinksChangeNothing}

-- a link call to a plain post is refused: by its time, by 1 or by 12
refused_else : (number other : ℕ) → eqb other 0 ≡ false → eqb (or_else number other) 0 ≡ false
refused_else number other out = go (eqb number 0) refl
  where
    go : (b : Bool) → eqb number 0 ≡ b → eqb (cond b other number) 0 ≡ false
    go true p = out
    go false p = p

link_out : (lent : Lent) (time : ℕ) (event : Event (List ℤ)) → lent.state.settings.digital ≡ false → is_link event ≡ true
    → eqb (lent_refusal lent (record { time = time; event = evaluated event })) 0 ≡ false
unfolding lent_refusal argument_refusal link_refusal evaluated
link_out lent time (link granted) plain is =
    refused_else (time_refusal lent.state.last time) _ (refused_else (cond (altered lent) 1 0) _ (rw plain))
link_out lent time (sample window) plain is = clash is refl
link_out lent time (limit current) plain is = clash is refl
link_out lent time (measure lines) plain is = clash is refl
link_out lent time (fault kind) plain is = clash is refl
link_out lent time clear plain is = clash is refl
link_out lent time tick plain is = clash is refl

-- and no call changes the mark
module _ (lent : Lent) (call : Call) (plain : lent.state.settings.digital ≡ false) where
  same_after : is_link call.event ≡ true → next lent (evaluated_call call) ≡ lent
  same_after is = next_by lent (evaluated_call call) false (link_out lent call.time call.event plain is)

  still_plain : (next lent (evaluated_call call)).state.settings.digital ≡ false
  still_plain = go (eqb (lent_refusal lent (evaluated_call call)) 0) refl
    where
      go : (a : Bool) → eqb (lent_refusal lent (evaluated_call call)) 0 ≡ a → (next lent (evaluated_call call)).state.settings.digital ≡ false
      go true p = ap (λ l. l.state.settings.digital) (next_by lent (evaluated_call call) true p) ∙ plain
      go false p = ap (λ l. l.state.settings.digital) (next_by lent (evaluated_call call) false p) ∙ plain

same_controller : (lent : Lent) (calls : List Call) → lent.state.settings.digital ≡ false → lent_after lent calls ≡ lent_after lent (without_links calls)
unfolding in_turn without_links
same_controller lent [] plain = refl
same_controller lent (call ∷ calls) plain = go (is_link call.event) refl (λ l. same_controller l calls)
  where
    go : (b : Bool) → is_link call.event ≡ b
        → ((l : Lent) → l.state.settings.digital ≡ false → lent_after l calls ≡ lent_after l (without_links calls))
        → lent_after (next lent (evaluated_call call)) calls ≡ lent_after lent (cond b (without_links calls) (call ∷ without_links calls))
    go true is rest = ap (λ l. lent_after l calls) (same_after lent call plain is) ∙ rest lent plain
    go false is rest = rest (next lent (evaluated_call call)) (still_plain lent call plain)

same_replies : (lent : Lent) (calls : List Call) → lent.state.settings.digital ≡ false → replies_to_others lent calls ≡ replies_to lent (without_links calls)
unfolding replies_to replies_to_others without_links
same_replies lent [] plain = refl
same_replies lent (call ∷ calls) plain = go (is_link call.event) refl (λ l. same_replies l calls)
  where
    after : Lent
    after = next lent (evaluated_call call)

    go : (b : Bool) → is_link call.event ≡ b
        → ((l : Lent) → l.state.settings.digital ≡ false → replies_to_others l calls ≡ replies_to l (without_links calls))
        → cond b (replies_to_others after calls) (reply_to lent (evaluated_call call) ∷ replies_to_others after calls)
        ≡ replies_to lent (cond b (without_links calls) (call ∷ without_links calls))
    go true is rest = ap (λ l. replies_to_others l calls) (same_after lent call plain is) ∙ rest lent plain
    go false is rest = ap (λ replies. reply_to lent (evaluated_call call) ∷ replies) (rest after (still_plain lent call plain))

pub links_change_nothing : (begin : Begin) (calls : List Call) → begin.digital ≡ false → LinksChangeNothing begin calls
unfolding fresh
links_change_nothing begin calls plain =
    record { controller = same_controller (begun begin) calls plain; replies = same_replies (begun begin) calls plain }
