-- An exported call, with any list of parameters beside the lent controller (`Parameters`): it copies the controller, makes the call by value, stores the controller that it is handed back, and returns the reply.
-- Assumes `Logic`, and that the call by value meets its contract.
use mathlib.Core.Path.{◌≡◌, refl, ap, subst}
use Prim.Native.Nat.{ℕ, zero, suc}
use mathlib.Core.List.{List, [], ◌∷◌, ◌++◌}
use lib.Dec.{T}
use seplogic.Ra.Ura.{Ura}
use base.Fraction.{full_share}
use mir.Syntax.{Ty, Callee as Name, named, mut, ty_ref, place, deref, field, copy, rv_opd, assign, call, seq, return, Body as Code, local, value_local, Fn}
use mir.Val.{Val, vptr, has_ty, WT}
use base.Logic.{SProp, ent, sep, emp, via, fst∗, snd∗, ex_e, id⊢}
use base.Fml.{Fml, fat, froom, fdies, flft, fobs, fauth, fbor, fobor}
use prog.Wp.{Env as Locals, Calls, Loops, WpFn, Tables, Closed}
use prog.Model.{Model}
use prog.Routine.{Routine, Env}
use types.Logic.{Logic, sem}
use contract.Monad.{fact, fact_i, fact_use, fm→mono}
use contract.Running.{Running, tables, tables_of}
use contract.Lifetimes.{Lfts, Shares, toks}
use types.Kit.{Go, Goal, Item, Step, ‵, raw, ◌⊛◌, some, later, prop, runs, lands, at_ret, Sq, ◌$◌, ◌∵◌, !, qed, move, drop, use1, use2, split, join, pick, rewrite, fsplit, fsplit3, fjoin, fjoin3, feq_i, suffices, frame, await, done}
use types.Run.{look, look_raw, init, store_raw, forget, stop, hop, fld, from, load, of_opd, and_then, assigns, land, returns, enter, alloc1, alloc0, params1, pass1, free1, free0}
use types.Part.{whole, sub, look_in}
use types.SemTy.{Body}
use sound.WpLaws.{FmC, fm_of, WpFn-mono}
use denote.RattleType.{Denots, owns, flat}
use denote.Memory.{mem, pointee, cell_at}
use denote.Laws.{Is, Ises, Are, shows}
use denote.Builtin.{RefMutOf}
use denote.Ref.{MutBor, MutRef, mut_vals, mut_Tells}
use denote.Signature.{plain, types_at}
use denote.Steps.{only, opens, closes, owned, peeks, heard, nothing}
use denote.Struct.Declared.{shape}
use denote.Struct.Struct.{layout}
use denote.Struct.Steps.{spelt}
use denote.Struct.Laws as LL
use denote.Triple.Call.{calls_at}
use denote.Triple.Clauses.{Ended, Clauses, ensured, lasts, closing}
use denote.Triple.End.{all}
use denote.Triple.Entry.{on_entry}
use denote.Triple.Spec.{Meets, triple_of}
use denote.Triple.Statement.{Contract, Triple}
use denote.Triple.Table.{entered, cited, framed}
use denote.Triple.Weaken.{weaken}
use denote.Triple.Walked.{says, Stays, has_of, stay_ref, walk_of, AllGo, Goes-ref, Walks, ends_at, walked, walk_Meets}
use denote.Exit.{yes}
use Rattle.lending.proofs.Structs.{Plain, Pairs, Held, the_row, spelled, value, the_type, the_laws, the_answer, holds_controller, holds_reply}
use Rattle.lending.proofs.Parameters as parameters
use Rattle.lending.proofs.Parameters.{Parameter, by_value_side, lent_side, Arguments, slots, arguments, passed, there_and_back, spells, all_tell, values, Blocks, lasts_of, fit, locals_of, env_of, after, operands, rooms, deaths, cells, stand_first, one_further, beyond, all_copied, all_passed, all_kept, all_go, all_forget, at_local, alloc_all, pass_all, free_all, read_all}

-- a struct of plain data: its machine value is of its type, and what it owns is had for nothing
module _ {M : Type 1} {𝓤 : Ura M} (𝓛 : Logic 𝓤) (S : Plain) (d : S.type.D) (held : Held S d) where
  open 𝓛 use {H}

  fits : T (has_ty (spelled S) (value S d)) × WT (value S d)
  fits = ((LL.lawful S.type S.laws 𝓛).typed d _ held).0

  owns_it : {Γ : List (Item 𝓤)} {G : Goal 𝓤 H} → Step (Go {0}) 𝓛 (‵ ((the_row S).own_val d (value S d ∷ [])) ∷ Γ) G Γ G
  owns_it = owned ! (the_row S) (Is (the_row S)) (LL.makes S.type S.plain 𝓛) d _ held

module _ (C R : Plain) (P : Pairs C R) (n : ℕ) (ps : List (Parameter n)) where
  -- ---- the two calls
  abbrev by_value : Ended
  by_value = record {
    signature = record { lifetimes = n; outlives = []; params = plain (λ κs. the_row C) ∷ slots (by_value_side n) ps; result = plain (λ κs. the_answer C R P) };
    kept = (yes, all yes (slots (by_value_side n) ps));
  }

  abbrev lent_call : Ended
  lent_call = record {
    signature = record { lifetimes = suc n; outlives = []; params = RefMutOf (0 ∷ []) tt (plain (λ κs. the_row C)) (λ κs. tt) ∷ slots (lent_side n) ps; result = plain (λ κs. the_row R) };
    kept = (yes, all yes (slots (lent_side n) ps));
  }

  abbrev Answer : Ty
  Answer = layout (shape (the_type C R P))

  abbrev Lent : Ty
  Lent = ty_ref (named 0) mut (pointee (the_row C).written)

  -- the locals are the reply, the reference, the parameters, the answer, the copy that is passed, and the controller that is handed back: the places of the last three
  abbrev answer : ℕ
  answer = suc (suc (after ps 0))

  abbrev copied : ℕ
  copied = suc (suc (after ps 1))

  abbrev handed : ℕ
  handed = suc (suc (after ps 2))

  -- the lent call of the call f by value, statement by statement from the last
  abbrev replying : Code
  replying = seq (assign (place 0 []) (rv_opd (copy (place answer (field 1 ∷ []))))) return

  abbrev storing : Code
  storing = seq (assign (place 1 (deref (spelled C) ∷ [])) (rv_opd (copy (place handed [])))) replying

  abbrev taking : Code
  taking = seq (assign (place handed []) (rv_opd (copy (place answer (field 0 ∷ []))))) storing

  abbrev making : Name → Code
  making f = seq (call f (copy (place copied []) ∷ operands ps 2) (place answer [])) taking

  abbrev code : Name → Fn
  code f = record {
    lifetimes = suc n;
    outlives = [];
    ty_params = [];
    givens = 0;
    params = suc (after ps 0);
    locals = local (spelled R) value_local ∷ local Lent value_local ∷ (locals_of ps ++ (local Answer value_local ∷ local (spelled C) value_local ∷ local (spelled C) value_local ∷ []));
    body = seq (assign (place copied []) (rv_opd (copy (place 1 (deref (spelled C) ∷ []))))) (making f);
  }

  abbrev stayed : Stays lent_call.signature.params lent_call.kept
  stayed = (stay_ref (0 ∷ []) tt (plain (λ _. the_row C)), parameters.stayed ps)

  module _ (Q : C.type.D → Arguments ps → R.type.D → C.type.D → Type 0) {M : Type 1} {𝓤 : Ura M} (𝓛 : Logic 𝓤) where
    -- ---- what the call by value promises, and the same of the lent controller
    open 𝓛 use {H}

    abbrev promised : Clauses 𝓤 by_value
    promised κs a = record { ghost = Unit {0}; requires = λ g. emp 𝓤; ensures = λ g r e. fact 𝓤 (Q a.0 (arguments (by_value_side n) ps κs a.1) (P.reply r) (P.controller r)) }

    abbrev of : (C.type.D → Arguments ps → R.type.D → C.type.D → Type 0) → Clauses 𝓤 lent_call
    of promise κs a = record { ghost = Unit {0}; requires = λ g. emp 𝓤; ensures = λ g r e. fact 𝓤 (promise a.0.now (arguments (lent_side n) ps κs a.1) r e.0.now) }

    abbrev kept : Clauses 𝓤 lent_call
    kept = of Q

    abbrev Callee : Contract 𝓤
    Callee = triple_of 𝓛 by_value.signature (closing 𝓛 by_value promised)

    module _ (κs : Lfts (suc n)) (qs : Shares (suc n)) (c : MutBor C.type.D) (a : Denots (types_at (slots (lent_side n) ps) κs)) where
      abbrev given : Arguments ps
      given = arguments (lent_side n) ps κs a

      abbrev Owned : Fml
      Owned = owns (types_at (slots (lent_side n) ps) κs) a (values (lent_side n) ps κs a)

      abbrev Tokens : SProp 𝓤
      Tokens = toks 𝓛 n κs.1 qs.1

      abbrev Borrow : Fml
      Borrow = Body (mem (the_row C)) c.ref_ptr.0 c.ref_ptr.1 c.ghost_name

      abbrev Promised : P.D → Type 0
      Promised r = Q c.now given (P.reply r) (P.controller r)

      abbrev Post : Val → SProp 𝓤
      Post = (walk_of 𝓛 lent_call stayed kept).post ((κs, qs, tt, (c, a), (mut_vals c, values (lent_side n) ps κs a)), tt)

      -- ---- the end: the borrow is closed at the controller that was handed back, and the parameters are still owned
      abbrev Shut : P.D → List (Item 𝓤) → List (Item 𝓤)
      Shut r Γ = ‵ (fobs c.ghost_name ((the_row C).coded.code (P.controller r))) ∷ ‵ (fbor κs.0 Borrow) ∷ ‵ (flft κs.0 qs.0) ∷ raw Tokens ∷ ‵ Owned ∷ Γ

      ends : (r : P.D) → Held R (P.reply r) → Promised r → Sq 𝓛 (Shut r []) (prop (Post (value R (P.reply r))))
      ends r held holds =
          suffices ! _ (ends_at 𝓛 lent_call stayed kept ((κs, qs, tt, (c, a), (mut_vals c, values (lent_side n) ps κs a)), tt) (value R (P.reply r)) (P.reply r) (P.controller r, lasts_of ps κs a) (tt, fit ps κs a)) $
          says ! holds $ move ! (2 ∷ 3 ∷ []) $ join ! $ frame ! $ move ! (2 ∷ []) $ use1 𝓛 (‵ (has_of κs (slots (lent_side n) ps) (all yes (slots (lent_side n) ps)) (parameters.stayed ps) a (lasts_of ps κs a) (values (lent_side n) ps κs a))) (all_kept 𝓛 ps κs a) $
          move ! (1 ∷ 2 ∷ []) $ feq_i ! (List Val) (mut_vals c) (mut_vals c) refl $ fjoin3 ! $ fjoin ! $ owns_it 𝓛 R (P.reply r) held $ move ! (1 ∷ 0 ∷ []) $ done !

      -- ---- the call by value: what it asks is the parameters with their tokens, since the controller is plain data; and what it promises
      abbrev to_call : Denots (the_row C ∷ types_at (slots (by_value_side n) ps) κs.1)
      to_call = (c.now, passed (by_value_side n) ps κs.1 given)

      abbrev at_call : Callee.Ghost
      at_call = ((κs.1, qs.1, tt, to_call, (value C c.now ∷ [], values (by_value_side n) ps κs.1 (passed (by_value_side n) ps κs.1 given))), tt)

      asks : Held C c.now → ent 𝓤 (sep 𝓤 (sem 𝓛 Owned) Tokens) (Callee.pre at_call)
      asks is =
          qed 𝓛 (‵ Owned ∷ raw Tokens ∷ []) ∵ use1 𝓛 (‵ (owns (types_at (slots (by_value_side n) ps) κs.1) to_call.1 (values (by_value_side n) ps κs.1 (passed (by_value_side n) ps κs.1 given)))) (all_passed 𝓛 ps κs a) $
          owns_it 𝓛 C c.now is $ fjoin ! $ nothing ! $ move ! (2 ∷ 1 ∷ []) $ join ! $ join ! $ done !

      promises : (r : P.D) → ent 𝓤 (ensured 𝓛 by_value promised κs.1 to_call tt r) (fact 𝓤 (Promised r))
      promises r = subst (λ (t : Arguments ps). ent 𝓤 (ensured 𝓛 by_value promised κs.1 to_call tt r) (fact 𝓤 (Q c.now t (P.reply r) (P.controller r)))) (there_and_back (by_value_side n) ps κs.1 given)
          (ex_e 𝓤 _ (λ ws. snd∗ 𝓤 (sem 𝓛 (lasts by_value κs.1 to_call ws)) _))

      -- ---- the frame: the blocks of the parameters, of the reply, the reference, the answer, the copy and the controller handed back
      module _ (K : Calls 𝓤 H) (Λ : Loops 𝓤 H) (bs : Blocks ps) (l₀ l₁ l₂ l₃ l₄ : ℕ) where
        abbrev Last : Locals 𝓤 H
        Last = (Answer, l₂) ∷ (spelled C, l₃) ∷ (spelled C, l₄) ∷ []

        abbrev E : Locals 𝓤 H
        E = (spelled R, l₀) ∷ (Lent, l₁) ∷ (env_of ps bs ++ Last)

        abbrev Room : Ty → ℕ → Item 𝓤
        Room τ l = ‵ (froom τ l zero)

        abbrev Cell : Ty → ℕ → Val → Item 𝓤
        Cell τ l v = ‵ (fat full_share τ l zero v)

        -- the cells of the parameters, then the controller handed back at 1, the copy at 3, the answer at 5, the reference at 8 and the reply at 10
        abbrev Frame : Item 𝓤 → Item 𝓤 → Item 𝓤 → Item 𝓤 → List (Item 𝓤)
        Frame the_handed the_copy the_answered the_reply =
            ‵ (cells ps bs given) ∷ the_handed ∷ ‵ (fdies (spelled C) l₄) ∷ the_copy ∷ ‵ (fdies (spelled C) l₃) ∷ the_answered ∷ ‵ (fdies Answer l₂) ∷ ‵ (deaths ps bs) ∷ Cell Lent l₁ (vptr c.ref_ptr.0 c.ref_ptr.1) ∷ ‵ (fdies Lent l₁) ∷ the_reply ∷ ‵ (fdies (spelled R) l₀) ∷ []

        -- before it, from 1 on: what is owned of the parameters, and the open borrow: the controller behind the reference at 2, and what closes it
        abbrev Open : List (Item 𝓤) → List (Item 𝓤)
        Open Γ =
            ‵ Owned ∷ ‵ (cell_at full_share (the_row C).mir (value C c.now ∷ []) c.ref_ptr.0 c.ref_ptr.1) ∷ ‵ (fobor κs.0 qs.0 Borrow) ∷ ‵ (fobs c.ghost_name ((the_row C).coded.code c.now)) ∷ ‵ (fauth c.ghost_name ((the_row C).coded.code c.now)) ∷ Γ

        abbrev the_copy : Item 𝓤
        the_copy = Cell (spelled C) l₃ (value C c.now)

        module _ (r : P.D) (v : Val) (held : Is (the_answer C R P) r (v ∷ [])) (holds : Promised r) where
          abbrev the_answered : Item 𝓤
          the_answered = Cell Answer l₂ (LL.val (the_type C R P) (the_laws C R P) r)

          abbrev the_handed : Item 𝓤
          the_handed = Cell (spelled C) l₄ (value C (P.controller r))

          -- the reply is read, and every local is freed
          returns_it : Sq 𝓛 (Shut r (Frame the_handed the_copy the_answered (Cell (spelled R) l₀ (value R (P.reply r))))) (runs K Λ E return (at_ret E Post))
          returns_it =
              returns ! (look ! 15 refl) $ forget ! 6 refl $ forget ! 8 refl $ forget ! 10 refl $ forget ! 13 refl $ forget ! 15 refl $ move ! (15 ∷ 16 ∷ 13 ∷ 14 ∷ 5 ∷ 12 ∷ 10 ∷ 11 ∷ 8 ∷ 9 ∷ 6 ∷ 7 ∷ []) $
              free1 ! $ free1 ! $ use1 𝓛 (‵ (rooms ps bs)) (all_forget 𝓛 ps bs given) $ free_all 𝓛 ps bs $ free1 ! $ free1 ! $ free1 ! $ free0 ! $ ends r (holds_reply C R P r _ held) holds

          -- before that: the controller is stored, and the reply taken out of the answer
          stores_it : Sq 𝓛 (raw Tokens ∷ Open (Frame the_handed the_copy the_answered (Room (spelled R) l₀))) (runs K Λ E storing (at_ret E Post))
          stores_it =
              assigns ! (of_opd ! (load ! (at_local 𝓛 (beyond _ 2 ps bs) (stop !)) (look ! 7 refl))) (from ! (hop ! (look ! 14 refl) (stop !))) (store_raw ! 2 refl (fits 𝓛 C (P.controller r) (holds_controller C R P r _ held))) $
              assigns ! (of_opd ! (load ! (at_local 𝓛 (beyond _ 0 ps bs) (fld ! refl (stop !))) (look_in ! 11 (sub ! 1 refl (whole !))))) (from ! (stop !)) (init ! 16 refl (fits 𝓛 R (P.reply r) (holds_reply C R P r _ held))) $
              owns_it 𝓛 C (P.controller r) (holds_controller C R P r _ held) $ move ! (3 ∷ 0 ∷ 4 ∷ 5 ∷ 6 ∷ []) $ closes ! tt (the_row C) (P.controller r) (value C (P.controller r) ∷ []) c.ref_ptr.0 c.ref_ptr.1 $ returns_it

          -- before that: the controller is taken out of the answer
          takes_it : Sq 𝓛 (raw Tokens ∷ Open (Frame (Room (spelled C) l₄) the_copy the_answered (Room (spelled R) l₀))) (runs K Λ E taking (at_ret E Post))
          takes_it =
              assigns ! (of_opd ! (load ! (at_local 𝓛 (beyond _ 0 ps bs) (fld ! refl (stop !))) (look_in ! 11 (sub ! 0 refl (whole !))))) (at_local 𝓛 (beyond _ 2 ps bs) (stop !)) (init ! 7 refl (fits 𝓛 C (P.controller r) (holds_controller C R P r _ held))) $
              stores_it

        -- before that: the call has returned v, which stands for an answer that it promises
        after_call : (v : Val) → Sq 𝓛 (raw (Callee.post at_call v) ∷ Open (Frame (Room (spelled C) l₄) the_copy (Room Answer l₂) (Room (spelled R) l₀))) (lands K Λ E (place answer []) v taking (at_ret E Post))
        after_call v =
            use1 𝓛 (later (some (λ (r : P.D). (raw Tokens ⊛ ‵ ((the_answer C R P).own_val r (v ∷ []))) ⊛ raw (ensured 𝓛 by_value promised κs.1 to_call tt r)))) (id⊢ 𝓤 _) $ await ! tt $ pick ! (λ r.
            split ! $ move ! (1 ∷ []) $ use1 𝓛 (raw (fact 𝓤 (Promised r))) (promises r) $ heard ! (Promised r) (λ holds. split ! $ move ! (1 ∷ []) $
            peeks ! (the_answer C R P) (Is (the_answer C R P)) (shows 𝓛 (the_answer C R P)) r (v ∷ []) (λ held. drop ! $
            land ! (at_local 𝓛 (beyond _ 0 ps bs) (stop !)) (init ! 11 refl ((LL.lawful (the_type C R P) (the_laws C R P) 𝓛).typed r _ held).0) $
            rewrite ! 11 (Cell Answer l₂) (ap only (LL.tells (the_type C R P) (the_laws C R P) r (v ∷ []) held)) refl $ takes_it r v held holds)))

        -- the body: the controller is copied, and the call made with the copy and the parameters
        runs_body : FmC 𝓤 H 𝓛.laws K → (f : Name) → Triple 𝓤 (K f) Callee → Held C c.now
            → Sq 𝓛 (raw Tokens ∷ Open (Frame (Room (spelled C) l₄) (Room (spelled C) l₃) (Room Answer l₂) (Room (spelled R) l₀))) (runs K Λ E (code f).body (at_ret E Post))
        runs_body fm f known is =
            assigns ! (of_opd ! (load ! (from ! (hop ! (look ! 14 refl) (stop !))) (look_raw ! 2 refl))) (at_local 𝓛 (beyond _ 1 ps bs) (stop !)) (init ! 9 refl (fits 𝓛 C c.now is)) $
            move ! (1 ∷ []) $ use1 𝓛 (‵ Owned ⊛ ‵ Owned) (all_copied 𝓛 ps κs a) $ split ! $ move ! (0 ∷ 2 ∷ []) $ use2 𝓛 (raw (Callee.pre at_call)) (asks is) $
            calls_at ! fm Callee known at_call
            (and_then ! (load ! (at_local 𝓛 (beyond _ 1 ps bs) (stop !)) (look ! 9 refl)) (read_all 𝓛 ps κs.1 given bs 6 2 refl (one_further (spelled R, l₀) ((Lent, l₁) ∷ (env_of ps bs ++ Last)) 1 ps bs (one_further (Lent, l₁) (env_of ps bs ++ Last) 0 ps bs (stand_first Last ps bs))))) after_call

      -- ---- the whole: the locals are allocated, the parameters stored, and the borrow opened
      walk : (K : Calls 𝓤 H) (Λ : Loops 𝓤 H) → FmC 𝓤 H 𝓛.laws K → (f : Name) → Triple 𝓤 (K f) Callee → Are (types_at (slots (lent_side n) ps) κs) (Ises (types_at (slots (lent_side n) ps) κs)) a (values (lent_side n) ps κs a)
          → ent 𝓤 (on_entry 𝓛 lent_call.signature κs qs (c, a) (mut_vals c, values (lent_side n) ps κs a)) (WpFn 𝓤 H K Λ (code f) (vptr c.ref_ptr.0 c.ref_ptr.1 ∷ flat (types_at (slots (lent_side n) ps) κs) (values (lent_side n) ps κs a)) Post)
      walk K Λ fm f known are =
          qed 𝓛 ((‵ (flft κs.0 qs.0) ⊛ raw Tokens) ∷ ‵ (owns (MutRef (named 0) κs.0 (the_row C) ∷ types_at (slots (lent_side n) ps) κs) (c, a) (mut_vals c, values (lent_side n) ps κs a)) ∷ []) ∵
          -- to [the borrow's value; the borrow; its token; the tokens; what is owned]
          split ! $ move ! (2 ∷ []) $ fsplit ! $ fsplit3 ! $ drop ! $ move ! (0 ∷ 1 ∷ 3 ∷ 4 ∷ 2 ∷ []) $ enter ! K Λ (code f) _ _ $
          alloc1 ! (λ l₀. alloc1 ! (λ l₁. alloc_all 𝓛 ps (local Answer value_local ∷ local (spelled C) value_local ∷ local (spelled C) value_local ∷ []) (λ bs. alloc1 ! (λ l₂. alloc1 ! (λ l₃. alloc1 ! (λ l₄. alloc0 ! $
          params1 ! $ pass1 ! (init ! 8 refl (tt, tt)) $ move ! (6 ∷ []) $ pass_all 𝓛 ps κs a bs ((Answer, l₂) ∷ (spelled C, l₃) ∷ (spelled C, l₄) ∷ []) are $
          move ! (12 ∷ 13 ∷ 14 ∷ 15 ∷ 16 ∷ []) $ opens ! tt (the_row C) {h = c.now} c.ref_ptr.0 c.ref_ptr.1 (λ vs.
          spelt ! (the_row C) (Is (the_row C)) (shows 𝓛 (the_row C)) (LL.vals C.type C.laws) (LL.tells C.type C.laws) full_share c.now vs c.ref_ptr.0 c.ref_ptr.1 $
          move ! (1 ∷ []) $ peeks ! (the_row C) (Is (the_row C)) (shows 𝓛 (the_row C)) c.now (value C c.now ∷ []) (λ is. drop ! $ move ! (4 ∷ 5 ∷ []) $ runs_body K Λ bs l₀ l₁ l₂ l₃ l₄ fm f known is))))))))

    module _ where
      goes : AllGo 𝓛 (suc n) lent_call.signature.params lent_call.kept stayed
      goes = (Goes-ref 𝓛 (suc n) 0 tt (plain (λ _. the_row C)), all_go 𝓛 ps)

      walks : (K : Calls 𝓤 H) (Λ : Loops 𝓤 H) → FmC 𝓤 H 𝓛.laws K → (f : Name) → Triple 𝓤 (K f) Callee → Walks 𝓛 lent_call stayed (WpFn 𝓤 H K Λ (code f)) kept
      walks K Λ fm f known =
          walked 𝓛 lent_call stayed kept (WpFn 𝓤 H K Λ (code f)) (λ κs. (mut_vals, spells (lent_side n) ps κs)) (λ κs. (mut_Tells (named 0) κs.0 (the_row C), all_tell (lent_side n) ps κs))
          (λ κs qs bounds a g are. via 𝓤 _ (fst∗ 𝓤 _ (emp 𝓤)) (walk κs qs a.0 a.1 K Λ fm f known are.1))

      -- a lent call of the call f by value promises of the lent controller what f promises of the controller that it takes and hands back
      pub meets : (𝓣 : Tables 𝓤 H) (f : Name) → Triple 𝓤 (𝓣.C f) Callee → Meets 𝓛 lent_call.signature (WpFn 𝓤 H 𝓣.C 𝓣.Λ (code f)) (closing 𝓛 lent_call kept)
      meets 𝓣 f known = walk_Meets 𝓛 lent_call stayed goes kept (WpFn 𝓤 H 𝓣.C 𝓣.Λ (code f)) (WpFn-mono 𝓤 H 𝓛.laws 𝓣 (code f)) (walks 𝓣.C 𝓣.Λ (fm_of 𝓤 H 𝓛.laws 𝓣) f known)

    -- the same of an exported call, whose code is entered in the tables of its own crate, from what the crate of f has proved of f
    module _ (𝓜 : Model 𝓤 H) (𝓡 : Running 𝓤 H 𝓜) (γ : Env) (f : Name) (routine : Routine) (known : γ f ≡ routine) where
      pub lent_call_meets : (k : Name) → Closed 𝓤 H (tables 𝓤 H 𝓜 𝓡 γ).C (tables 𝓤 H 𝓜 𝓡 γ).Λ k (code f) → Triple 𝓤 (𝓡.run routine) Callee
          → Triple 𝓤 ((tables 𝓤 H 𝓜 𝓡 γ).C k) (triple_of 𝓛 lent_call.signature (closing 𝓛 lent_call kept))
      unfolding tables_of
      lent_call_meets k closed met =
          entered 𝓤 H _ (tables 𝓤 H 𝓜 𝓡 γ).C (tables 𝓤 H 𝓜 𝓡 γ).Λ k (code f) closed (meets (tables_of 𝓤 H 𝓜 (tables 𝓤 H 𝓜 𝓡 γ)) f (cited 𝓤 H Callee 𝓜 𝓡 γ f routine known met))

      -- and any contract that promises less
      pub lent_call_meets_less : (less : C.type.D → Arguments ps → R.type.D → C.type.D → Type 0)
          → ((d : C.type.D) (a : Arguments ps) (r : R.type.D) (d' : C.type.D) → Q d a r d' → less d a r d')
          → (k : Name) → Closed 𝓤 H (tables 𝓤 H 𝓜 𝓡 γ).C (tables 𝓤 H 𝓜 𝓡 γ).Λ k (code f) → Triple 𝓤 (𝓡.run routine) Callee
          → Triple 𝓤 ((tables 𝓤 H 𝓜 𝓡 γ).C k) (triple_of 𝓛 lent_call.signature (closing 𝓛 lent_call (of less)))
      lent_call_meets_less less follows k closed met =
          weaken 𝓛 lent_call kept (λ κs a g r e. (of less κs a).ensures g r e) (λ κs a g r ws. fact_use 𝓤 _ (id⊢ 𝓤 _) (λ q. fact_i 𝓤 _ _ (follows _ _ _ _ q))) ((tables 𝓤 H 𝓜 𝓡 γ).C k)
          (λ vs. fm→mono 𝓤 _ (framed 𝓤 H 𝓜 (tables 𝓤 H 𝓜 𝓡 γ) k vs)) (lent_call_meets k closed met)
