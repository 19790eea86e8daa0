-- The parameters beside the lent controller: any list of them, handed on as they came.
-- A parameter is of a type that can be had twice, has one machine value, and is seen at exit as it was passed: a number, a Boolean, a struct of plain data, a shared slice.
-- The call by value has n lifetimes, and the lent call one more before them, the controller's. So a type may be spelled otherwise in the two, as a slice is.
-- A list's cells are one entry of a context, whatever the list: it is allocated, filled, read and freed by the rules below, each by induction.
-- The rules assume `Logic`.
use mathlib.Core.Path.{◌≡◌, refl, sym, subst}
use Prim.Native.Nat.{ℕ, zero, suc}
use mathlib.Core.List.{List, [], ◌∷◌, ◌++◌, map}
use lib.ListN.{get_or}
use seplogic.Ra.Ura.{Ura}
use base.Fraction.{full_share}
use mir.Syntax.{Ty, Width, named, imm, ty_int, ty_bool, ty_ref, ty_enum, ttnil, Written, wrote, Step as PStep, place, Opd as Operand, copy, Local, local, value_local}
use mir.Val.{Val, vint, vbool, of_z}
use base.Logic.{ent, sep, emp, id⊢, via, emp∗, mono∗, mono_r}
use base.Stored.{Coded, coded_list}
use base.Fml.{Fml, Lft, ftrue, fsep, fat, froom, fdies}
use prog.Wp.{Env, Spot, walk}
use types.Logic.{Logic, sem}
use contract.Lifetimes.{Lfts, Within, lft_at}
use types.Kit.{Item, ‵, ◌⊛◌, ⋆, nth, del, pull, unpull, push, pop, Goal, allocs, passes, frees, Sq, Step, step, Go, !, ◌$◌, ◌∵◌, qed, move, use1, fsplit, fjoin, split, drop, frame, done}
use types.Run.{Walks, Finds, Opds, look, init, stop, load, and_then, no_more, alloc1, pass1, pass0, free1}
use denote.RattleType.{RattleType, RowLaws, Denots, Valss, owns, flat}
use denote.Exit.{unchanged, yes}
use denote.Laws.{Typed, Is, Ises, Are, Tells, Spells, valss, Tellss, Lawful, Copy, shows}
use denote.Shadow.{shadow}
use denote.Signature.{Slot, plain, types_at}
use denote.Triple.End.{all, Fins}
use denote.Triple.Walked.{Stays, stay_none, has_of, fits_of, AllGo, Goes-none}
use denote.Plain.{UInt, uint_Tells, uint_Lawful, uint_copy, Boolean, bool_Tells, bool_Lawful, bool-copy}
use denote.Signed.{SInt, sint_Tells, sint_Lawful, sint_copy}
use denote.Steps.{only, nothing, peeks, owned}
use denote.Struct.Laws as LL
use denote.Memory.{pointee}
use denote.Ref.{Bor, shr_coded}
use denote.Slice.{ShrSlice, slice_ty, shr_slice_vals, shr_slice_Tells, shr_slice_Lawful, shr_slice_copy}
use Rattle.lending.proofs.Structs.{Plain, the_row, spelled, value as struct_value}

-- a type as a signature spells it: its one MIR type, and what MIR writes for it
pub record Spelling : Type 0 where
  pub ty : Ty
  pub written : Written

pub record Parameter (n : ℕ) : Type 2 where
  pub D : Type 0
  pub coded : Coded D
  pub reaches : List (Written × List Ty)
  pub lives : Lfts n → Lft
  pub shr_at : Lfts n → D → ℕ → ℕ → Lft → Fml
  pub own : Lfts n → D → List Val → Fml
  -- in the call by value, and in the lent call
  pub by_value : Spelling
  pub lent : Spelling
  -- the machine value
  pub value : D → Val
  pub tells : (κs : Lfts n) (x : D) (vs : List Val) → shadow (own κs x vs) → vs ≡ value x ∷ []
  pub typed : {M : Type 1} {𝓤 : Ura M} (𝓛 : Logic 𝓤) → (κs : Lfts n) (x : D) → shadow (own κs x (value x ∷ [])) → Typed (lent.ty ∷ []) (value x ∷ [])
  pub twice : {M : Type 1} {𝓤 : Ura M} (𝓛 : Logic 𝓤) → (κs : Lfts n) (x : D) (vs : List Val) → ent 𝓤 (sem 𝓛 (own κs x vs)) (sep 𝓤 (sem 𝓛 (own κs x vs)) (sem 𝓛 (own κs x vs)))

-- one of the two calls, with m lifetimes: how it spells a parameter's type, and which lifetimes are those of the call by value
pub record Side (n m : ℕ) : Type 2 where
  pub spelling : Parameter n → Spelling
  pub at : Lfts m → Lfts n

abbrev pub by_value_side : (n : ℕ) → Side n n
by_value_side n = record { spelling = λ p. p.by_value; at = λ κs. κs }

abbrev pub lent_side : (n : ℕ) → Side n (suc n)
lent_side n = record { spelling = λ p. p.lent; at = λ κs. κs.1 }

-- the value of the language's `no_local`, which needs no model here
abbrev no_local : Ty × ℕ
no_local = (ty_enum [] ttnil, zero)

-- a shared slice of the row T, at the lifetime j
abbrev shared : RattleType → ℕ → Ty
shared T j = slice_ty (ty_ref (named j) imm (pointee T.written))

-- what a struct of plain data owns can be had twice
pub plain_copy : (S : Plain) {M : Type 1} {𝓤 : Ura M} (𝓛 : Logic 𝓤) → Copy 𝓛 (the_row S)
plain_copy S 𝓛 = record { twice = λ x vs. qed 𝓛 (‵ ((the_row S).own_val x vs) ∷ []) ∵ peeks ! (the_row S) (Is (the_row S)) (shows 𝓛 (the_row S)) x vs (λ is. owned ! (the_row S) (Is (the_row S)) (LL.makes S.type S.plain 𝓛) x vs is $ done !) }

module _ {n : ℕ} where
  -- ---- the kinds. A type that names no lifetime is spelled alike in both calls
  abbrev spelled_alike : (R : RattleType) (τ : Ty) → R.mir ≡ τ ∷ [] → (value : R.Denot → Val) → Tells R (Is R) (λ x. value x ∷ [])
      → ((M : Type 1) (𝓤 : Ura M) (𝓛 : Logic 𝓤) → Lawful 𝓛 R × Copy 𝓛 R) → Parameter n
  spelled_alike R τ one value tells laws = record {
    D = R.Denot;
    coded = R.coded;
    reaches = R.reaches;
    lives = λ κs. R.lives;
    shr_at = λ κs. R.shr_at;
    own = λ κs. R.own_val;
    by_value = record { ty = τ; written = R.written };
    lent = record { ty = τ; written = R.written };
    value = value;
    tells = λ κs. tells;
    typed = λ {M} {𝓤 = 𝓤} 𝓛 κs x is. subst (λ (τs : List Ty). Typed τs (value x ∷ [])) one ((laws M 𝓤 𝓛).0.typed x (value x ∷ []) is);
    twice = λ {M} {𝓤 = 𝓤} 𝓛 κs. (laws M 𝓤 𝓛).1.twice;
  }

  -- an unsigned number
  abbrev pub number : Width → Parameter n
  number w = spelled_alike (UInt w) (ty_int w) refl (vint w) (uint_Tells w) (λ M 𝓤 𝓛. (uint_Lawful 𝓛 w, uint_copy 𝓛 w))

  -- a signed number
  abbrev pub signed : Width → Parameter n
  signed w = spelled_alike (SInt w) (ty_int w) refl (λ z. vint w (of_z w z)) (sint_Tells w) (λ M 𝓤 𝓛. (sint_Lawful 𝓛 w, sint_copy 𝓛 w))

  abbrev pub boolean : Parameter n
  boolean = spelled_alike Boolean ty_bool refl vbool bool_Tells (λ M 𝓤 𝓛. (bool_Lawful 𝓛, bool-copy 𝓛))

  -- a struct of plain data
  abbrev pub struct : Plain → Parameter n
  struct S = spelled_alike (the_row S) (spelled S) refl (struct_value S) (LL.tells S.type S.laws) (λ M 𝓤 𝓛. (LL.lawful S.type S.laws 𝓛, plain_copy S 𝓛))

  -- a shared slice of the row T, at the lifetime j of the call by value
  abbrev pub slice : (T : RattleType) → RowLaws T → (j : ℕ) → Within n j → Parameter n
  slice T laws j ok = record {
    D = Bor (List T.Denot);
    coded = shr_coded (coded_list T.coded);
    reaches = (T.written, T.mir) ∷ T.reaches;
    lives = λ κs. (ShrSlice (named j) (lft_at n j ok κs) T).lives;
    shr_at = λ κs. (ShrSlice (named j) (lft_at n j ok κs) T).shr_at;
    own = λ κs. (ShrSlice (named j) (lft_at n j ok κs) T).own_val;
    by_value = record { ty = shared T j; written = wrote (shared T j) };
    lent = record { ty = shared T (suc j); written = wrote (shared T (suc j)) };
    value = λ x. only (shr_slice_vals x);
    tells = λ κs. shr_slice_Tells (named j) (lft_at n j ok κs) T;
    typed = λ 𝓛 κs x. (shr_slice_Lawful 𝓛 (named (suc j)) (lft_at n j ok κs) T).typed x (shr_slice_vals x);
    twice = λ 𝓛 κs. (shr_slice_copy 𝓛 (named j) (lft_at n j ok κs) T laws).twice;
  }

  -- ---- what a call is given for a list of them
  abbrev pub Arguments : List (Parameter n) → Type 0
  Arguments [] = Unit {0}
  Arguments (p ∷ ps) = p.D × Arguments ps

  -- ---- a list of them in the signature of one of the two calls
  module _ {m : ℕ} (side : Side n m) where
    abbrev pub slot : Parameter n → Slot m
    slot p = plain (λ κs. record { Denot = p.D; mir = (side.spelling p).ty ∷ []; written = (side.spelling p).written; reaches = p.reaches; lives = p.lives (side.at κs); own_val = p.own (side.at κs); exit = λ k. unchanged; coded = p.coded; shr_at = p.shr_at (side.at κs) })

    abbrev pub slots : List (Parameter n) → List (Slot m)
    slots = map slot

    -- what the call is given, and back
    abbrev pub arguments : (ps : List (Parameter n)) (κs : Lfts m) → Denots (types_at (slots ps) κs) → Arguments ps
    arguments [] κs a = tt
    arguments (p ∷ ps) κs a = (a.0, arguments ps κs a.1)

    abbrev pub passed : (ps : List (Parameter n)) (κs : Lfts m) → Arguments ps → Denots (types_at (slots ps) κs)
    passed [] κs a = tt
    passed (p ∷ ps) κs a = (a.0, passed ps κs a.1)

    pub there_and_back : (ps : List (Parameter n)) (κs : Lfts m) (a : Arguments ps) → arguments ps κs (passed ps κs a) ≡ a
    there_and_back [] κs a = refl
    there_and_back (p ∷ ps) κs a = λ i. (a.0, there_and_back ps κs a.1 i)

    -- the machine values
    abbrev pub spells : (ps : List (Parameter n)) (κs : Lfts m) → Spells (types_at (slots ps) κs)
    spells [] κs = tt
    spells (p ∷ ps) κs = (λ x. p.value x ∷ [], spells ps κs)

    abbrev pub all_tell : (ps : List (Parameter n)) (κs : Lfts m) → Tellss (types_at (slots ps) κs) (Ises (types_at (slots ps) κs)) (spells ps κs)
    all_tell [] κs = tt
    all_tell (p ∷ ps) κs = (p.tells (side.at κs), all_tell ps κs)

    abbrev pub values : (ps : List (Parameter n)) (κs : Lfts m) → Denots (types_at (slots ps) κs) → Valss (types_at (slots ps) κs)
    values ps κs a = valss (types_at (slots ps) κs) (spells ps κs) a

  -- at exit each is owned as it was passed, and nothing is said of it
  abbrev pub stayed : (ps : List (Parameter n)) → Stays (slots (lent_side n) ps) (all yes (slots (lent_side n) ps))
  stayed [] = tt
  stayed (p ∷ ps) = (stay_none (slot (lent_side n) p).row yes, stayed ps)

  abbrev pub lasts_of : (ps : List (Parameter n)) (κs : Lfts (suc n)) (a : Denots (types_at (slots (lent_side n) ps) κs)) → Fins κs (slots (lent_side n) ps) (all yes (slots (lent_side n) ps)) a
  lasts_of [] κs a = tt
  lasts_of (p ∷ ps) κs a = (tt, lasts_of ps κs a.1)

  pub fit : (ps : List (Parameter n)) (κs : Lfts (suc n)) (a : Denots (types_at (slots (lent_side n) ps) κs)) → fits_of κs (slots (lent_side n) ps) (all yes (slots (lent_side n) ps)) (stayed ps) a (lasts_of ps κs a)
  fit [] κs a = tt
  fit (p ∷ ps) κs a = (tt, fit ps κs a.1)

  -- ---- their locals
  abbrev pub Blocks : List (Parameter n) → Type 0
  Blocks [] = Unit {0}
  Blocks (p ∷ ps) = ℕ × Blocks ps

  abbrev pub locals_of : List (Parameter n) → List Local
  locals_of = map (λ p. local p.lent.ty value_local)

  abbrev pub env_of : (ps : List (Parameter n)) → Blocks ps → List (Ty × ℕ)
  env_of [] bs = []
  env_of (p ∷ ps) bs = (p.lent.ty, bs.0) ∷ env_of ps bs.1

  -- the local k after those of ps, and the operands that read those of ps, from the local i on
  abbrev pub after : List (Parameter n) → ℕ → ℕ
  after [] k = k
  after (p ∷ ps) k = suc (after ps k)

  abbrev pub operands : List (Parameter n) → ℕ → List Operand
  operands [] i = []
  operands (p ∷ ps) i = copy (place i []) ∷ operands ps (suc i)

  abbrev pub rooms : (ps : List (Parameter n)) → Blocks ps → Fml
  rooms [] bs = ftrue
  rooms (p ∷ ps) bs = fsep (froom p.lent.ty bs.0 zero) (rooms ps bs.1)

  abbrev pub deaths : (ps : List (Parameter n)) → Blocks ps → Fml
  deaths [] bs = ftrue
  deaths (p ∷ ps) bs = fsep (fdies p.lent.ty bs.0) (deaths ps bs.1)

  abbrev pub cells : (ps : List (Parameter n)) → Blocks ps → Arguments ps → Fml
  cells [] bs a = ftrue
  cells (p ∷ ps) bs a = fsep (fat full_share p.lent.ty bs.0 zero (p.value a.0)) (cells ps bs.1 a.1)

  -- where they stand among the locals
  abbrev pub StandFrom : List (Ty × ℕ) → ℕ → (ps : List (Parameter n)) → Blocks ps → Type 0
  StandFrom E i [] bs = Unit {0}
  StandFrom E i (p ∷ ps) bs = (get_or E i no_local ≡ (p.lent.ty, bs.0)) × StandFrom E (suc i) ps bs.1

  pub one_further : (e : Ty × ℕ) (E : List (Ty × ℕ)) (i : ℕ) (ps : List (Parameter n)) (bs : Blocks ps) → StandFrom E i ps bs → StandFrom (e ∷ E) (suc i) ps bs
  one_further e E i [] bs at = tt
  one_further e E i (p ∷ ps) bs at = (at.0, one_further e E (suc i) ps bs.1 at.1)

  pub stand_first : (E : List (Ty × ℕ)) (ps : List (Parameter n)) (bs : Blocks ps) → StandFrom (env_of ps bs ++ E) 0 ps bs
  stand_first E [] bs = tt
  stand_first E (p ∷ ps) bs = (refl, one_further (p.lent.ty, bs.0) (env_of ps bs.1 ++ E) 0 ps bs.1 (stand_first E ps bs.1))

  pub beyond : (E : List (Ty × ℕ)) (k : ℕ) (ps : List (Parameter n)) (bs : Blocks ps) → get_or (env_of ps bs ++ E) (after ps k) no_local ≡ get_or E k no_local
  beyond E k [] bs = refl
  beyond E k (p ∷ ps) bs = beyond E k ps bs.1

-- ---- what is owned of them: it can be had twice, it is what the call by value asks, and it is there at exit
module _ {M : Type 1} {𝓤 : Ura M} (𝓛 : Logic 𝓤) {n : ℕ} where
  abbrev Owned : (ps : List (Parameter n)) (κs : Lfts (suc n)) → Denots (types_at (slots (lent_side n) ps) κs) → Fml
  Owned ps κs a = owns (types_at (slots (lent_side n) ps) κs) a (values (lent_side n) ps κs a)

  pub all_copied : (ps : List (Parameter n)) (κs : Lfts (suc n)) (a : Denots (types_at (slots (lent_side n) ps) κs)) → ent 𝓤 (sem 𝓛 (Owned ps κs a)) (sep 𝓤 (sem 𝓛 (Owned ps κs a)) (sem 𝓛 (Owned ps κs a)))
  all_copied [] κs a = emp∗ 𝓤 (emp 𝓤)
  all_copied (p ∷ ps) κs a =
      let F : Fml = p.own κs.1 a.0 (p.value a.0 ∷ []) in
      let G : Fml = Owned ps κs a.1 in
      qed 𝓛 (‵ (fsep F G) ∷ []) ∵ fsplit ! $ use1 𝓛 (‵ F ⊛ ‵ F) (p.twice 𝓛 κs.1 a.0 (p.value a.0 ∷ [])) $ split ! $ move ! (2 ∷ []) $ use1 𝓛 (‵ G ⊛ ‵ G) (all_copied ps κs a.1) $ split ! $
      move ! (2 ∷ 0 ∷ []) $ fjoin ! $ frame ! $ move ! (1 ∷ 0 ∷ []) $ fjoin ! $ done !

  pub all_passed : (ps : List (Parameter n)) (κs : Lfts (suc n)) (a : Denots (types_at (slots (lent_side n) ps) κs))
      → ent 𝓤 (sem 𝓛 (Owned ps κs a)) (sem 𝓛 (owns (types_at (slots (by_value_side n) ps) κs.1) (passed (by_value_side n) ps κs.1 (arguments (lent_side n) ps κs a)) (values (by_value_side n) ps κs.1 (passed (by_value_side n) ps κs.1 (arguments (lent_side n) ps κs a)))))
  all_passed [] κs a = id⊢ 𝓤 (emp 𝓤)
  all_passed (p ∷ ps) κs a = mono_r 𝓤 (sem 𝓛 (p.own κs.1 a.0 (p.value a.0 ∷ []))) (all_passed ps κs a.1)

  pub all_kept : (ps : List (Parameter n)) (κs : Lfts (suc n)) (a : Denots (types_at (slots (lent_side n) ps) κs))
      → ent 𝓤 (sem 𝓛 (Owned ps κs a)) (sem 𝓛 (has_of κs (slots (lent_side n) ps) (all yes (slots (lent_side n) ps)) (stayed ps) a (lasts_of ps κs a) (values (lent_side n) ps κs a)))
  all_kept [] κs a = id⊢ 𝓤 (emp 𝓤)
  all_kept (p ∷ ps) κs a = mono_r 𝓤 (sem 𝓛 (p.own κs.1 a.0 (p.value a.0 ∷ []))) (all_kept ps κs a.1)

  pub all_go : (ps : List (Parameter n)) → AllGo 𝓛 (suc n) (slots (lent_side n) ps) (all yes (slots (lent_side n) ps)) (stayed ps)
  all_go [] = tt
  all_go (p ∷ ps) = (Goes-none 𝓛 (suc n) (slot (lent_side n) p).row yes (λ κs x f. refl), all_go ps)

  pub all_forget : (ps : List (Parameter n)) (bs : Blocks ps) (a : Arguments ps) → ent 𝓤 (sem 𝓛 (cells ps bs a)) (sem 𝓛 (rooms ps bs))
  all_forget [] bs a = id⊢ 𝓤 (emp 𝓤)
  all_forget (p ∷ ps) bs a = mono∗ 𝓤 (𝓛.laws.at_room p.lent.ty bs.0 zero (p.value a.0)) (all_forget ps bs.1 a.1)

-- ---- their locals, as steps
module _ {M : Type 1} {𝓤 : Ura M} (𝓛 : Logic 𝓤) where
  -- a local whose place is known by an equation
  open 𝓛 use {H}

  pub at_local : {Γ : List (Item 𝓤)} {E : Env 𝓤 H} {i : ℕ} {st : List PStep} {sp : Spot 𝓤 H} {e : Ty × ℕ} → get_or E i no_local ≡ e → Walks (Go {0}) 𝓛 Γ E (e.0, e.1, zero) st sp → Finds (Go {0}) 𝓛 Γ E (place i st) sp
  at_local {Γ} {E} {i} {st} found w = record { go = λ Kt h. subst (λ (e' : Ty × ℕ). ent 𝓤 (⋆ 𝓛 Γ) (walk 𝓤 H E (e'.0, e'.1, zero) st Kt)) (sym found) (w.go Kt h) }

  -- reading changes nothing, so it may be done in a context that is the same
  same_opds : {Γ Δ : List (Item 𝓤)} {E : Env 𝓤 H} {xs : List Operand} {vs : List Val} → ent 𝓤 (⋆ 𝓛 Γ) (⋆ 𝓛 Δ) → ent 𝓤 (⋆ 𝓛 Δ) (⋆ 𝓛 Γ) → Opds (Go {0}) 𝓛 Δ E xs vs → Opds (Go {0}) 𝓛 Γ E xs vs
  same_opds {Γ} {Δ} there back os = record { go = λ Kt h. via 𝓤 (⋆ 𝓛 Δ) there (os.go Kt (via 𝓤 (⋆ 𝓛 Γ) back h)) }

module _ {M : Type 1} {𝓤 : Ura M} (𝓛 : Logic 𝓤) {n : ℕ} where
  open 𝓛 use {H}

  pub alloc_all : (ps : List (Parameter n)) (ls : List Local) {Γ : List (Item 𝓤)} {Kt : Env 𝓤 H → Goal 𝓤 H}
      → ((bs : Blocks ps) → Sq 𝓛 (‵ (rooms ps bs) ∷ ‵ (deaths ps bs) ∷ Γ) (allocs ls (λ E. Kt (env_of ps bs ++ E)))) → Sq 𝓛 Γ (allocs (locals_of ps ++ ls) Kt)
  alloc_all [] ls k = nothing ! $ nothing ! $ k tt
  alloc_all (p ∷ ps) ls k = alloc1 ! (λ b. alloc_all ps ls (λ bs. move ! (2 ∷ 0 ∷ []) $ fjoin ! $ move ! (2 ∷ 1 ∷ []) $ fjoin ! $ move ! (1 ∷ 0 ∷ []) $ k (b, bs)))

  pub pass_all : (ps : List (Parameter n)) (κs : Lfts (suc n)) (a : Denots (types_at (slots (lent_side n) ps) κs)) (bs : Blocks ps) (E : Env 𝓤 H) → Are (types_at (slots (lent_side n) ps) κs) (Ises (types_at (slots (lent_side n) ps) κs)) a (values (lent_side n) ps κs a)
      → {Γ : List (Item 𝓤)} {g : Goal 𝓤 H} → Step (Go {0}) 𝓛 (‵ (cells ps bs (arguments (lent_side n) ps κs a)) ∷ Γ) g (‵ (rooms ps bs) ∷ Γ) (passes (env_of ps bs ++ E) (flat (types_at (slots (lent_side n) ps) κs) (values (lent_side n) ps κs a)) g)
  pass_all [] κs a bs E are = step (λ s. pass0 ! $ s)
  pass_all (p ∷ ps) κs a bs E are = step (λ s. fsplit ! $ pass1 ! (init ! 0 refl (p.typed 𝓛 κs.1 a.0 are.0).0) $ move ! (1 ∷ []) $ pass_all ps κs a.1 bs.1 E are.1 $ move ! (1 ∷ 0 ∷ []) $ fjoin ! $ s)

  pub free_all : (ps : List (Parameter n)) (bs : Blocks ps) {Γ : List (Item 𝓤)} {E : Env 𝓤 H} {g : Goal 𝓤 H}
      → Step (Go {0}) 𝓛 Γ (frees E g) (‵ (rooms ps bs) ∷ ‵ (deaths ps bs) ∷ Γ) (frees (env_of ps bs ++ E) g)
  free_all [] bs = step (λ s. drop ! $ drop ! $ s)
  free_all (p ∷ ps) bs = step (λ s. fsplit ! $ move ! (2 ∷ []) $ fsplit ! $ move ! (2 ∷ 0 ∷ []) $ free1 ! $ move ! (1 ∷ 0 ∷ []) $ free_all ps bs.1 $ s)

  read_head : (ps : List (Parameter n)) (κs : Lfts n) (a : Arguments ps) (bs : Blocks ps) {Γ : List (Item 𝓤)} {E : Env 𝓤 H} (i : ℕ) → StandFrom E i ps bs
      → Opds (Go {0}) 𝓛 (‵ (cells ps bs a) ∷ Γ) E (operands ps i) (flat (types_at (slots (by_value_side n) ps) κs) (values (by_value_side n) ps κs (passed (by_value_side n) ps κs a)))
  read_head [] κs a bs i at = no_more !
  read_head (p ∷ ps) κs a bs {Γ} i at =
      let F : Fml = fat full_share p.lent.ty bs.0 zero (p.value a.0) in
      let G : Fml = cells ps bs.1 a.1 in
      same_opds 𝓛 {Δ = ‵ F ∷ ‵ G ∷ Γ} (qed 𝓛 (‵ (fsep F G) ∷ Γ) ∵ fsplit ! $ done !) (qed 𝓛 (‵ F ∷ ‵ G ∷ Γ) ∵ fjoin ! $ done !)
      (and_then ! (load ! (at_local 𝓛 at.0 (stop !)) (look ! 0 refl))
      (same_opds 𝓛 {Δ = ‵ G ∷ ‵ F ∷ Γ} (qed 𝓛 (‵ F ∷ ‵ G ∷ Γ) ∵ move ! (1 ∷ 0 ∷ []) $ done !) (qed 𝓛 (‵ G ∷ ‵ F ∷ Γ) ∵ move ! (1 ∷ 0 ∷ []) $ done !)
      (read_head ps κs a.1 bs.1 (suc i) at.1)))

  -- the call's operands: entry k of the context has the cells
  pub read_all : (ps : List (Parameter n)) (κs : Lfts n) (a : Arguments ps) (bs : Blocks ps) {Γ : List (Item 𝓤)} {E : Env 𝓤 H} (k i : ℕ) → nth 𝓛 k Γ ≡ ‵ (cells ps bs a) → StandFrom E i ps bs
      → Opds (Go {0}) 𝓛 Γ E (operands ps i) (flat (types_at (slots (by_value_side n) ps) κs) (values (by_value_side n) ps κs (passed (by_value_side n) ps κs a)))
  read_all ps κs a bs {Γ} k i found at =
      let there : ent 𝓤 (⋆ 𝓛 Γ) (⋆ 𝓛 (nth 𝓛 k Γ ∷ del 𝓛 k Γ)) = via 𝓤 _ (pull 𝓛 k Γ) (push 𝓛 (nth 𝓛 k Γ) (del 𝓛 k Γ)) in
      let back : ent 𝓤 (⋆ 𝓛 (nth 𝓛 k Γ ∷ del 𝓛 k Γ)) (⋆ 𝓛 Γ) = via 𝓤 _ (pop 𝓛 (nth 𝓛 k Γ) (del 𝓛 k Γ)) (unpull 𝓛 k Γ) in
      same_opds 𝓛 {Δ = ‵ (cells ps bs a) ∷ del 𝓛 k Γ}
      (subst (λ (j : Item 𝓤). ent 𝓤 (⋆ 𝓛 Γ) (⋆ 𝓛 (j ∷ del 𝓛 k Γ))) found there)
      (subst (λ (j : Item 𝓤). ent 𝓤 (⋆ 𝓛 (j ∷ del 𝓛 k Γ)) (⋆ 𝓛 Γ)) found back)
      (read_head ps κs a bs i at)
