-- A lent controller, its reply, and the answer that holds both: what the proof of the lent calls knows of the three structs.
-- Each is any struct of plain data. The answer has the controller and the reply as its two fields and no other.
-- Assumes nothing.
use mathlib.Core.Path.{◌≡◌, refl}
use mathlib.Core.List.{List, [], ◌∷◌}
use mir.Syntax.{Sym, Ty}
use mir.Val.{Val}
use denote.RattleType.{RattleType, Denots}
use denote.Laws.{Is}
use denote.Struct.Cover.{Cover}
use denote.Struct.Declared.{Declared, fields, row, field, shape}
use denote.Struct.Laws as LL
use denote.Struct.Struct.{Plains, layout}

-- a struct of plain data
pub record Plain : Type 2 where
  pub type : Declared
  pub laws : LL.Laws type
  pub lowers : LL.Lowered type
  pub plain : Plains (fields type)

abbrev pub the_row : Plain → RattleType
the_row S = row S.type

abbrev pub spelled : Plain → Ty
spelled S = layout (shape S.type)

abbrev pub value : (S : Plain) → S.type.D → Val
value S d = LL.val S.type S.laws d

-- the record stands at its machine value
abbrev pub Held : (S : Plain) → S.type.D → Type 0
Held S d = Is (the_row S) d (value S d ∷ [])

module _ (C R : Plain) where
  abbrev Both : Type 0
  Both = Denots (fields C.type) × (Denots (fields R.type) × Unit {0})

  abbrev both : {D : Type 0} → (D → C.type.D) → (D → R.type.D) → D → Both
  both controller reply d = (C.type.to (controller d), (R.type.to (reply d), tt))

  abbrev both_values : {D : Type 0} → (D → C.type.D) → (D → R.type.D) → D → C.type.D × (R.type.D × Unit {0})
  both_values controller reply d = (controller d, (reply d, tt))

  -- an answer: a controller and a reply, and no more and no fewer (`cover`)
  pub record Pairs : Type 1 where
    pub name : Sym
    pub D : Type 0
    pub controller : D → C.type.D
    pub reply : D → R.type.D
    pub one : (x y : D) → both controller reply x ≡ both controller reply y → x ≡ y
    pub cover : Cover D (C.type.D × (R.type.D × Unit {0})) (both_values controller reply)
    pub propositions : (v : C.type.D × (R.type.D × Unit {0})) → IsProp (cover.Ghost v)

  module _ (P : Pairs) where
    abbrev pub the_type : Declared
    the_type = record {
      name = P.name;
      args = [];
      types = [];
      parts = field C.type ∷ field R.type ∷ [];
      D = P.D;
      to = both P.controller P.reply;
      to_one = P.one;
      as_values = both_values P.controller P.reply;
      to_is = λ d. refl;
      cover = P.cover;
      propositions = P.propositions;
    }

    abbrev pub the_laws : LL.Laws the_type
    the_laws = (LL.field_laws C.type C.laws C.lowers, (LL.field_laws R.type R.laws R.lowers, tt))

    abbrev pub the_answer : RattleType
    the_answer = row the_type

    -- a held answer holds its controller and its reply
    pub holds_controller : (d : P.D) (vs : List Val) → Is (row the_type) d vs → Held C (P.controller d)
    holds_controller d vs is = (LL.owed the_type the_laws d vs is).0

    pub holds_reply : (d : P.D) (vs : List Val) → Is (row the_type) d vs → Held R (P.reply d)
    holds_reply d vs is = (LL.owed the_type the_laws d vs is).1.0
