-- Rows computed by values: each field of the controller between two calls, and replies compared field by field, so that a row that fails costs no more than one
-- that holds.
use mathlib.Core.Path.{◌≡◌, refl, sym, ◌∙◌, ap}
use mathlib.Core.Bool.{Bool, true, false, ◌&&◌, cond}
use mathlib.Core.List.{List, [], ◌∷◌, map}
use Prim.Native.Nat.{ℕ}
use native.Mathlib.Omega.{arith}
use Rattle.units.proofs.Booleans.{and_parts}
use Rattle.rules.specs.Altered.{Lent}
use Rattle.rules.specs.Calls.{evaluated_call}
use Rattle.rules.specs.Answer.{next, reply_to, lent_after, replies_to}
use Rattle.rules.proofs.Rows.Replies.{same_reply, same_reply_lem}
use Rattle.rules.proofs.Rows.Sequences.{LevelCall, Entry, Sequence, call_of, evaluated_of, evaluated_is, is_square, all_square, Tells, lent_on, lent_on_lem}
use Rattle.rules.proofs.Rows.Values.{computing, computing_is}

-- the calls by values, and what comes after them
abbrev pub after : {A : Type 0} → Lent → List LevelCall → (Lent → A) → A
after lent [] then = then lent
after lent (first ∷ rest) then = computing (next lent (evaluated_of first)) (λ l. after l rest then)

pub after_is : {A : Type 0} (lent : Lent) (calls : List LevelCall) (then : Lent → A) → after lent calls then ≡ then (lent_on lent calls)
after_is lent [] then = refl
after_is lent (first ∷ rest) then =
    computing_is (next lent (evaluated_of first)) (λ l. after l rest then) ∙ after_is (next lent (evaluated_of first)) rest then

-- something of the controller after calls, computed
pub comes_to : {A : Type 0} (start : Lent) (calls : List LevelCall) (f : Lent → A) (x : A) → all_square calls ≡ true → after start calls f ≡ x
    → f (lent_after start (map call_of calls)) ≡ x
comes_to start calls f x right is = ap f (lent_on_lem start calls right) ∙ sym (after_is start calls f) ∙ is

-- the times of the calls whose reply is another than the row tells
abbrev pub differing : Lent → List Entry → List ℕ
differing lent [] = []
differing lent (entry ∷ rest) =
    let others = computing (next lent (evaluated_of entry.call)) (λ l. differing l rest) in
    cond (same_reply (reply_to lent (evaluated_of entry.call)) entry.reply) others (entry.call.time ∷ others)

-- and of a whole sequence
abbrev pub differences : Sequence → List ℕ
differences sequence = after sequence.start sequence.first (λ lent. differing lent sequence.entries)

-- every window of a sequence is square
abbrev pub squares : Sequence → Bool
squares sequence = all_square sequence.first && all_square (map (λ entry. entry.call) sequence.entries)

not_empty : {X : Type 0} (n : ℕ) (rest : List ℕ) → n ∷ rest ≡ [] → X
not_empty n rest e = let clash : ◌≡◌ {A = ℕ} 0 1 = cc in absurd (omega arith)

replies_on_lem : (lent : Lent) (entries : List Entry) → all_square (map (λ entry. entry.call) entries) ≡ true → differing lent entries ≡ []
    → replies_to lent (map (λ entry. call_of entry.call) entries) ≡ map (λ entry. entry.reply) entries
unfolding replies_to
replies_on_lem lent [] right none = refl
replies_on_lem lent (first ∷ rest) right none =
    let parts = and_parts (is_square first.call.event) (all_square (map (λ entry. entry.call) rest)) right in
    let same = evaluated_is first.call.time first.call.event parts.0 in
    go (same_reply (reply_to lent (evaluated_of first.call)) first.reply) refl same (replies_on_lem (next lent (evaluated_of first.call)) rest parts.1) none
  where
    others : List ℕ
    others = computing (next lent (evaluated_of first.call)) (λ l. differing l rest)

    go : (b : Bool) → same_reply (reply_to lent (evaluated_of first.call)) first.reply ≡ b
        → evaluated_call (call_of first.call) ≡ evaluated_of first.call
        → (differing (next lent (evaluated_of first.call)) rest ≡ []
        → replies_to (next lent (evaluated_of first.call)) (map (λ entry. call_of entry.call) rest) ≡ map (λ entry. entry.reply) rest)
        → cond b others (first.call.time ∷ others) ≡ []
        → replies_to lent (map (λ entry. call_of entry.call) (first ∷ rest)) ≡ first.reply ∷ map (λ entry. entry.reply) rest
    go false p same later none = not_empty _ _ none
    go true p same later none =
        ap (λ h. reply_to lent h ∷ replies_to (next lent h) (map (λ entry. call_of entry.call) rest)) same
        ∙ ap (λ r. r ∷ replies_to (next lent (evaluated_of first.call)) (map (λ entry. call_of entry.call) rest)) (same_reply_lem _ _ p)
        ∙ ap (λ l. first.reply ∷ l) (later (sym (computing_is (next lent (evaluated_of first.call)) (λ l. differing l rest)) ∙ none))

-- a sequence whose first calls are known to lead to a controller
pub tells_from : (sequence : Sequence) (lent : Lent) → squares sequence ≡ true
    → lent_on sequence.start sequence.first ≡ lent → differing lent sequence.entries ≡ [] → Tells sequence
tells_from sequence lent right comes none =
    let parts = and_parts (all_square sequence.first) (all_square (map (λ entry. entry.call) sequence.entries)) right in
    ap (λ l. replies_to l (map (λ entry. call_of entry.call) sequence.entries)) (lent_on_lem sequence.start sequence.first parts.0 ∙ comes)
    ∙ replies_on_lem lent sequence.entries parts.1 none

-- a sequence, computed: every window is square, and no reply differs
pub tells_by : (sequence : Sequence) → squares sequence ≡ true → differences sequence ≡ [] → Tells sequence
tells_by sequence right none =
    tells_from sequence (lent_on sequence.start sequence.first) right refl
    (sym (after_is sequence.start sequence.first (λ lent. differing lent sequence.entries)) ∙ none)
