-- Closed exactly when some accepted call met every closing condition and no opening cause has held in a later accepted one.
use mathlib.Core.Path.{◌≡◌, sym, ◌∙◌}
use mathlib.Core.Bool.{true, false}
use mathlib.Core.Logic.{◌↔◌}
use Prim.Native.Nat.{ℕ, zero, suc, ◌≤◌, ◌<◌}
use native.Mathlib.Decide.{dec_lt}
use native.Mathlib.Nat.{not-suc-le-zero}
use native.Mathlib.Omega.{arith}
use Rattle.units.proofs.Booleans.{clash}
use Rattle.lists.specs.Demand3.{Trace, HeldSince}
use Rattle.lists.proofs.Lawful.{Memory, Lawful, Law, Outcome, refused, stays, shuts, opens, outcome}

module _ (t : Trace) (memory : Memory) (laws : Lawful t memory) where
  -- the same among the first n calls
  pub record HeldIn (n k : ℕ) : Type 0 where
    pub below : k < n
    pub accepted : t.accepted k ≡ true
    pub met : t.closes k ≡ true
    pub no_cause : (j : ℕ) → k < j → j < n → t.accepted j ≡ true → t.cause j ≡ false

  -- one call more without a cause
  longer : (n k : ℕ) → HeldIn n k → (t.accepted n ≡ true → t.cause n ≡ false) → HeldIn (suc n) k
  longer n k held here =
      record {
        below = omega (arith, held.below);
        accepted = held.accepted;
        met = held.met;
        no_cause = λ j after below accepted. go j after below accepted (dec_lt j n);
      }
    where
      go : (j : ℕ) → k < j → j < suc n → t.accepted j ≡ true → Dec (j < n) → t.cause j ≡ false
      go j after below accepted (yes earlier) = held.no_cause j after earlier accepted
      go j after below accepted (no later) =
          let same : j ≡ n = omega arith in
          rw same (here (rw (← same) accepted))

  pub held : (n : ℕ) → n ≤ t.length → t.told_closed n ≡ true → (k : ℕ) × HeldIn n k
  held zero within closed = clash closed laws.starts_open
  held (suc n) within closed = go (outcome t memory n (laws.each n within)) (held n (omega arith))
    where
      go : Outcome t memory n → (t.told_closed n ≡ true → (k : ℕ) × HeldIn n k) → (k : ℕ) × HeldIn (suc n) k
      go (refused out same move) earlier =
          let known = earlier (sym same ∙ closed) in
          (known.0, longer n known.0 known.1 (λ into. clash into out))
      go (stays into same move no_cause unmet) earlier =
          let known = earlier (sym same ∙ closed) in
          (known.0, longer n known.0 known.1 (λ again. no_cause (sym same ∙ closed)))
      go (shuts into before time move met) earlier =
          (n, record { below = omega arith; accepted = into; met = met; no_cause = λ j after below accepted. absurd (omega arith) })
      go (opens into before time move why unmet forgot) earlier = clash closed time

  pub closed_since : (n k : ℕ) → n ≤ t.length → HeldIn n k → t.told_closed n ≡ true
  closed_since zero k within since = absurd (not-suc-le-zero since.below)
  closed_since (suc n) k within since = go (dec_lt k n) (outcome t memory n law) (closed_since n k (omega arith))
    where
      law : Law t memory n
      law = laws.each n within

      before : k < n → HeldIn n k
      before earlier =
          record {
            below = earlier;
            accepted = since.accepted;
            met = since.met;
            no_cause = λ j after below accepted. since.no_cause j after (omega arith) accepted;
          }

      go : Dec (k < n) → Outcome t memory n → (HeldIn n k → t.told_closed n ≡ true) → t.told_closed (suc n) ≡ true
      go (yes earlier) (refused out same move) ih = same ∙ ih (before earlier)
      go (yes earlier) (stays into same move no_cause unmet) ih = same ∙ ih (before earlier)
      go (yes earlier) (shuts into was time move met) ih = time
      go (yes earlier) (opens into closed time move why unmet forgot) ih = clash why (since.no_cause n earlier (omega arith) into)
      go (no later) what ih = here what (omega (arith, since.below))
        where
          here : Outcome t memory n → k ≡ n → t.told_closed (suc n) ≡ true
          here (refused out same move) is = clash (rw is at since.accepted) out
          here (stays into same move no_cause unmet) is = clash (rw is at since.met) unmet
          here (shuts into was time move met) is = time
          here (opens into closed time move why unmet forgot) is = clash closed (law.meets (rw is at since.met)).was_open

  pub exactly : (t.told_closed t.length ≡ true) ↔ ((k : ℕ) × HeldSince t k)
  exactly = (λ closed. wide (held t.length (omega arith) closed), λ since. closed_since t.length since.0 (omega arith) (narrow since.1))
    where
      wide : ((k : ℕ) × HeldIn t.length k) → (k : ℕ) × HeldSince t k
      wide known =
          let since = known.1 in (
            known.0,
            record {
              accepted = (since.below, since.accepted);
              met = since.met;
              no_cause = λ j after accepted. since.no_cause j after accepted.0 accepted.1;
            },
          )

      narrow : {k : ℕ} → HeldSince t k → HeldIn t.length k
      narrow since =
          record {
            below = since.accepted.0;
            accepted = since.accepted.1;
            met = since.met;
            no_cause = λ j after below accepted. since.no_cause j after (below, accepted);
          }
