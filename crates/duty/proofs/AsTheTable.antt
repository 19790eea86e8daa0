-- The reply for every duty is the one that the old table gave (document 02, d): one test, computed over all of 0 to 1000 and the first duty past
-- them, where refusal 9 begins.
use mathlib.Core.Path.{◌≡◌, refl, sym, ◌∙◌, ap}
use mathlib.Core.Bool.{cond}
use mathlib.Core.List.{List, [], ◌∷◌, ◌++◌, map}
use Prim.Native.Nat.{ℕ, ◌≤◌, ◌<◌}
use native.Mathlib.Decide.{dec_lt}
use native.Mathlib.Nat.{zero-add}
use native.Mathlib.Omega.{arith}
use Rattle.std.specs.Prelude.{Result}
use lib.Dec.{eqb}
use lib.ListN.{get_or, length, get_or-eq_default}
use Rattle.units.specs.Range.{from_to}
use Rattle.duty.specs.Reading.{Reads, no_charging, digital_only, current, refused, reading_of}
use Rattle.duty.specs.Numbers.{as_reads}
use Rattle.duty.specs.declared.AboveScale.{AboveScale}
use Rattle.duty.specs.declared.Reading.{Reading}
use Rattle.duty.proofs.Values.{values, value_at}
use Rattle.duty.proofs.Table.{entries}
use Rattle.duty.proofs.Ranges.{above_scale}
use Rattle.duty.proofs.reading_of.Reads.{Post}

-- what an entry stood for
entry_reads : ℕ → Reads
entry_reads entry = cond (eqb entry 0) no_charging (cond (eqb entry 1) digital_only (current entry))

-- what the old table gave, from duty 0 on; the last is the first duty past it, so that the test sees its end
given : List Reads
given = map entry_reads entries ++ (refused 9 ∷ [])

-- for any duty: refusal 9 past the table
pub tabled : ℕ → Reads
tabled d = get_or given d (refused 9)

-- the test
computed : values reading_of 0 1002 ≡ given
unfolding reading_of from_to given entry_reads entries
computed = refl

as_many : length given ≡ 1002
unfolding given entries
as_many = refl

reads_as_tabled : (d : ℕ) → reading_of d ≡ tabled d
unfolding tabled
reads_as_tabled d = go (dec_lt d 1002)
  where
    go : Dec (d < 1002) → reading_of d ≡ get_or given d (refused 9)
    go (yes within) =
        let read = value_at reading_of 0 1002 d (refused 9) within ∙ ap reading_of (zero-add d) in
        sym read ∙ ap (λ l. get_or l d (refused 9)) computed
    go (no past) =
        let end : length given ≤ d = omega (arith, as_many) in
        above_scale d (omega arith) ∙ sym (get_or-eq_default given (refused 9) end)

-- an answer that meets the contract of reading_of (`Post`, which is made from src/; the duty stands there at entry and at exit) is the one that the old
-- table gave
pub as_the_table : (duty : ℕ) (r : Result Reading AboveScale) → Post tt (duty, tt) r (duty, tt) → as_reads r ≡ tabled duty
as_the_table duty r meets = meets ∙ reads_as_tabled duty
