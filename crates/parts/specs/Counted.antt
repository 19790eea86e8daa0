-- The count of closings as 32 bits hold it.
use Rattle.std.specs.Prelude.{Bool, cond, ℕ, suc, min}

-- the largest number of 32 bits
abbrev pub largest_count : ℕ
largest_count = 4294967295

-- grows by 1 with a closing, and stays at the largest, which no controller in range comes near (proofs/CountLaws.antt)
unfoldable pub counted : Bool → ℕ → ℕ
counted closing closings = cond closing (min (suc closings) largest_count) closings
