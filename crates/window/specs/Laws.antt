-- What the answer to a window means, apart from how the definition finds it. Proved in proofs/Laws.antt.
-- `List.Memᴰ reading window` says that the reading stands in the window.
use Rattle.std.specs.Prelude.{◌≡◌, true, false, ◌⊎◌, ℕ, length, ℤ}
use mathlib.Core.List.{List, Memᴰ}
use Rattle.std.specs.Int.Signed.{le_z}
use Rattle.units.specs.Range.{Outside}
use Rattle.window.specs.Support.{supported}
use Rattle.window.specs.Evaluation.{length_allowed, reading_allowed}

-- when levels come: length and readings are right, each level stands in the window with its support, and nothing with support
-- lies outside the two
pub record LevelsOf (window : List ℤ) (high low : ℤ) : Type 0 where
  pub length_right : length_allowed window ≡ true
  pub readings_right : (reading : ℤ) → Memᴰ reading window → reading_allowed reading ≡ true
  pub high_reading : Memᴰ high window
  pub high_supported : supported window high ≡ true
  pub low_reading : Memᴰ low window
  pub low_supported : supported window low ≡ true
  pub between : (reading : ℤ) → Memᴰ reading window → supported window reading ≡ true → (le_z low reading ≡ true) × (le_z reading high ≡ true)

-- when refusal 5 comes: the length is right, and some reading is out of range
pub record OneOutOfRange (window : List ℤ) : Type 0 where
  pub length_right : length_allowed window ≡ true
  pub reading : ℤ
  pub in_window : Memᴰ reading window
  pub out_of_range : reading_allowed reading ≡ false

-- when refusal 6 comes: length and readings are right, and no reading is supported
pub record NoneSupported (window : List ℤ) : Type 0 where
  pub length_right : length_allowed window ≡ true
  pub readings_right : (reading : ℤ) → Memᴰ reading window → reading_allowed reading ≡ true
  pub none : (reading : ℤ) → Memᴰ reading window → supported window reading ≡ false

-- the numbers by which a window is refused, and what each is for
abbrev pub RefusedFor : ℕ → List ℤ → Type 0
RefusedFor number window =
    ((number ≡ 4) × Outside 256 1024 (length window))
    ⊎ (((number ≡ 5) × OneOutOfRange window) ⊎ ((number ≡ 6) × NoneSupported window))
