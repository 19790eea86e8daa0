-- How a word is spelled.
use Rattle.std.specs.Prelude.{◌≡◌, ℕ, List, codes, Result, MatchResult, ◌≢◌}
use denote.Ref.{Bor}
use Rattle.tables.specs.declared.words.Word.{Word}
use Rattle.tables.specs.declared.words.NoWord.{NoWord}
use Rattle.tables.specs.declared.words.Word.TheVariants.{Begin, Sample, Samples, Limit, Measure, Link, Fault, Clear, Tick, Yes, No, Digital, Plain, Available, Reading, Sound, Low, Levels, Keep, Kept, With, Zeroed, Rated, Pause, Grant, Wave, Closings, Opening, Overrun, Stop, Line1, Line2, Line3}

-- the last eight letters
abbrev pub letters_of : Word → List ℕ
letters_of Begin = codes "begin"
letters_of Sample = codes "sample"
letters_of Samples = codes "samples"
letters_of Limit = codes "limit"
letters_of Measure = codes "measure"
letters_of Link = codes "link"
letters_of Fault = codes "fault"
letters_of Clear = codes "clear"
letters_of Tick = codes "tick"
letters_of Yes = codes "yes"
letters_of No = codes "no"
letters_of Digital = codes "digital"
letters_of Plain = codes "plain"
letters_of Available = codes "vailable"
letters_of Reading = codes "reading"
letters_of Sound = codes "sound"
letters_of Low = codes "low"
letters_of Levels = codes "levels"
letters_of Keep = codes "keep"
letters_of Kept = codes "kept"
letters_of With = codes "with"
letters_of Zeroed = codes "zeroed"
letters_of Rated = codes "rated"
letters_of Pause = codes "pause"
letters_of Grant = codes "grant"
letters_of Wave = codes "wave"
letters_of Closings = codes "closings"
letters_of Opening = codes "opening"
letters_of Overrun = codes "overrun"
letters_of Stop = codes "stop"
letters_of Line1 = codes "line1"
letters_of Line2 = codes "line2"
letters_of Line3 = codes "line3"

-- the result is the word that these letters spell, or none where they spell none
abbrev pub Spells : Bor (List ℕ) → Result Word NoWord → Type 0
Spells letters r = MatchResult r (λ word. letters.now ≡ letters_of word) (λ _. (word : Word) → letters.now ≢ letters_of word)
