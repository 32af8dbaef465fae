-- How what was made is put out.
use Rattle.std.specs.Prelude.{◌≡◌, ◌≢◌, ◌⊎◌, ℕ, List, [], Option, Some}
use Rattle.std.specs.Io.KnownBytes.{Appends, Keeps}
use Rattle.byte_ends.specs.Ends.{AppendsFront}
use Rattle.edit_history.specs.declared.history.Entry.{Entry}
use Rattle.command_words.specs.declared.stop.Stop.{Stop}
use Rattle.command_words.specs.declared.stop.Stop.TheVariants.{Memory, WriteFault}

-- The end of what was made, with its history: the output gained the text where the run ends with what is told of it,
-- and a front of it, which is not empty, where the output failed. Where memory was wanting the output is as before, and
-- there is no history.
abbrev pub IsPutOut : Type 0 → Option (List ℕ) → Option (List ℕ) → List ℕ → Option Stop → List Entry → Option Stop
    → List Entry → Type 0
IsPutOut failed held holds text after kept stop h =
    ((stop ≡ after) × (h ≡ kept) × Appends held holds text)
    ⊎ ((stop ≡ Some WriteFault) × (h ≡ kept) × failed × AppendsFront held holds text × (text ≢ []))
    ⊎ ((stop ≡ Some Memory) × (h ≡ []) × Keeps held holds)
