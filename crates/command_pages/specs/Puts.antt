-- What becomes of a text that is put.
use Rattle.std.specs.Prelude.{◌≡◌, ◌⊎◌, ℕ, List, Option}
use Rattle.std.specs.Io.KnownBytes.{Keeps}
use Rattle.byte_ends.specs.Ends.{AppendsFront}
use Rattle.command_words.specs.declared.stop.Stop.{Stop}
use Rattle.command_words.specs.declared.stop.Stop.TheVariants.{Memory, WriteFault}

-- why a text is not put whole: for want of memory, before anything of it, or behind a front of it, where the output
-- failed
abbrev pub IsUnput : Type 0 → Option (List ℕ) → Option (List ℕ) → List ℕ → Stop → Type 0
IsUnput failed held holds text stop =
    ((stop ≡ Memory) × Keeps held holds) ⊎ ((stop ≡ WriteFault) × failed × AppendsFront held holds text)
