-- Which statuses are those of a text.
use Rattle.std.specs.Prelude.{Option, None, Some}
use Rattle.std.proofs.Common.{◌≡◌, ◌≢◌, ◌⊎◌, inl, inr, refl, sym, ◌∙◌, ℕ, ◌<◌, ◌≤◌, arith}
use Rattle.command_words.specs.declared.stop.Stop.{Stop}
use Rattle.command_words.specs.declared.stop.Stop.TheVariants.{NoPart, NoAlpha, BadMesh}
use Rattle.command_words.specs.Stops.{IsLate, line_of_end, status_of_end}
use Rattle.command_words.specs.Lines.{plain_line}
use Rattle.command_pages.specs.Statuses.{HasText, IsWrittenWhole}

-- a status with a text is 0, 4 or above 7
pub no_other : (status : ℕ) → HasText status → (k : ℕ) → 0 < k → k ≤ 7 → 4 ≢ k → status ≡ k → ⊥
no_other status (inl (inl z)) k a b n e = omega (arith, a, z, e)
no_other status (inl (inr l)) k a b n e = omega (arith, b, l, e)
no_other status (inr z) k a b n e = n (sym z ∙ e)

-- a status that is 0 or 4 is one with a text
pub has_text : (status : ℕ) → (status ≡ 0) ⊎ (status ≡ 4) → HasText status
has_text status s = elim s [ inl z ↦ inl (inl z) | inr z ↦ inr z ]

-- so of the statuses up to 7 only 0 and 4 are
pub stopped_only : (status : ℕ) → status ≤ 7 → status ≢ 0 → status ≢ 4 → HasText status → ⊥
stopped_only status l a b (inl (inl z)) = a z
stopped_only status l a b (inl (inr m)) = omega (arith, l, m)
stopped_only status l a b (inr z) = b z

-- and 1 and 2 are none
pub early_only : (status : ℕ) → (status ≡ 1) ⊎ (status ≡ 2) → HasText status → ⊥
early_only status (inl z) k = no_other status k 1 (omega arith) (omega arith) (λ e. omega (arith, e)) z
early_only status (inr z) k = no_other status k 2 (omega arith) (omega arith) (λ e. omega (arith, e)) z

-- a status of a whole text is none from 1 to 7
pub whole_only : (status k : ℕ) → IsWrittenWhole status → 0 < k → k ≤ 7 → status ≡ k → ⊥
whole_only status k (inl z) a b e = omega (arith, a, z, e)
whole_only status k (inr l) a b e = omega (arith, b, l, e)

-- a status with which nothing is made: one of 1, 3, 5, 6 and 7, and 3 only where the source failed
abbrev pub IsOfNothing : Type 0 → ℕ → Type 0
IsOfNothing failed status =
    (status ≤ 7) × (status ≢ 0) × (status ≢ 2) × (status ≢ 4) × (status ≡ 3 → failed)

-- what is told of it has a status of a whole text, and its own line
pub late_whole : (after : Option Stop) → IsLate after → IsWrittenWhole (status_of_end after)
    × (status_of_end after ≤ 10) ×
    (line_of_end after ≡ plain_line (status_of_end after))
late_whole None l = (inl refl, omega arith, refl)
late_whole (Some NoPart) l = (inr (omega arith), omega arith, refl)
late_whole (Some NoAlpha) l = (inr (omega arith), omega arith, refl)
late_whole (Some BadMesh) l = (inr (omega arith), omega arith, refl)
late_whole (Some stop) l = absurd l
