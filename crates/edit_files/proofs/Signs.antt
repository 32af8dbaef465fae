-- An edit line, by its first two bytes.
use Rattle.std.proofs.Common.{◌≡◌, ◌≢◌, ℕ, suc, ◌≤◌, length, get_or, drop, arith, eq-eqb, true, false, eqb, List, []}
use Rattle.std.proofs.Common.{◌∷◌, Err, refl}
use Rattle.std.proofs.lemmas.Bool.{ne_eqb}
use Rattle.text_readings.specs.declared.fault.Why.TheVariants.{Field}
use Rattle.edit_files.specs.declared.version.Version.{Version}
use Rattle.edit_files.specs.Content.{row}
use Rattle.edit_files.specs.Judging.{edit, edit_at, halves, move_of}

-- an edit line, by its first two bytes
pub edit_is : (v : Version) (line : List ℕ) → 2 ≤ length line → get_or line 1 0 ≡ 32 →
    edit v line ≡ edit_at v (get_or line 0 0) (drop 2 line)
unfolding edit
edit_is v [] len space = absurd (omega arith)
edit_is v (s ∷ []) len space = absurd (omega arith)
edit_is v (s ∷ b ∷ rest) len space = let e : eqb b 32 ≡ true = eq-eqb b 32 space in rw e refl

-- a line of fewer than two bytes is no edit line
pub edit_short : (v : Version) (line : List ℕ) → suc (length line) ≤ 2 → edit v line ≡ Err Field
unfolding edit
edit_short v [] len = refl
edit_short v (s ∷ []) len = refl
edit_short v (s ∷ b ∷ rest) len = absurd (omega arith)

-- nor is one whose second byte is no space
pub edit_other : (v : Version) (line : List ℕ) → 2 ≤ length line → get_or line 1 0 ≢ 32 → edit v line ≡ Err Field
unfolding edit
edit_other v [] len space = absurd (omega arith)
edit_other v (s ∷ []) len space = absurd (omega arith)
edit_other v (s ∷ b ∷ rest) len space = let e : eqb b 32 ≡ false = ne_eqb b 32 space in rw e refl

-- what an equals sign and other signs do
pub at_equals : (v : Version) (sign : ℕ) (rest : List ℕ) → sign ≡ 61 → (row v).moves ≡ true →
    edit_at v sign rest ≡ move_of (halves rest)
at_equals v sign rest e may = rw (e, may) refl

-- in a version without moves an equals sign makes no edit
pub at_equals_unmoved : (v : Version) (sign : ℕ) (rest : List ℕ) → sign ≡ 61 → (row v).moves ≡ false →
    edit_at v sign rest ≡ Err Field
at_equals_unmoved v sign rest e may = rw (e, may) refl

-- nor does any sign but plus, minus and the equals sign
pub at_other : (v : Version) (sign : ℕ) (rest : List ℕ) → sign ≢ 43 → sign ≢ 45 → sign ≢ 61 →
    edit_at v sign rest ≡ Err Field
at_other v sign rest plus minus equals =
    let p : eqb sign 43 ≡ false = ne_eqb _ _ plus in
    let m : eqb sign 45 ≡ false = ne_eqb _ _ minus in
    let e : eqb sign 61 ≡ false = ne_eqb _ _ equals in
    rw (p, m, e) refl
