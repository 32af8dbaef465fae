-- The first line of a text and the first field of a line, found by the first place of a byte.
use Rattle.std.proofs.Common.{◌≡◌, ◌≢◌, ℕ, zero, suc, ◌+◌, ◌<◌, true, false, eqb, List, [], ◌∷◌, length, get_or, take}
use Rattle.std.proofs.Common.{drop, refl, ap, arith, eq-eqb, add-one}
use Rattle.std.proofs.lemmas.Bool.{ne_eqb}
use Rattle.std.specs.List.{slice_split, onto_first}
use Rattle.text_readings.specs.Readings.{lines_of}

-- the first line ends at the first line feed
lines_at : (bs : List ℕ) (i : ℕ) → i < length bs → get_or bs i 0 ≡ 10 → ((k : ℕ) → k < i → get_or bs k 0 ≢ 10) →
    lines_of bs ≡ take i bs ∷ lines_of (drop (suc i) bs)
lines_at [] i lt is before = absurd (omega arith)
lines_at (b ∷ bs) zero lt is before = let e : eqb b 10 ≡ true = eq-eqb b 10 is in rw e refl
lines_at (b ∷ bs) (suc i) lt is before =
    let e : eqb b 10 ≡ false = ne_eqb b 10 (before 0 (omega arith)) in
    let h : i < length bs = omega arith in
    let rest : lines_of bs ≡ take i bs ∷ lines_of (drop (suc i) bs) =
    lines_at bs i h is (λ k lt. before (suc k) (omega arith)) in
    rw (e, rest) refl

-- and the text's other lines are those of the bytes behind it
pub lines_cut : (bs : List ℕ) (i : ℕ) → i < length bs → get_or bs i 0 ≡ 10 → ((k : ℕ) → k < i → get_or bs k 0 ≢ 10) →
    lines_of bs ≡ take i bs ∷ lines_of (drop (i + 1) bs)
lines_cut bs i lt is before = rw add-one (lines_at bs i lt is before)

-- bytes with no line feed are one line
pub lines_whole : (bs : List ℕ) → 0 < length bs → ((k : ℕ) → k < length bs → get_or bs k 0 ≢ 10) → lines_of bs ≡ bs ∷ []
lines_whole [] lt none = absurd (omega arith)
lines_whole (b ∷ []) lt none = let e : eqb b 10 ≡ false = ne_eqb b 10 (none 0 (omega arith)) in rw e refl
lines_whole (b ∷ c ∷ cs) lt none =
    let e : eqb b 10 ≡ false = ne_eqb b 10 (none 0 (omega arith)) in
    let rest : lines_of (c ∷ cs) ≡ (c ∷ cs) ∷ [] = lines_whole (c ∷ cs) (omega arith) (λ k lt. none (suc k)
    (omega arith)) in
    rw e (ap (onto_first b) rest)

-- the first field ends at the first space
fields_at : (bs : List ℕ) (i : ℕ) → i < length bs → get_or bs i 0 ≡ 32 → ((k : ℕ) → k < i → get_or bs k 0 ≢ 32) →
    slice_split (λ b. eqb b 32) bs ≡ take i bs ∷ slice_split (λ b. eqb b 32) (drop (suc i) bs)
fields_at [] i lt is before = absurd (omega arith)
fields_at (b ∷ bs) zero lt is before = let e : eqb b 32 ≡ true = eq-eqb b 32 is in rw e refl
fields_at (b ∷ bs) (suc i) lt is before =
    let e : eqb b 32 ≡ false = ne_eqb b 32 (before 0 (omega arith)) in
    let h : i < length bs = omega arith in
    let rest : slice_split (λ b. eqb b 32) bs ≡ take i bs ∷ slice_split (λ b. eqb b 32) (drop (suc i) bs) =
    fields_at bs i h is (λ k lt. before (suc k) (omega arith)) in
    rw (e, rest) refl

-- and the line's other fields are those of the bytes behind it
pub fields_cut : (bs : List ℕ) (i : ℕ) → i < length bs → get_or bs i 0 ≡ 32 → ((k : ℕ) → k < i → get_or bs k 0 ≢ 32) →
    slice_split (λ b. eqb b 32) bs ≡ take i bs ∷ slice_split (λ b. eqb b 32) (drop (i + 1) bs)
fields_cut bs i lt is before = rw add-one (fields_at bs i lt is before)

-- bytes with no space are one field
pub fields_whole : (bs : List ℕ) → ((k : ℕ) → k < length bs → get_or bs k 0 ≢ 32) →
    slice_split (λ b. eqb b 32) bs ≡ bs ∷ []
fields_whole [] none = refl
fields_whole (b ∷ bs) none =
    let e : eqb b 32 ≡ false = ne_eqb b 32 (none 0 (omega arith)) in
    let rest : slice_split (λ b. eqb b 32) bs ≡ bs ∷ [] = fields_whole bs (λ k lt. none (suc k) (omega arith)) in
    rw (e, rest) refl
