-- The same of edit lines and of radius lines.
use Rattle.std.proofs.Common.{◌≡◌, ℕ, ◌<◌, ◌≤◌, Bool, true, false, eqb, ltb, ◌⊎◌, List, [], ◌∷◌, Option, Some, None, Ok}
use Rattle.std.proofs.Common.{Err, refl, sym, ap, subst, ◌∙◌, arith, inl, inr, lit<}
use Rattle.std.specs.Prelude.{IsTrue}
use Rattle.std.proofs.lemmas.Bool.{cases_lt, lt-ltb, le-ltb}
use Rattle.std.proofs.lemmas.Bool.Decides.{eqb_tells}
use Rattle.edit_history.specs.declared.history.Edit.{Edit}
use Rattle.edit_history.specs.declared.history.Edit.TheVariants.{Add, Take, Move}
use Rattle.text_readings.specs.declared.fault.Why.{Why}
use Rattle.text_readings.specs.declared.fault.Why.TheVariants.{Field, Range}
use Rattle.edit_files.specs.declared.version.Version.{Version}
use Rattle.edit_files.specs.declared.version.Version.TheVariants.{One, Two, Three, Four}
use Rattle.edit_files.specs.Content.{row}
use Rattle.text_readings.specs.PointLines.{IsNumber, HasPointForm}
use Rattle.edit_files.specs.Grammar.{HasPairForm, HasEditForm, IsEditLine, IsRadiusLine}
use Rattle.text_readings.specs.Scanning.{far, number, point}
use Rattle.edit_files.specs.Judging.{edit, edit_from, radius, radius_from}
use Rattle.text_readings.proofs.Cited.{number_some, number_none_not, number_of, of_number, Decides, point_sound}
use Rattle.text_readings.proofs.Cited.{point_complete, point_field, point_range, point_only, err_same, ok_same}
use Rattle.edit_files.proofs.Pairs.{from_ok, from_err, move_line, pair_sound, pair_complete, pair_field, pair_range}
use Rattle.edit_files.proofs.Pairs.{pair_only, refused_same}

-- ---- edits

-- how an edit line begins that adds or takes
record Begins (version : Version) (line : List ℕ) (sign : ℕ) (kind : ℕ → Edit) : Type 0 where
  rest : List ℕ
  is : line ≡ sign ∷ 32 ∷ rest
  reads : edit version line ≡ edit_from kind (point rest)

-- and one that moves
record Moves (version : Version) (line : List ℕ) : Type 0 where
  rest : List ℕ
  is : line ≡ 61 ∷ 32 ∷ rest
  may : (row version).moves ≡ true
  reads : edit version line ≡ move_line rest

-- a line whose second byte is no space is no edit line
edit_bad : (v : Version) (s b : ℕ) (rest : List ℕ) → eqb b 32 ≡ false → edit v (s ∷ b ∷ rest) ≡ Err Field
unfolding edit
edit_bad v s b rest h = rw h refl

-- behind a plus and a space an add of the point that is read
edit_plus : (v : Version) (rest : List ℕ) → edit v (43 ∷ 32 ∷ rest) ≡ edit_from Add (point rest)
unfolding edit
edit_plus v rest = refl

-- behind a minus and a space a take of it
edit_minus : (v : Version) (rest : List ℕ) → edit v (45 ∷ 32 ∷ rest) ≡ edit_from Take (point rest)
unfolding edit
edit_minus v rest = refl

-- behind an equals sign and a space, in a version with moves, a move of the two places that are read
edit_equals : (v : Version) (rest : List ℕ) → (row v).moves ≡ true → edit v (61 ∷ 32 ∷ rest) ≡ move_line rest
unfolding edit
edit_equals v rest may = rw may refl

-- in a version without moves a line with an equals sign is no edit line
edit_unmoved : (v : Version) (s b : ℕ) (rest : List ℕ) → b ≡ 32 → s ≡ 61 → (row v).moves ≡ false →
    edit v (s ∷ b ∷ rest) ≡ Err Field
unfolding edit
edit_unmoved v s b rest space sign none = rw (space, sign, none) refl

-- a line with any other sign is none
edit_unsigned : (v : Version) (s b : ℕ) (rest : List ℕ) → b ≡ 32 → eqb s 43 ≡ false → eqb s 45 ≡ false →
    eqb s 61 ≡ false → edit v (s ∷ b ∷ rest) ≡ Err Field
unfolding edit
edit_unsigned v s b rest space plus minus equals = rw (space, plus, minus, equals) refl

-- an empty line is none
edit_short : (v : Version) → edit v [] ≡ Err Field
unfolding edit
edit_short v = refl

-- a line of one byte is none
edit_one : (v : Version) (s : ℕ) → edit v (s ∷ []) ≡ Err Field
unfolding edit
edit_one v s = refl

-- a line whose first two bytes are a sign and a space is the sign, a space and the rest
signed : (line : List ℕ) (sign s b : ℕ) (rest : List ℕ) → line ≡ s ∷ b ∷ rest → s ≡ sign → b ≡ 32 →
    line ≡ sign ∷ 32 ∷ rest
signed line sign s b rest e se be = e ∙ ap (λ (n : ℕ). n ∷ b ∷ rest) se ∙ ap (λ (n : ℕ). sign ∷ n ∷ rest) be

-- such a line that is read as an edit of one point begins so
begins : (v : Version) (line : List ℕ) (sign : ℕ) (kind : ℕ → Edit) (rest : List ℕ) → line ≡ sign ∷ 32 ∷ rest →
    edit v (sign ∷ 32 ∷ rest) ≡ edit_from kind (point rest) → Begins v line sign kind
begins v line sign kind rest is reads = record { rest = rest; is = is; reads = ap (edit v) is ∙ reads }

-- how a line is read: as no edit line, or as an add, a take or a move
abbrev Seen : Version → List ℕ → Type 0
Seen v line = (edit v line ≡ Err Field) ⊎ Begins v line 43 Add ⊎ Begins v line 45 Take ⊎ Moves v line

-- so is a line with an equals sign, whether the version has moves or not
move_view : (v : Version) (s b : ℕ) (rest : List ℕ) (may : Bool) → (row v).moves ≡ may → b ≡ 32 → s ≡ 61 →
    Seen v (s ∷ b ∷ rest)
move_view v s b rest true may p q =
    let is = signed (s ∷ b ∷ rest) 61 s b rest refl q p in
    inr (inr (inr (record { rest = rest; is = is; may = may; reads = ap (edit v) is ∙ edit_equals v rest may })))
move_view v s b rest false may p q = inl (edit_unmoved v s b rest p q may)

-- so is every line
edit_view : (v : Version) (line : List ℕ) → Seen v line
edit_view v [] = inl (edit_short v)
edit_view v (s ∷ []) = inl (edit_one v s)
edit_view v (s ∷ b ∷ rest) =
    let line : List ℕ = s ∷ b ∷ rest in
    elim (eqb_tells b 32) [
      | inr q ↦ inl (edit_bad v s b rest q.0)
      | inl p ↦ elim (eqb_tells s 43) [
        | inl q ↦ inr (inl (begins v line 43 Add rest (signed line 43 s b rest refl q.1 p.1) (edit_plus v rest)))
        | inr q ↦ elim (eqb_tells s 45) [
          | inl r ↦
              inr (inr (inl (begins v line 45 Take rest (signed line 45 s b rest refl r.1 p.1) (edit_minus v rest))))
          | inr r ↦ elim (eqb_tells s 61) [
            | inl t ↦ move_view v s b rest (row v).moves refl p.1 t.1
            | inr t ↦ inl (edit_unsigned v s b rest p.1 q.0 r.0 t.0)
          ]
        ]
      ]
    ]

-- an edit that is read of a line is what the line says
edit_sound : (v : Version) (line : List ℕ) (e : Edit) → edit v line ≡ Ok e → IsEditLine v line e
edit_sound v line e h = by (edit_view v line)
  where
    by : Seen v line → IsEditLine v line e
    by (inl f) = absurd cc
    by (inr (inl b)) =
        let p = from_ok Add (point b.rest) e (sym b.reads ∙ h) in
        subst (λ (d : Edit). IsEditLine v line d) p.2 (b.rest, b.is, point_sound b.rest p.0 p.1)
    by (inr (inr (inl b))) =
        let p = from_ok Take (point b.rest) e (sym b.reads ∙ h) in
        subst (λ (d : Edit). IsEditLine v line d) p.2 (b.rest, b.is, point_sound b.rest p.0 p.1)
    by (inr (inr (inr m))) =
        let p = pair_sound m.rest e (sym m.reads ∙ h) in
        subst (λ (d : Edit). IsEditLine v line d) p.3 (m.rest, m.is, m.may, p.2)

-- an edit that a line says is read of it
edit_complete : (v : Version) (line : List ℕ) (e : Edit) → IsEditLine v line e → edit v line ≡ Ok e
edit_complete v line (Add p) s = ap (edit v) s.1 ∙ edit_plus v s.0 ∙ ap (edit_from Add) (point_complete s.0 p s.2)
edit_complete v line (Take p) s = ap (edit v) s.1 ∙ edit_minus v s.0 ∙ ap (edit_from Take) (point_complete s.0 p s.2)
edit_complete v line (Move a b) s = ap (edit v) s.1 ∙ edit_equals v s.0 s.2 ∙ pair_complete s.0 a b s.3

-- a line that is refused for its form is not of it
edit_field : (v : Version) (line : List ℕ) → edit v line ≡ Err Field → HasEditForm v line → ⊥
edit_field v line h f = by f.1
  where
    by : (((line ≡ 43 ∷ 32 ∷ f.0) ⊎ (line ≡ 45 ∷ 32 ∷ f.0)) × HasPointForm f.0)
        ⊎ ((line ≡ 61 ∷ 32 ∷ f.0) × IsTrue (row v).moves × HasPairForm f.0) → ⊥
    by (inl (inl e, form)) =
        point_field f.0 (from_err Add (point f.0) Field (sym (ap (edit v) e ∙ edit_plus v f.0) ∙ h)) form
    by (inl (inr e, form)) =
        point_field f.0 (from_err Take (point f.0) Field (sym (ap (edit v) e ∙ edit_minus v f.0) ∙ h)) form
    by (inr m) = pair_field f.0 (sym (ap (edit v) m.0 ∙ edit_equals v f.0 m.1) ∙ h) m.2

-- one that is refused for its range is of the form
edit_range : (v : Version) (line : List ℕ) → edit v line ≡ Err Range → HasEditForm v line
edit_range v line h = by (edit_view v line)
  where
    by : Seen v line → HasEditForm v line
    by (inl f) = absurd cc
    by (inr (inl b)) =
        (b.rest, inl (inl b.is, point_range b.rest (from_err Add (point b.rest) Range (sym b.reads ∙ h))))
    by (inr (inr (inl b))) =
        (b.rest, inl (inr b.is, point_range b.rest (from_err Take (point b.rest) Range (sym b.reads ∙ h))))
    by (inr (inr (inr m))) = (m.rest, inr (m.is, m.may, pair_range m.rest (sym m.reads ∙ h)))

-- an edit line is refused for its form or for its range
edit_only : (v : Version) (line : List ℕ) (why : Why) → edit v line ≡ Err why → (why ≡ Field) ⊎ (why ≡ Range)
edit_only v line why h = by (edit_view v line)
  where
    by : Seen v line → (why ≡ Field) ⊎ (why ≡ Range)
    by (inl f) = inl (refused_same why Field (sym h ∙ f))
    by (inr (inl b)) = point_only b.rest why (from_err Add (point b.rest) why (sym b.reads ∙ h))
    by (inr (inr (inl b))) = point_only b.rest why (from_err Take (point b.rest) why (sym b.reads ∙ h))
    by (inr (inr (inr m))) = pair_only m.rest why (sym m.reads ∙ h)

-- so reading an edit decides what a line says
pub edits_decided : (v : Version) → Decides (edit v) (IsEditLine v) (HasEditForm v)
edits_decided v = record {
  sound = edit_sound v;
  complete = edit_complete v;
  field = edit_field v;
  range = edit_range v;
  only = edit_only v;
}

-- ---- radii

-- the radii of a version are below `far`
pub end_far : (v : Version) → (row v).radius_end < far
end_far One = lit< tt
end_far Two = lit< tt
end_far Three = lit< tt
end_far Four = lit< tt

-- the radius of a line is what its number is in the version
radius_is : (v : Version) (line : List ℕ) (o : Option ℕ) → number line ≡ o → radius v line ≡ radius_from v o
unfolding radius
radius_is v line o h = ap (radius_from v) h

-- a number is a radius of the version, or out of its range
from_cases : (v : Version) (n : ℕ) → ((n < (row v).radius_end) × (radius_from v (Some n) ≡ Ok n))
    ⊎ (((row v).radius_end ≤ n) × (radius_from v (Some n) ≡ Err Range))
from_cases v n =
    elim (cases_lt n (row v).radius_end) [
      | inl lt ↦ let e : ltb n (row v).radius_end ≡ true = lt-ltb _ _ lt in inl (lt, rw e refl)
      | inr le ↦ let e : ltb n (row v).radius_end ≡ false = le-ltb _ _ le in inr (le, rw e refl)
    ]

-- a number, and what is read of it; or no number
radius_view : (v : Version) (line : List ℕ) (o : Option ℕ) → number line ≡ o →
    ((radius v line ≡ Err Field) × (IsNumber line → ⊥))
    ⊎ ((n : ℕ) × (number line ≡ Some n) × (radius v line ≡ radius_from v (Some n)))
radius_view v line None h = inl (radius_is v line None h, number_none_not line h)
radius_view v line (Some n) h = inr (n, h, radius_is v line (Some n) h)

-- a radius that is read of a line is what the line says
radius_sound : (v : Version) (line : List ℕ) (r : ℕ) → radius v line ≡ Ok r → IsRadiusLine v line r
radius_sound v line r h =
    elim (radius_view v line (number line) refl) [
      | inl e ↦ (let f = e.0 in absurd cc)
      | inr w ↦ elim (from_cases v w.0) [
        | inr e ↦ (let f = w.2 in let g = e.1 in absurd cc)
        | inl e ↦
            let same : w.0 ≡ r = ok_same w.0 r (sym e.1 ∙ sym w.2 ∙ h) in
            subst (λ (n : ℕ). IsRadiusLine v line n) same
            (of_number line w.0 w.1 (omega (arith, e.0, end_far v)), e.0)
      ]
    ]

-- a radius that a line says is read of it
radius_complete : (v : Version) (line : List ℕ) (r : ℕ) → IsRadiusLine v line r → radius v line ≡ Ok r
radius_complete v line r s =
    let read : number line ≡ Some r = number_of line r s.0 (omega (arith, s.1, end_far v)) in
    elim (from_cases v r) [
      | inl e ↦ radius_is v line (Some r) read ∙ e.1
      | inr e ↦ absurd (omega (arith, s.1, e.0))
    ]

-- a line that is refused for its form is no number
radius_field : (v : Version) (line : List ℕ) → radius v line ≡ Err Field → IsNumber line → ⊥
radius_field v line h f =
    elim (radius_view v line (number line) refl) [
      | inl e ↦ e.1 f
      | inr w ↦ elim (from_cases v w.0) [
        | inl e ↦ (let f = w.2 in let g = e.1 in absurd cc)
        | inr e ↦ (let f = w.2 in let g = e.1 in absurd cc)
      ]
    ]

-- one that is refused for its range is a number
radius_range : (v : Version) (line : List ℕ) → radius v line ≡ Err Range → IsNumber line
radius_range v line h =
    elim (radius_view v line (number line) refl) [
      | inl e ↦ (let f = e.0 in absurd cc)
      | inr w ↦ number_some line w.0 w.1
    ]

-- a radius line is refused for its form or for its range
radius_only : (v : Version) (line : List ℕ) (why : Why) → radius v line ≡ Err why → (why ≡ Field) ⊎ (why ≡ Range)
radius_only v line why h =
    elim (radius_view v line (number line) refl) [
      | inl e ↦ inl (err_same why Field (sym h ∙ e.0))
      | inr w ↦ elim (from_cases v w.0) [
        | inl e ↦ (let f = w.2 in let g = e.1 in absurd cc)
        | inr e ↦ inr (err_same why Range (sym h ∙ w.2 ∙ e.1))
      ]
    ]

-- so reading a radius decides what a line says
pub radii_decided : (v : Version) → Decides (radius v) (IsRadiusLine v) IsNumber
radii_decided v = record {
  sound = radius_sound v;
  complete = radius_complete v;
  field = radius_field v;
  range = radius_range v;
  only = radius_only v;
}
