-- Lines of two places, as a move has them.
use Rattle.std.proofs.Common.{◌≡◌, ℕ, ◌+◌, ◌-◌, ◌≤◌, ◌⊎◌, List, [], ◌∷◌, ◌++◌, length, take, Some, None, Result, Ok}
use Rattle.std.proofs.Common.{Err, refl, sym, ap, subst, ◌∙◌, arith, inl, inr}
use Rattle.std.specs.List.{join_with_byte}
use Rattle.std.proofs.Math.Seq.{take-append_seam}
use Rattle.std.proofs.lemmas.List.{length-append}
use Rattle.std.proofs.lemmas.List.Splits.{join_with_byte-slice_split}
use Rattle.edit_history.specs.declared.history.Edit.{Edit}
use Rattle.edit_history.specs.declared.history.Edit.TheVariants.{Move}
use Rattle.text_readings.specs.declared.fault.Why.{Why}
use Rattle.text_readings.specs.declared.fault.Why.TheVariants.{Section, Field, Range, TooMany, Truncated}
use Rattle.text_readings.specs.PointLines.{HasPointForm, three_spaced}
use Rattle.edit_files.specs.Grammar.{HasPairForm, IsPairLine}
use Rattle.text_readings.specs.Scanning.{point, fields_of}
use Rattle.edit_files.specs.Judging.{halves, halves_of, worse, move_from, move_of, edit_from}
use Rattle.text_readings.proofs.Cited.{some_field, four_fields, from_four, point_sound, point_complete, point_field}
use Rattle.text_readings.proofs.Cited.{point_range, point_only}

-- ---- two places

-- an edit that is read
abbrev pub made : Edit → Result Edit Why
made e = Ok e

-- it is read as one edit
pub made_same : (d e : Edit) → made d ≡ made e → d ≡ e
made_same d e h = cc

-- an edit line that is not read, and why
abbrev pub refused : Why → Result Edit Why
refused why = Err why

-- it is not read for one reason
pub refused_same : (v w : Why) → refused v ≡ refused w → v ≡ w
refused_same v w h = cc

-- the move of a line of two places
abbrev pub move_line : List ℕ → Result Edit Why
move_line line = move_of (halves line)

-- where a line is cut in two depends on its fields alone
pub halves_fields : (line : List ℕ) (fs : List (List ℕ)) → fields_of line ≡ fs → halves line ≡ halves_of fs
unfolding halves
halves_fields line fs e = ap halves_of e

-- a line that is cut into two places
record Cut (line : List ℕ) : Type 0 where
  from : List ℕ
  to : List ℕ
  fields : line ≡ from ++ 32 ∷ to
  reads : move_line line ≡ move_from (point from) (point to)

-- a line with these fields is not cut, or it is the two places that it is cut into
cut_view : (line : List ℕ) (fs : List (List ℕ)) → fields_of line ≡ fs → (halves line ≡ None) ⊎ Cut line
cut_view line [] e = inl (halves_fields line [] e)
cut_view line (x ∷ []) e = inl (halves_fields line (x ∷ []) e)
cut_view line (x ∷ y ∷ []) e = inl (halves_fields line (x ∷ y ∷ []) e)
cut_view line (x ∷ y ∷ z ∷ []) e = inl (halves_fields line (x ∷ y ∷ z ∷ []) e)
cut_view line (x ∷ y ∷ z ∷ u ∷ fs) e =
    inr (record {
      from = three_spaced x y z;
      to = join_with_byte 32 (u ∷ fs);
      fields = from_four line x y z u fs e;
      reads = ap move_of (halves_fields line (x ∷ y ∷ z ∷ u ∷ fs) e);
    })

-- two places are cut at the space between them
halves_pair : (line : List ℕ) (f : HasPairForm line) → halves line ≡ Some (f.from, f.to)
halves_pair line f =
    let x = f.from_form.x in
    let y = f.from_form.y in
    let z = f.from_form.z in
    let more = some_field f.to in
    let cut : fields_of line ≡ x ∷ y ∷ z ∷ more.0 ∷ more.1 =
    ap fields_of (f.fields ∙ ap (λ (l : List ℕ). l ++ 32 ∷ f.to) f.from_form.fields)
    ∙ four_fields x y z f.to f.from_form.x_number f.from_form.y_number f.from_form.z_number
    ∙ ap (λ (fs : List (List ℕ)). x ∷ y ∷ z ∷ fs) more.2 in
    let back : join_with_byte 32 (more.0 ∷ more.1) ≡ f.to =
    ap (join_with_byte 32) (sym more.2) ∙ join_with_byte-slice_split 32 f.to in
    halves_fields line (x ∷ y ∷ z ∷ more.0 ∷ more.1) cut
    ∙ ap (λ (l : List ℕ). Some (l, join_with_byte 32 (more.0 ∷ more.1))) (sym f.from_form.fields)
    ∙ ap (λ (l : List ℕ). Some (f.from, l)) back

-- of a line of the form of two places a move is read where both are points
pair_reads : (line : List ℕ) (f : HasPairForm line) → move_line line ≡ move_from (point f.from) (point f.to)
pair_reads line f = ap move_of (halves_pair line f)

-- what a move reads
pub from_ok : (kind : ℕ → Edit) (r : Result ℕ Why) (e : Edit) → edit_from kind r ≡ Ok e →
    (p : ℕ) × (r ≡ Ok p) × (kind p ≡ e)
from_ok kind (Ok p) e h = (p, refl, made_same (kind p) e h)
from_ok kind (Err why) e h = absurd cc

-- where no edit of one point is made, no point was read, for the same reason
pub from_err : (kind : ℕ → Edit) (r : Result ℕ Why) (why : Why) → edit_from kind r ≡ Err why → r ≡ Err why
from_err kind (Ok p) why h = absurd cc
from_err kind (Err v) why h = ap (λ (w : Why). Err w) (refused_same v why h)

-- a move was made of two points that were read
move_ok : (r s : Result ℕ Why) (e : Edit) → move_from r s ≡ Ok e →
    (a : ℕ) × (b : ℕ) × (r ≡ Ok a) × (s ≡ Ok b) × (Move a b ≡ e)
move_ok (Ok a) s e h = let p = from_ok (Move a) s e h in (a, p.0, refl, p.1, p.2)
move_ok (Err why) s e h = absurd cc

-- a place that is not of its form is one of the two
worse_field : (v : Why) (s : Result ℕ Why) → worse v s ≡ Field → (v ≡ Field) ⊎ (s ≡ Err Field)
worse_field v (Ok b) h = inl h
worse_field v (Err Section) h = inl h
worse_field v (Err Field) h = inr refl
worse_field v (Err Range) h = inl h
worse_field v (Err TooMany) h = inl h
worse_field v (Err Truncated) h = inl h

-- so a move is wrong in form where one of its places is
move_field : (r s : Result ℕ Why) → move_from r s ≡ Err Field → (r ≡ Err Field) ⊎ (s ≡ Err Field)
move_field (Ok a) s h = inr (from_err (Move a) s Field h)
move_field (Err v) s h =
    elim (worse_field v s (refused_same (worse v s) Field h)) [
      | inl e ↦ inl (ap (λ (w : Why). Err w) e)
      | inr e ↦ inr e
    ]

-- where a move is out of range, none of the places is not of its form
worse_range : (v : Why) (s : Result ℕ Why) → worse v s ≡ Range → (v ≡ Range) × (s ≡ Err Field → ⊥)
worse_range v (Ok b) h = (h, λ e. absurd cc)
worse_range v (Err Section) h = (h, λ e. absurd cc)
worse_range v (Err Field) h = absurd cc
worse_range v (Err Range) h = (h, λ e. absurd cc)
worse_range v (Err TooMany) h = (h, λ e. absurd cc)
worse_range v (Err Truncated) h = (h, λ e. absurd cc)

-- and out of range where neither is
move_range : (r s : Result ℕ Why) → move_from r s ≡ Err Range → (r ≡ Err Field → ⊥) × (s ≡ Err Field → ⊥)
move_range (Ok a) s h = (λ e. absurd cc, λ e. (let k : s ≡ Err Range = from_err (Move a) s Range h in absurd cc))
move_range (Err v) s h =
    let w = worse_range v s (refused_same (worse v s) Range h) in
    (λ e. (let k : v ≡ Range = w.0 in absurd cc), w.1)

-- the worse of two reasons is the form or the range
worse_only : (v : Why) (s : Result ℕ Why) → (v ≡ Field) ⊎ (v ≡ Range) → (worse v s ≡ Field) ⊎ (worse v s ≡ Range)
worse_only v (Ok b) h = h
worse_only v (Err Section) h = h
worse_only v (Err Field) h = inl refl
worse_only v (Err Range) h = h
worse_only v (Err TooMany) h = h
worse_only v (Err Truncated) h = h

-- a move is refused for its form or for its range
move_only : (from to : List ℕ) (r : Result ℕ Why) (why : Why) → point from ≡ r →
    move_from r (point to) ≡ Err why → (why ≡ Field) ⊎ (why ≡ Range)
move_only from to (Ok a) why e h = point_only to why (from_err (Move a) (point to) why h)
move_only from to (Err v) why e h =
    subst (λ (w : Why). (w ≡ Field) ⊎ (w ≡ Range)) (refused_same (worse v (point to)) why h)
    (worse_only v (point to) (point_only from v e))

-- a line that is read as no line of a wrong form has the form
formed : (line : List ℕ) (r : Result ℕ Why) → point line ≡ r → (point line ≡ Err Field → ⊥) → HasPointForm line
formed line (Ok p) e n =
    let s = point_sound line p e in
    record {
      x = s.x;
      y = s.y;
      z = s.z;
      fields = s.fields;
      x_number = s.x_value.number;
      y_number = s.y_value.number;
      z_number = s.z_value.number;
    }
formed line (Err v) e n =
    elim (point_only line v e) [
      | inl f ↦ absurd (n (e ∙ ap (λ (w : Why). Err w) f))
      | inr f ↦ point_range line (e ∙ ap (λ (w : Why). Err w) f)
    ]

-- a line that says two places is of their form
pair_form : (line : List ℕ) (a b : ℕ) → IsPairLine line a b → HasPairForm line
pair_form line a b s = record {
  from = s.from;
  to = s.to;
  fields = s.fields;
  from_form = formed s.from (Ok a) (point_complete s.from a s.from_point)
      (λ e. (let k = point_complete s.from a s.from_point in absurd cc));
  to_form = formed s.to (Ok b) (point_complete s.to b s.to_point)
      (λ e. (let k = point_complete s.to b s.to_point in absurd cc));
}

-- a move that is read of a line is of the two places that the line says
pub pair_sound : (line : List ℕ) (e : Edit) → move_line line ≡ Ok e →
    (a : ℕ) × (b : ℕ) × IsPairLine line a b × (Move a b ≡ e)
pair_sound line e h =
    elim (cut_view line (fields_of line) refl) [
      | inl none ↦ (let k : move_line line ≡ Err Field = ap move_of none in absurd cc)
      | inr c ↦
          let m = move_ok (point c.from) (point c.to) e (sym c.reads ∙ h) in (
            m.0,
            m.1,
            record {
              from = c.from;
              to = c.to;
              fields = c.fields;
              from_point = point_sound c.from m.0 m.2;
              to_point = point_sound c.to m.1 m.3;
            },
            m.4,
          )
    ]

-- two places that a line says are read of it as a move
pub pair_complete : (line : List ℕ) (a b : ℕ) → IsPairLine line a b → move_line line ≡ Ok (Move a b)
unfolding pair_form
pair_complete line a b s =
    pair_reads line (pair_form line a b s)
    ∙ ap (λ (r : Result ℕ Why). move_from r (point s.to)) (point_complete s.from a s.from_point)
    ∙ ap (edit_from (Move a)) (point_complete s.to b s.to_point)

-- a line that is refused for its form is not of it
pub pair_field : (line : List ℕ) → move_line line ≡ Err Field → HasPairForm line → ⊥
pair_field line h f =
    elim (move_field (point f.from) (point f.to) (sym (pair_reads line f) ∙ h)) [
      | inl e ↦ point_field f.from e f.from_form
      | inr e ↦ point_field f.to e f.to_form
    ]

-- one that is refused for its range is of the form
pub pair_range : (line : List ℕ) → move_line line ≡ Err Range → HasPairForm line
pair_range line h =
    elim (cut_view line (fields_of line) refl) [
      | inl none ↦ (let k : move_line line ≡ Err Field = ap move_of none in absurd cc)
      | inr c ↦
          let m = move_range (point c.from) (point c.to) (sym c.reads ∙ h) in
          record {
            from = c.from;
            to = c.to;
            fields = c.fields;
            from_form = formed c.from (point c.from) refl m.0;
            to_form = formed c.to (point c.to) refl m.1;
          }
    ]

-- a line of two places is refused for its form or for its range
pub pair_only : (line : List ℕ) (why : Why) → move_line line ≡ Err why → (why ≡ Field) ⊎ (why ≡ Range)
pair_only line why h =
    elim (cut_view line (fields_of line) refl) [
      | inl none ↦ inl (refused_same why Field (sym h ∙ ap move_of none))
      | inr c ↦ move_only c.from c.to (point c.from) why refl (sym c.reads ∙ h)
    ]

-- ---- the places of a line, as its fields are found

-- a line with one field is not cut
pub halves_one : (line x : List ℕ) → fields_of line ≡ x ∷ [] → halves line ≡ None
halves_one line x a = halves_fields line (x ∷ []) a

-- nor is one with two
pub halves_two : (line x r y : List ℕ) → fields_of line ≡ x ∷ fields_of r → fields_of r ≡ y ∷ [] → halves line ≡ None
halves_two line x r y a b = halves_fields line (x ∷ y ∷ []) (a ∙ ap (λ (fs : List (List ℕ)). x ∷ fs) b)

-- nor is one with three
pub halves_three : (line x r y q z : List ℕ) → fields_of line ≡ x ∷ fields_of r → fields_of r ≡ y ∷ fields_of q →
    fields_of q ≡ z ∷ [] → halves line ≡ None
halves_three line x r y q z a b c =
    halves_fields line (x ∷ y ∷ z ∷ [])
    (a ∙ ap (λ (fs : List (List ℕ)). x ∷ fs) b ∙ ap (λ (fs : List (List ℕ)). x ∷ y ∷ fs) c)

-- the second place stands at the end, and a space before it
pub record Ends (line to : List ℕ) : Type 0 where
  pub long : length to + 1 ≤ length line
  pub halves_are : halves line ≡ Some (take (length line - length to - 1) line, to)

-- one with more is cut behind the third
pub halves_at : (line x r y q z to : List ℕ) → fields_of line ≡ x ∷ fields_of r → fields_of r ≡ y ∷ fields_of q →
    fields_of q ≡ z ∷ fields_of to → Ends line to
halves_at line x r y q z to a b c =
    let more = some_field to in
    let all : fields_of line ≡ x ∷ y ∷ z ∷ more.0 ∷ more.1 =
    a ∙ ap (λ (fs : List (List ℕ)). x ∷ fs) b ∙ ap (λ (fs : List (List ℕ)). x ∷ y ∷ fs) c
    ∙ ap (λ (fs : List (List ℕ)). x ∷ y ∷ z ∷ fs) more.2 in
    let back : join_with_byte 32 (more.0 ∷ more.1) ≡ to =
    ap (join_with_byte 32) (sym more.2) ∙ join_with_byte-slice_split 32 to in
    let from : List ℕ = three_spaced x y z in
    let whole : line ≡ from ++ 32 ∷ to =
    from_four line x y z more.0 more.1 all ∙ ap (λ (l : List ℕ). from ++ 32 ∷ l) back in
    let len : length line ≡ length from + (length to + 1) =
    ap length whole ∙ length-append from (32 ∷ to) ∙ omega arith in
    let at : length line - length to - 1 ≡ length from = omega (arith, len) in
    let front : take (length line - length to - 1) line ≡ from =
    ap (λ (n : ℕ). take n line) at ∙ ap (take (length from)) whole ∙ take-append_seam from (32 ∷ to) in
    record {
      long = omega (arith, len);
      halves_are = halves_fields line (x ∷ y ∷ z ∷ more.0 ∷ more.1) all
          ∙ ap (λ (l : List ℕ). Some (from, l)) back ∙ ap (λ (l : List ℕ). Some (l, to)) (sym front);
    }
