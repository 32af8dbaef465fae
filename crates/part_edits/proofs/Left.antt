-- Lines that are made, and lines that are set aside, by their tags.
use Rattle.std.specs.Prelude.{◌≡◌, ℕ, zero, suc, ◌<◌, true, List, [], ◌∷◌, length, Option, None, Some, slice_index_or}
use Rattle.std.proofs.Common.{ap, arith, inl, inr, refl, subst, sym, ◌∙◌}
use Rattle.list_laws.proofs.Cited.{EachLater, later_pairs, pairs_later}
use Rattle.point_order.specs.Sets.{IsIn}
use Rattle.edit_history.specs.declared.history.Reply.{Reply}
use Rattle.edit_history.specs.Edits.{share_point}
use Rattle.part_edits.specs.Laws.{LeftIsLater}
use Rattle.part_edits.specs.Lists.{KeepOrder, answer_at, left_in, made_in}
use Rattle.part_edits.specs.Made.{Line, Made}
use Rattle.part_edits.proofs.Sorted.{InOrder}
use Rattle.part_edits.proofs.Worked.{in_made}

-- the first line has the lower tag
abbrev Below : Line → Line → Type 0
Below x y = x.0 < y.0

-- where a line that was made stands
record StandsAt (lines : List Line) (answers : List (Option Reply)) (m : Made) : Type 0 where
  pub i : ℕ
  pub below : i < length lines
  pub answer : answer_at answers i ≡ Some m.1
  pub line : (d : Line) → slice_index_or lines i d ≡ m.0

made_at : (lines : List Line) (answers : List (Option Reply)) (m : Made) → IsIn m (made_in lines answers) →
    StandsAt lines answers m
made_at [] answers m i = absurd i
made_at (line ∷ lines) [] m i = absurd i
made_at (line ∷ lines) (None ∷ answers) m i =
    let r = made_at lines answers m i in
    record { i = suc r.i; below = (let b = r.below in omega (arith, b)); answer = r.answer; line = r.line }
made_at (line ∷ lines) (Some r ∷ answers) m (inl e) = record {
  i = zero;
  below = omega arith;
  answer = ap (λ (x : Made). Some x.1) e;
  line = λ d. ap (λ (x : Made). x.0) e;
}
made_at (line ∷ lines) (Some x ∷ answers) m (inr i) =
    let r = made_at lines answers m i in
    record { i = suc r.i; below = (let b = r.below in omega (arith, b)); answer = r.answer; line = r.line }

-- a line that was set aside is one of the lines
in_left_lines : (lines : List Line) (answers : List (Option Reply)) (y : Line) → IsIn y (left_in lines answers) →
    IsIn y lines
in_left_lines [] answers y i = absurd i
in_left_lines (line ∷ lines) [] y i = i
in_left_lines (line ∷ lines) (None ∷ answers) y (inl e) = inl e
in_left_lines (line ∷ lines) (None ∷ answers) y (inr i) = inr (in_left_lines lines answers y i)
in_left_lines (line ∷ lines) (Some r ∷ answers) y i = inr (in_left_lines lines answers y i)

-- those behind the first keep the order
rest_order : (line : Line) (lines : List Line) (a : Option Reply) (answers : List (Option Reply)) →
    KeepOrder (line ∷ lines) (a ∷ answers) → KeepOrder lines answers
rest_order line lines a answers k i j d g h n s = k (suc i) (suc j) d (omega (arith, g)) (omega (arith, h)) n s

-- those that were made are in the order of their tags
made_up : (lines : List Line) (answers : List (Option Reply)) → EachLater Below lines →
    EachLater InOrder (made_in lines answers)
made_up [] answers up = tt
made_up (line ∷ lines) [] up = tt
made_up (line ∷ lines) (None ∷ answers) up = made_up lines answers up.1
made_up (line ∷ lines) (Some r ∷ answers) up =
    (λ y i s. up.0 y.0 (in_made lines answers y i), made_up lines answers up.1)

-- and those that were set aside are later
left_up : (lines : List Line) (answers : List (Option Reply)) → EachLater Below lines → KeepOrder lines answers →
    (x : Made) (y : Line) → IsIn x (made_in lines answers) → IsIn y (left_in lines answers) →
    share_point y.1 x.0.1 ≡ true → x.0.0 < y.0
left_up [] answers up k x y i j s = absurd i
left_up (line ∷ lines) [] up k x y i j s = absurd i
left_up (line ∷ lines) (None ∷ answers) up k x y i (inl e) s =
    let p = made_at lines answers x i in
    let below = p.below in
    let same : share_point line.1 (slice_index_or lines p.i line).1 ≡ true =
    ap (λ (z : Line). share_point z.1 (slice_index_or lines p.i line).1) e
    ∙ ap (λ (z : Line). share_point y.1 z.1) (p.line line) ∙ s in
    let n : answer_at answers p.i ≡ None = k zero (suc p.i) line (omega arith) (omega (arith, below)) refl same in
    absurd (let z : Some x.1 ≡ None = sym p.answer ∙ n in cc z)
left_up (line ∷ lines) (None ∷ answers) up k x y i (inr j) s =
    left_up lines answers up.1 (rest_order line lines None answers k) x y i j s
left_up (line ∷ lines) (Some r ∷ answers) up k x y (inl e) j s =
    subst (λ (z : Made). z.0.0 < y.0) e (up.0 y (in_left_lines lines answers y j))
left_up (line ∷ lines) (Some r ∷ answers) up k x y (inr i) j s =
    left_up lines answers up.1 (rest_order line lines (Some r) answers k) x y i j s

pub left_is_later : LeftIsLater
left_is_later lines answers l up k =
    let h = pairs_later Below lines up in (
      later_pairs InOrder (made_in lines answers) (made_up lines answers h),
      left_up lines answers h k,
    )
