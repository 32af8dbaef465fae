-- The history of one thread is legal, and what it leaves.
use Rattle.std.specs.Prelude.{◌≡◌, ℕ, ◌+◌, Bool, true, false, cond, not, List, [], ◌∷◌, ◌++◌, ◌⊎◌, map, Option, None}
use Rattle.std.specs.Prelude.{Some, IfSome}
use Rattle.std.specs.List.{enumerate_from, filter}
use Rattle.std.proofs.Common.{refl, sym, ◌∙◌, ap, subst, inl, inr, append-nil}
use Rattle.list_laws.proofs.Cited.{among_from, filtered_true, from_append, in_filtered, in_left, in_right}
use Rattle.point_order.specs.Sets.{IsIn, IsAscending, is_among, ascending}
use Rattle.point_order.proofs.Cited.{ascending_is, ascending_with, in_with, in_with_new, in_with_old}
use Rattle.edit_history.specs.declared.history.Edit.{Edit}
use Rattle.edit_history.specs.declared.history.Edit.TheVariants.{Add, Take, Move}
use Rattle.edit_history.specs.declared.history.Entry.{Entry}
use Rattle.edit_history.specs.declared.history.Reply.{Reply}
use Rattle.edit_history.specs.declared.history.Reply.TheVariants.{Inserted, Duplicate, Removed, Missing, Flat, Moved}
use Rattle.edit_history.specs.declared.history.Reply.TheVariants.{Occupied}
use Rattle.edit_history.specs.Edits.{point_of, reply_to, arrived, changed, after}
use Rattle.edit_history.specs.Histories.{replay_from, replay, entries_from, IsLegalFrom}
use Rattle.edit_history.specs.Opening.{opening_four, FourPlaces}
use Rattle.edit_history.specs.OneThread.{is_opening, tagged_lines, opening_first, lines_of_one_thread}
use Rattle.edit_history.specs.Laws.{SetLaw, LegalLaw, ReplayLaw, LeavesSet}
use Rattle.edit_history.proofs.Solidity.{solid_ascending}
use Rattle.edit_history.proofs.SetEdits.{ascending_without}
use Rattle.edit_history.proofs.Lines.{set_after, replay_is}

-- a list in ascending order, each point once, is solid exactly where the list is
pub set_law : SetLaw
set_law points = solid_ascending points

-- ---- legal

-- the entries that one thread makes of lines on a set are legal there
legal_from : (n : ℕ) (s : List ℕ) (lines : List (ℕ × Edit)) → IsLegalFrom n s (entries_from n s lines)
legal_from n s [] = tt
legal_from n s (line ∷ lines) = (refl, refl, legal_from (n + 1) (after s line.1) lines)

-- the history of one thread is legal
pub legal_law : LegalLaw
legal_law points edits = legal_from 0 [] (lines_of_one_thread (opening_four points) (tagged_lines points edits))

-- ---- an edit leaves an ascending list

-- whatever the reply, an ascending list stays ascending when its point is put in or taken out
pub ascending_changed : (s : List ℕ) (p : ℕ) (r : Reply) → IsAscending s → IsAscending (changed s p r)
ascending_changed s p Inserted a = ascending_with p s a
ascending_changed s p Duplicate a = a
ascending_changed s p Removed a = ascending_without p s a
ascending_changed s p Missing a = a
ascending_changed s p Flat a = a
ascending_changed s p Moved a = ascending_without p s a
ascending_changed s p Occupied a = a

-- and when the new place of a move is put in
pub ascending_arrived : (s : List ℕ) (edit : Edit) (r : Reply) → IsAscending s → IsAscending (arrived s edit r)
ascending_arrived s (Add p) r h = h
ascending_arrived s (Take p) r h = h
ascending_arrived s (Move a b) Moved h = ascending_with b s h
ascending_arrived s (Move a b) Inserted h = h
ascending_arrived s (Move a b) Duplicate h = h
ascending_arrived s (Move a b) Removed h = h
ascending_arrived s (Move a b) Missing h = h
ascending_arrived s (Move a b) Flat h = h
ascending_arrived s (Move a b) Occupied h = h

-- after an edit of an ascending list it is ascending
pub ascending_after : (s : List ℕ) (edit : Edit) → IsAscending s → IsAscending (after s edit)
ascending_after s edit h =
    ascending_changed (arrived s edit (reply_to s edit)) (point_of edit) (reply_to s edit)
    (ascending_arrived s edit (reply_to s edit) h)

-- and after a history
leaves_from : (s : List ℕ) (h : List Entry) → IsAscending s → IsAscending (replay_from s h)
leaves_from s [] a = a
leaves_from s (e ∷ h) a = leaves_from (after s e.edit) h (ascending_after s e.edit a)

-- every history leaves an ascending list
pub leaves_set : LeavesSet
leaves_set h = leaves_from [] h tt

-- ---- lines that add

-- each of the lines adds its point
abbrev AreAdds : List (ℕ × Edit) → Type 0
AreAdds [] = Unit {0}
AreAdds (line ∷ lines) = (line.1 ≡ Add (point_of line.1)) × AreAdds lines

-- a point that is there after an add was there before, or is the added one
in_added : (s : List ℕ) (p q : ℕ) → IsIn q (after s (Add p)) → IsIn q s ⊎ (p ≡ q)
in_added s p q i = by (is_among p s) i
  where
    by : (b : Bool) → IsIn q (changed s p (cond b Duplicate Inserted)) → IsIn q s ⊎ (p ≡ q)
    by true i = inl i
    by false i = elim (in_with p q s i) [ inl e ↦ inr e | inr j ↦ inl j ]

-- an add leaves every point that was there
pub added_old : (s : List ℕ) (p q : ℕ) → IsIn q s → IsIn q (after s (Add p))
added_old s p q i = by (is_among p s)
  where
    by : (b : Bool) → IsIn q (changed s p (cond b Duplicate Inserted))
    by true = i
    by false = in_with_old p q s i

-- and the added point is there
pub added_new : (s : List ℕ) (p : ℕ) → IsIn p (after s (Add p))
added_new s p = by (is_among p s) refl
  where
    by : (b : Bool) → is_among p s ≡ b → IsIn p (changed s p (cond b Duplicate Inserted))
    by true e = among_from p s e
    by false e = in_with_new p s

-- what lines that add leave: what was there, and their points
in_set : (s : List ℕ) (lines : List (ℕ × Edit)) (q : ℕ) → AreAdds lines → IsIn q (set_after s lines) →
    IsIn q s ⊎ ((line : ℕ × Edit) × IsIn line lines × (point_of line.1 ≡ q))
in_set s [] q a i = inl i
in_set s (line ∷ lines) q a i =
    elim (in_set (after s line.1) lines q a.1 i) [
      | inl j ↦ elim (in_added s (point_of line.1) q (subst (λ (e : Edit). IsIn q (after s e)) a.0 j)) [
        | inl k ↦ inl k
        | inr e ↦ inr (line, inl refl, e)
      ]
      | inr k ↦ inr (k.0, inr k.1, k.2)
    ]

-- lines that add leave every point that was there
set_old : (s : List ℕ) (lines : List (ℕ × Edit)) (q : ℕ) → AreAdds lines → IsIn q s → IsIn q (set_after s lines)
set_old s [] q a i = i
set_old s (line ∷ lines) q a i =
    set_old (after s line.1) lines q a.1 (subst (λ (e : Edit). IsIn q (after s e)) (sym a.0)
    (added_old s (point_of line.1) q i))

-- and the point of each of them is there after them
set_new : (s : List ℕ) (lines : List (ℕ × Edit)) (line : ℕ × Edit) → AreAdds lines → IsIn line lines →
    IsIn (point_of line.1) (set_after s lines)
set_new s [] line a i = absurd i
set_new s (x ∷ lines) line a (inl e) =
    let j : IsIn (point_of x.1) (after s x.1) =
    subst (λ (f : Edit). IsIn (point_of x.1) (after s f)) (sym a.0) (added_new s (point_of x.1)) in
    subst (λ (l : ℕ × Edit). IsIn (point_of l.1) (set_after (after s x.1) lines)) e
    (set_old (after s x.1) lines (point_of x.1) a.1 j)
set_new s (x ∷ lines) line a (inr i) = set_new (after s x.1) lines line a.1 i

-- lines leave an ascending list of an ascending one
set_ascending : (s : List ℕ) (lines : List (ℕ × Edit)) → IsAscending s → IsAscending (set_after s lines)
set_ascending s [] a = a
set_ascending s (line ∷ lines) a = set_ascending (after s line.1) lines (ascending_after s line.1 a)

-- ---- the lines of points

-- two lists of lines that add are one
adds_append : (xs ys : List (ℕ × Edit)) → AreAdds xs → AreAdds ys → AreAdds (xs ++ ys)
adds_append [] ys a b = b
adds_append (x ∷ xs) ys a b = (a.0, adds_append xs ys a.1 b)

-- some of the lines that add do so too
adds_filter : (t : ℕ × Edit → Bool) (xs : List (ℕ × Edit)) → AreAdds xs → AreAdds (filter t xs)
adds_filter t [] a = tt
adds_filter t (x ∷ xs) a = by (t x) (adds_filter t xs a.1)
  where
    by : (b : Bool) → AreAdds (filter t xs) → AreAdds (cond b (x ∷ filter t xs) (filter t xs))
    by true r = (a.0, r)
    by false r = r

-- the lines of points add
adds_points : (n : ℕ) (points : List ℕ) → AreAdds (enumerate_from n (map Add points))
adds_points n [] = tt
adds_points n (p ∷ points) = (refl, adds_points (n + 1) points)

-- the point of such a line is one of the points
line_point : (n : ℕ) (points : List ℕ) (line : ℕ × Edit) → IsIn line (enumerate_from n (map Add points)) →
    IsIn (point_of line.1) points
line_point n [] line i = absurd i
line_point n (p ∷ points) line (inl e) = inl (ap (λ (l : ℕ × Edit). point_of l.1) e)
line_point n (p ∷ points) line (inr i) = inr (line_point (n + 1) points line i)

-- and each of the points has a line
point_line : (n : ℕ) (points : List ℕ) (q : ℕ) → IsIn q points → (line : ℕ × Edit)
    × IsIn line (enumerate_from n (map Add points)) × (point_of line.1 ≡ q)
point_line n [] q i = absurd i
point_line n (p ∷ points) q (inl e) = ((n, Add p), inl refl, e)
point_line n (p ∷ points) q (inr i) = let r = point_line (n + 1) points q i in (r.0, inr r.1, r.2)

-- each line is in the one part or the other
into_parts : (t : ℕ × Edit → Bool) (xs : List (ℕ × Edit)) (y : ℕ × Edit) → IsIn y xs →
    IsIn y (filter t xs ++ filter (λ x. not (t x)) xs)
into_parts t xs y i = by (t y) refl
  where
    by : (b : Bool) → t y ≡ b → IsIn y (filter t xs ++ filter (λ x. not (t x)) xs)
    by true e = in_left y (filter t xs) (filter (λ x. not (t x)) xs) (filtered_true t xs y i e)
    by false e =
        in_right y (filter t xs) (filter (λ x. not (t x)) xs) (filtered_true (λ x. not (t x)) xs y i (ap not e))

-- and what is in a part is a line
from_parts : (t : ℕ × Edit → Bool) (xs : List (ℕ × Edit)) (y : ℕ × Edit) →
    IsIn y (filter t xs ++ filter (λ x. not (t x)) xs) → IsIn y xs
from_parts t xs y i = elim (from_append y (filter t xs) (filter (λ x. not (t x)) xs) i) [
  | inl j ↦ in_filtered t xs y j
  | inr j ↦ in_filtered (λ x. not (t x)) xs y j
]

-- ---- what one thread leaves of point lines

-- the lines of points, those that pass a test first and then the others, leave the set of the points
parts_leave : (t : ℕ × Edit → Bool) (points : List ℕ) → set_after []
    (filter t (enumerate_from 0 (map Add points)) ++ filter (λ x. not (t x)) (enumerate_from 0 (map Add points)))
    ≡ ascending points
parts_leave t points =
    let xs = enumerate_from 0 (map Add points) in
    let lines : List (ℕ × Edit) = filter t xs ++ filter (λ x. not (t x)) xs in
    let adds : AreAdds lines = adds_append (filter t xs) (filter (λ x. not (t x)) xs)
    (adds_filter t xs (adds_points 0 points)) (adds_filter (λ x. not (t x)) xs (adds_points 0 points)) in
    ascending_is (set_after [] lines) points (set_ascending [] lines tt)
    (λ p i. elim (in_set [] lines p adds i) [
      | inl j ↦ absurd j
      | inr k ↦ subst (λ (q : ℕ). IsIn q points) k.2 (line_point 0 points k.0 (from_parts t xs k.0 k.1))
    ])
    (λ p i. let r = point_line 0 points p i in subst (λ (q : ℕ). IsIn q (set_after [] lines)) r.2
    (set_new [] lines r.0 adds (into_parts t xs r.0 r.1)))

-- where the points have an opening four, one thread leaves of their lines alone just their set
pub replay_law : ReplayLaw
replay_law points = by (opening_four points)
  where
    by : (o : Option FourPlaces) →
        IfSome o (λ _. replay (entries_from 0 [] (lines_of_one_thread o (tagged_lines points [])))
        ≡ ascending points)
    by None = tt
    by (Some four) =
        replay_is 0 [] (opening_first four (tagged_lines points []))
        ∙ rw append-nil (parts_leave (λ line. is_opening four line.0) points)
