-- Marks of a segment, and lines that are cut one by one.
use Rattle.std.specs.Prelude.{◌≡◌, ℕ, ◌<◌, Bool, true, false, ◌&&◌, ◌||◌, ◌==◌, List, [], ◌∷◌, ◌++◌, map, replicate}
use Rattle.std.specs.Prelude.{length, take, ◌+◌}
use Rattle.std.specs.List.{flat_map, list_any}
use Rattle.std.proofs.Common.{refl, sym, ◌∙◌, ap, get_or}
use Rattle.std.proofs.lemmas.Bool.{false≢true}
use Rattle.std.proofs.lemmas.List.{append-nil, map-append}
use Rattle.std.proofs.lemmas.List.Folds.{list_any-append}
use Rattle.std.proofs.lemmas.List.Sorted.{list_any-IsPermutation}
use Rattle.std.proofs.lemmas.Grind.{flat_map-append}
use Rattle.list_laws.proofs.Cited.{take_next}
use Rattle.point_order.specs.Sets.{is_among}
use Rattle.edit_history.specs.declared.history.Edit.{Edit}
use Rattle.edit_history.specs.declared.history.Edit.TheVariants.{Add, Take, Move}
use Rattle.edit_history.specs.Edits.{edit_points, is_move}
use Rattle.plain_laws.specs.Running.{Pair, clash, dealt_out, segments}
use Rattle.plain_laws.proofs.Cited.{dealt_all, segments_begin, segments_go_on, share_flips}
use Rattle.edit_lists.specs.declared.cutting.Marks.{Marks}
use Rattle.edit_lists.specs.declared.cutting.Cutter.{Cutter}
use Rattle.edit_lists.specs.Cutting.{AreCut, AreMarks, HasSeen, has_place, has_key}
use Rattle.edit_lists.specs.Dealing.{all_of, lists_of, with_pair}
use Rattle.edit_lists.proofs.Deals.{dealt_more, dealt_nothing}

-- ---- tests of the members of a list

-- tests that agree
any_same : {X : Type 0} (f g : X → Bool) (l : List X) → ((x : X) → f x ≡ g x) → list_any f l ≡ list_any g l
any_same f g [] e = refl
any_same f g (x ∷ l) e = (λ i. e x i || any_same f g l e i)

-- one of two tests
any_or : {X : Type 0} (f g : X → Bool) (l : List X) →
    (list_any f l || list_any g l) ≡ list_any (λ x. f x || g x) l
any_or f g [] = refl
any_or {X} f g (x ∷ l) = by (f x) (g x) (list_any f l) (list_any g l) (any_or f g l)
  where
    by : (a b c d : Bool) → (c || d) ≡ list_any (λ (x : X). f x || g x) l →
        ((a || c) || (b || d)) ≡ ((a || b) || list_any (λ (x : X). f x || g x) l)
    by true b c d e = refl
    by false true true d e = refl
    by false true false d e = refl
    by false false c d e = e

-- ---- whether a line clashes

-- the points of an edit that some line has
module _ (lines : List Pair) (tag : ℕ) (keys : ℕ → Bool) where
  -- the point is one of the line's
  abbrev line_has : ℕ → Pair → Bool
  line_has p line = is_among p (edit_points line.1)

  -- the point is one of a line that moves
  abbrev moved_has : ℕ → Pair → Bool
  moved_has p line = is_move line.1 && is_among p (edit_points line.1)

  -- the line of this edit clashes with one of the lines
  abbrev clashes : Edit → Bool
  clashes edit = list_any (λ earlier. clash earlier (tag, edit)) lines

  -- of an edit of one point, where a line that moves has it
  one_clash : (edit : Edit) (p : ℕ) → edit_points edit ≡ p ∷ [] → is_move edit ≡ false →
      keys p ≡ list_any (moved_has p) lines → (keys p || false) ≡ clashes edit
  one_clash edit p points still e =
      or_false (keys p) ∙ e ∙ any_same (moved_has p) (λ earlier. clash earlier (tag, edit)) lines each
    where
      or_false : (b : Bool) → (b || false) ≡ b
      or_false true = refl
      or_false false = refl

      by : (m i : Bool) → (m && i) ≡ ((i || false) && (m || false))
      by true true = refl
      by true false = refl
      by false true = refl
      by false false = refl

      each : (x : Pair) → moved_has p x ≡ clash x (tag, edit)
      each x =
          let shared = share_flips x.1 edit ∙ ap (list_any (λ q. is_among q (edit_points x.1))) points in
          by (is_move x.1) (is_among p (edit_points x.1)) ∙ (λ i. sym shared i && (is_move x.1 || sym still i))

  -- of a move, where some line has one of its places
  two_clash : (a b : ℕ) → keys a ≡ list_any (line_has a) lines → keys b ≡ list_any (line_has b) lines →
      (keys a || (keys b || false)) ≡ clashes (Move a b)
  two_clash a b e f =
      (λ i. e i || (f i || false)) ∙ drop (list_any (line_has a) lines) (list_any (line_has b) lines)
      ∙ any_or (line_has a) (line_has b) lines
      ∙ any_same (λ x. line_has a x || line_has b x) (λ earlier. clash earlier (tag, Move a b)) lines each
    where
      drop : (x y : Bool) → (x || (y || false)) ≡ (x || y)
      drop true y = refl
      drop false true = refl
      drop false false = refl

      by : (i j m : Bool) → (i || j) ≡ ((i || (j || false)) && (m || true))
      by true j true = refl
      by true j false = refl
      by false true true = refl
      by false true false = refl
      by false false m = refl

      each : (x : Pair) → (line_has a x || line_has b x) ≡ clash x (tag, Move a b)
      each x =
          by (line_has a x) (line_has b x) (is_move x.1)
          ∙ (λ i. sym (share_flips x.1 (Move a b)) i && (is_move x.1 || true))

-- the marks tell it
pub move_clash : (lines : List Pair) (tag : ℕ) (edit : Edit) (marks : Marks) (found : Bool) → is_move edit ≡ true →
    HasSeen lines marks → found ≡ list_any (has_key marks.seen) (edit_points edit) →
    found ≡ list_any (λ earlier. clash earlier (tag, edit)) lines
move_clash lines tag (Add p) marks found m are f = absurd (false≢true m)
move_clash lines tag (Take p) marks found m are f = absurd (false≢true m)
move_clash lines tag (Move a b) marks found m are f =
    let seen = are.are_marks.seen are.are_seen in f ∙ two_clash lines tag (has_key marks.seen) a b (seen a) (seen b)

-- ---- one line more

-- marks that see the points of all lists of lines that were dealt
pub marks_see : (n : ℕ) (lines : List Pair) (lists : List (List Pair)) (old new : Marks) → 0 < n →
    lists ≡ dealt_out n lines → AreMarks lines old → ((p : ℕ) → has_key new.moved p ≡ has_key old.moved p) →
    new.are_seen ≡ true →
    ((p : ℕ) → has_key new.seen p ≡ list_any (has_place p) (all_of lists)) → HasSeen lines new
marks_see n lines lists old new some dealt are moved seen points = record {
  are_marks = record {
    moved = λ p. moved p ∙ are.moved p;
    seen = λ is p.
        points p ∙ ap (λ (l : List (List Pair)). list_any (has_place p) (all_of l)) dealt
        ∙ sym (list_any-IsPermutation (has_place p) lines (all_of (dealt_out n lines)) (dealt_all n lines some));
  };
  are_seen = seen;
}

-- ---- the cutter

-- one segment, of no line
pub cut_nothing : (n : ℕ) (c : Cutter) → c.finished.items ≡ [] → lists_of c.present ≡ replicate n [] →
    AreMarks [] c.marks → AreCut n [] c
cut_nothing n c f p m = record {
  front = [];
  present = [];
  segments_are = refl;
  front_is = ap (map lists_of) f;
  present_is = p ∙ sym (dealt_nothing n);
  marks = m;
}

module _ (n : ℕ) (lines : List Pair) (line : Pair) (some : 0 < n) (old new : Cutter) (was : AreCut n lines old) where
  -- a line that begins a new segment
  pub cut_begins : list_any (λ earlier. clash earlier line) was.present ≡ true →
      map lists_of new.finished.items ≡ map lists_of old.finished.items ++ lists_of old.present ∷ [] →
      (empty : List (List Pair)) → empty ≡ replicate n [] → lists_of new.present ≡ with_pair line empty →
      AreMarks (line ∷ []) new.marks → AreCut n (lines ++ line ∷ []) new
  cut_begins h f empty e p m = record {
    front = was.front ++ was.present ∷ [];
    present = line ∷ [];
    segments_are = segments_begin lines was.front was.present line was.segments_are h;
    front_is =
        f ∙ (λ i. was.front_is i ++ was.present_is i ∷ [])
        ∙ sym (map-append (dealt_out n) was.front (was.present ∷ []));
    present_is = p ∙ ap (with_pair line) (e ∙ sym (dealt_nothing n)) ∙ sym (dealt_more n [] line some);
    marks = m;
  }

  -- and one that does not
  pub cut_goes_on : list_any (λ earlier. clash earlier line) was.present ≡ false →
      new.finished.items ≡ old.finished.items → lists_of new.present ≡ with_pair line (lists_of old.present) →
      AreMarks (was.present ++ line ∷ []) new.marks → AreCut n (lines ++ line ∷ []) new
  cut_goes_on h f p m = record {
    front = was.front;
    present = was.present ++ line ∷ [];
    segments_are = segments_go_on lines was.front was.present line was.segments_are h;
    front_is = ap (map lists_of) f ∙ was.front_is;
    present_is = p ∙ ap (with_pair line) was.present_is ∙ sym (dealt_more n was.present line some);
    marks = m;
  }

-- all segments of the lines
pub cut_all : (n : ℕ) (lines : List Pair) (c : Cutter) (all : List (List (List Pair))) → AreCut n lines c →
    all ≡ map lists_of c.finished.items ++ lists_of c.present ∷ [] → all ≡ map (dealt_out n) (segments lines)
cut_all n lines c all are e =
    e ∙ (λ i. are.front_is i ++ are.present_is i ∷ []) ∙ sym (map-append (dealt_out n) are.front (are.present ∷ []))
    ∙ ap (map (dealt_out n)) (sym are.segments_are)
