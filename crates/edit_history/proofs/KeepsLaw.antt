-- The history of one thread keeps the file.
use Rattle.std.specs.Prelude.{◌≡◌, ℕ, suc, ◌+◌, ◌-◌, ◌<◌, ◌≤◌, Bool, true, false, not, ◌==◌, ◌||◌, List, [], ◌∷◌, ◌++◌}
use Rattle.std.specs.Prelude.{map, length, take, slice_index, Option, None, Some, IfSome, IsPermutation}
use Rattle.std.specs.List.{enumerate_from, filter}
use Rattle.std.proofs.Common.{refl, sym, ◌∙◌, ap, subst, inl, inr, arith, get_or, length-append}
use Rattle.std.proofs.lemmas.List.{take-map, take-append-le, length-map, take_all}
use Rattle.std.proofs.lemmas.List.Sorted.{IsPermutation-filter_both}
use Rattle.std.proofs.lemmas.Bool.{cases_order}
use Rattle.list_laws.proofs.Cited.{EachLater, among_from, among_true, at_in, in_filtered, later_append, later_filter}
use Rattle.list_laws.proofs.Cited.{later_pairs, not_from, numbered_from, passes, same_from}
use Rattle.point_order.specs.Sets.{IsIn, IsAscending, is_among}
use Rattle.edit_history.specs.declared.history.Edit.{Edit}
use Rattle.edit_history.specs.declared.history.Edit.TheVariants.{Add}
use Rattle.edit_history.specs.declared.history.Entry.{Entry}
use Rattle.edit_history.specs.Edits.{share_point, after}
use Rattle.edit_history.specs.Histories.{entries_from}
use Rattle.edit_history.specs.Opening.{opening_four, FourPlaces}
use Rattle.edit_history.specs.OneThread.{places, is_opening, tagged_lines, lines_of_one_thread, line_of, Keeps}
use Rattle.edit_history.specs.Laws.{IsFirstPlace, AreIndependent, KeepsLaw}
use Rattle.edit_history.proofs.LinesAtPlaces.{line_at, picked}
use Rattle.edit_history.proofs.OpeningSolid.{four_law}

-- the tag of a line
abbrev tag_of : ℕ × Edit → ℕ
tag_of line = line.0

-- ---- entries and their lines

-- the entries that one thread makes of lines have these lines, in their order
pub entry_lines : (n : ℕ) (s : List ℕ) (lines : List (ℕ × Edit)) → map line_of (entries_from n s lines) ≡ lines
entry_lines n s [] = refl
entry_lines n s (line ∷ lines) = ap (λ (t : List (ℕ × Edit)). line ∷ t) (entry_lines (n + 1) (after s line.1) lines)

-- and their tags
entry_tags : (n : ℕ) (s : List ℕ) (lines : List (ℕ × Edit)) → map (λ (e : Entry). e.tag) (entries_from n s lines)
    ≡ map tag_of lines
entry_tags n s [] = refl
entry_tags n s (line ∷ lines) = ap (λ (t : List ℕ). line.0 ∷ t) (entry_tags (n + 1) (after s line.1) lines)

-- each of them is by 0
entry_by : (n : ℕ) (s : List ℕ) (lines : List (ℕ × Edit)) (e : Entry) → IsIn e (entries_from n s lines) → e.by < 1
entry_by n s [] e i = absurd i
entry_by n s (line ∷ lines) e (inl q) = let f = ap (λ (e : Entry). e.by) q in omega arith
entry_by n s (line ∷ lines) e (inr i) = entry_by (n + 1) (after s line.1) lines e i

-- ---- each line before each later one

-- of two entries that share a point the earlier has the lower tag
abbrev pub InOrder : ℕ × Edit → ℕ × Edit → Type 0
InOrder x y = share_point x.1 y.1 ≡ true → x.0 < y.0

-- entries of lines that are in order are so: of two that share a point the earlier has the lower tag
later_entries : (n : ℕ) (s : List ℕ) (lines : List (ℕ × Edit)) → EachLater InOrder lines →
    EachLater (λ (d e : Entry). share_point d.edit e.edit ≡ true → d.tag < e.tag) (entries_from n s lines)
later_entries n s [] h = tt
later_entries n s (line ∷ lines) h =
    (first (n + 1) (after s line.1) lines h.0, later_entries (n + 1) (after s line.1) lines h.1)
  where
    first : (n : ℕ) (s : List ℕ) (ls : List (ℕ × Edit)) → ((y : ℕ × Edit) → IsIn y ls → InOrder line y) → (e : Entry) →
        IsIn e (entries_from n s ls) → share_point line.1 e.edit ≡ true → line.0 < e.tag
    first n s [] f e i q = absurd i
    first n s (l ∷ ls) f e (inl g) q =
        let a : share_point line.1 l.1 ≡ true = ap (λ (e : Entry). share_point line.1 e.edit) g ∙ q in
        let b : l.0 ≡ e.tag = ap (λ (e : Entry). e.tag) g in
        subst (λ (m : ℕ). line.0 < m) b (f l (inl refl) a)
    first n s (l ∷ ls) f e (inr i) q = first (n + 1) (after s l.1) ls (λ y j. f y (inr j)) e i q

-- ---- numbered lines

-- lines that are numbered in their order are in order
numbered_later : (n : ℕ) (xs : List Edit) → EachLater InOrder (enumerate_from n xs)
numbered_later n [] = tt
numbered_later n (x ∷ xs) = (λ y i q. omega (arith, numbered_from (n + 1) xs y i), numbered_later (n + 1) xs)

-- a line among the first adds the point of its place
pub line_is_add : (n : ℕ) (points : List ℕ) (edits : List Edit) (line : ℕ × Edit) →
    IsIn line (enumerate_from n (map Add points ++ edits)) → line.0 < n + length points →
    line.1 ≡ Add (slice_index points (line.0 - n))
line_is_add n [] edits line i h = absurd (omega (arith, numbered_from n edits line i))
line_is_add n (p ∷ points) edits line (inl e) h =
    let f : n ≡ line.0 = ap (λ (l : ℕ × Edit). l.0) e in
    let z : line.0 - n ≡ 0 = omega arith in
    sym (ap (λ (l : ℕ × Edit). l.1) e) ∙ ap (λ (k : ℕ). Add (slice_index (p ∷ points) k)) (sym z)
line_is_add n (p ∷ points) edits line (inr i) h =
    let l : n + 1 ≤ line.0 = numbered_from (n + 1) (map Add points ++ edits) line i in
    let z : suc (line.0 - (n + 1)) ≡ line.0 - n = omega arith in
    line_is_add (n + 1) points edits line i (omega arith) ∙ ap (λ (k : ℕ). Add (slice_index (p ∷ points) k)) z

-- two adds that share a point add the same one
pub share_adds : (p q : ℕ) → share_point (Add p) (Add q) ≡ true → q ≡ p
share_adds p q e = by (q == p) refl e
  where
    by : (b : Bool) → (q == p) ≡ b → ((b || false) || false) ≡ true → q ≡ p
    by true f e = same_from q p f
    by false f e = absurd cc

-- ---- the file

module _ (points : List ℕ) (edits : List Edit) (four : FourPlaces) (w : AreIndependent points four) where
  -- the numbered lines of the file
  abbrev all : List (ℕ × Edit)
  all = tagged_lines points edits

  -- the line is one of the opening four
  abbrev opens : ℕ × Edit → Bool
  opens line = is_opening four line.0

  -- a place of the four is the first of its point, and among those of the point lines
  first_place : (p : ℕ) → IsIn p (places four) → IsFirstPlace points p × (p < length points)
  first_place p (inl e) = (
    subst (IsFirstPlace points) e w.first_places.0,
    omega (
      arith,
      w.ascending.0,
      w.ascending.1,
      w.ascending.2,
      w.within,
      e,
    ),
  )
  first_place p (inr (inl e)) =
      (subst (IsFirstPlace points) e w.first_places.1, omega (arith, w.ascending.1, w.ascending.2, w.within, e))
  first_place p (inr (inr (inl e))) =
      (subst (IsFirstPlace points) e w.first_places.2, omega (arith, w.ascending.2, w.within, e))
  first_place p (inr (inr (inr (inl e)))) = (subst (IsFirstPlace points) e w.first_places.3, omega (arith, w.within, e))
  first_place p (inr (inr (inr (inr i)))) = absurd i

  -- the places of the four ascend
  places_ascending : IsAscending (places four)
  places_ascending = (w.ascending.0, (w.ascending.1, (w.ascending.2, (tt, tt))))

  -- each of them is a place of a line
  in_range : (p : ℕ) → IsIn p (places four) → (0 ≤ p) × (p < 0 + length (map Add points ++ edits))
  in_range p i =
      let f =
      first_place p i in (omega arith, omega (arith, f.1, length-append (map Add points) edits, length-map points Add))

  -- the lines of the four, in the order of the file, have the places of the four for their tags
  opening_tags : map tag_of (filter opens all) ≡ places four
  opening_tags =
      ap (map tag_of) (picked (places four) 0 (map Add points ++ edits) (Add 0) places_ascending in_range)
      ∙ tags (places four)
    where
      tags : (ps : List ℕ) → map tag_of (map (line_at 0 (map Add points ++ edits) (Add 0)) ps) ≡ ps
      tags [] = refl
      tags (p ∷ ps) = ap (λ (t : List ℕ). p ∷ t) (tags ps)

  -- a line of the four and another line that shares a point with it
  crossing : (x y : ℕ × Edit) → IsIn x (filter opens all) → IsIn y (filter (λ line. not (opens line)) all) → InOrder x y
  crossing x y i j q = sides (x.0) (y.0) refl refl
    where
      chosen : IsIn x.0 (places four)
      chosen = among_from x.0 (places four) (passes opens all x i)

      other : is_among y.0 (places four) ≡ false
      other = not_from (is_among y.0 (places four)) (passes (λ line. not (opens line)) all y j)

      earlier : y.0 < x.0 → ⊥
      earlier l =
          let f = first_place x.0 chosen in
          let a = line_is_add 0 points edits x (in_filtered opens all x i) (omega (arith, f.1)) in
          let b =
          line_is_add 0 points edits y (in_filtered (λ line. not (opens line)) all y j) (omega (arith, f.1, l)) in
          let za : x.0 - 0 ≡ x.0 = omega arith in
          let zb : y.0 - 0 ≡ y.0 = omega arith in
          let one = share_adds (slice_index points (x.0 - 0)) (slice_index points (y.0 - 0))
          (sym (ap (λ e. share_point e y.1) a ∙ ap (λ e. share_point (Add (slice_index points (x.0 - 0))) e) b)
          ∙ q) in
          f.0 y.0 l (sym (ap (slice_index points) zb) ∙ one ∙ ap (slice_index points) za)

      same : x.0 ≡ y.0 → ⊥
      same e =
          let g : is_among y.0 (places four) ≡ true =
          among_true y.0 (places four) (subst (λ (m : ℕ). IsIn m (places four)) e chosen) in let h = other in cc

      sides : (m n : ℕ) → x.0 ≡ m → y.0 ≡ n → x.0 < y.0
      sides m n e f = elim (cases_order x.0 y.0) [
        | inl g ↦ absurd (same g)
        | inr o ↦ elim o [ inl l ↦ l | inr g ↦ absurd (earlier g) ]
      ]

  -- the history of one thread, where these are the opening four
  abbrev history : List Entry
  history = entries_from 0 [] (filter opens all ++ filter (λ line. not (opens line)) all)

  -- its first four entries have the places of the four for their tags
  first_four : map (λ (e : Entry). e.tag) (take 4 history) ≡ places four
  first_four =
      let tags = entry_tags 0 [] (filter opens all ++ filter (λ line. not (opens line)) all) in
      let count : length (filter opens all) ≡ 4 = sym (length-map (filter opens all) tag_of) ∙ ap length opening_tags in
      sym (take-map (λ (e : Entry). e.tag) 4 history)
      ∙ ap (take 4) tags
      ∙ take-map tag_of 4 (filter opens all ++ filter (λ line. not (opens line)) all)
      ∙ ap (map tag_of) (take-append-le 4 (filter opens all) (filter (λ line. not (opens line)) all) (omega arith)
      ∙ take_all 4 (filter opens all) (omega arith))
      ∙ opening_tags

  -- it keeps the file, for one worker
  pub keeps : opening_four points ≡ Some four → Keeps points edits 1 history
  keeps found =
      record {
        opening = subst (λ (o : Option FourPlaces). IfSome o
            (λ f. map (λ (e : Entry). e.tag) (take 4 history) ≡ places f))
            (sym found) first_four;
        lines = subst (IsPermutation all) (sym (entry_lines 0 []
            (filter opens all ++ filter (λ line. not (opens line)) all)))
            (IsPermutation-filter_both opens (λ line. not (opens line)) (λ x. refl) all);
        order = later_pairs (λ (d e : Entry). share_point d.edit e.edit ≡ true → d.tag < e.tag) history
            (later_entries 0 [] (filter opens all ++ filter (λ line. not (opens line)) all)
            (later_append InOrder (filter opens all) (filter (λ line. not (opens line)) all)
            (later_filter InOrder opens all (numbered_later 0 (map Add points ++ edits)))
            (later_filter InOrder (λ line. not (opens line)) all (numbered_later 0 (map Add points ++ edits)))
            crossing));
        workers = λ k d h. entry_by 0 [] (filter opens all ++ filter (λ line. not (opens line)) all)
            (get_or history k d) (at_in history k d h);
      }

-- where the points have an opening four, the history of one thread keeps the file
pub keeps_law : KeepsLaw
keeps_law points edits = by (opening_four points) refl (four_law points)
  where
    by : (o : Option FourPlaces) → opening_four points ≡ o → IfSome o (AreIndependent points) →
        IfSome o (λ _. Keeps points edits 1 (entries_from 0 [] (lines_of_one_thread o (tagged_lines points edits))))
    by None e h = tt
    by (Some four) e h = keeps points edits four h e
