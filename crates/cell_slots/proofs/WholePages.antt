-- Slots in whole pages.
use Rattle.std.specs.Prelude.{◌≡◌, ℕ, zero, suc, ◌+◌, ◌*◌, ◌-◌, ◌/◌, ◌%◌, ◌<◌, ◌≤◌, List, [], ◌∷◌, ◌++◌, length, Option}
use Rattle.std.specs.Prelude.{MatchOption, None, Some, slice_index_or, slice_set, take}
use Rattle.std.proofs.Common.{ap, append_assoc, arith, refl, subst, sym, ◌∙◌}
use Rattle.std.proofs.lemmas.List.{get_or_append_left, get_or-append_right, length-append, set-append_left}
use Rattle.std.proofs.lemmas.List.{set-append_right}
use Rattle.point_order.specs.declared.cell.Cell.{Cell}
use Rattle.cell_slots.specs.Nets.{AreWith, cells_of_slots, slot_at}
use Rattle.cell_slots.specs.Pages.{AreWhole, slots_of}
use Rattle.cell_slots.proofs.Beside.{flat_behind}
use Rattle.cell_slots.proofs.Moving.{live_free}
use Rattle.cell_slots.proofs.Nets.{with_front, with_here}

-- so many slots have whole pages
pub whole_len : (pages : List (List (Option Cell))) → AreWhole pages → length (slots_of pages) ≡ 128 * length pages
whole_len [] w = omega arith
whole_len (p ∷ pages) w =
    let e = length-append p (slots_of pages) in
    let h = w.0 in
    let t = whole_len pages w.1 in
    omega (arith, e, h, t)

-- each of whole pages has so many
pub whole_at : (pages : List (List (Option Cell))) (b : ℕ) (d : List (Option Cell)) → AreWhole pages →
    b < length pages → length (slice_index_or pages b d) ≡ 128
whole_at [] b d w l = absurd (omega (arith, l))
whole_at (p ∷ pages) zero d w l = w.0
whole_at (p ∷ pages) (suc b) d w l = whole_at pages b d w.1 (omega (arith, l))

-- a slot of a page is one of those of all
slot_of_page : (pages : List (List (Option Cell))) (b j : ℕ) (d : List (Option Cell)) → AreWhole pages →
    b < length pages → j < 128 → slot_at (slots_of pages) (128 * b + j) ≡ slot_at (slice_index_or pages b d) j
slot_of_page [] b j d w l h = absurd (omega (arith, l))
slot_of_page (p ∷ pages) zero j d w l h =
    let k : j < length p = (let e = w.0 in omega (arith, e, h)) in
    let n : 128 * zero + j ≡ j = omega arith in
    ap (slot_at (p ++ slots_of pages)) n ∙ get_or_append_left p (slots_of pages) None j k
slot_of_page (p ∷ pages) (suc b) j d w l h =
    let n : 128 ≤ 128 * suc b + j = omega arith in
    let e : 128 * suc b + j - 128 ≡ 128 * b + j = omega arith in
    get_or-append_right p (slots_of pages) 128 (128 * suc b + j) None w.0 n ∙ ap (slot_at (slots_of pages)) e
    ∙ slot_of_page pages b j d w.1 (omega (arith, l)) h

-- and where it becomes another, so it does among all
page_set : (pages : List (List (Option Cell))) (b j : ℕ) (d : List (Option Cell)) (x : Option Cell) →
    AreWhole pages → b < length pages → j < 128 →
    slots_of (slice_set pages b (slice_set (slice_index_or pages b d) j x)) ≡ slice_set (slots_of pages) (128 * b + j) x
page_set [] b j d x w l h = absurd (omega (arith, l))
page_set (p ∷ pages) zero j d x w l h =
    let k : j < length p = (let e = w.0 in omega (arith, e, h)) in
    let n : 128 * zero + j ≡ j = omega arith in
    sym (ap (λ i. slice_set (p ++ slots_of pages) i x) n ∙ set-append_left p (slots_of pages) j x k)
page_set (p ∷ pages) (suc b) j d x w l h =
    let n : 128 ≤ 128 * suc b + j = omega arith in
    let e : 128 * suc b + j - 128 ≡ 128 * b + j = omega arith in
    ap (λ v. p ++ v) (page_set pages b j d x w.1 (omega (arith, l)) h)
    ∙ sym (set-append_right p (slots_of pages) 128 (128 * suc b + j) x w.0 n
    ∙ ap (λ i. p ++ slice_set (slots_of pages) i x) e)

-- a place in pages
module _ (pages : List (List (Option Cell))) (i : ℕ) (d : List (Option Cell)) (w : AreWhole pages) where
  -- is made of that of the page and that in it
  parted : 128 * (i / 128) + i % 128 ≡ i
  parted = omega arith

  within : i % 128 < 128
  within = omega arith

  -- it is one where the page is one
  pub place_below : i / 128 < length pages → i < length (slots_of pages)
  place_below l = let e = whole_len pages w in omega (arith, e, l)

  -- and the page is one where it is
  pub page_below : i < length (slots_of pages) → i / 128 < length pages
  page_below l = let e = whole_len pages w in omega (arith, e, l)

  -- the place in the page is one
  pub in_page : i / 128 < length pages → i % 128 < length (slice_index_or pages (i / 128) d)
  in_page l = let e = whole_at pages (i / 128) d w l in omega (arith, e)

  -- what stands there
  pub stands_there : i / 128 < length pages →
      slot_at (slots_of pages) i ≡ slot_at (slice_index_or pages (i / 128) d) (i % 128)
  stands_there l =
      subst (λ k. slot_at (slots_of pages) k ≡ slot_at (slice_index_or pages (i / 128) d) (i % 128)) parted
      (slot_of_page pages (i / 128) (i % 128) d w l within)

  -- and becomes another
  pub becomes : (x : Option Cell) → i / 128 < length pages →
      slots_of (slice_set pages (i / 128) (slice_set (slice_index_or pages (i / 128) d) (i % 128) x))
      ≡ slice_set (slots_of pages) i x
  becomes x l =
      subst (λ k. slots_of (slice_set pages (i / 128) (slice_set (slice_index_or pages (i / 128) d) (i % 128) x))
      ≡ slice_set (slots_of pages) k x) parted
      (page_set pages (i / 128) (i % 128) d x w l within)

  -- the slot that was found in the page is that of the place
  pub found_there : {S : Type 0} (r : Option S) (now : S → Option Cell) → i / 128 < length pages →
      MatchOption r (length (slice_index_or pages (i / 128) d) ≤ i % 128) (λ s.
      (i % 128 < length (slice_index_or pages (i / 128) d))
      × (slot_at (slice_index_or pages (i / 128) d) (i % 128) ≡ now s)) →
      MatchOption r (length (slots_of pages) ≤ i) (λ s.
      (i < length (slots_of pages)) × (slot_at (slots_of pages) i ≡ now s))
  found_there None now l h = absurd (let e = in_page l in omega (arith, e, h))
  found_there (Some s) now l h = (place_below l, stands_there l ∙ h.1)

-- pages of which one becomes another are whole
pub whole_set : (pages : List (List (Option Cell))) (b : ℕ) (x : List (Option Cell)) → AreWhole pages →
    length x ≡ 128 → AreWhole (slice_set pages b x)
whole_set [] b x w e = w
whole_set (p ∷ pages) zero x w e = (e, w.1)
whole_set (p ∷ pages) (suc b) x w e = (w.0, whole_set pages b x w.1 e)

-- so are those behind which another comes
pub whole_push : (pages : List (List (Option Cell))) (x : List (Option Cell)) → AreWhole pages → length x ≡ 128 →
    AreWhole (pages ++ x ∷ [])
whole_push [] x w e = (e, tt)
whole_push (p ∷ pages) x w e = (w.0, whole_push pages x w.1 e)

-- and those before the last, which is whole too
pub whole_pop : (pages : List (List (Option Cell))) (x : List (Option Cell)) → AreWhole (pages ++ x ∷ []) →
    AreWhole pages
whole_pop [] x w = tt
whole_pop (p ∷ pages) x w = (w.0, whole_pop pages x w.1)

-- the last is whole
pub whole_last : (pages : List (List (Option Cell))) (x : List (Option Cell)) → AreWhole (pages ++ x ∷ []) →
    length x ≡ 128
whole_last [] x w = w.0
whole_last (p ∷ pages) x w = whole_last pages x w.1

-- the slots with those of a page behind them
pub page_behind : (list : List (Option Cell)) (pages : List (List (Option Cell))) (x : List (Option Cell)) →
    list ++ slots_of (pages ++ x ∷ []) ≡ (list ++ slots_of pages) ++ x
page_behind list pages x =
    ap (λ v. list ++ v) (flat_behind (λ (p : List (Option Cell)). p) pages x)
    ∙ sym (append_assoc list (slots_of pages) x)

-- a free slot behind others
pub free_behind : (slots : List (Option Cell)) (x : Option Cell) (n : ℕ) → x ≡ None → cells_of_slots slots ≡ [] →
    length slots ≡ n → (cells_of_slots (slots ++ x ∷ []) ≡ []) × (length (slots ++ x ∷ []) ≡ n + 1)
free_behind slots x n e c l =
    let a : length (slots ++ x ∷ []) ≡ length slots + 1 = length-append slots (x ∷ []) in (
      ap (λ (y : Option Cell). cells_of_slots (slots ++ y ∷ [])) e ∙ live_free slots ∙ c,
      omega (arith, a, l),
    )

-- the first of free slots becomes another
pub first_set : (slots : List (Option Cell)) (x : Option Cell) → cells_of_slots slots ≡ [] → 0 < length slots →
    cells_of_slots (slice_set slots zero x) ≡ cells_of_slots (x ∷ [])
first_set [] x e l = absurd (omega (arith, l))
first_set (Some c ∷ slots) x e l = absurd (cc e)
first_set (None ∷ slots) None e l = e
first_set (None ∷ slots) (Some c) e l = ap (λ (v : List Cell). c ∷ v) e

-- a cell between others
pub with_between : (front behind : List (Option Cell)) (c : Cell) →
    AreWith (cells_of_slots (front ++ behind)) c (cells_of_slots (front ++ Some c ∷ behind))
with_between [] behind c = with_here (cells_of_slots behind) c
with_between (None ∷ front) behind c = with_between front behind c
with_between (Some x ∷ front) behind c =
    with_front (cells_of_slots (front ++ behind)) (cells_of_slots (front ++ Some c ∷ behind)) c x
    (with_between front behind c)

-- a free slot between others
pub free_between : (front behind : List (Option Cell)) →
    cells_of_slots (front ++ None ∷ behind) ≡ cells_of_slots (front ++ behind)
free_between [] behind = refl
free_between (None ∷ front) behind = free_between front behind
free_between (Some x ∷ front) behind = ap (λ (v : List Cell). x ∷ v) (free_between front behind)

-- the cells of the first slots and of the next
next : (slots : List (Option Cell)) (i : ℕ) → i < length slots →
    cells_of_slots (take (suc i) slots) ≡ cells_of_slots (take i slots) ++ cells_of_slots (slot_at slots i ∷ [])
next [] i l = absurd (omega (arith, l))
next (None ∷ slots) zero l = refl
next (Some x ∷ slots) zero l = refl
next (None ∷ slots) (suc i) l = next slots i (omega (arith, l))
next (Some x ∷ slots) (suc i) l = ap (λ (v : List Cell). x ∷ v) (next slots i (omega (arith, l)))

pub cells_next : (slots : List (Option Cell)) (i : ℕ) → i < length slots →
    cells_of_slots (take (i + 1) slots) ≡ cells_of_slots (take i slots) ++ cells_of_slots (slot_at slots i ∷ [])
cells_next slots i l =
    let e : suc i ≡ i + 1 = omega arith in
    subst (λ k. cells_of_slots (take k slots) ≡ cells_of_slots (take i slots) ++ cells_of_slots (slot_at slots i ∷ []))
    e (next slots i l)

-- the last page is taken off
pub record IsPopped (list : List (Option Cell)) (pages rest : List (List (Option Cell))) (x : List (Option Cell))
    (n : ℕ) : Type 0 where
  pub size : length x ≡ 128
  pub whole : AreWhole rest
  pub count : length (list ++ slots_of rest) + 128 ≡ n
  pub parts : list ++ slots_of pages ≡ (list ++ slots_of rest) ++ x

pub popped : (list : List (Option Cell)) (pages rest : List (List (Option Cell))) (x : List (Option Cell)) (n : ℕ) →
    pages ≡ rest ++ x ∷ [] → AreWhole pages → length (list ++ slots_of pages) ≡ n → IsPopped list pages rest x n
popped list pages rest x n e w l =
    let h = subst AreWhole e w in
    let parts : list ++ slots_of pages ≡ (list ++ slots_of rest) ++ x =
    ap (λ v. list ++ slots_of v) e ∙ page_behind list rest x in
    let size = whole_last rest x h in
    let a = ap length parts ∙ length-append (list ++ slots_of rest) x in
    record { size = size; whole = whole_pop rest x h; count = omega (arith, a, size, l); parts = parts }
