-- The table of the cells that go: marks that are put into it, and cells that are looked for.
use Rattle.std.specs.Prelude.{◌≡◌, ◌≢◌, ℕ, ◌+◌, zero, suc, ◌<◌, ◌≤◌, List, [], ◌∷◌, ◌++◌, length, slice_get}
use Rattle.std.specs.Prelude.{slice_index_or, slice_set, ◌↔◌, IsTrue, Bool, false, true, Some, None}
use Rattle.std.proofs.Common.{refl, sym, ◌∙◌, ap, subst, inl, inr, arith, take}
use Rattle.std.proofs.lemmas.Grind.{get_or-set_at}
use Rattle.std.proofs.lemmas.List.{get_or-set_other, get_or_append_left, get_or_past, get_or_push, length-take-le}
use Rattle.std.proofs.lemmas.List.{take_all}
use Rattle.std.proofs.lemmas.Bool.{cases_eq, cases_lt}
use Rattle.std.proofs.lemmas.Option.{slice_get_past, slice_get_read}
use Rattle.list_laws.proofs.Cited.{one_value, take_next}
use Rattle.point_order.specs.declared.cell.Cell.{Cell}
use Rattle.point_order.specs.Sets.{IsIn}
use Rattle.cavity.specs.declared.cell_table.Mark.{Mark}
use Rattle.cavity.specs.declared.cell_table.Mark.TheVariants.{Free, Gone}
use Rattle.cavity.specs.Tables.{IsReachedFrom, IsFreeFrom, KeepsReached, IsMarked, cell_home}

-- ---- places of lists

-- a cell at a place is a member
pub in_at : (l : List Cell) (i : ℕ) (q : Cell) → slice_get l i ≡ Some q → IsIn q l
in_at [] i q e = (cc)
in_at (x ∷ l) zero q e = inl (cc)
in_at (x ∷ l) (suc i) q e = inr (in_at l i q e)

-- the cell at a place is another just where the two are the same
pub at_same : (l : List Cell) (i : ℕ) (x y q : Cell) (same : Bool) → i < length l → x ≡ slice_index_or l i x → y ≡ x →
    IsTrue same ↔ (y ≡ q) → IsTrue same ↔ (slice_get l i ≡ Some q)
at_same l i x y q same h e f t =
    let there : slice_get l i ≡ Some x = slice_get_read l (length l) i x refl h e in
    (λ k. there ∙ ap Some (sym f ∙ t.0 k), λ k. t.1 (f ∙ one_value x q (sym there ∙ k)))

-- and past the end there is none
pub at_past : (l : List Cell) (i : ℕ) (q : Cell) → length l ≤ i → IsTrue false ↔ (slice_get l i ≡ Some q)
at_past l i q h = (
  λ k. (let d : false ≡ true = k in (cc)),
  λ k. (let none : slice_get l i ≡ None = slice_get_past l i h in (cc)),
)

-- a member stands at some place
pub at_some : (l : List Cell) (q : Cell) → IsIn q l → (i : ℕ) × (slice_get l i ≡ Some q)
at_some [] q m = absurd m
at_some (x ∷ l) q (inl e) = (zero, ap Some e)
at_some (x ∷ l) q (inr m) = let r = at_some l q m in (suc r.0, r.1)

-- in a list with one more, a place is one of before, or the last
pub at_pushed : (l : List Cell) (c : Cell) (i : ℕ) (q : Cell) → slice_get (l ++ c ∷ []) i ≡ Some q →
    (P : ℕ → Cell → Type 0) → ((j : ℕ) (r : Cell) → slice_get l j ≡ Some r → P j r) → P (length l) c → P i q
at_pushed [] c zero q e P each last = subst (λ (r : Cell). P 0 r) (let k : c ≡ q = (cc) in k) last
at_pushed [] c (suc i) q e P each last = absurd (let k : slice_get [] i ≡ Some q = e in (cc))
at_pushed (x ∷ l) c zero q e P each last = each zero q e
at_pushed (x ∷ l) c (suc i) q e P each last =
    at_pushed l c i q e (λ j r. P (suc j) r) (λ j r. each (suc j) r)
    (subst (λ (n : ℕ). P n c) (let k : length (x ∷ l) ≡ suc (length l) = omega arith in k) last)

-- ---- putting a mark

-- a place past the end is free
free_past : (marks : List Mark) (k : ℕ) → slice_index_or marks k Free ≢ Free → k < length marks
free_past marks k taken = elim (cases_lt k (length marks))
    [ inl h ↦ h | inr h ↦ absurd (taken (get_or_past marks k Free h)) ]

-- what the place of a cell holds is not free
gone_taken : (marks : List Mark) (k i : ℕ) → slice_index_or marks k Free ≡ Gone i → slice_index_or marks k Free ≢ Free
gone_taken marks k i e f = let d : Gone i ≡ Free = sym e ∙ f in (cc)

-- a mark is put at a free place: what is taken stays what it is
kept_set : (marks : List Mark) (at k : ℕ) (mark : Mark) → slice_index_or marks at Free ≡ Free →
    slice_index_or marks k Free ≢ Free → slice_index_or (slice_set marks at mark) k Free ≡ slice_index_or marks k Free
kept_set marks at k mark free taken =
    get_or-set_other marks at k mark Free (λ e. taken (ap (λ j. slice_index_or marks j Free) e ∙ free))

-- so it does where the mark is put behind the last
kept_push : (marks : List Mark) (k : ℕ) (mark : Mark) → slice_index_or marks k Free ≢ Free →
    slice_index_or (marks ++ mark ∷ []) k Free ≡ slice_index_or marks k Free
kept_push marks k mark taken = get_or_append_left marks (mark ∷ []) Free k (free_past marks k taken)

-- so each mark of a cell is reached still
reached_still : (old new : List Mark) → ((k : ℕ) → slice_index_or old k Free ≢ Free →
    slice_index_or new k Free ≡ slice_index_or old k Free) → KeepsReached old new
reached_still old new same home i r = record {
  place = r.place;
  from = r.from;
  at = same r.place (gone_taken old r.place i r.at) ∙ r.at;
  taken = λ k a b e. r.taken k a b (sym (same k (r.taken k a b)) ∙ e);
}

-- and the one that was put
reached_now : (old new : List Mark) → ((k : ℕ) → slice_index_or old k Free ≢ Free →
    slice_index_or new k Free ≡ slice_index_or old k Free) → (home at : ℕ) (mark : Mark) → IsFreeFrom old home at →
    slice_index_or new at Free ≡ mark → IsReachedFrom new home mark
reached_now old new same home at mark f e = record {
  place = at;
  from = f.from;
  at = e;
  taken = λ k a b d. f.taken k a b (sym (same k (f.taken k a b)) ∙ d);
}

module _ (marks : List Mark) (home at : ℕ) (mark : Mark) (f : IsFreeFrom marks home at) where
  -- it is put at a place of the table
  pub set_kept : KeepsReached marks (slice_set marks at mark)
  set_kept = reached_still marks (slice_set marks at mark) (λ k. kept_set marks at k mark f.free)

  -- it is reached from its home
  pub set_reached : at < length marks → IsReachedFrom (slice_set marks at mark) home mark
  set_reached h = reached_now marks (slice_set marks at mark) (λ k. kept_set marks at k mark f.free) home at mark f
      (get_or-set_at marks at at mark Free refl h)

  -- it is put behind the last
  pub push_kept : (new : List Mark) → new ≡ marks ++ mark ∷ [] → KeepsReached marks new
  push_kept new e = subst (KeepsReached marks) (sym e)
      (reached_still marks (marks ++ mark ∷ []) (λ k. kept_push marks k mark))

  -- so it is where it is put behind the last
  pub push_reached : (new : List Mark) → new ≡ marks ++ mark ∷ [] → length marks ≤ at → IsReachedFrom new home mark
  push_reached new e h =
      subst (λ (l : List Mark). IsReachedFrom l home mark) (sym e)
      (reached_now marks (marks ++ mark ∷ []) (λ k. kept_push marks k mark) home at mark f
      (get_or_push marks mark Free at (omega (arith, f.below, h))))

-- a home up to the mask lies in the table
pub home_within : (home mask n : ℕ) → home ≤ mask → mask < n → home ≤ n
home_within home mask n h l = omega arith

-- ---- what is known, with one cell more

-- where there is room for one more, it is not full
pub has_room : (n room : ℕ) → n + 1 ≤ room → room ≤ n → ⊥
has_room n room h l = absurd (omega arith)

-- a cell more goes
pub goes_pushed : (now goes room pushed : List Cell) (c : Cell) → goes ≡ now → room ≡ goes → pushed ≡ room ++ c ∷ [] →
    pushed ≡ now ++ c ∷ []
goes_pushed now goes room pushed c e r p = p ∙ ap (λ l. l ++ c ∷ []) (r ∙ e)

-- ---- tables

-- a table in which the mark of one more cell is put
pub marked_more : (mask : ℕ) (old new : List Mark) (goes : List Cell) (c : Cell) → IsMarked mask old goes →
    KeepsReached old new → length old ≤ length new → IsReachedFrom new (cell_home mask c) (Gone (length goes)) →
    IsMarked mask new (goes ++ c ∷ [])
marked_more mask old new goes c t k h r = record {
  homes = omega (arith, t.homes);
  reached = λ i q e. at_pushed goes c i q e (λ j x. IsReachedFrom new (cell_home mask x) (Gone j))
      (λ j x d. k (cell_home mask x) j (t.reached j x d)) r;
}

-- a table in which the marks of the first cells stand, and of the next
pub marked_next : (mask : ℕ) (old new : List Mark) (goes : List Cell) (i : ℕ) (c : Cell) → i < length goes →
    c ≡ slice_index_or goes i c → IsMarked mask old (take i goes) → KeepsReached old new → length old ≤ length new →
    IsReachedFrom new (cell_home mask c) (Gone i) → IsMarked mask new (take (i + 1) goes)
marked_next mask old new goes i c h e t k longer r =
    let n : length (take i goes) ≡ i = length-take-le i goes (omega (arith, h)) in
    subst (IsMarked mask new) (sym (take_next goes i c h e))
    (marked_more mask old new (take i goes) c t k longer
    (subst (λ (j : ℕ). IsReachedFrom new (cell_home mask c) (Gone j)) (sym n) r))

-- one in which the marks of all cells stand
pub marked_all : (mask : ℕ) (marks : List Mark) (goes : List Cell) (i : ℕ) → length goes ≤ i →
    IsMarked mask marks (take i goes) → IsMarked mask marks goes
marked_all mask marks goes i h t = subst (IsMarked mask marks) (take_all i goes h) t

-- one in which no cell's mark stands yet
pub marked_none : (mask : ℕ) (marks : List Mark) → mask < length marks → IsMarked mask marks []
marked_none mask marks h = record { homes = h; reached = λ i q e. (cc) }

-- one in which every mark is kept
pub marked_still : (mask : ℕ) (old new : List Mark) (goes : List Cell) → IsMarked mask old goes → KeepsReached old new →
    length old ≤ length new → IsMarked mask new goes
marked_still mask old new goes t k longer = record {
  homes = omega (arith, t.homes);
  reached = λ i q e. k (cell_home mask q) i (t.reached i q e);
}

-- ---- looking for a cell

-- the place is taken, and not by the place of the cell among those that go
pub record IsPassed (marks : List Mark) (goes : List Cell) (q : Cell) (k : ℕ) : Type 0 where
  pub taken : slice_index_or marks k Free ≢ Free
  pub other : (i : ℕ) → slice_index_or marks k Free ≡ Gone i → ¬ (slice_get goes i ≡ Some q)

-- so are all places from the home up to that one
abbrev pub ArePassed : List Mark → ℕ → List Cell → Cell → ℕ → Type 0
ArePassed marks home goes q n = (k : ℕ) → home ≤ k → k < n → IsPassed marks goes q k

-- where a free place follows, the cell is none of those that go
pub none_goes : (marks : List Mark) (home : ℕ) (goes : List Cell) (q : Cell) (n : ℕ) → ArePassed marks home goes q n →
    home ≤ n → slice_index_or marks n Free ≡ Free →
    ((i : ℕ) → slice_get goes i ≡ Some q → IsReachedFrom marks home (Gone i)) → ¬ (IsIn q goes)
none_goes marks home goes q n passed h free reached m =
    let p = at_some goes q m in
    let r = reached p.0 p.1 in
    elim (cases_lt r.place n) [
      | inl l ↦ (passed r.place r.from l).other p.0 r.at p.1
      | inr l ↦ elim (cases_eq n r.place) [
        | inl e ↦ (let d : Gone p.0 ≡ Free = sym r.at ∙ ap (λ k. slice_index_or marks k Free) (sym e) ∙ free in (cc))
        | inr e ↦ r.taken n h (omega (arith, l, e)) free
      ]
    ]

-- another place that is the same has not the cell either
pub not_there : (goes : List Cell) (q : Cell) (i j : ℕ) → i ≡ j → slice_get goes j ≡ Some q →
    ¬ (slice_get goes i ≡ Some q) → ⊥
not_there goes q i j e k n = n (subst (λ (m : ℕ). slice_get goes m ≡ Some q) (sym e) k)

-- one more place was passed
pub passed_more : (marks : List Mark) (home : ℕ) (goes : List Cell) (q : Cell) (n : ℕ) → ArePassed marks home goes q n →
    IsPassed marks goes q n → ArePassed marks home goes q (n + 1)
passed_more marks home goes q n passed here k a b = elim (cases_eq k n) [
  | inl e ↦ subst (λ (i : ℕ). IsPassed marks goes q i) (sym e) here
  | inr e ↦ passed k a (omega (arith, b, e))
]

-- where the cell is none of those that go, no test says that it is
pub no_test : (q : Cell) (goes : List Cell) → ¬ (IsIn q goes) → IsTrue false ↔ IsIn q goes
no_test q goes n = (λ t. (let d : false ≡ true = t in (cc)), λ m. absurd (n m))
