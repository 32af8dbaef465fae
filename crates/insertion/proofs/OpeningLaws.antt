-- The mesh of four independent points stands for the history that begins with them.
use Rattle.std.specs.Prelude.{◌≡◌, refl, ℕ, zero, suc, ◌<◌, true, false, Bool, cond, List, [], ◌∷◌, ◌++◌, length}
use Rattle.std.specs.Prelude.{Option, Some, slice_index_or, ◌==◌}
use Rattle.std.specs.List.{filter}
use Rattle.std.proofs.Common.{inl, inr, ap, sym, subst, ◌∙◌, arith}
use Rattle.point_order.specs.declared.cell.Cell.{Cell}
use Rattle.point_order.specs.Complex.{complex}
use Rattle.point_order.specs.Coordinates.{IsKey}
use Rattle.point_order.specs.Orientation.{is_flat}
use Rattle.point_order.specs.Sets.{IsIn, IsAscending, AreFour, ascending}
use Rattle.point_order.specs.Solid.{is_solid}
use Rattle.point_order.proofs.Cited.{ascending_ascending, in_ascending, in_ascending_from}
use Rattle.edit_history.specs.declared.history.Entry.{Entry}
use Rattle.edit_history.specs.Edits.{is_move, point_of, changed}
use Rattle.edit_history.specs.Histories.{replay, IsLegal}
use Rattle.edit_history.proofs.Cited.{leaves_set, solid_from}
use Rattle.del_laws.specs.Keys.{AreKeys}
use Rattle.bucket_grid.specs.Grids.{bucket_of}
use Rattle.cell_store.specs.Swaps.{swapped, touches}
use Rattle.cell_store.specs.Buckets.{BucketContent, InHand, bucket_at, at_place}
use Rattle.cell_store.specs.Shares.{Stands, IsShare, points_share, cells_share, entries_share}
use Rattle.cell_store.specs.Changes.{IsNoted, noted_in, swapped_in}
use Rattle.cell_changes.specs.Changes.{IsChange}
use Rattle.cell_store.proofs.Cited.{cells_after, entries_after, entries_stay, mapped_some, points_after, points_stay}
use Rattle.cell_store.proofs.Cited.{replay_next}
use Rattle.insertion.specs.Opening.{IsBare}
use Rattle.opening_entries.specs.Opening.{inserted, opening_history, AreFourIndependent}
use Rattle.opening_entries.proofs.Cited.{AreNew, four_apart, four_new, leaves_four, legal_from, points_of_lines}
use Rattle.insertion.specs.Opening.{HasCellsOfFour, bare_bucket}
use Rattle.hole_laws.specs.FiveCells.{five_cells}
use Rattle.hole_laws.proofs.Cited.{four_have_five}

-- ---- buckets

-- a bucket has the points and entries of a history, and no cells yet
abbrev HasLines : ℕ → ℕ → List Entry → BucketContent → Type 0
HasLines g b h c = (c.points ≡ points_share g b h) × (c.entries ≡ entries_share g b h) × (c.cells ≡ [])

-- with one more entry
noted_lines : (g b : ℕ) (h : List Entry) (e : Entry) (c : BucketContent) → IsLegal (h ++ e ∷ []) →
    is_move e.edit ≡ false → HasLines g b h c → HasLines g b (h ++ e ∷ []) (noted_in g b e c)
noted_lines g b h e c l still s = by (bucket_of g (point_of e.edit) == b) refl
  where
    test : ℕ → Bool
    test = λ p. bucket_of g p == b

    by : (o : Bool) → (bucket_of g (point_of e.edit) == b) ≡ o →
        HasLines g b (h ++ e ∷ []) (cond o (record c {
          points = changed c.points (point_of e.edit) e.reply;
          entries = c.entries ++ e ∷ [];
        }) c)
    by true t = (
      ap (λ m. changed m (point_of e.edit) e.reply) s.0 ∙ points_after test (point_of e.edit) e.reply (replay h)
          (leaves_set h) t ∙ ap (filter test) (sym (replay_next h e l still)),
      ap (λ m. m ++ e ∷ []) s.1 ∙ entries_after g b h e t,
      s.2,
    )
    by false t = (
      s.0 ∙ points_stay test (point_of e.edit) e.reply (replay h) (leaves_set h) t
          ∙ ap (filter test) (sym (replay_next h e l still)),
      s.1 ∙ entries_stay g b h e t,
      s.2,
    )

-- the complex of no points has no cells
none_listed : complex [] ≡ []
unfolding complex
none_listed = refl

-- the five cells are what the opening brings
brings_five : (h : List Entry) (a b c d : ℕ) → replay h ≡ a ∷ b ∷ c ∷ d ∷ [] → IsAscending (a ∷ b ∷ c ∷ d ∷ []) →
    AreKeys (a ∷ b ∷ c ∷ d ∷ []) → is_solid (a ∷ b ∷ c ∷ d ∷ []) ≡ true →
    IsChange (complex (replay [])) (complex (replay h)) [] (five_cells a b c d)
brings_five h a b c d e l k v = record {
  went = λ q i. absurd i;
  all_gone = λ q i n. absurd (none q i);
  came = λ q i. (subst (λ (s : List ℕ). IsIn q (complex s)) (sym e) ((four_have_five a b c d l k v q).1 i), none q);
  all_fresh = λ q i n. (four_have_five a b c d l k v q).0 (subst (λ (s : List ℕ). IsIn q (complex s)) e i);
}
  where
    none : (q : Cell) → IsIn q (complex []) → ⊥
    none q i = subst (λ (m : List Cell). IsIn q m) none_listed i

-- the share of a bucket after the four entries and the five cells
opening_share : (g n : ℕ) (a b c d : ℕ × ℕ) (w x y z : ℕ) → is_flat a.1 b.1 c.1 d.1 ≡ false →
    ascending (a.1 ∷ b.1 ∷ c.1 ∷ d.1 ∷ []) ≡ w ∷ x ∷ y ∷ z ∷ [] → AreKeys (w ∷ x ∷ y ∷ z ∷ []) →
    is_solid (w ∷ x ∷ y ∷ z ∷ []) ≡ true →
    IsShare g n (opening_history (a ∷ b ∷ c ∷ d ∷ [])) (swapped_in g n [] (five_cells w x y z)
    (noted_in g n (inserted 3 d) (noted_in g n (inserted 2 c) (noted_in g n (inserted 1 b)
    (noted_in g n (inserted 0 a) (at_place g n bare_bucket))))))
opening_share g n a b c d w x y z f e k v = record {
  points = four.0;
  cells = ap (swapped g n [] (five_cells w x y z)) (four.2 ∙ sym no_cells)
      ∙ cells_after g n [] h [] (five_cells w x y z) (brings_five h w x y z (leaves_four a b c d f ∙ e)
      (subst IsAscending e (ascending_ascending (a.1 ∷ b.1 ∷ c.1 ∷ d.1 ∷ []))) k v);
  entries = four.1;
}
  where
    h : List Entry
    h = opening_history (a ∷ b ∷ c ∷ d ∷ [])

    new : AreNew [] (a ∷ b ∷ c ∷ d ∷ [])
    new = four_new a b c d f

    no_cells : cells_share g n [] ≡ []
    no_cells = ap (filter (touches g n)) none_listed

    e0 : Entry
    e0 = inserted 0 a

    e1 : Entry
    e1 = inserted 1 b

    e2 : Entry
    e2 = inserted 2 c

    bare : BucketContent
    bare = at_place g n bare_bucket

    one : HasLines g n (e0 ∷ []) (noted_in g n e0 bare)
    one = noted_lines g n [] e0 bare (legal_from 0 [] (a ∷ []) (new.0, tt)) refl (refl, refl, refl)

    two : HasLines g n (e0 ∷ e1 ∷ []) (noted_in g n e1 (noted_in g n e0 bare))
    two =
        noted_lines g n (e0 ∷ []) e1 (noted_in g n e0 bare) (legal_from 0 [] (a ∷ b ∷ []) (new.0, (new.1.0, tt))) refl
        one

    three : HasLines g n (e0 ∷ e1 ∷ e2 ∷ []) (noted_in g n e2 (noted_in g n e1 (noted_in g n e0 bare)))
    three =
        noted_lines g n (e0 ∷ e1 ∷ []) e2 (noted_in g n e1 (noted_in g n e0 bare))
        (legal_from 0 [] (a ∷ b ∷ c ∷ []) (new.0, (new.1.0, (new.1.1.0, tt)))) refl two

    four : HasLines g n h (noted_in g n (inserted 3 d) (noted_in g n e2 (noted_in g n e1 (noted_in g n e0 bare))))
    four =
        noted_lines g n (e0 ∷ e1 ∷ e2 ∷ []) (inserted 3 d) (noted_in g n e2 (noted_in g n e1 (noted_in g n e0 bare)))
        (legal_from 0 [] (a ∷ b ∷ c ∷ d ∷ []) new) refl three

-- a place that has a bucket is one of the list
has_place : (l : List (Option BucketContent)) (b : ℕ) (c : BucketContent) → bucket_at l b ≡ Some c → b < length l
has_place [] b c e = absurd (cc e)
has_place (o ∷ l) zero c e = omega arith
has_place (o ∷ l) (suc b) c e = (let i = has_place l b c e in omega (arith, i))

-- an option has one value
some_same : (a b : BucketContent) → Some a ≡ Some b → a ≡ b
some_same a b e = cc

-- the four are noted in turn
abbrev pub NotedFour : List (ℕ × ℕ) → InHand → InHand → InHand → InHand → InHand → Type 0
NotedFour (a ∷ b ∷ c ∷ d ∷ []) bare n0 n1 n2 n3 =
    IsNoted (inserted 0 a) bare n0 × IsNoted (inserted 1 b) n0 n1 × IsNoted (inserted 2 c) n1 n2
    × IsNoted (inserted 3 d) n2 n3
NotedFour _ bare n0 n1 n2 n3 = ⊥

-- once the four are noted and the five cells are in, the hold stands for the opening history
pub opening_stands :
    (g : ℕ) (four : List (ℕ × ℕ)) (bare n0 n1 n2 n3 mesh : InHand) → AreFourIndependent four →
    ((p : ℕ × ℕ) → IsIn p four → IsKey p.1) → IsBare g bare →
    NotedFour four bare n0 n1 n2 n3 → HasCellsOfFour (points_of_lines four) n3 mesh → Stands mesh (opening_history four)
opening_stands g (a ∷ b ∷ c ∷ d ∷ []) bare n0 n1 n2 n3 mesh f k e n s =
    record {
      legal = legal_from 0 [] (a ∷ b ∷ c ∷ d ∷ []) (four_new a b c d f);
      keys = subst AreKeys (sym left) keys;
      solid = ap is_solid left ∙ solid;
      shares = each;
    }
  where
    ps : List ℕ
    ps = a.1 ∷ b.1 ∷ c.1 ∷ d.1 ∷ []

    left : replay (opening_history (a ∷ b ∷ c ∷ d ∷ [])) ≡ s.a ∷ s.b ∷ s.c ∷ s.d ∷ []
    left = leaves_four a b c d f ∙ s.sorted

    keys : AreKeys (s.a ∷ s.b ∷ s.c ∷ s.d ∷ [])
    keys = record {
      below = λ p i. elim (in_ascending ps p (subst (λ (m : List ℕ). IsIn p m) (sym s.sorted) i)) [
        | inl e ↦ subst IsKey e (k a (inl refl))
        | inr i ↦ elim i [
          | inl e ↦ subst IsKey e (k b (inr (inl refl)))
          | inr i ↦ elim i [
            | inl e ↦ subst IsKey e (k c (inr (inr (inl refl))))
            | inr i ↦ elim i [ inl e ↦ subst IsKey e (k d (inr (inr (inr (inl refl))))) | inr none ↦ absurd none ]
          ]
        ]
      ];
    }

    there : (p : ℕ) → IsIn p ps → IsIn p (s.a ∷ s.b ∷ s.c ∷ s.d ∷ [])
    there p i = subst (λ (m : List ℕ). IsIn p m) s.sorted (in_ascending_from ps p i)

    solid : is_solid (s.a ∷ s.b ∷ s.c ∷ s.d ∷ []) ≡ true
    solid =
        solid_from (s.a ∷ s.b ∷ s.c ∷ s.d ∷ []) a.1 b.1 c.1 d.1 (there a.1 (inl refl)) (there b.1 (inr (inl refl)))
        (there c.1 (inr (inr (inl refl)))) (there d.1 (inr (inr (inr (inl refl))))) f

    each : (m : ℕ) (x : BucketContent) → bucket_at mesh.places m ≡ Some x →
        IsShare mesh.grid m (opening_history (a ∷ b ∷ c ∷ d ∷ [])) x
    each m x q =
        let five = five_cells s.a s.b s.c s.d in
        let r5 = mapped_some (swapped_in n3.grid m [] five) (bucket_at n3.places m) x (sym (s.swapped.places m) ∙ q) in
        let r4 =
        mapped_some (noted_in n2.grid m (inserted 3 d)) (bucket_at n2.places m) r5.0 (sym (n.3.places m) ∙ r5.1) in
        let r3 =
        mapped_some (noted_in n1.grid m (inserted 2 c)) (bucket_at n1.places m) r4.0 (sym (n.2.places m) ∙ r4.1) in
        let r2 =
        mapped_some (noted_in n0.grid m (inserted 1 b)) (bucket_at n0.places m) r3.0 (sym (n.1.places m) ∙ r3.1) in
        let r1 = mapped_some (noted_in bare.grid m (inserted 0 a)) (bucket_at bare.places m) r2.0
        (sym (n.0.places m) ∙ r2.1) in
        let c0 : at_place g m bare_bucket ≡ r1.0 =
        some_same (at_place g m bare_bucket) r1.0 (sym (e.bare m (has_place bare.places m r1.0 r1.1)) ∙ r1.1) in
        let g0 = e.grid in
        let g1 = n.0.grid ∙ g0 in
        let g2 = n.1.grid ∙ g1 in
        let g3 = n.2.grid ∙ g2 in
        let g4 = n.3.grid ∙ g3 in
        let g5 = s.swapped.grid ∙ g4 in
        let c1 : noted_in g m (inserted 0 a) (at_place g m bare_bucket) ≡ r2.0 =
        ap (noted_in g m (inserted 0 a)) c0 ∙ ap (λ v. noted_in v m (inserted 0 a) r1.0) (sym g0) ∙ r1.2 in
        let c2 : noted_in g m (inserted 1 b) (noted_in g m (inserted 0 a) (at_place g m bare_bucket)) ≡ r3.0 =
        ap (noted_in g m (inserted 1 b)) c1 ∙ ap (λ v. noted_in v m (inserted 1 b) r2.0) (sym g1) ∙ r2.2 in
        let c3 : noted_in g m (inserted 2 c) (noted_in g m (inserted 1 b)
        (noted_in g m (inserted 0 a) (at_place g m bare_bucket))) ≡ r4.0 = ap (noted_in g m (inserted 2 c)) c2
        ∙ ap (λ v. noted_in v m (inserted 2 c) r3.0) (sym g2) ∙ r3.2 in
        let c4 : noted_in g m (inserted 3 d) (noted_in g m (inserted 2 c)
        (noted_in g m (inserted 1 b) (noted_in g m (inserted 0 a) (at_place g m bare_bucket)))) ≡ r5.0 =
        ap (noted_in g m (inserted 3 d)) c3 ∙ ap (λ v. noted_in v m (inserted 3 d) r4.0) (sym g3) ∙ r4.2 in
        let c5 = ap (swapped_in g m [] five) c4 ∙ ap (λ v. swapped_in v m [] five r5.0) (sym g4) ∙ r5.2 in
        subst (λ v. IsShare v m (opening_history (a ∷ b ∷ c ∷ d ∷ [])) x) (sym g5)
        (subst (IsShare g m (opening_history (a ∷ b ∷ c ∷ d ∷ []))) c5
        (opening_share g m a b c d s.a s.b s.c s.d f s.sorted keys solid))
opening_stands g [] bare n0 n1 n2 n3 mesh f k e n s = absurd f
opening_stands g (a ∷ []) bare n0 n1 n2 n3 mesh f k e n s = absurd f
opening_stands g (a ∷ b ∷ []) bare n0 n1 n2 n3 mesh f k e n s = absurd f
opening_stands g (a ∷ b ∷ c ∷ []) bare n0 n1 n2 n3 mesh f k e n s = absurd f
opening_stands g (a ∷ b ∷ c ∷ d ∷ x ∷ l) bare n0 n1 n2 n3 mesh f k e n s = absurd f

-- ---- for four lines in a list, by their places

-- the line at a place
abbrev pub at : List (ℕ × ℕ) → ℕ → ℕ × ℕ → ℕ × ℕ
at four i none = slice_index_or four i none

-- so the four at the places of the list are four
pub apart_by : (four : List (ℕ × ℕ)) (w x y z : ℕ × ℕ) → AreFourIndependent four →
    AreFour (at four 0 w).1 (at four 1 x).1 (at four 2 y).1 (at four 3 z).1
apart_by [] w x y z f = absurd f
apart_by (a ∷ []) w x y z f = absurd f
apart_by (a ∷ b ∷ []) w x y z f = absurd f
apart_by (a ∷ b ∷ c ∷ []) w x y z f = absurd f
apart_by (a ∷ b ∷ c ∷ d ∷ []) w x y z f = four_apart a.1 b.1 c.1 d.1 f
apart_by (a ∷ b ∷ c ∷ d ∷ e ∷ l) w x y z f = absurd f

-- and so with four lines that are read at their places
pub stands_by :
    (g : ℕ) (four : List (ℕ × ℕ)) (s t u v w x y z : ℕ × ℕ) (bare n0 n1 n2 n3 mesh : InHand) → AreFourIndependent four →
    IsKey (at four 0 w).1 → IsKey (at four 1 x).1 → IsKey (at four 2 y).1 → IsKey (at four 3 z).1 → IsBare g bare →
    IsNoted (inserted 0 ((at four 0 s).0, (at four 0 w).1)) bare n0 →
    IsNoted (inserted 1 ((at four 1 t).0, (at four 1 x).1)) n0 n1 →
    IsNoted (inserted 2 ((at four 2 u).0, (at four 2 y).1)) n1 n2 →
    IsNoted (inserted 3 ((at four 3 v).0, (at four 3 z).1)) n2 n3 →
    HasCellsOfFour ((at four 0 w).1 ∷ (at four 1 x).1 ∷ (at four 2 y).1 ∷ (at four 3 z).1 ∷ []) n3 mesh →
    Stands mesh (opening_history four)
stands_by g [] s t u v w x y z bare n0 n1 n2 n3 mesh f k0 k1 k2 k3 e i0 i1 i2 i3 h = absurd f
stands_by g (a ∷ []) s t u v w x y z bare n0 n1 n2 n3 mesh f k0 k1 k2 k3 e i0 i1 i2 i3 h = absurd f
stands_by g (a ∷ b ∷ []) s t u v w x y z bare n0 n1 n2 n3 mesh f k0 k1 k2 k3 e i0 i1 i2 i3 h = absurd f
stands_by g (a ∷ b ∷ c ∷ []) s t u v w x y z bare n0 n1 n2 n3 mesh f k0 k1 k2 k3 e i0 i1 i2 i3 h = absurd f
stands_by g (a ∷ b ∷ c ∷ d ∷ []) s t u v w x y z bare n0 n1 n2 n3 mesh f k0 k1 k2 k3 e i0 i1 i2 i3 h =
    opening_stands g (a ∷ b ∷ c ∷ d ∷ []) bare n0 n1 n2 n3 mesh f keys e (i0, i1, i2, i3) h
  where
    keys : (p : ℕ × ℕ) → IsIn p (a ∷ b ∷ c ∷ d ∷ []) → IsKey p.1
    keys p i = elim i [
      | inl q ↦ subst (λ (r : ℕ × ℕ). IsKey r.1) q k0
      | inr i ↦ elim i [
        | inl q ↦ subst (λ (r : ℕ × ℕ). IsKey r.1) q k1
        | inr i ↦ elim i [
          | inl q ↦ subst (λ (r : ℕ × ℕ). IsKey r.1) q k2
          | inr i ↦ elim i [ inl q ↦ subst (λ (r : ℕ × ℕ). IsKey r.1) q k3 | inr none ↦ absurd none ]
        ]
      ]
    ]
stands_by g (a ∷ b ∷ c ∷ d ∷ q ∷ l) s t u v w x y z bare n0 n1 n2 n3 mesh f k0 k1 k2 k3 e i0 i1 i2 i3 h = absurd f
