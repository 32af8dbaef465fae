-- The cells that fill a hole, and the list of cells after the exchange.
use Rattle.std.specs.Prelude.{ℕ, List, [], ◌∷◌, ◌++◌, map}
use Rattle.std.proofs.Common.{append_assoc, refl, sym, subst, inl, inr}
use Rattle.list_laws.specs.Lists.{AreDistinct}
use Rattle.list_laws.proofs.Cited.{distinct_map, from_append, in_left, in_right, mapped_from, mapped_true}
use Rattle.point_order.specs.declared.cell.Cell.{Cell}
use Rattle.point_order.specs.declared.cell.Facet.{Facet}
use Rattle.point_order.specs.Complex.{complex}
use Rattle.point_order.specs.Sets.{IsIn, with_point}
use Rattle.point_order.proofs.Cited.{in_with_old}
use Rattle.del_laws.proofs.Cited.{listed_inside, listed_is_cell, solid_more}
use Rattle.hole_laws.specs.Lists.{cell_over}
use Rattle.hole_laws.specs.Edits.{IsSolidSet, IsNew, IsFresh}
use Rattle.hole_laws.proofs.Cited.{cells_after, fresh_have_point, more_set, old_lack_point, one_fresh_each, on_cell}
use Rattle.hole_laws.proofs.ExchangedLists.{decided}
use Rattle.cell_slots.specs.Clouds.{AreCellsOf}
use Rattle.cell_slots.specs.Nets.{AreMoved, AreWith, AreWithAll}
use Rattle.net_digs.specs.Digs.{IsHoleFilled, IsHoleOf}
use Rattle.hole_laws.specs.Digs.{IsFacetApart}
use Rattle.cell_slots.proofs.Cited.{first_distinct, in_two, joined, last_distinct, moved_cells, moved_last, moved_over}

module _ (s : List ℕ) (p : ℕ) (i : IsSolidSet s) (n : IsNew s p) (gone : List Cell) (rim : List Facet)
    (k : IsHoleOf s p gone rim) where
  -- the cells over the rim facets
  abbrev over : Facet → Cell
  over f = cell_over f p

  -- each is fresh
  over_fresh : (q : Cell) → IsIn q (map over rim) → IsFresh s p q
  over_fresh q m = let r = mapped_from over q rim m in record { f = r.0; rim = (k.rim_is r.0).0 r.1; is = sym r.2 }

  -- and they fill the hole
  pub filled : IsHoleFilled s p gone (map over rim)
  filled = record {
    gone_is = k.gone_is;
    came = λ q m. (
        let f = over_fresh q m in
        let l = (cells_after s p i n q).1 (inr f) in
        (l, λ j. old_lack_point s p i n q j ((fresh_have_point s p i n q l).0 f)));
    all_fresh = λ q m a. elim ((cells_after s p i n q).0 m) [
      | inl t ↦ absurd (a t.before)
      | inr f ↦ subst (λ (c : Cell). IsIn c (map over rim)) (sym f.is)
          (mapped_true over f.f rim ((k.rim_is f.f).1 f.rim))
    ];
    fresh_once = distinct_map over rim (λ f g a b e. one_fresh_each s p i n f g ((k.rim_is f).0 a) ((k.rim_is g).0 b) e)
        k.rim_once;
  }

  -- a rim facet does not have the point
  pub rim_apart : (f : Facet) → IsIn f rim → IsFacetApart f p
  rim_apart f m =
      let r = (k.rim_is f).0 m in (
        r.gone,
        r.of_gone,
        λ j. n.absent (listed_inside s r.gone (listed_is_cell s r.gone i.set.ascending r.goes.before)
            p (on_cell s i.set r.gone r.goes.before f r.of_gone p j)),
      )

-- ---- the exchange

-- with the fresh cells in the place of the gone ones the list is that of the set with the point
pub exchanged : (s : List ℕ) (p : ℕ) → IsNew s p → (gone fresh rest now : List Cell) → AreCellsOf s (rest ++ gone) →
    IsHoleFilled s p gone fresh → AreWithAll rest fresh now → AreCellsOf (with_point p s) now
exchanged s p n gone fresh rest now k f w =
    let i = k.solid in
    let j = more_set s p i.set n.key in
    let listed : (q : Cell) → IsIn q rest → IsIn q (complex s) = λ q r. (k.members q).0 (in_left q rest gone r) in
    record {
      solid = record { set = j; solid = solid_more s (with_point p s) (λ e m. in_with_old p e s m) i.solid };
      members = λ q. (
        λ m. elim ((w.members q).0 m) [
          | inl r ↦ elim (decided s (with_point p s) i.set j q (listed q r)) [
            | inl y ↦ y
            | inr a ↦ absurd (in_two rest gone q k.once r ((f.gone_is q).1 (record { before = listed q r; after = a })))
          ]
          | inr r ↦ (f.came q r).0
        ],
        λ m. (w.members q).1 (elim ((cells_after s p i n q).0 m) [
          | inl t ↦ elim (from_append q rest gone ((k.members q).1 t.before)) [
            | inl r ↦ inl r
            | inr g ↦ absurd (((f.gone_is q).0 g).after m)
          ]
          | inr r ↦ inr (f.all_fresh q m (λ o. old_lack_point s p i n q o ((fresh_have_point s p i n q m).0 r)))
        ]),
      );
      once = w.once (first_distinct rest gone k.once) f.fresh_once (λ q r m. (f.came q m).1 (listed q r));
    }

-- others stand beside the cells
beside : (rest fresh now others : List Cell) → AreWithAll rest fresh now → AreDistinct (rest ++ others) →
    ((q : Cell) → IsIn q fresh → IsIn q others → ⊥) → AreWithAll (rest ++ others) fresh (now ++ others)
beside rest fresh now others w d apart = record {
  members = λ q. (
    λ m. elim (from_append q now others m) [
      | inl j ↦ elim ((w.members q).0 j) [ inl r ↦ inl (in_left q rest others r) | inr f ↦ inr f ]
      | inr o ↦ inl (in_right q rest others o)
    ],
    λ m. elim m [
      | inl j ↦ elim (from_append q rest others j) [
        | inl r ↦ in_left q now others ((w.members q).1 (inl r))
        | inr o ↦ in_right q now others o
      ]
      | inr f ↦ in_left q now others ((w.members q).1 (inr f))
    ],
  );
  once = λ e f a. joined now others
      (w.once (first_distinct rest others e) f (λ q i j. a q (in_left q rest others i) j))
      (last_distinct rest others e) (λ q i j. elim ((w.members q).0 i) [
        | inl r ↦ in_two rest others q e r j
        | inr k ↦ apart q k j
      ]);
}

-- the exchange, whatever the others are
pub exchanged_beside : (s : List ℕ) (p : ℕ) → IsNew s p → (gone fresh rest now others : List Cell) →
    AreCellsOf s ((rest ++ gone) ++ others) → IsHoleFilled s p gone fresh → AreWithAll rest fresh now →
    AreCellsOf (with_point p s) (now ++ others)
exchanged_beside s p n gone fresh rest now others k f w =
    let moved : AreMoved ((rest ++ gone) ++ others) ((rest ++ others) ++ gone) =
    subst (λ (v : List Cell). AreMoved v ((rest ++ others) ++ gone)) (sym (append_assoc rest gone others))
    (subst (λ (v : List Cell). AreMoved (rest ++ (gone ++ others)) v) (sym (append_assoc rest others gone))
    (moved_last rest (gone ++ others) (others ++ gone) (moved_over gone others))) in
    let all = moved_cells s ((rest ++ gone) ++ others) ((rest ++ others) ++ gone) moved k in
    exchanged s p n gone fresh (rest ++ others) (now ++ others) all f
    (beside rest fresh now others w (first_distinct (rest ++ others) gone all.once)
    (λ q i j. (f.came q i).1 ((all.members q).0 (in_left q (rest ++ others) gone (in_right q rest others j)))))

-- ---- one by one

-- the last is apart from those before
last_once : (l : List Cell) (x : Cell) → AreDistinct (l ++ x ∷ []) → AreDistinct l × ¬ (IsIn x l)
last_once [] x d = (tt, λ m. m)
last_once (y ∷ l) x d =
    let r = last_once l x d.1 in (
      (λ m. d.0 (in_left y l (x ∷ []) m), r.0),
      λ m. elim m [ inl e ↦ d.0 (in_right y l (x ∷ []) (inl (sym e))) | inr k ↦ r.1 k ],
    )

-- one more is put in
pub with_more : (l fresh m m' : List Cell) (c : Cell) → AreWithAll l fresh m → AreWith m c m' →
    AreWithAll l (fresh ++ c ∷ []) m'
with_more l fresh m m' c a b = record {
  members = λ q. (
    λ k. elim ((b.members q).0 k) [
      | inl j ↦ elim ((a.members q).0 j) [ inl o ↦ inl o | inr f ↦ inr (in_left q fresh (c ∷ []) f) ]
      | inr e ↦ inr (in_right q fresh (c ∷ []) (inl e))
    ],
    λ k. elim k [
      | inl o ↦ (b.members q).1 (inl ((a.members q).1 (inl o)))
      | inr j ↦ elim (from_append q fresh (c ∷ []) j) [
        | inl f ↦ (b.members q).1 (inl ((a.members q).1 (inr f)))
        | inr e ↦ elim e [ inl f ↦ (b.members q).1 (inr f) | inr none ↦ absurd none ]
      ]
    ],
  );
  once = λ d e apart.
      let r = last_once fresh c e in
      b.once (a.once d r.0 (λ q i j. apart q i (in_left q fresh (c ∷ []) j)))
      (λ i. elim ((a.members c).0 i) [ inl o ↦ apart c o (in_right c fresh (c ∷ []) (inl refl)) | inr f ↦ r.1 f ]);
}
