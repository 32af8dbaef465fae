-- A star that is opened in a part, and closed or put back.
use Rattle.std.specs.Prelude.{ℕ, true, List, ◌++◌, MatchOption, None, Option, Some}
use Rattle.std.proofs.Common.{append_assoc, sym, subst, inl, inr}
use Rattle.list_laws.specs.Lists.{AreDistinct}
use Rattle.list_laws.proofs.Cited.{from_append, in_left, in_right}
use Rattle.point_order.specs.declared.cell.Cell.{Cell}
use Rattle.point_order.specs.Complex.{complex}
use Rattle.point_order.specs.Facets.{points_of}
use Rattle.point_order.specs.Sets.{IsIn}
use Rattle.cell_slots.specs.Clouds.{AreCellsOf}
use Rattle.net_digs.specs.Linked.{IsOpened}
use Rattle.cell_slots.specs.Nets.{AreMoved, AreWithAll}
use Rattle.cell_slots.specs.Parts.{InEachSet}
use Rattle.cell_slots.specs.Stars.{AreBehindAll}
use Rattle.cell_slots.proofs.Cited.{moved_cells}
use Rattle.net_digs.proofs.Cited.{refilled}
use Rattle.cell_slots.proofs.Cited.{first_distinct, in_two, joined, last_distinct, moved_first, moved_last, moved_over}
use Rattle.star_refill.specs.Coming.{AreAround, HaveAllAcross}
use Rattle.cell_changes.specs.Changes.{IsRefilled}
use Rattle.gift_wrap.specs.Near.{IsStar}
use Rattle.part_edits.specs.Takes.{IsOpenBeside, IsTakenBeside}

-- of three parts the last two change places
pub moved_aside : (a b c : List Cell) → AreMoved ((a ++ b) ++ c) ((a ++ c) ++ b)
moved_aside a b c =
    subst (λ (v : List Cell). AreMoved v ((a ++ c) ++ b)) (sym (append_assoc a b c))
    (subst (λ (v : List Cell). AreMoved (a ++ (b ++ c)) v) (sym (append_assoc a c b))
    (moved_last a (b ++ c) (c ++ b) (moved_over b c)))

-- the star was taken out of the cells here
pub opened_beside : (others : List Cell) (s : List ℕ) (v : ℕ) (old rest star : List Cell) →
    AreCellsOf s (old ++ others) → IsIn v s → IsOpened v old rest star → IsOpenBeside others s v rest star
opened_beside others s v old rest star k m o = record {
  cells_of = moved_cells s ((rest ++ star) ++ others) ((rest ++ others) ++ star) (moved_aside rest star others)
      (moved_cells s (old ++ others) ((rest ++ star) ++ others) (moved_first old (rest ++ star) others o.moved) k);
  has_v = m;
  star_of = o.star_of others s k;
}

-- others stand beside the cells, among which some come
with_beside : (rest fresh now others : List Cell) → AreWithAll rest fresh now → AreDistinct (rest ++ others) →
    ((q : Cell) → IsIn q fresh → IsIn q others → ⊥) → AreWithAll (rest ++ others) fresh (now ++ others)
with_beside rest fresh now others w d apart = record {
  members = λ q. (
    λ m. elim (from_append q now others m) [
      | inl j ↦ elim ((w.members q).0 j) [ inl r ↦ inl (in_left q rest others r) | inr f ↦ inr f ]
      | inr o ↦ inl (in_right q rest others o)
    ],
    λ m. elim m [
      | inl j ↦ elim (from_append q rest others j) [
        | inl r ↦ in_left q now others ((w.members q).1 (inl r))
        | inr o ↦ in_right q now others o
      ]
      | inr f ↦ in_left q now others ((w.members q).1 (inr f))
    ],
  );
  once = λ e f a. joined now others
      (w.once (first_distinct rest others e) f (λ q i j. a q (in_left q rest others i) j))
      (last_distinct rest others e) (λ q i j. elim ((w.members q).0 i) [
        | inl r ↦ in_two rest others q e r j
        | inr k ↦ apart q k j
      ]);
}

module _ (others : List Cell) (s : List ℕ) (v : ℕ) (rest star : List Cell) (o : IsOpenBeside others s v rest star) where
  -- it is that of v
  star_is : IsStar s v star
  star_is q = (
    λ m. (let h = (o.star_of.star_is q).0 m in (h.listed, h.has)),
    λ p. (o.star_of.star_is q).1 (record { listed = p.0; has = p.1 }),
  )

  -- the star alone
  pub around_star : AreAround s v star star
  around_star = record {
    is_set = o.cells_of.solid.set;
    has_v = o.has_v;
    star_is = star_is;
    listed = λ c m. ((o.star_of.star_is c).0 m).listed;
    among = λ c m. m;
  }

  -- what is behind its facets, as far as it is here
  pub behind_here : (around : List Cell) → InEachSet (rest ++ star) (λ s. AreBehindAll s star star around) →
      AreBehindAll s star star around
  behind_here around b =
      b others s (moved_cells s ((rest ++ others) ++ star) ((rest ++ star) ++ others) (moved_aside rest others star)
      o.cells_of)

  -- with the cells behind its facets
  pub around_all : (around : List Cell) → AreBehindAll s star star around → AreAround s v star around
  around_all around b = record {
    is_set = o.cells_of.solid.set;
    has_v = o.has_v;
    star_is = star_is;
    listed = λ c m. elim (b.listed c m) [ inl j ↦ ((o.star_of.star_is c).0 j).listed | inr j ↦ j ];
    among = b.kept;
  }

  -- among which are all cells across from v
  pub all_across : (around : List Cell) → AreBehindAll s star star around → HaveAllAcross s v around
  all_across around b e x = record {
    cell = x.there;
    among = b.across x.here x.f x.there
        ((o.star_of.star_is x.here).1 (record { listed = x.here_listed; has = x.here_has })) x.of_here
        (record {
          listed = x.there_listed;
          has = x.of_there;
          differs = λ q. x.there_lacks (subst (λ (c : Cell). IsIn v (points_of c)) (sym q) x.here_has);
        });
    has = x.has;
  }

  -- closed with those that come
  pub taken_with : (fresh now : List Cell) → IsRefilled s v star fresh → AreWithAll rest fresh now →
      IsTakenBeside others s v true now
  taken_with fresh now r w =
      let all : (q : Cell) → IsIn q (rest ++ others) → IsIn q (complex s) =
      λ q i. (o.cells_of.members q).0 (in_left q (rest ++ others) star i) in (
        r.solid,
        refilled s v o.has_v r.solid star fresh (rest ++ others) (now ++ others) o.cells_of o.star_of (λ q. (
          λ j. (let a = r.change.came q j in record { before = a.0; after = a.1 }),
          λ g. r.change.all_fresh q g.before g.after,
        )) r.fresh_once
            (with_beside rest fresh now others w (first_distinct (rest ++ others) star o.cells_of.once)
            (λ q i j. (r.change.came q i).1 (all q (in_right q rest others j)))),
      )

  -- put back
  pub back_with : (now : List Cell) → AreMoved (rest ++ star) now → AreCellsOf s (now ++ others)
  back_with now a =
      moved_cells s ((rest ++ star) ++ others) (now ++ others) (moved_first (rest ++ star) now others a)
      (moved_cells s ((rest ++ others) ++ star) ((rest ++ star) ++ others) (moved_aside rest others star) o.cells_of)

-- an answer that supposes what is known
pub known_all : {X : Type 0} (found : Option X) (A P : Type 0) (Q : X → Type 0) → A → MatchOption found (A → P) Q →
    MatchOption found P Q
known_all None A P Q a m = m a
known_all (Some x) A P Q a m = m
