-- An open star, and what is left where it is closed.
use Rattle.std.specs.Prelude.{ℕ, List, ◌++◌, MatchOption, None, Option, Some}
use Rattle.std.proofs.Common.{sym, subst, inl, inr}
use Rattle.point_order.specs.declared.cell.Cell.{Cell}
use Rattle.point_order.specs.Facets.{points_of}
use Rattle.point_order.specs.Sets.{IsIn}
use Rattle.cell_slots.specs.Clouds.{AreCellsOf}
use Rattle.cell_slots.specs.Nets.{AreMoved, AreWithAll}
use Rattle.cell_slots.specs.Stars.{AreBehindAll, AreStarOf}
use Rattle.cell_slots.proofs.Cited.{moved_cells}
use Rattle.net_digs.proofs.Cited.{refilled}
use Rattle.star_refill.specs.Coming.{AreAround, HaveAllAcross}
use Rattle.gift_wrap.specs.Near.{IsStar}
use Rattle.cell_changes.specs.Changes.{IsRefilled}
use Rattle.linked_mesh.specs.Takes.{AreLeft, IsOpenIn}

-- the star was taken out
pub open_in : (s : List ℕ) (v : ℕ) (old rest star : List Cell) → AreCellsOf s old → IsIn v s →
    AreMoved old (rest ++ star) → AreStarOf s v star → IsOpenIn s v rest star
open_in s v old rest star k m a t =
    record { cells_of = moved_cells s old (rest ++ star) a k; has_v = m; star_of = t }

module _ (s : List ℕ) (v : ℕ) (rest star : List Cell) (o : IsOpenIn s v rest star) where
  -- it is that of v
  star_is : IsStar s v star
  star_is q = (
    λ m. (let h = (o.star_of.star_is q).0 m in (h.listed, h.has)),
    λ p. (o.star_of.star_is q).1 (record { listed = p.0; has = p.1 }),
  )

  -- the star alone
  pub around_star : AreAround s v star star
  around_star = record {
    is_set = o.cells_of.solid.set;
    has_v = o.has_v;
    star_is = star_is;
    listed = λ c m. ((o.star_of.star_is c).0 m).listed;
    among = λ c m. m;
  }

  -- with the cells behind its facets
  pub around_all : (around : List Cell) → AreBehindAll s star star around → AreAround s v star around
  around_all around b = record {
    is_set = o.cells_of.solid.set;
    has_v = o.has_v;
    star_is = star_is;
    listed = λ c m. elim (b.listed c m) [ inl j ↦ ((o.star_of.star_is c).0 j).listed | inr j ↦ j ];
    among = b.kept;
  }

  -- among which are all cells across from v
  pub all_across : (around : List Cell) → AreBehindAll s star star around → HaveAllAcross s v around
  all_across around b e x = record {
    cell = x.there;
    among = b.across x.here x.f x.there
        ((o.star_of.star_is x.here).1 (record { listed = x.here_listed; has = x.here_has })) x.of_here
        (record {
          listed = x.there_listed;
          has = x.of_there;
          differs = λ q. x.there_lacks (subst (λ (c : Cell). IsIn v (points_of c)) (sym q) x.here_has);
        });
    has = x.has;
  }

  -- closed with those that come
  pub left_with : (fresh now : List Cell) → IsRefilled s v star fresh → AreWithAll rest fresh now → AreLeft s v now
  left_with fresh now r w = record {
    solid = r.solid;
    cells_of = refilled s v o.has_v r.solid star fresh rest now o.cells_of o.star_of (λ q. (
      λ j. (let a = r.change.came q j in record { before = a.0; after = a.1 }),
      λ g. r.change.all_fresh q g.before g.after,
    )) r.fresh_once w;
  }

  -- put back
  pub back_with : (now : List Cell) → AreMoved (rest ++ star) now → AreCellsOf s now
  back_with now a = moved_cells s (rest ++ star) now a o.cells_of

-- an answer that supposes what is known
pub known_all : {X : Type 0} (found : Option X) (A P : Type 0) (Q : X → Type 0) → A → MatchOption found (A → P) Q →
    MatchOption found P Q
known_all None A P Q a m = m a
known_all (Some x) A P Q a m = m
