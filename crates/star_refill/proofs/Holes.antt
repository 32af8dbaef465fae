-- The hole of a point that is taken, and what fills it.
use Rattle.std.specs.Prelude.{◌≡◌, ℕ, true, List}
use Rattle.std.proofs.Common.{inl}
use Rattle.list_laws.specs.Lists.{AreDistinct}
use Rattle.list_laws.proofs.Cited.{is_in}
use Rattle.point_order.specs.declared.cell.Cell.{Cell}
use Rattle.point_order.specs.Complex.{complex}
use Rattle.point_order.specs.Facets.{points_of}
use Rattle.point_order.specs.Sets.{IsIn, without_point}
use Rattle.point_order.specs.Solid.{is_solid}
use Rattle.del_laws.proofs.Cited.{solid_more}
use Rattle.hole_laws.specs.Edits.{IsSet, IsLinkSet}
use Rattle.hole_laws.proofs.Cited.{cells_of_rest, old_lack_point, refilled_from_link, rest_new, rest_set}
use Rattle.gift_wrap.specs.Near.{AreTaken, IsStar}
use Rattle.cell_changes.specs.Changes.{IsRefilled}

module _ (s : List ℕ) (v : ℕ) (i : IsSet s) (m : IsIn v s) (t : List ℕ) (l : IsLinkSet s v t) where
  -- the rest is solid
  pub rest_solid : is_solid (without_point v s) ≡ true
  rest_solid = solid_more t (without_point v s) l.inside l.solid.solid

  -- no cell of the rest has v
  lacks : (q : Cell) → IsIn q (complex (without_point v s)) → ¬ (IsIn v (points_of q))
  lacks q o =
      old_lack_point (without_point v s) v (record { set = rest_set v s i; solid = rest_solid }) (rest_new v s i m) q o

  -- a cell of the set that is none of the rest has it
  has : (q : Cell) → IsIn q (complex s) → (IsIn q (complex (without_point v s)) → ⊥) → IsIn v (points_of q)
  has q k n = elim (is_in v (points_of q)) [
    | yes y ↦ y
    | no x ↦ absurd (n ((cells_of_rest s v i m rest_solid q).1 (inl (k, x))))
  ]

  -- the cells at v, and those that v takes away from the complex of the points near
  pub hole_filled : (star fresh : List Cell) → IsStar s v star → AreDistinct star → AreTaken t v fresh →
      IsRefilled s v star fresh
  hole_filled star fresh k once f =
      record {
        solid = rest_solid;
        star = k;
        change = record {
          went = λ q j. (let r = (k q).0 j in (r.0, λ o. lacks q o r.1));
          all_gone = λ q j n. (k q).1 (j, has q j n);
          came = λ q j. (let r = (refilled_from_link s v t i m l q).1 ((f.goes q).0 j) in (r.before, r.after));
          all_fresh = λ q j n. (f.goes q).1 ((refilled_from_link s v t i m l q).0 (record { before = j; after = n }));
        };
        gone_once = once;
        fresh_once = f.once;
      }
