-- The set of the points near a point that is taken: it is solid, and then enough for the hole, or the rest is flat.
use Rattle.std.specs.Prelude.{◌≡◌, ◌≢◌, ℕ, true, false, List}
use Rattle.std.proofs.Common.{sym, subst, inl, inr}
use Rattle.list_laws.proofs.Cited.{false_if, not_both}
use Rattle.point_order.specs.declared.cell.Cell.{Cell}
use Rattle.point_order.specs.Complex.{complex}
use Rattle.point_order.specs.Facets.{points_of}
use Rattle.point_order.specs.Sets.{IsIn, without_point}
use Rattle.point_order.specs.Solid.{is_solid}
use Rattle.del_laws.proofs.Cited.{listed_inside, listed_is_cell}
use Rattle.hole_laws.specs.Lists.{AreJoined}
use Rattle.hole_laws.specs.Edits.{IsSet, IsLinkSet, IsPointAcross}
use Rattle.hole_laws.proofs.Cited.{solid_near, without_true}
use Rattle.gift_wrap.specs.Near.{IsStar, SomeHasPoint, ArePointsBut, AreAdded, IsOfOne}

module _ (s : List ℕ) (v : ℕ) (i : IsSet s) (m : IsIn v s) (star : List Cell) (k : IsStar s v star) (cells : List Cell)
    (listed : (c : Cell) → IsIn c cells → IsIn c (complex s)) (among : (c : Cell) → IsIn c star → IsIn c cells)
    (t : List ℕ) (p : ArePointsBut cells v t) where
  -- these are points of the set
  of_set : (e : ℕ) → IsIn e t → IsIn e s
  of_set e j =
      let r = ((p.points_are e).0 j).0 in listed_inside s r.cell
      (listed_is_cell s r.cell i.ascending (listed r.cell r.among)) e r.has

  -- they are a set of keys in order
  near_is : IsSet t
  near_is = record { ascending = p.order; keys = record { below = λ e j. i.keys.below e (of_set e j) } }

  -- the link is among them
  has_link : (e : ℕ) → e ≢ v → AreJoined (complex s) v e → IsIn e t
  has_link e n j =
      (p.points_are e).1 (record { cell = j.q; among = among j.q ((k j.q).1 (j.listed, j.has_p)); has = j.has_e }, n)

  -- so where they are solid they are enough
  pub enough : is_solid t ≡ true → IsLinkSet s v t
  enough h = record {
    solid = record { set = near_is; solid = h };
    inside = λ e j. without_true v s e (of_set e j) ((p.points_are e).0 j).1;
    link = has_link;
  }

  -- and with the points across they are solid where the rest is
  pub rest_flat : ((e : ℕ) → IsPointAcross s v e → SomeHasPoint cells e) → is_solid t ≡ false →
      is_solid (without_point v s)
      ≡ false
  rest_flat across h =
      false_if (is_solid (without_point v s)) (λ d. not_both (is_solid t)
      (solid_near s v t i m near_is d has_link (λ e a. (p.points_are e).1
      (across e a, λ q. a.there_lacks (subst (λ (x : ℕ). IsIn x (points_of a.there)) q a.has)))) h)

-- the cells around have the points across
pub has_across : (s : List ℕ) (v : ℕ) (star around : List Cell) → IsStar s v star →
    AreAdded s v (IsOfOne star) star around → (e : ℕ) → IsPointAcross s v e → SomeHasPoint around e
has_across s v star around k a e x = record {
  cell = x.there;
  among = a.across x.here x.f x.there ((k x.here).1 (x.here_listed, x.here_has), x.of_here)
      (record {
        listed = x.there_listed;
        has = x.of_there;
        differs =
            λ q. x.there_lacks (subst (λ (c : Cell). IsIn v (points_of c)) (sym q) x.here_has);
      }) x.there_lacks;
  has = x.has;
}

-- and are cells of the complex
pub around_listed : (s : List ℕ) (v : ℕ) (star around : List Cell) → IsStar s v star →
    AreAdded s v (IsOfOne star) star around → (c : Cell) → IsIn c around → IsIn c (complex s)
around_listed s v star around k a c m = elim (a.listed c m) [ inl j ↦ ((k c).0 j).0 | inr j ↦ j ]
