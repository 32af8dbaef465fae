-- A step of a walk.
use Rattle.std.specs.Prelude.{◌≡◌, ℕ, List, Option, None, Some}
use Rattle.std.proofs.Common.{refl, sym, subst, ◌∙◌}
use Rattle.point_order.specs.declared.cell.Cell.{Cell}
use Rattle.point_order.specs.declared.cell.Facet.{Facet}
use Rattle.point_order.specs.Facets.{facets_of}
use Rattle.point_order.specs.Sets.{IsIn}
use Rattle.hole_laws.specs.Edits.{IsSolidSet, IsNew, StaysFrom}
use Rattle.cell_store.specs.Buckets.{InHand}
use Rattle.cell_store.specs.Shares.{Shows, IsAcross, IsInHandFor, points_on}
use Rattle.cell_store.proofs.Cited.{solid_set}
use Rattle.cell_walk.specs.Paths.{facet_towards}
use Rattle.cell_walk.specs.Turns.{IsOnward, HasMoved}
use Rattle.cell_walk.proofs.Towards.{nearer_towards, some_facet_towards}
use Rattle.cell_walk.proofs.Counting.{held_across, fewer_across}

-- an option has one value
same_some : {f g : Facet} → Some f ≡ Some g → f ≡ g
same_some e = cc e

-- a cell that stays has a facet towards the point
pub some_towards : (s : List ℕ) (p : ℕ) (c : Cell) (o : Option Facet) → IsSolidSet s → IsNew s p → StaysFrom s p c →
    o ≡ facet_towards c p → o ≡ None → ⊥
some_towards s p c o i n st e none = let r = some_facet_towards s p c i n st in clash (sym r.1 ∙ sym e ∙ none)
  where
    clash : {f : Facet} → Some f ≡ None → ⊥
    clash e = cc e

-- and the walk goes on through it
pub onward : (s : List ℕ) (p : ℕ) (c : Cell) (f : Facet) (o : Option Facet) → IsSolidSet s → IsNew s p →
    StaysFrom s p c → o ≡ facet_towards c p → o ≡ Some f → IsOnward s (record { point = p; cell = c }) f
onward s p c f o i n st e is =
    let r = some_facet_towards s p c i n st in
    let k : facet_towards c p ≡ Some f = sym e ∙ is in
    record { stays = st; towards = k; has = subst (λ (g : Facet). IsIn g (facets_of c)) (same_some (sym r.1 ∙ k)) r.2 }

-- to the other cell on it
pub moved :
    (hold : InHand) (s : List ℕ) (p : ℕ) (c other : Cell) (f : Facet) (b : ℕ) → Shows hold s → IsNew s p →
    IsOnward s (record { point = p; cell = c }) f → IsAcross s c f other → IsInHandFor hold (points_on f) b →
    HasMoved hold s (record { point = p; cell = c }) (record { point = p; cell = other })
moved hold s p c other f b st n on o held = record {
  facet = f;
  onward = on;
  other = o;
  point = refl;
  walk = record { new = n; listed = o.listed; held = held_across hold s f other b st o.listed o.has held };
  nearer = nearer_towards s p c other f (solid_set hold s st).set n on.stays on.towards o;
  fewer = fewer_across hold s p c other f b st n on.stays on.towards o held;
}
