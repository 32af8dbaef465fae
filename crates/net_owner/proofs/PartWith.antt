-- Cells that are a part of a complex.
use Rattle.std.specs.Prelude.{◌≡◌, ℕ, List, ◌++◌, ◌∷◌, [], map}
use Rattle.std.proofs.Common.{inl, refl}
use Rattle.list_laws.proofs.Cited.{in_left}
use Rattle.point_order.specs.declared.cell.Cell.{Cell}
use Rattle.point_order.specs.declared.cell.Facet.{Facet}
use Rattle.point_order.specs.Complex.{complex}
use Rattle.point_order.specs.Sets.{IsIn}
use Rattle.hole_laws.specs.Lists.{cell_over}
use Rattle.hole_laws.specs.Others.{IsOtherOf}
use Rattle.cell_slots.specs.Clouds.{AreCellsOf}
use Rattle.net_digs.specs.Digs.{IsHoleOf}
use Rattle.net_digs.specs.Linked.{ArePartLacking, ArePartWith, HasComeTo}
use Rattle.cell_slots.specs.Nets.{AreMoved, TakeThePlace}
use Rattle.cell_slots.specs.Parts.{AreWithin, AreWithinNew, InEach}
use Rattle.cell_slots.specs.declared.reach.Reach.TheVariants.{Part, Whole}
use Rattle.net_digs.proofs.Cited.{exchanged_beside, filled}
use Rattle.cell_slots.proofs.Cited.{moved_cells, moved_first}
use Rattle.cell_net.proofs.Cited.{other_of}

-- those with a point
pub part_within : (v : ℕ) (cells : List Cell) → ArePartWith v cells → AreWithin Part cells
part_within v cells k = record {
  others = k.others;
  set = k.set;
  cells_of = k.cells_of;
  alone = λ (e : Part ≡ Whole). absurd (cc e);
}

-- those without it
pub part_new : (p : ℕ) (cells : List Cell) → ArePartLacking p cells → AreWithinNew Part p cells
part_new p cells k = (
  record { others = k.others; set = k.set; cells_of = k.cells_of; alone = λ (e : Part ≡ Whole). absurd (cc e) },
  k.new,
)

-- another cell in the part is one in the complex
pub other_in_part : (s : List ℕ) (cells others : List Cell) → AreCellsOf s (cells ++ others) → (c : Cell) (f : Facet)
    (o : Cell) → IsOtherOf cells c f o → IsOtherOf (complex s) c f o
other_in_part s cells others k c f o r =
    other_of s (cells ++ others) k c f o (record {
      listed = in_left o cells others r.listed;
      has = r.has;
      differs = r.differs;
    })

-- a point came to the part
pub come_to : (p : ℕ) (old gone : List Cell) (rim : List Facet) (new : List Cell) →
    InEach p old (λ s. IsHoleOf s p gone rim) → TakeThePlace old gone (map (λ f. cell_over f p) rim) new →
    HasComeTo p old gone (map (λ f. cell_over f p) rim) new
come_to p old gone rim new dug t = record {
  arrived = λ others s k n. record {
    solid = k.solid;
    new = n;
    filled = filled s p k.solid n gone rim (dug others s k n);
    gone_once = (dug others s k n).gone_once;
  };
  grow = λ others s k a. (
      let n = a.each p (inl refl) in
      exchanged_beside s p n gone (map (λ f. cell_over f p) rim) t.rest new others
      (moved_cells s (old ++ others) ((t.rest ++ gone) ++ others)
      (moved_first old (t.rest ++ gone) others t.taken) k)
      (filled s p k.solid n gone rim (dug others s k n)) t.filled);
}
