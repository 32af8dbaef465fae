-- The slots of a shape, by its fields.
use Rattle.std.specs.Prelude.{◌≡◌, length, map, zip}
use Rattle.alpha_complex.specs.declared.shape.Shape.TheInside.{Inside}
use Rattle.alpha_complex.specs.Slots.{ShapeSlots, slots_of, cell_slots_of}

abbrev pub slots_seen : Inside → ShapeSlots
slots_seen s =
    record {
      points = zip (map (λ f. f.0) s.faces.now.points) s.points.items;
      pairs = slots_of (map (λ f. f.0) s.faces.now.pairs) s.pairs.items;
      triples = slots_of (map (λ f. f.0) s.faces.now.triples) s.triples.items;
      cells = cell_slots_of s.faces.now.cells s.cells.items;
    }

-- As many kinds as faces, and a mark for each cell.
pub record IsShape (s : Inside) : Type 0 where
  pub points : length s.points.items ≡ length s.faces.now.points
  pub pairs : length s.pairs.items ≡ length s.faces.now.pairs
  pub triples : length s.triples.items ≡ length s.faces.now.triples
  pub cells : length s.cells.items ≡ length s.faces.now.cells
