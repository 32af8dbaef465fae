use Rattle.std.proofs.Common.{ℕ, ◌∙◌, ap, sym, subst, length, map, take}
use Rattle.std.proofs.lemmas.List.{length-map}
use Rattle.mesh_rows.specs.Meshes.{AreCellAlphas}
use Rattle.mesh_rows.specs.Rows.{edge_row, triangle_row}
use Rattle.mesh_rows.proofs.Alphas.{full_alphas, held_counts, keys_told, parts_told}
use Rattle.mesh_rows.proofs.levels.face_rows.Goals as goal

pub levels_of_faces-requires-clause-table : goal.levels_of_faces-requires-clause-table
levels_of_faces-requires-clause-table c =
    let h = c.requires.held in
    rw c.deref.ensures.value (held_counts 2 c.args.set.now c.args.held.pairs _ _ h.pairs h.of_cells h.of_pairs).0

pub levels_of_faces-requires-clause-admitted : goal.levels_of_faces-requires-clause-admitted
levels_of_faces-requires-clause-admitted c =
    let h = c.requires.held in
    (held_counts 2 c.args.set.now c.args.held.pairs _ _ h.pairs h.of_cells h.of_pairs).1

pub levels_of_faces-requires-2-clause-table : goal.levels_of_faces-requires-2-clause-table
levels_of_faces-requires-2-clause-table c =
    let h = c.requires.held in
    rw c.deref-2.ensures.value
    (held_counts 3 c.args.set.now c.args.held.triples _ _ h.triples h.of_cells h.of_triples).0

pub levels_of_faces-requires-2-clause-admitted : goal.levels_of_faces-requires-2-clause-admitted
levels_of_faces-requires-2-clause-admitted c =
    let h = c.requires.held in
    (held_counts 3 c.args.set.now c.args.held.triples _ _ h.triples h.of_cells h.of_triples).1

-- each face has its row and the numbers that tell of it
pub returns-clause-rows : goal.returns-clause-rows
returns-clause-rows c =
    let s = c.args.set.now in
    let h = c.requires.held in
    let cells = c.args.held.of_cells.items in
    record {
      of_points = h.of_points;
      edges_are = c.in_ok-edges.ensures.rows ∙ ap (map (edge_row s)) (keys_told 2 s c.args.held.pairs h.pairs);
      of_edges = parts_told 2 s c.args.held.pairs cells _ _ h.pairs h.of_cells h.of_pairs
          (rw c.deref.ensures.value at c.in_ok-edges.ensures.alphas);
      triangles_are = c.in_ok-triangles.ensures.rows
          ∙ ap (map (triangle_row s)) (keys_told 3 s c.args.held.triples h.triples);
      of_triangles = parts_told 3 s c.args.held.triples cells _ _ h.triples h.of_cells h.of_triples
          (rw c.deref-2.ensures.value at c.in_ok-triangles.ensures.alphas);
      of_cells = subst (AreCellAlphas s) (sym c.truncate.ensures.items)
          (subst (λ (k : ℕ). AreCellAlphas s (take k cells)) (sym h.full)
          (full_alphas s c.requires.set cells h.of_cells));
    }

pub returns-clause-edge_count : goal.returns-clause-edge_count
returns-clause-edge_count c =
    let s = c.args.set.now in
    c.in_ok-edges.ensures.alphas.count
    ∙ sym (ap length c.in_ok-edges.ensures.rows ∙ length-map c.args.held.pairs.keys.items (edge_row s))

pub returns-clause-triangle_count : goal.returns-clause-triangle_count
returns-clause-triangle_count c =
    let s = c.args.set.now in
    c.in_ok-triangles.ensures.alphas.count
    ∙ sym (ap length c.in_ok-triangles.ensures.rows
    ∙ length-map c.args.held.triples.keys.items (triangle_row s))
