use Rattle.std.proofs.Common.{◌∙◌, ap, sym, subst, List, length}
use Rattle.point_order.specs.Complex.{complex}
use Rattle.point_order.specs.declared.cell.Cell.{Cell}
use Rattle.face_list.specs.Faces.{full_cells, parts_in}
use Rattle.face_list.specs.Seen.{FaceLists}
use Rattle.alpha_complex.specs.Admitted.{is_admitted, is_admitted_cell}
use Rattle.alpha_complex.specs.Condition.{AreFacesOf}
use Rattle.alpha_complex.specs.Leasts.{AreLeastOf}
use Rattle.mesh_rows.proofs.Alphas.{faces_of, shows_parts}
use Rattle.mesh_rows.proofs.levels.held_of.Goals as goal

pub alphas_alone-requires : goal.alphas_alone-requires
alphas_alone-requires c = (
  c.args.set.now,
  faces_of c.args.set.now c.args.all.now _ c.requires c.in_ok-faces.ensures.cells
      c.in_ok-faces.ensures.points c.in_ok-faces.ensures.pairs c.in_ok-faces.ensures.triples,
)

pub returns : goal.returns
returns c =
    let s = c.args.set.now in
    let f = faces_of s c.args.all.now _ c.requires c.in_ok-faces.ensures.cells c.in_ok-faces.ensures.points
    c.in_ok-faces.ensures.pairs c.in_ok-faces.ensures.triples in
    let k = subst (λ (v : FaceLists). AreFacesOf s v) (sym c.in_ok-known.ensures.faces) f in
    let t = c.in_ok-known.ensures.told s f in
    let n = c.without_faces-of_pairs.ensures in
    let p = c.without_points-pairs.ensures in
    record {
      of_points = c.in_ok-point_alphas.ensures s k;
      pairs = shows_parts 2 s _ _ _ f.cells f.pairs p.pairs p.pair_table;
      triples = shows_parts 3 s _ _ _ f.cells f.triples p.triples p.triple_table;
      of_pairs = subst (λ v. AreLeastOf (is_admitted s) (parts_in 2 (complex s)) v.items) (sym n.pairs) t.pairs;
      of_triples = subst (λ v. AreLeastOf (is_admitted s) (parts_in 3 (complex s)) v.items) (sym n.triples) t.triples;
      of_cells = subst (λ v. AreLeastOf (is_admitted_cell s) (complex s) v.items) (sym n.cells) t.cells;
      full = c.full_count.ensures ∙ ap (λ (l : List Cell). length (full_cells l)) c.requires.cells_are;
    }
