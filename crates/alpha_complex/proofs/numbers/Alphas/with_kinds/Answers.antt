use Rattle.std.proofs.Common.{◌∙◌, List, Bool, ap, sym, length, map, nat_le}
use Rattle.std.specs.Prelude.{Option, zip}
use Rattle.std.proofs.lemmas.List.{length-map}
use Rattle.list_laws.proofs.Cited.{length_zip}
use Rattle.alpha_complex.specs.declared.kinds.Part.TheVariants.{Pairs, Triples}
use Rattle.alpha_complex.specs.declared.shape.Kind.{Kind}
use Rattle.alpha_complex.specs.Judged.{is_admitted_pair, is_admitted_triple, is_small_cell}
use Rattle.alpha_complex.specs.Kinds.{kind_of, part_kind}
use Rattle.alpha_complex.specs.Leasts.{IsLeastOf}
use Rattle.alpha_complex.specs.Slots.{slots_of, cell_slots_of}
use Rattle.list_laws.specs.Lists.{held}
use Rattle.alpha_complex.proofs.KindSteps.{admitted_told, all_told, cells_told}
use Rattle.alpha_complex.proofs.Shaped.{pair_kinds_are, points_are, triple_kinds_are, cells_are}
use Rattle.alpha_complex.proofs.numbers.Alphas.with_kinds.Goals as goal

pub invariant_of-result : goal.invariant_of-result
invariant_of-result c =
    let known = c.args.self.now in
    let faces = known.faces.now in
    let alpha = c.args.alpha in
    record {
      points = ap length c.requires.points ∙ length-map faces.points (kind_of alpha);
      pairs = ap length c.requires.pairs ∙ length-map faces.pairs (part_kind Pairs faces alpha);
      triples = ap length c.requires.triples ∙ length-map faces.triples (part_kind Triples faces alpha);
      cells = ap length c.requires.cells
          ∙ length-map known.cells.items (λ n. nat_le n alpha)
          ∙ sym (length_zip (λ x n. IsLeastOf (λ a. is_small_cell a x) n) faces.cells known.cells.items
          c.requires.known.cells);
    }

pub returns-clause-points : goal.returns-clause-points
returns-clause-points c s h =
    let faces = c.args.self.now.faces.now in
    ap (λ (v : List Kind). zip (map (λ f. f.0) faces.points) v) c.requires.points
    ∙ all_told c.args.alpha faces.points
    ∙ points_are s faces c.args.alpha h

pub returns-clause-pairs : goal.returns-clause-pairs
returns-clause-pairs c s h =
    let faces = c.args.self.now.faces.now in
    ap (λ (v : List (Option Kind)). held (slots_of (map (λ f. f.0) faces.pairs) v)) c.requires.pairs
    ∙ admitted_told (is_admitted_pair faces.triples) c.args.alpha faces.pairs
    ∙ pair_kinds_are s faces c.args.alpha h

pub returns-clause-triples : goal.returns-clause-triples
returns-clause-triples c s h =
    let faces = c.args.self.now.faces.now in
    ap (λ (v : List (Option Kind)). held (slots_of (map (λ f. f.0) faces.triples) v)) c.requires.triples
    ∙ admitted_told is_admitted_triple c.args.alpha faces.triples
    ∙ triple_kinds_are s faces c.args.alpha h

pub returns-clause-cells : goal.returns-clause-cells
returns-clause-cells c s h =
    let known = c.args.self.now in
    let alpha = c.args.alpha in
    let marks = c.requires.cells in
    ap (λ (v : List Bool). held (cell_slots_of known.faces.now.cells v)) marks
    ∙ cells_told alpha known.faces.now.cells known.cells.items c.requires.alpha c.requires.known.cells
    ∙ cells_are s known.faces.now alpha h
