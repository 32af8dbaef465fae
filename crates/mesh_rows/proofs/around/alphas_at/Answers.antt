use Rattle.std.proofs.Common.{length, refl, subst}
use Rattle.face_list.proofs.Cited.{numbers_apart, numbers_named}
use Rattle.mesh_rows.specs.Around.{AreLeastOfAll, AreLeastOfSome}
use Rattle.mesh_rows.proofs.around.alphas_at.Goals as goal

pub least_among-requires : goal.least_among-requires
least_among-requires g c =
    numbers_apart (length c.args.cells.now) c.args.table.now c.requires.table c.args.index c.face.result.1.now
    c.requires.index c.face.ensures.numbers

pub most_among-requires : goal.most_among-requires
most_among-requires g c =
    numbers_apart (length c.args.cells.now) c.args.table.now c.requires.table c.args.index c.face.result.1.now
    c.requires.index c.face.ensures.numbers

pub returns : goal.returns
returns g c =
    let cells = c.args.cells.now in
    let e = numbers_named (length cells) c.args.table.now c.requires.table c.args.index c.face.result.1.now
    c.requires.index c.face.ensures.numbers in
    record {
      admits = refl;
      regular = subst (λ v. AreLeastOfSome cells v c.least_among.result) e c.least_among.ensures;
      interior = subst (λ v. AreLeastOfAll cells v c.most_among.result) e c.most_among.ensures;
    }
