use Rattle.std.proofs.Common.{[], sym, ap, ◌∙◌, nat_le, arith}
use Rattle.list_laws.proofs.Cited.{length_zip}
use Rattle.alpha_complex.specs.Judged.{is_admitted_triple}
use Rattle.alpha_complex.specs.Leasts.{IsLeastOf}
use Rattle.alpha_complex.proofs.Leasts.{zip_at}
use Rattle.alpha_complex.proofs.Listing.{listed_found, found_at}
use Rattle.alpha_complex.proofs.covers.listed_least.Goals as goal

pub number_at-requires : goal.number_at-requires
number_at-requires c =
    let higher = c.args.higher.now in
    let f = found_at higher.faces.now.triples c.triples.result.now c.args.tri.now c.args.place c.triples.ensures
    (c.is_at.ensures.inside c.if-is_at.true) (c.is_at.ensures.tie c.if-is_at.true) in
    let z = length_zip (λ x n. IsLeastOf (λ a. is_admitted_triple a x) n) higher.faces.now.triples higher.triples.now
    c.requires.higher.triples in
    let h = f.0 in
    omega (arith, h, z)

pub returns-then-is_at : goal.returns-then-is_at
returns-then-is_at c a l =
    let higher = c.args.higher.now in
    let i = c.args.place in
    let f = found_at higher.faces.now.triples c.triples.result.now c.args.tri.now i c.triples.ensures
    (c.is_at.ensures.inside c.if-is_at.true) (c.is_at.ensures.tie c.if-is_at.true) in
    let z = zip_at (λ x n. IsLeastOf (λ a. is_admitted_triple a x) n) higher.faces.now.triples higher.triples.now i
    ([], []) 0 c.requires.higher.triples f.0 in
    listed_found a higher.faces.now.triples c.args.tri.now i ([], []) c.requires.higher.order f.0 f.1
    ∙ z a l
    ∙ ap (λ n. nat_le n a) (sym c.number_at.ensures)
