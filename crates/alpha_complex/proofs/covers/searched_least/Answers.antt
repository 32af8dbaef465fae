use Rattle.std.proofs.Common.{◌≡◌, ℕ, List, [], sym, subst, ap, ◌∙◌, nat_le, false, arith}
use Rattle.std.specs.Prelude.{Err}
use Rattle.std.specs.List.{list_any}
use Rattle.std.specs.List.Sorted.{IsStrictlySortedBy}
use Rattle.std.specs.Ordering.{nat_cmp, is_eq}
use Rattle.std.specs.Cmp.Lexicographic.{slice_cmp}
use Rattle.std.proofs.lemmas.Cmp.{nat_list_cmp_total}
use Rattle.list_laws.proofs.Cited.{length_zip}
use Rattle.alpha_complex.specs.Judged.{is_admitted_triple, is_listed, admitted_triples}
use Rattle.alpha_complex.specs.Leasts.{IsLeastOf}
use Rattle.alpha_complex.proofs.Leasts.{never_least, zip_at}
use Rattle.alpha_complex.proofs.Listing.{found_at, listed_found, listed_none}
use Rattle.alpha_complex.proofs.Searches.{search_is}
use Rattle.alpha_complex.proofs.covers.searched_least.Goals as goal

pub number_at-requires : goal.number_at-requires
number_at-requires c =
    let higher = c.args.higher.now in
    let f = found_at higher.faces.now.triples c.triples.result.now c.args.tri.now c.in-Ok.index c.triples.ensures
    c.in-Ok.ensures.bound (c.in-Ok.ensures.position c.args.tri.now) in
    let z = length_zip (λ x n. IsLeastOf (λ a. is_admitted_triple a x) n) higher.faces.now.triples higher.triples.now
    c.requires.higher.triples in
    let h = f.0 in
    omega (arith, h, z)

pub returns-in-Ok : goal.returns-in-Ok
returns-in-Ok c a l =
    let higher = c.args.higher.now in
    let i = c.in-Ok.index in
    let f = found_at higher.faces.now.triples c.triples.result.now c.args.tri.now i c.triples.ensures
    c.in-Ok.ensures.bound (c.in-Ok.ensures.position c.args.tri.now) in
    let z = zip_at (λ x n. IsLeastOf (λ a. is_admitted_triple a x) n) higher.faces.now.triples higher.triples.now i
    ([], []) 0 c.requires.higher.triples f.0 in
    listed_found a higher.faces.now.triples c.args.tri.now i ([], []) c.requires.higher.order f.0 f.1
    ∙ z a l
    ∙ ap (λ n. nat_le n a) (sym c.number_at.ensures)

pub returns-in-Err : goal.returns-in-Err
returns-in-Err c a l =
    let higher = c.args.higher.now in
    let t = c.args.tri.now in
    let s = subst (λ (v : List (List ℕ)). IsStrictlySortedBy (slice_cmp nat_cmp) v) (sym c.triples.ensures)
    c.requires.higher.order in
    let n = sym (search_is nat_list_cmp_total c.triples.result.now t (Err c.in-Err.field-0) c.in-Err.ensures.bound s
    c.in-Err.ensures.position) in
    let m = subst (λ (v : List (List ℕ)). list_any (λ y. is_eq (slice_cmp nat_cmp y t)) v ≡ false) c.triples.ensures
    n in
    never_least (λ b. is_listed (admitted_triples b higher.faces.now.triples) t)
    (λ b h. listed_none b higher.faces.now.triples t m) a l
