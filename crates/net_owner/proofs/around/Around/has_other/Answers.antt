use Rattle.std.specs.Prelude.{slice_index_or}
use Rattle.std.proofs.Common.{subst, sym, ◌≡◌, ◌<◌, List, length, arith}
use Rattle.list_laws.proofs.Cited.{at_place}
use Rattle.point_order.specs.declared.cell.Cell.{Cell}
use Rattle.point_order.specs.Sets.{IsIn}
use Rattle.net_owner.proofs.around.Around.has_other.Goals as goal

pub returns-then-number-len : goal.returns-then-number-len
returns-then-number-len c t =
    let found = c.self.inside.found.items in
    let n = c.number_at-number.result in
    let x = c.index-as_slice-number.result in
    let less : n < length found = omega (arith, c.len.ensures.value, c.if-number-len.true) in
    let at = subst (λ (l : List Cell). x ≡ slice_index_or l n x) c.as_slice.ensures.value c.index-as_slice-number.is in
    let other = c.is_across.ensures.0 t in (
      c.cell.result.now,
      record {
        listed = subst (λ (l : List Cell). IsIn c.cell.result.now l) c.self.view_is
            (subst (λ (q : Cell). IsIn q found) (sym c.cell.ensures) (at_place found n x x less at));
        has = other.0;
        differs = other.1;
      },
    )
