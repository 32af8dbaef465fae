use Rattle.std.proofs.Common.{◌≡◌, ◌∙◌, Bool, true, false, not, subst, List}
use Rattle.list_laws.proofs.Cited.{at_place}
use Rattle.point_order.specs.declared.cell.Cell.{Cell}
use Rattle.point_order.specs.Facets.{facets_of}
use Rattle.point_order.specs.Sets.{IsIn}
use Rattle.cavity.proofs.judged.Judged.is_beside.Goals as goal

-- a test that fails does not pass
fails : (r : Bool) → not r ≡ true → r ≡ true → ⊥
fails true e f = cc e
fails false e f = cc f

pub returns-then-is_on : goal.returns-then-is_on
returns-then-is_on c t =
    let other = c.in-Some.other.now in
    record {
      other = other;
      found = subst (λ (l : List Cell). IsIn other l) (c.deref.ensures.value ∙ c.self.view_is)
          (at_place c.deref.result.now c.args.number other other c.in-Some.ensures.lookup.3.0
          c.in-Some.ensures.lookup.1);
      has = subst (λ (q : Cell). IsIn c.args.facet.now (facets_of q)) c.cell.ensures
          (c.is_on.ensures.0 c.if-is_on.true);
      differs = λ e. fails c.is_same.result t (c.is_same.ensures.1 (c.cell-then-is_on.ensures ∙ e));
    }
