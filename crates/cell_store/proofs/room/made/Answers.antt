use Rattle.std.proofs.Common.{Bool, Some, refl, sym, ap, subst}
use Rattle.cell_store.specs.Ready.{NextIs}
use Rattle.cell_store.proofs.room.made.Goals as goal

-- where the exchange can be made back, the one back is next
pub returns-then-back : goal.returns-then-back
returns-then-back c =
    let e = c.make.ensures in
    record {
      after = c.make.new.self.plans.items;
      made = e.made;
      is = subst (λ (b : Bool). NextIs b c.args.exchange c.make.new.self.plans.items (Some c.make.new.self))
          (sym c.if-back.true) (
            c.make.new.self,
            refl,
            refl,
            ap (λ v. v.items) e.gone,
            ap (λ v. v.items) e.fresh,
            e.turned,
          );
    }
