use Rattle.std.proofs.Common.{◌≡◌, false, map, take}
use Rattle.point_order.specs.Sets.{IsIn}
use Rattle.cell_store.specs.Ready.{IsReadyFor}
use Rattle.cell_store.specs.declared.room.PlanFor.{PlanFor}
use Rattle.cell_store.proofs.room.plans_for.Given as goal

abbrev pub invariant-loop-b : goal.invariant-loop-b
invariant-loop-b l =
    record {
      numbers : map (λ (k : PlanFor). k.number) l.plans.items ≡ take l.b-index l.b-items;
      each : (k : PlanFor) → IsIn k l.plans.items → IsReadyFor false l.gone l.fresh l.places k;
    }
