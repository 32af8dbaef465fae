use Rattle.std.proofs.Common.{ℕ, List, subst}
use Rattle.std.specs.Prelude.{◌↔◌}
use Rattle.std.proofs.lemmas.List.Filters.{dedup_is}
use Rattle.list_laws.specs.Lists.{IsIn}
use Rattle.list_laws.proofs.Cited.{numbers_ascend, numbers_same}
use Rattle.solid_parts.proofs.least.in_order.Goals as goal

pub returns : goal.returns
returns c =
    let sorted = c.sort_unstable.new.self.items in
    let d = dedup_is _ _ _ c.dedup.ensures.filtered in
    record {
      same = λ n. subst (λ (v : List ℕ). IsIn n c.dedup.new.self.items ↔ IsIn n v) c.in_ok-levels.ensures.items
          (numbers_same c.in_ok-levels.levels.items sorted c.dedup.new.self.items c.sort_unstable.ensures.permutation d
          n);
      ascending = numbers_ascend sorted c.dedup.new.self.items c.sort_unstable.ensures.sorted d;
    }
