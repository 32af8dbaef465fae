use Rattle.std.proofs.Common.{◌-◌, ◌<◌, ap, arith, length, sym, ◌∙◌}
use Rattle.std.proofs.lemmas.List.{get_or_read}
use Rattle.gift_wrap.specs.declared.wrap.Side.{Side}
use Rattle.gift_wrap.proofs.wrap.place_of_other.Goals as goal

pub returns-then-are_of_one : goal.returns-then-are_of_one
returns-then-are_of_one c =
    let h : c.loop-i.i - 1 < length c.args.sides.now = omega arith in
    record {
      below = h;
      at = λ d. sym (ap (λ (s : Side). s.facet) (get_or_read c.args.sides.now _ _ h c.index-sides-i.is d))
          ∙ c.are_of_one.ensures c.if-are_of_one.true;
    }
