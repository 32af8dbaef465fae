use Rattle.std.proofs.Common.{inl, inr, subst, sym, ◌≡◌, true}
use Rattle.list_laws.proofs.Cited.{false_if, not_both, one_value}
use Rattle.del_laws.specs.Nearest.{comes_before}
use Rattle.net_owner.proofs.aim.Aim.is_behind_across.Goals as goal

pub returns-in-Some : goal.returns-in-Some
returns-in-Some c f y m =
    let q = c.args.self.now.place in
    let p = c.args.self.now.point in
    elim (c.in-Some.ensures y m) [
      | inl on ↦ inl on
      | inr e ↦ inr (false_if (comes_before q y p) (λ t. not_both c.is_behind.result
          (c.is_behind.ensures (subst (λ v. comes_before q v p ≡ true) (sym (one_value c.in-Some.x y e)) t)) f))
    ]

pub returns-in-None : goal.returns-in-None
returns-in-None c f y m = elim (c.in-None.ensures y m) [ inl on ↦ inl on | inr e ↦ absurd (cc e) ]
