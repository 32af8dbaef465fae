use Rattle.std.proofs.Common.{inl, inr}
use Rattle.list_laws.proofs.Cited.{in_pushed, pushed_new, pushed_old}
use Rattle.gift_wrap.proofs.near.add_point.Goals as goal

pub returns-in_ok-push : goal.returns-in_ok-push
returns-in_ok-push c q =
    let old = c.args.points.now.items in
    let new = c.push.new.self.items in
    let e = c.in_ok-push.ensures.items in (
      λ m. in_pushed old new c.args.p q e m,
      λ m. elim m [ inl k ↦ pushed_old old new c.args.p q e k | inr f ↦ rw f at (pushed_new old new c.args.p e) ],
    )
