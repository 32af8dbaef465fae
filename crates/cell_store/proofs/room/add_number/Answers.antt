use Rattle.std.proofs.Common.{inl, inr}
use Rattle.list_laws.proofs.Cited.{in_pushed, pushed_new, pushed_old}
use Rattle.cell_store.proofs.room.add_number.Goals as goal

pub returns-in_ok-push : goal.returns-in_ok-push
returns-in_ok-push c n =
    let old = c.args.numbers.now.items in
    let new = c.push.new.self.items in
    let e = c.in_ok-push.ensures.ok in (
      λ m. in_pushed old new c.args.b n e m,
      λ m. elim m [ inl k ↦ pushed_old old new c.args.b n e k | inr f ↦ rw f at (pushed_new old new c.args.b e) ],
    )
