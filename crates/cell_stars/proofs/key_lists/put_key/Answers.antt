use Rattle.std.proofs.Common.{subst}
use Rattle.cell_stars.proofs.KeyLaws.{Keys, BelongsAt, with_key, key_put, taken_out}
use Rattle.cell_stars.proofs.key_lists.put_key.Goals as goal

pub unreachable-requires : goal.unreachable-requires
unreachable-requires c = taken_out c.args.keys.now.items c.drop_key.new.keys.items c.deref.result.now c.args.p
    c.in-Ok.field-0 c.drop_key.ensures.keys c.deref.ensures.value c.in-Ok.ensures

pub returns-clause-order : goal.returns-clause-order
returns-clause-order c = (with_key c.drop_key.new.keys.items c.insert.new.self.items c.args.p c.args.n c.in-Err.i
    c.drop_key.ensures.order (subst (λ (ks : Keys). BelongsAt ks c.args.p c.in-Err.i) c.deref.ensures.value
    c.in-Err.ensures) c.in_ok-insert-in-Err.ensures.items).0

pub returns-clause-keys : goal.returns-clause-keys
returns-clause-keys c =
    key_put c.args.keys.now.items c.drop_key.new.keys.items c.insert.new.self.items c.args.p c.args.n
    c.drop_key.ensures.keys
    (with_key c.drop_key.new.keys.items c.insert.new.self.items c.args.p c.args.n c.in-Err.i c.drop_key.ensures.order
    (subst (λ (ks : Keys). BelongsAt ks c.args.p c.in-Err.i) c.deref.ensures.value c.in-Err.ensures)
    c.in_ok-insert-in-Err.ensures.items).1
