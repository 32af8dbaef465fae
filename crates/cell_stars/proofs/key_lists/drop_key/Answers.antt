use Rattle.std.proofs.Common.{subst, ◌≡◌, ◌<◌, length, slice_index}
use Rattle.cell_stars.proofs.KeyLaws.{Keys, BelongsAt, vertices, without_key, no_key}
use Rattle.cell_stars.proofs.key_lists.drop_key.Goals as goal

pub returns-in-Ok-clause-order : goal.returns-in-Ok-clause-order
returns-in-Ok-clause-order c = (without_key c.args.keys.now.items c.remove.new.self.items c.args.p c.in-Ok.i c.requires
    (subst (λ (ks : Keys). (c.in-Ok.i < length ks) × (slice_index (vertices ks) c.in-Ok.i ≡ c.args.p))
    c.deref.ensures.value c.in-Ok.ensures) c.remove.ensures.items).0

pub returns-in-Ok-clause-keys : goal.returns-in-Ok-clause-keys
returns-in-Ok-clause-keys c = (without_key c.args.keys.now.items c.remove.new.self.items c.args.p c.in-Ok.i c.requires
    (subst (λ (ks : Keys). (c.in-Ok.i < length ks) × (slice_index (vertices ks) c.in-Ok.i ≡ c.args.p))
    c.deref.ensures.value c.in-Ok.ensures) c.remove.ensures.items).1

pub returns-in-Err-clause-keys : goal.returns-in-Err-clause-keys
returns-in-Err-clause-keys c k = (
  λ m. (
    m,
    no_key c.args.keys.now.items c.args.p c.in-Err.field-0
        (subst (λ (ks : Keys). BelongsAt ks c.args.p c.in-Err.field-0) c.deref.ensures.value c.in-Err.ensures) k m,
  ),
  λ m. m.0,
)
