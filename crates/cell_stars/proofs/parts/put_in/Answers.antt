use Rattle.std.proofs.Common.{subst, ℕ, ◌≡◌, ◌⊎◌}
use Rattle.point_order.specs.Sets.{IsIn}
use Rattle.cell_stars.proofs.KeyLaws.{Keys}
use Rattle.cell_stars.proofs.parts.put_in.Goals as goal

pub returns-clause-keys : goal.returns-clause-keys
returns-clause-keys c =
    let p = c.args.p in
    let n = c.args.n in
    let new = c.put_key.new.keys.items in
    subst (λ (old : Keys). (k : ℕ × ℕ) → (IsIn k new → ((p, n) ≡ k) ⊎ (IsIn k old × (k.0 ≡ p → ⊥)))
    × (((p, n) ≡ k) ⊎ (IsIn k old × (k.0 ≡ p → ⊥)) → IsIn k new)) c.part.view_is c.in_ok-put_key.ensures.keys
