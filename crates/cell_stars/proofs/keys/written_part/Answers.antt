use Rattle.std.proofs.Common.{subst, ap, ◌∙◌, ◌++◌, ℕ}
use Rattle.point_order.specs.Sets.{IsIn}
use Rattle.cell_stars.specs.Moves.{IsKeyAfter}
use Rattle.cell_stars.proofs.KeyLaws.{Keys}
use Rattle.cell_stars.proofs.keys.written_part.Goals as goal

pub returns-clause-keys : goal.returns-clause-keys
returns-clause-keys c =
    let n = c.args.n in
    let s = c.args.around.now in
    let new = c.write_key.new.keys.items in
    subst (λ (old : Keys). (k : ℕ × ℕ) → (IsIn k new → IsKeyAfter old n s k) × (IsKeyAfter old n s k → IsIn k new))
    (c.in_ok-extend_from_slice.ensures.items ∙ ap (λ (l : Keys). l ++ c.args.part.now) c.in_ok-keys.ensures.items)
    c.in_ok-write_key.ensures.keys
