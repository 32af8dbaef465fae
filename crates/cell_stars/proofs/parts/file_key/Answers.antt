use Rattle.std.proofs.Common.{ap, arith, length, subst, sym, ℕ, ◌%◌, ◌<◌, ◌∙◌, ◌≡◌, ◌⊎◌}
use Rattle.point_order.specs.Sets.{IsIn}
use Rattle.cell_stars.proofs.KeyLaws.{Keys}
use Rattle.cell_stars.proofs.PartLaws.{filed_more, part_read}
use Rattle.cell_stars.proofs.parts.file_key.Goals as goal

pub returns-clause-filed : goal.returns-clause-filed
returns-clause-filed c =
    let ks = c.args.parts.now.items in
    let i = c.number_for-number.result in
    let p = c.args.p in
    let n = c.args.n in
    let new = c.put_in.new.part in
    let h : i < length ks = omega (arith, c.number_for-number.ensures.below, c.len.ensures) in
    let e = c.number_for-number.ensures.number ∙ ap (λ m. p % m) (c.len.ensures ∙ c.args.parts.now.ok.0) in
    (filed_more ks i p n new c.requires.filed h e c.in_ok-put_in.ensures.order
    (subst (λ (old : Keys). (k : ℕ × ℕ) → (IsIn k new → ((p, n) ≡ k) ⊎ (IsIn k old × (k.0 ≡ p → ⊥)))
    × (((p, n) ≡ k) ⊎ (IsIn k old × (k.0 ≡ p → ⊥)) → IsIn k new))
    (sym (part_read ks i c.index_mut.result.now c.index_mut.ensures.value h)) c.in_ok-put_in.ensures.keys)).0

pub returns-clause-keys : goal.returns-clause-keys
returns-clause-keys c =
    let ks = c.args.parts.now.items in
    let i = c.number_for-number.result in
    let p = c.args.p in
    let n = c.args.n in
    let new = c.put_in.new.part in
    let h : i < length ks = omega (arith, c.number_for-number.ensures.below, c.len.ensures) in
    let e = c.number_for-number.ensures.number ∙ ap (λ m. p % m) (c.len.ensures ∙ c.args.parts.now.ok.0) in
    (filed_more ks i p n new c.requires.filed h e c.in_ok-put_in.ensures.order
    (subst (λ (old : Keys). (k : ℕ × ℕ) → (IsIn k new → ((p, n) ≡ k) ⊎ (IsIn k old × (k.0 ≡ p → ⊥)))
    × (((p, n) ≡ k) ⊎ (IsIn k old × (k.0 ≡ p → ⊥)) → IsIn k new))
    (sym (part_read ks i c.index_mut.result.now c.index_mut.ensures.value h)) c.in_ok-put_in.ensures.keys)).1
