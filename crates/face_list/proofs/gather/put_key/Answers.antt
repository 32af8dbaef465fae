use Rattle.std.proofs.Common.{◌≡◌, sym, subst, ◌∙◌, ◌-◌, ◌<◌, inl, inr, length, arith}
use Rattle.list_laws.proofs.Cited.{at_in, behind_all, in_end, is_last, is_less, none_in, sorted_end}
use Rattle.point_order.specs.Sets.{IsIn}
use Rattle.face_list.proofs.gather.put_key.Goals as goal
use Rattle.face_list.proofs.gather.put_key.Goals.{then-count-eq0-via-then-count-eq0}
use Rattle.face_list.proofs.gather.put_key.Goals.{then-count-eq0-via-else-count-eq0+then-is_before}

pub returns-in_ok-push-clause-order : goal.returns-in_ok-push-clause-order
returns-in_ok-push-clause-order g c =
    let l = c.args.keys.now.items in
    rw c.in_ok-push.ensures.items (sorted_end g.K.Ord.cmp l c.args.key c.requires.order
    (λ x i. elim c.then-count-eq0.branch [
      | then-count-eq0-via-then-count-eq0 w ↦ absurd
          (none_in l x (let a = w.if-count-eq0.true in omega (arith, a, c.len-count.ensures, c.args.keys.now.ok.0)) i)
      | then-count-eq0-via-else-count-eq0+then-is_before w ↦ behind_all g.K.Ord.cmp g.met.K.Ord.total l
          (c.len-count.result - 1) w.index.result.now c.args.key
          (omega (arith, c.len-count.ensures, c.args.keys.now.ok.0))
          c.requires.order (subst (λ v. g.K.Ord.cmp v c.args.key ≡ _) w.index.ensures
          (is_less _ (sym w.is_before.ensures ∙ w.if-is_before.true))) x i
    ]))

pub returns-in_ok-push-clause-keys : goal.returns-in_ok-push-clause-keys
returns-in_ok-push-clause-keys g c k = rw c.in_ok-push.ensures.items (in_end c.args.keys.now.items c.args.key k)

pub returns-else-is_before-clause-keys : goal.returns-else-is_before-clause-keys
returns-else-is_before-clause-keys g c k =
    let l = c.args.keys.now.items in
    let n = c.len-count.result - 1 in
    let a = c.if-count-eq0.false in
    let inside : n < length l = omega (arith, a, c.len-count.ensures, c.args.keys.now.ok.0) in
    let last = at_in l n c.index.result.now inside in
    let in_list : IsIn c.index.result.now l = subst (λ v. IsIn v l) (sym c.index.ensures) last in
    let e : c.index.result.now ≡ c.args.key = is_last g.K.Ord.cmp c.requires.exact c.index.result.now c.args.key
    (c.requires.not_before c.index.result.now in_list) (sym c.is_before.ensures ∙ c.if-is_before.false) in
    (λ i. inl i, λ i. elim i [ inl j ↦ j | inr q ↦ subst (λ v. IsIn v l) (e ∙ q) in_list ])
