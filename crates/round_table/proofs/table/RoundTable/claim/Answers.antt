use Rattle.std.proofs.Common.{◌≡◌, ◌<◌, ◌+◌, ◌∷◌, suc, length, sym, ◌∙◌, ap, arith}
use Rattle.atomic_table.specs.Table.{rest}
use Rattle.std.specs.Prelude.{Some}
use Rattle.round_table.specs.Rule.{contents_of}
use Rattle.round_table.specs.Rounds.{claims_of}
use Rattle.round_table.proofs.Claims.{claims_allowed}
use Rattle.round_table.proofs.table.RoundTable.claim.Goals as goal

pub compare_exchange-found-requires : goal.compare_exchange-found-requires
compare_exchange-found-requires g c =
    let t = c.self.inside.board.shared in
    let p = c.pass.inside in
    let wide = ap length (λ i. (c.self.view_is i).contents) in
    let inside : c.args.b < length (contents_of t.key) = let r = c.requires.bucket in omega arith in
    let n : p.number + 1 ≡ suc p.number = omega arith in (
      (λ i. (c.pass.view_is i).table.id) ∙ (λ i. (c.requires.table i).id) ∙ (λ i. (sym c.self.view_is i).id),
      (let q = c.self.invariant in omega arith),
      claims_allowed t.key t.table_id.slots p.place.id c.args.b p.number (p.number + 1)
          (claims_of p.place.me.0.hands) p.place.me c.pass.invariant n inside,
    )

pub overflow_cast-result : goal.overflow_cast-result
overflow_cast-result g c =
    let d = (c.compare_exchange-found.ensures.2.1 c.if-found-ne0.true).2 in omega arith

pub exchange-requires : goal.exchange-requires
exchange-requires g c =
    let d = c.compare_exchange-found.ensures.2.0 c.if-found-ne0.false in (
      c.compare_exchange-found.ensures.0 ∙ (λ i. (c.pass.view_is i).table.id) ∙ (λ i. (c.requires.table i).id)
          ∙ (λ i. (sym c.self.view_is i).id),
      (
        Some d.0,
        d.3 ∙ ap (λ cs. (c.args.b, Some d.0) ∷ rest cs) (sym d.3),
      ),
    )
