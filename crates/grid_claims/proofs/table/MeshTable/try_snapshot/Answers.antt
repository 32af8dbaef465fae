use Rattle.std.proofs.Common.{◌*◌, sym, ◌∙◌, ap, subst}
use Rattle.claim_table.specs.Faces.{buckets_of}
use Rattle.grid_claims.specs.Passes.{Opened, Standing}
use Rattle.grid_claims.specs.Tries.{IsShown, IsUnshown}
use Rattle.grid_claims.proofs.Trying.{table_hands}
use Rattle.grid_claims.proofs.Snapped.{snapshot_shown, tried_unshown}
use Rattle.grid_claims.proofs.table.MeshTable.try_snapshot.Goals as goal

pub copy_all-requires-clause-hands : goal.copy_all-requires-clause-hands
copy_all-requires-clause-hands c =
    let e = (λ i. (c.pass.view_is i).table) ∙ c.requires.table ∙ sym c.self.view_is in
    table_hands _ c.pass.inside.hands c.pass.invariant.0 e c.self.invariant.0 c.grid.ensures.places

-- every bucket claimed, one look, all given back: the snapshot is shown
pub returns-in-Ok-clause-shown : goal.returns-in-Ok-clause-shown
returns-in-Ok-clause-shown c =
    let e = (λ i. (c.pass.view_is i).table) ∙ c.requires.table ∙ sym c.self.view_is in
    let hands = table_hands _ c.pass.inside.hands c.pass.invariant.0 e c.self.invariant.0 c.grid.ensures.places in
    let l = c.look_and_let_go-pass-inside in
    subst (λ (old : Standing). IsShown c.in-Ok.snapshot.history.items c.in-Ok.snapshot.complex.items old
    (Rattle.grid_claims.specs.Passes.standing l.new.hands.place.table_id l.new.hands.place.me.0)) c.pass.view_is
    (snapshot_shown c.self.inside.board.shared.table_id (buckets_of c.self.inside.board.shared.key) l.result
    c.in-Ok.snapshot.history.items c.in-Ok.snapshot.complex.items c.pass.inside.hands c.copy_all.new.hands
    l.new.hands hands c.in-Ok.ensures.hands l.ensures.hands c.pass.invariant.0.order
    (sym (ap (λ (t : Opened). t.grid * t.grid * t.grid) e))
    c.in-Ok.ensures.all c.in-Ok.ensures.lists l.ensures.looked)

-- where a claim failed, or memory was wanting, it is not
pub returns-in-Err-clause-refused : goal.returns-in-Err-clause-refused
returns-in-Err-clause-refused c =
    let e = (λ i. (c.pass.view_is i).table) ∙ c.requires.table ∙ sym c.self.view_is in
    let hands = table_hands _ c.pass.inside.hands c.pass.invariant.0 e c.self.invariant.0 c.grid.ensures.places in
    subst (λ (old : Standing). IsUnshown old c.in-Err.why (Rattle.grid_claims.specs.Passes.standing
    c.let_go.new.hands.place.table_id c.let_go.new.hands.place.me.0)) c.pass.view_is
    (tried_unshown c.self.inside.board.shared.table_id (buckets_of c.self.inside.board.shared.key) c.pass.inside.hands
    c.copy_all.new.hands c.let_go.new.hands c.in-Err.why
    (sym (ap (λ (t : Opened). t.grid * t.grid * t.grid) e)) hands c.in-Err.ensures.hands c.let_go.ensures.hands
    c.pass.invariant.0.order c.in-Err.ensures.stopped c.let_go.ensures.back)
