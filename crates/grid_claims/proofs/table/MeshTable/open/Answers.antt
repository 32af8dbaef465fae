use Rattle.std.proofs.Common.{◌≡◌, ◌<◌, ◌≤◌, ◌-◌, ◌*◌, ℕ, None, [], List, length, replicate, refl, sym, ◌∙◌, ap, subst}
use Rattle.std.proofs.Common.{vec_capacity}
use Rattle.edit_history.specs.declared.history.Entry.{Entry}
use Rattle.cell_store.specs.Buckets.{InHand, empty_hold}
use Rattle.claim_rule.proofs.Cited.{as_counted}
use Rattle.claim_table.specs.declared.hands.Hands.{Hands}
use Rattle.claim_table.specs.declared.view.Key.{Key}
use Rattle.claim_table.specs.Faces.{opening_of}
use Rattle.grid_claims.specs.Passes.{standing}
use Rattle.claim_table.specs.Rule.{opening_view}
use Rattle.claim_table.specs.Plays.{Seated}
use Rattle.claim_table.proofs.Cited.{left_over, few_more, rests_first}
use Rattle.grid_claims.proofs.table.MeshTable.open.Goals as goal

pub invariant_of-table : goal.invariant_of-table
invariant_of-table c =
    let e = c.in_ok-board.ensures in
    (e.words, e.slots, c.in_ok-hold.ensures ∙ ap empty_hold (c.grid-grid.ensures.grid ∙ sym e.grid))

-- the first pass of the table is at rest
pub invariant_of-pass : goal.invariant_of-pass
invariant_of-pass c =
    let h : List Entry = c.args.mesh.history in
    let k : Key = c.in_ok-board.board.shared.key in
    let e = c.in_ok-board.ensures in
    let order = c.in_ok-held.ensures.order in
    let hold = c.in_ok-held.ensures.hold in
    let g : c.grid-grid.result ≡ k.grid = c.grid-grid.ensures.grid ∙ sym e.grid in
    let t : c.count-seen.result ≡ length h = as_counted c.count-seen.result (length h) c.args.allowance
    c.count-seen.ensures.count c.requires.room in
    let is : length (opening_of k) ≡ length h = ap length e.opening in
    let left : k.most - length (opening_of k) ≡ c.args.allowance = left_over k.most (length (opening_of k))
    (length h) c.args.allowance e.most is in
    let some : (0 < k.parts) × (k.parts ≤ 64) = subst (λ (x : ℕ). (0 < x) × (x ≤ 64)) (sym e.parts) c.requires.parts in
    let me : ◌≡◌ {A = Seated} c.in_ok-board.place.me (opening_view k, []) = e.seat in
    let w : Hands = record {
      place = c.in_ok-board.place;
      hold = c.in_ok-held.held;
      order = c.in_ok-held.order;
      first = 0;
    } in (
      rests_first k w c.args.allowance me refl (ap (λ (x : InHand). x.grid) hold ∙ g)
          (ap (λ (x : InHand). x.places) hold ∙ ap (λ (x : ℕ). replicate (x * x * x) None) g)
          order.0 (subst (λ (x : ℕ). x * x * x ≤ vec_capacity c.in_ok-held.order) g order.1) some.0 some.1 left
          (few_more (length h) c.args.allowance c.requires.room),
      sym (ap (λ (m : Seated). m.0.parts) me ∙ e.parts),
      sym (ap (λ (m : Seated). m.0.left) me ∙ left),
      sym (ap (λ (m : Seated). m.0.seen) me ∙ is ∙ sym t),
    )

pub returns-clause-grid : goal.returns-clause-grid
returns-clause-grid c = c.in_ok-board.ensures.grid

pub returns-clause-parts : goal.returns-clause-parts
returns-clause-parts c = c.in_ok-board.ensures.parts

pub returns-clause-opening : goal.returns-clause-opening
returns-clause-opening c = c.in_ok-board.ensures.opening

pub returns-clause-pass : goal.returns-clause-pass
returns-clause-pass c =
    let h : List Entry = c.args.mesh.history in
    let k : Key = c.in_ok-board.board.shared.key in
    let e = c.in_ok-board.ensures in
    let left : k.most - length (opening_of k) ≡ c.args.allowance = left_over k.most (length (opening_of k))
    (length h) c.args.allowance e.most (ap length e.opening) in
    (λ i. standing (e.table i) (e.seat i).0) ∙ (λ i. record (standing c.in_ok-board.board.shared.table_id
    (opening_view k)) { left = left i })
