use Rattle.std.proofs.Common.{◌∙◌, ◌+◌, sym, subst, ap, List, ℕ}
use Rattle.list_laws.proofs.Cited.{Gathered, gather_none}
use Rattle.cell_stars.specs.AtOnce.{StandsHere}
use Rattle.list_laws.specs.Lists.{Gathers}
use Rattle.list_laws.proofs.Cited.{gathers}
use Rattle.cell_stars.proofs.AtOnce.{here_more, here_not}
use Rattle.cell_stars.proofs.at_once.add_here.Goals.{then-bucket_of-number+in_ok-push, else-bucket_of-number}
use Rattle.cell_stars.proofs.at_once.add_here.Goals as goal

pub loop-p-init : goal.loop-p-init
loop-p-init c = gather_none (StandsHere c.args.grid c.args.number) c.points-p-items.result.now c.args.list.now.items

-- the next point lies in the bucket and comes last, or is there already, or does not lie there
pub loop-p-preserved : goal.loop-p-preserved
loop-p-preserved c =
    let R = StandsHere c.args.grid c.args.number in
    let ps = c.points-p-items.result.now in
    let n = c.loop-p.p-index in
    let old = c.args.list.now.items in
    let list = c.loop-p.list.items in
    let x = c.p-item.result in
    elim c.if-bucket_of-number.branch [
      | then-bucket_of-number+in_ok-push w ↦ subst (λ (l : List ℕ). Gathered R ps (n + 1) old l)
          (sym (ap (λ v. v.items) w.list-is))
          (here_more c.args.grid c.args.number ps n old list w.push.new.self.items x c.loop-p-test.true c.p-item.is
          (sym c.bucket_of.ensures.number ∙ w.if-bucket_of-number.true) w.in_ok-push.ensures.items c.loop-p.invariant)
      | else-bucket_of-number w ↦ subst (λ (l : List ℕ). Gathered R ps (n + 1) old l)
          (sym (ap (λ v. v.items) w.list-is))
          (here_not c.args.grid c.args.number ps n old list x c.loop-p-test.true c.p-item.is
          (λ e. w.if-bucket_of-number.false (c.bucket_of.ensures.number ∙ e)) c.loop-p.invariant)
    ]

pub returns : goal.returns
returns c =
    let R = StandsHere c.args.grid c.args.number in
    subst (λ (l : List ℕ). Gathers R l c.args.list.now.items c.loop-p.list.items) c.points-p-items.ensures.points
    (gathers R c.points-p-items.result.now c.loop-p.p-index c.args.list.now.items c.loop-p.list.items
    c.loop-p-test.false
    c.loop-p.invariant)
