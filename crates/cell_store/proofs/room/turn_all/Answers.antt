use Rattle.std.proofs.Common.{◌<◌, ◌≤◌, ◌≡◌, sym, subst, length}
use Rattle.cell_store.specs.Ready.{IsAllowed, IsTurnedIn}
use Rattle.cell_store.specs.declared.room.PlanFor.{PlanFor}
use Rattle.cell_store.proofs.RoomLaws.{made_all, made_next, made_none, next_allowed}
use Rattle.cell_store.proofs.room.turn_all.Goals as goal

pub loop-item-init : goal.loop-item-init
loop-item-init c = made_none c.args.turned c.args.plans.now c.args.places.now

pub turn-requires : goal.turn-requires
turn-requires c =
    let l = c.loop-item in
    let h : l.item-index < length l.plans = subst (λ n. l.item-index < n) (sym l.auto.plans) c.loop-item-test.true in
    subst (λ (x : PlanFor). IsAllowed c.args.turned l.places x) c.item-item.is
    (next_allowed c.args.turned c.args.plans.now l.plans c.args.places.now l.places l.item-index c.item-item.result h
    l.auto.plans c.item-item.is c.requires.apart c.requires.allowed l.invariant)

pub loop-item-preserved : goal.loop-item-preserved
loop-item-preserved c =
    let l = c.loop-item in
    let h : l.item-index < length l.plans = subst (λ n. l.item-index < n) (sym l.auto.plans) c.loop-item-test.true in
    made_next c.args.turned c.args.plans.now l.plans c.args.places.now l.places c.turn.new.places l.item-index
    c.item-item.result c.turn.new.item h l.auto.plans c.item-item.is c.requires.apart l.invariant c.turn.auto.places
    (subst (λ (x : PlanFor). IsTurnedIn c.args.turned x c.turn.new.item l.places c.turn.new.places) (sym c.item-item.is)
    c.turn.ensures.turned)
    (λ b n. c.turn.ensures.others b (λ e. n (subst (λ (x : PlanFor). b ≡ x.number) (sym c.item-item.is) e)))

pub returns : goal.returns
returns c =
    let l = c.loop-item in
    made_all c.args.turned c.args.plans.now l.plans c.args.places.now l.places l.item-index l.auto.plans
    (subst (λ n. n ≤ l.item-index) (sym l.auto.plans) c.loop-item-test.false) l.invariant
