use Rattle.std.proofs.Common.{subst, sym, length}
use Rattle.list_laws.proofs.Cited.{at_place}
use Rattle.cell_stars.specs.Plans.{AreBelow, set_all}
use Rattle.cell_stars.proofs.KeyLaws.{KeysSoFar, keyed_yet, keys_begin, keys_step, keys_end}
use Rattle.cell_stars.proofs.cells.Cells.changed_keys.Goals as goal

pub change_key-requires-clause-below : goal.change_key-requires-clause-below
change_key-requires-clause-below c = c.loop-n.invariant.below

pub change_key-requires-clause-filed : goal.change_key-requires-clause-filed
change_key-requires-clause-filed c = c.loop-n.invariant.keys.order

pub change_key-requires-clause-number : goal.change_key-requires-clause-number
change_key-requires-clause-number c =
    let x = c.loop-n-item.result in
    c.requires.numbers x.0 x.1 (at_place c.args.writes.now c.loop-n.n-index x x c.loop-n-test.true c.loop-n-item.is)

pub change_key-requires-clause-there : goal.change_key-requires-clause-there
change_key-requires-clause-there c =
    let x = c.loop-n-item.result in
    keyed_yet c.args.self.now.keys (set_all c.loop-n.changes.items c.args.base.now) c.args.writes.now c.loop-n.n-index x
    x c.requires.agreed c.loop-n-test.true c.loop-n-item.is c.loop-n.invariant.keys

pub loop-n-init : goal.loop-n-init
loop-n-init c = record {
  below = subst (AreBelow (length c.args.base.now)) (sym c.in_ok-changes.ensures.items) tt;
  keys = subst (λ v. KeysSoFar c.args.self.now.keys c.args.writes.now 0 (set_all v c.args.base.now))
      (sym c.in_ok-changes.ensures.items)
      (keys_begin c.args.self.now.keys c.args.base.now c.args.writes.now c.requires.same c.requires.filed);
}

pub loop-n-preserved : goal.loop-n-preserved
loop-n-preserved c =
    let x = c.loop-n-item.result in
    record {
      below = c.in_ok-change_key.ensures.below;
      keys = keys_step c.args.self.now.keys (set_all c.loop-n.changes.items c.args.base.now)
          (set_all c.change_key.new.changes.items c.args.base.now) c.args.writes.now c.loop-n.n-index x x
          c.requires.agreed c.loop-n-test.true c.loop-n-item.is c.in_ok-change_key.ensures.filed
          c.in_ok-change_key.ensures.keys c.loop-n.invariant.keys;
    }

pub returns-clause-keys : goal.returns-clause-keys
returns-clause-keys c =
    keys_end c.args.self.now.keys (set_all c.loop-n.changes.items c.args.base.now) c.args.writes.now c.loop-n.n-index
    c.loop-n-test.false c.loop-n.invariant.keys
