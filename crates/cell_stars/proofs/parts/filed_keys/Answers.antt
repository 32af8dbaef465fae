use Rattle.cell_stars.proofs.PartLaws.{filed_all, filed_begin, filed_step}
use Rattle.cell_stars.proofs.parts.filed_keys.Goals as goal

pub loop-p-init : goal.loop-p-init
loop-p-init c = filed_begin c.args.keys.now c.args.count c.in_ok-parts.parts.items c.in_ok-parts.ensures.filed
    c.in_ok-parts.ensures.count c.in_ok-parts.ensures.none

pub loop-p-preserved : goal.loop-p-preserved
loop-p-preserved c =
    let x = c.loop-p-item.result in
    filed_step c.args.keys.now c.args.count c.loop-p.p-index x x c.loop-p.parts.items c.file_key.new.parts.items
    c.requires.once c.loop-p-test.true c.loop-p-item.is c.in_ok-file_key.ensures.filed c.in_ok-file_key.ensures.count
    c.in_ok-file_key.ensures.keys c.loop-p.invariant

pub returns-clause-filed : goal.returns-clause-filed
returns-clause-filed c = c.loop-p.invariant.filed

pub returns-clause-keys : goal.returns-clause-keys
returns-clause-keys c = filed_all c.args.keys.now c.args.count c.loop-p.p-index c.loop-p.parts.items
    c.loop-p-test.false c.loop-p.invariant

pub returns-clause-count : goal.returns-clause-count
returns-clause-count c = c.loop-p.invariant.count_is
