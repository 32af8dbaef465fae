use Rattle.byte_ends.specs.Ends.{Rose}
use Rattle.command_ends.proofs.Cited.{ends, told, unread}
use Rattle.delaunay_cli.proofs.work.work.Goals as goal

pub returns-clause-ends : goal.returns-clause-ends
returns-clause-ends g c =
    let faults = g.O.Sink.faults in
    let made = c.make-made in
    ends c.args.words.now (g.S.Source.left c.args.src.now) (g.S.Source.left made.new.src)
    (Rose (g.S.Source.faults c.args.src.now) (g.S.Source.faults made.new.src))
    (g.O.Sink.holds c.args.out.now) (g.O.Sink.holds c.end.new.out) (Rose (faults c.args.out.now) (faults c.end.new.out))
    made.result c.end.result.stop c.end.result.run.status c.end.result.run.kept.items
    made.ensures.sound made.ensures.made made.ensures.stop made.ensures.reads made.ensures.to_its_end
    c.end.ensures.status c.end.ensures.made c.end.ensures.stop

pub returns-clause-line : goal.returns-clause-line
returns-clause-line g c =
    let faults = g.O.Sink.faults in
    let made = c.make-made in
    told c.args.words.now (g.S.Source.left c.args.src.now) (g.S.Source.left made.new.src)
    (Rose (g.S.Source.faults c.args.src.now) (g.S.Source.faults made.new.src))
    (g.O.Sink.holds c.args.out.now) (g.O.Sink.holds c.end.new.out) (Rose (faults c.args.out.now) (faults c.end.new.out))
    made.result c.end.result.stop c.end.result.run.status c.end.result.run.kept.items
    made.ensures.sound made.ensures.stop c.end.ensures.status c.end.ensures.made c.end.ensures.stop

pub returns-clause-source : goal.returns-clause-source
returns-clause-source g c = c.make-made.ensures.source

pub returns-clause-unread : goal.returns-clause-unread
returns-clause-unread g c =
    let faults = g.O.Sink.faults in
    let made = c.make-made in
    λ k. made.ensures.unread (unread c.args.words.now (g.S.Source.left c.args.src.now) (g.S.Source.left made.new.src)
    (Rose (g.S.Source.faults c.args.src.now) (g.S.Source.faults made.new.src))
    (g.O.Sink.holds c.args.out.now) (g.O.Sink.holds c.end.new.out) (Rose (faults c.args.out.now) (faults c.end.new.out))
    made.result c.end.result.stop c.end.result.run.status c.end.result.run.kept.items
    made.ensures.sound c.end.ensures.status c.end.ensures.made c.end.ensures.stop k)

pub returns-clause-later_source : goal.returns-clause-later_source
returns-clause-later_source g c = c.make-made.ensures.later

pub returns-clause-later_output : goal.returns-clause-later_output
returns-clause-later_output g c = c.end.ensures.later
