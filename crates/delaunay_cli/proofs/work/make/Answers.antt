use Rattle.std.proofs.Common.{refl, subst}
use Rattle.std.specs.Prelude.{IfSome}
use Rattle.byte_ends.specs.Ends.{Rose}
use Rattle.command_words.specs.Tasks.{IsTask}
use Rattle.command_pages.specs.Page.{text_of_page}
use Rattle.command_ends.specs.Meshed.{IsQueriedFile}
use Rattle.command_ends.proofs.Cited.{checked, drawn, kind_is, made_as, parted, queried, reads_as, reads_source}
use Rattle.command_ends.proofs.Cited.{reported, stepped, unmade_as}
use Rattle.delaunay_cli.proofs.FilesRead.{by_any}
use Rattle.delaunay_cli.proofs.work.make.Goals as goal

pub returns-in-Report-clause-made : goal.returns-in-Report-clause-made
returns-in-Report-clause-made g c =
    let words = c.args.words.now in
    let left = g.S.Source.left c.args.src.now in
    made_as words _ _ c.in_ok-making.ensures.taken c.in_ok-making.ensures.task c.in-Report.is left c.report.result
    (reported words left c.in-Report.making c.report.result c.in-Report.asked
    (subst (IsTask words) c.in-Report.is c.in_ok-making.ensures.task) c.report.ensures.made
    c.report.ensures.plain_end)

pub returns-in-Report-clause-stop : goal.returns-in-Report-clause-stop
returns-in-Report-clause-stop g c =
    unmade_as c.args.words.now _ _ c.in_ok-making.ensures.taken c.in_ok-making.ensures.task c.in-Report.is
    (g.S.Source.left c.args.src.now) (Rose (g.S.Source.faults c.args.src.now) (g.S.Source.faults c.report.new.src))
    c.report.result c.report.ensures.stop

pub returns-in-Report-clause-reads : goal.returns-in-Report-clause-reads
returns-in-Report-clause-reads g c =
    λ s. reads_as c.args.words.now _ _ c.in_ok-making.ensures.taken c.in_ok-making.ensures.task c.in-Report.is
    (g.S.Source.left c.args.src.now) _ _ c.report.ensures.reads

pub returns-in-Report-clause-source : goal.returns-in-Report-clause-source
returns-in-Report-clause-source g c =
    λ d. absurd (reads_source c.args.words.now _ _ c.in_ok-making.ensures.task c.in-Report.is (λ k. cc) d)

pub returns-in-Step-clause-made : goal.returns-in-Step-clause-made
returns-in-Step-clause-made g c =
    let words = c.args.words.now in
    let left = g.S.Source.left c.args.src.now in
    made_as words _ _ c.in_ok-making.ensures.taken c.in_ok-making.ensures.task c.in-Step.is left c.step.result
    (stepped words left c.in-Step.making c.step.result
    (subst (IsTask words) c.in-Step.is c.in_ok-making.ensures.task) c.step.ensures.made c.step.ensures.plain_end)

pub returns-in-Step-clause-stop : goal.returns-in-Step-clause-stop
returns-in-Step-clause-stop g c =
    unmade_as c.args.words.now _ _ c.in_ok-making.ensures.taken c.in_ok-making.ensures.task c.in-Step.is
    (g.S.Source.left c.args.src.now) (Rose (g.S.Source.faults c.args.src.now) (g.S.Source.faults c.step.new.src))
    c.step.result c.step.ensures.stop

pub returns-in-Step-clause-reads : goal.returns-in-Step-clause-reads
returns-in-Step-clause-reads g c =
    λ s. reads_as c.args.words.now _ _ c.in_ok-making.ensures.taken c.in_ok-making.ensures.task c.in-Step.is
    (g.S.Source.left c.args.src.now) _ _ c.step.ensures.reads

pub returns-in-Step-clause-source : goal.returns-in-Step-clause-source
returns-in-Step-clause-source g c =
    λ d. absurd (reads_source c.args.words.now _ _ c.in_ok-making.ensures.task c.in-Step.is (λ k. cc) d)

pub returns-in-Part-clause-made : goal.returns-in-Part-clause-made
returns-in-Part-clause-made g c =
    let words = c.args.words.now in
    let left = g.S.Source.left c.args.src.now in
    made_as words _ _ c.in_ok-making.ensures.taken c.in_ok-making.ensures.task c.in-Part.is left c.part.result
    (parted words left c.in-Part.making c.in-Part.wanted
    (subst (IsTask words) c.in-Part.is c.in_ok-making.ensures.task) c.part.result c.part.ensures.made
    c.part.ensures.told)

pub returns-in-Part-clause-stop : goal.returns-in-Part-clause-stop
returns-in-Part-clause-stop g c =
    unmade_as c.args.words.now _ _ c.in_ok-making.ensures.taken c.in_ok-making.ensures.task c.in-Part.is
    (g.S.Source.left c.args.src.now) (Rose (g.S.Source.faults c.args.src.now) (g.S.Source.faults c.part.new.src))
    c.part.result c.part.ensures.stop

pub returns-in-Part-clause-reads : goal.returns-in-Part-clause-reads
returns-in-Part-clause-reads g c =
    λ s. reads_as c.args.words.now _ _ c.in_ok-making.ensures.taken c.in_ok-making.ensures.task c.in-Part.is
    (g.S.Source.left c.args.src.now) _ _ c.part.ensures.reads

pub returns-in-Part-clause-source : goal.returns-in-Part-clause-source
returns-in-Part-clause-source g c =
    λ d. absurd (reads_source c.args.words.now _ _ c.in_ok-making.ensures.task c.in-Part.is (λ k. cc) d)

pub returns-in-Query-clause-made : goal.returns-in-Query-clause-made
returns-in-Query-clause-made g c =
    let words = c.args.words.now in
    let left = g.S.Source.left c.args.src.now in
    let making = c.in-Query._making in
    made_as words _ _ c.in_ok-making.ensures.taken c.in_ok-making.ensures.task c.in-Query.is left c.query.result
    (queried words left making c.query.result
    (subst (IsTask words) c.in-Query.is c.in_ok-making.ensures.task)
    (by_any (λ n made. IfSome left (IsQueriedFile n made.kept.items (text_of_page made.page))) c.query.result
    making.workers making.some c.query.ensures.made) c.query.ensures.plain_end)

pub returns-in-Query-clause-stop : goal.returns-in-Query-clause-stop
returns-in-Query-clause-stop g c =
    unmade_as c.args.words.now _ _ c.in_ok-making.ensures.taken c.in_ok-making.ensures.task c.in-Query.is
    (g.S.Source.left c.args.src.now) (Rose (g.S.Source.faults c.args.src.now) (g.S.Source.faults c.query.new.src))
    c.query.result c.query.ensures.stop

pub returns-in-Query-clause-reads : goal.returns-in-Query-clause-reads
returns-in-Query-clause-reads g c =
    λ s. reads_as c.args.words.now _ _ c.in_ok-making.ensures.taken c.in_ok-making.ensures.task c.in-Query.is
    (g.S.Source.left c.args.src.now) _ _ c.query.ensures.reads

pub returns-in-Query-clause-source : goal.returns-in-Query-clause-source
returns-in-Query-clause-source g c =
    λ d. absurd (reads_source c.args.words.now _ _ c.in_ok-making.ensures.task c.in-Query.is (λ k. cc) d)

pub returns-in-Check-clause-made : goal.returns-in-Check-clause-made
returns-in-Check-clause-made g c =
    let words = c.args.words.now in
    let left = g.S.Source.left c.args.src.now in
    made_as words _ _ c.in_ok-making.ensures.taken c.in_ok-making.ensures.task c.in-Check.is left c.check_source.result
    (checked words left c.check_source.result c.check_source.ensures.told
    c.check_source.ensures.no_history c.check_source.ensures.made)

pub returns-in-Check-clause-stop : goal.returns-in-Check-clause-stop
returns-in-Check-clause-stop g c =
    unmade_as c.args.words.now _ _ c.in_ok-making.ensures.taken c.in_ok-making.ensures.task c.in-Check.is
    (g.S.Source.left c.args.src.now)
    (Rose (g.S.Source.faults c.args.src.now) (g.S.Source.faults c.check_source.new.src))
    c.check_source.result c.check_source.ensures.stop

pub returns-in-Check-clause-reads : goal.returns-in-Check-clause-reads
returns-in-Check-clause-reads g c =
    λ s. reads_as c.args.words.now _ _ c.in_ok-making.ensures.taken c.in_ok-making.ensures.task c.in-Check.is
    (g.S.Source.left c.args.src.now) _ _ c.check_source.ensures.reads

pub returns-in-Check-clause-source : goal.returns-in-Check-clause-source
returns-in-Check-clause-source g c =
    λ d. absurd (reads_source c.args.words.now _ _ c.in_ok-making.ensures.task c.in-Check.is (λ k. cc) d)

pub returns-in-Draw-clause-made : goal.returns-in-Draw-clause-made
returns-in-Draw-clause-made g c =
    let words = c.args.words.now in
    let left = g.S.Source.left c.args.src.now in
    made_as words _ _ c.in_ok-making.ensures.taken c.in_ok-making.ensures.task c.in-Draw.is left c.draw.result
    (drawn words left c.in-Draw.making c.in-Draw.drawn (subst (IsTask words) c.in-Draw.is c.in_ok-making.ensures.task)
    c.draw.result c.draw.ensures.made c.draw.ensures.plain_end)

pub returns-in-Draw-clause-reads : goal.returns-in-Draw-clause-reads
returns-in-Draw-clause-reads g c =
    λ r. absurd (r (kind_is c.args.words.now _ _ c.in_ok-making.ensures.task c.in-Draw.is))

pub returns-in-Draw-clause-to_its_end : goal.returns-in-Draw-clause-to_its_end
returns-in-Draw-clause-to_its_end g c =
    λ r. absurd (r (kind_is c.args.words.now _ _ c.in_ok-making.ensures.task c.in-Draw.is))

pub returns-in-Draw-clause-source : goal.returns-in-Draw-clause-source
returns-in-Draw-clause-source g c = λ d. refl

pub returns-in-Draw-clause-unread : goal.returns-in-Draw-clause-unread
returns-in-Draw-clause-unread g c = λ k. refl
