use Rattle.std.proofs.Common.{◌≡◌, inl, inr, subst}
use Rattle.std.specs.Io.KnownBytes.{Appends}
use Rattle.byte_ends.specs.Ends.{AppendsFront}
use Rattle.edit_history.specs.OneThread.{Keeps}
use Rattle.plain_laws.specs.Plain.{IsAnchored}
use Rattle.command_ends.specs.PlainText.{plain_text}
use Rattle.command_pages.specs.Run.{AreDealt, history_of}
use Rattle.command_words.specs.Stops.{line_of_end}
use Rattle.command_words.specs.Words.{asks_shape, worker_count}
use Rattle.command_ends.proofs.Cited.{anchored_text, completes_plainly, of_file, of_kept, written, written_front}
use Rattle.delaunay_cli.proofs.top.run.Goals as goal

pub returns-clause-ends : goal.returns-clause-ends
returns-clause-ends g c = c.work-ended.ensures.ends

pub returns-clause-told : goal.returns-clause-told
returns-clause-told g c =
    record {
      line = line_of_end c.work-ended.result.stop;
      is_line = c.work-ended.ensures.line;
      front =
          c.tell.ensures.front;
      whole = c.tell.ensures.whole;
    }

pub returns-clause-legal : goal.returns-clause-legal
returns-clause-legal g c = c.work-ended.ensures.ends.legal

pub returns-clause-kept : goal.returns-clause-kept
returns-clause-kept g c = let e = c.work-ended.ensures.ends in of_kept e
    (λ file. Keeps file.points file.edits (worker_count c.args.words.now) c.work-ended.result.run.kept.items)
    (λ file k. k.keeps)

pub returns-clause-one_thread : goal.returns-clause-one_thread
returns-clause-one_thread g c = let e = c.work-ended.ensures.ends in λ w one s. of_kept e
    (λ file. c.work-ended.result.run.kept.items ≡ history_of file) (λ file k. k.alone one) w s

pub returns-clause-dealt : goal.returns-clause-dealt
returns-clause-dealt g c = let e = c.work-ended.ensures.ends in of_kept e
    (λ file. AreDealt (worker_count c.args.words.now) c.work-ended.result.run.kept.items) (λ file k. k.dealt)

pub returns-clause-written : goal.returns-clause-written
returns-clause-written g c = written c.work-ended.ensures.ends

pub returns-clause-front : goal.returns-clause-front
returns-clause-front g c = written_front c.work-ended.ensures.ends

pub returns-clause-plain : goal.returns-clause-plain
returns-clause-plain g c =
    let e = c.work-ended.ensures.ends in
    let appends = Appends (g.O.Sink.holds c.args.out.now) (g.O.Sink.holds c.work-ended.new.out) in
    let text = plain_text (asks_shape c.args.words.now) in
    λ w o s. of_file e (λ file. IsAnchored file.points file.edits → appends (text file))
    (λ file k t a. subst appends (anchored_text e file k t o a) (e.whole (inl s))) w (inl s)

pub returns-clause-plain_front : goal.returns-clause-plain_front
returns-clause-plain_front g c =
    let e = c.work-ended.ensures.ends in
    let appends = AppendsFront (g.O.Sink.holds c.args.out.now) (g.O.Sink.holds c.work-ended.new.out) in
    let text = plain_text (asks_shape c.args.words.now) in
    λ w o s. of_file e (λ file. IsAnchored file.points file.edits → appends (text file))
    (λ file k t a. subst appends (anchored_text e file k t o a) (e.front s)) w (inr s)

pub returns-clause-complete : goal.returns-clause-complete
returns-clause-complete g c = completes_plainly c.work-ended.ensures.ends

pub returns-clause-source : goal.returns-clause-source
returns-clause-source g c = c.work-ended.ensures.source

pub returns-clause-unread : goal.returns-clause-unread
returns-clause-unread g c = c.work-ended.ensures.unread

pub returns-clause-later_source : goal.returns-clause-later_source
returns-clause-later_source g c = c.work-ended.ensures.later_source

pub returns-clause-later_output : goal.returns-clause-later_output
returns-clause-later_output g c = c.work-ended.ensures.later_output

pub returns-clause-later_error : goal.returns-clause-later_error
returns-clause-later_error g c = c.tell.ensures.later
