use Rattle.edit_lists.proofs.Cuts.{cut_nothing}
use Rattle.edit_lists.proofs.cutting.Cutter.new.Goals as goal

pub returns : goal.returns
returns c =
    cut_nothing c.args.workers
    (record { finished = c.new.result; present = c.in_ok-empty_segment.field-0; marks = c.new-2.result })
    c.new.ensures.items c.in_ok-empty_segment.ensures c.new-2.ensures
