use Rattle.std.proofs.Common.{arith, ap}
use Rattle.edit_lists.specs.Dealing.{count_all}
use Rattle.worked_cases.proofs.Meetings.{made_done}
use Rattle.worked_cases.proofs.meeting.run_two.Goals as goal

pub run_edits-requires-clause-segments : goal.run_edits-requires-clause-segments
run_edits-requires-clause-segments g c κs within =
    made_done c.args.one c.args.two _ c.requires.apart c.in_ok-lists.ensures

pub run_edits-requires-clause-room : goal.run_edits-requires-clause-room
run_edits-requires-clause-room g c κs within = omega (arith, c.requires.room, ap count_all c.in_ok-lists.ensures)
