use Rattle.std.proofs.Common.{◌∙◌}
use Rattle.point_history.proofs.MoreLines.{log_more}
use Rattle.point_history.proofs.entries.Log.add.Goals as goal

pub returns : goal.returns
returns c = λ lines was.
    log_more lines c.args.tag c.args.p c.len-number.result c.in_ok-is_new.is_new c.reply_of.result c.args.self.now
    (record { entries = c.push.new.self; seen = c.insert.new.self }) was
    (c.len-number.ensures ∙ c.args.self.now.entries.ok.0) c.in_ok-is_new.ensures.added c.reply_of.ensures
    c.in_ok-is_new.ensures.keys c.in_ok-push.ensures.items
