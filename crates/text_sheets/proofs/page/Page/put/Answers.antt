use Rattle.list_laws.proofs.Cited.{on_err}
use Rattle.text_sheets.proofs.Flowing.{at_once, cause_from, caused, not_ok, passed_ok, passed_err, stopped, waits}
use Rattle.text_sheets.proofs.Flowing.{waits_after}
use Rattle.text_sheets.proofs.page.Page.put.Goals as goal

pub returns-then-has_room : goal.returns-then-has_room
returns-then-has_room g c = record {
  flows = waits _ _ _ _ c.add.ensures;
  front = tt;
  cause = record { later = at_once _; failed = tt };
}

pub returns-in_err-flush : goal.returns-in_err-flush
returns-in_err-flush g c =
    let r = c.from_residual.result in
    record {
      flows = not_ok _ r c.from_residual.ensures.0;
      front = on_err r (stopped _ _ _ _ c.flush.ensures.front);
      cause = caused r c.in_err-flush.ensures.cause;
    }

pub returns-then-has_room-2 : goal.returns-then-has_room-2
returns-then-has_room-2 g c = record {
  flows = waits_after _ _ _ _ c.in_ok-flush.ensures.whole c.in_ok-flush.ensures.empty c.add-then-has_room-2.ensures;
  front = tt;
  cause = record { later = c.in_ok-flush.ensures.cause.later; failed = tt };
}

pub returns : goal.returns
returns g c = record {
  flows = passed_ok _ _ _ _ _ _ _ c.in_ok-flush.ensures.whole c.in_ok-flush.ensures.empty c.write_all.ensures.whole;
  front = passed_err _ _ _ _ _ _ c.in_ok-flush.ensures.whole c.write_all.ensures.front;
  cause = cause_from _ c.in_ok-flush.ensures.cause.later c.write_all.ensures.cause;
}
