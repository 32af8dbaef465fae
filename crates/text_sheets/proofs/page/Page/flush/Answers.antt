use Rattle.std.proofs.Common.{List, ℕ, refl, subst}
use Rattle.std.specs.Io.KnownBytes.{Appends}
use Rattle.byte_ends.specs.Ends.{AppendsFront}
use Rattle.text_sheets.proofs.page.Page.flush.Goals as goal

pub returns : goal.returns
returns g c =
    let old = g.O.Sink.holds c.args.out.now in
    let new = g.O.Sink.holds c.write_all.new.out in
    record {
      whole = subst (λ (waits : List ℕ). Appends old new waits) c.self.view_is c.in_ok-write_all.ensures.whole;
      empty = refl;
      front = subst (λ (waits : List ℕ). AppendsFront old new waits) c.self.view_is c.write_all.ensures.front;
      cause = record { later = c.write_all.ensures.cause.later; failed = tt };
    }
