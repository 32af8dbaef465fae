use Rattle.std.proofs.Common.{inl, inr, subst}
use Rattle.std.specs.Io.KnownBytes.{Appends}
use Rattle.byte_ends.specs.Ends.{AppendsFront}
use Rattle.command_ends.specs.Drawn.{drawn_file}
use Rattle.command_words.specs.Words.{asks_text, worker_count}
use Rattle.command_ends.proofs.DrawnFiles.{kept_meshed}
use Rattle.command_ends.proofs.TextStatuses.{has_text}
use Rattle.command_ends.proofs.Promised.{drawn_completes, drawn_none, of_drawn, plain_of_drawn}
use Rattle.command_ends.proofs.laws.run_that_draws.Goals as goal

pub returns-clause-statuses : goal.returns-clause-statuses
returns-clause-statuses c = λ r d. (of_drawn r.ends d).statuses

pub returns-clause-kept : goal.returns-clause-kept
returns-clause-kept c = λ r d t s. (kept_meshed (asks_text r.words) (drawn_file r.words) (worker_count r.words) r.kept t
    ((of_drawn r.ends d).made (has_text r.status s)).0).keeps

pub returns-clause-one_thread : goal.returns-clause-one_thread
returns-clause-one_thread c = λ r d t one s. (kept_meshed (asks_text r.words) (drawn_file r.words)
    (worker_count r.words) r.kept t ((of_drawn r.ends d).made (has_text r.status s)).0).alone one

pub returns-clause-text_kept : goal.returns-clause-text_kept
returns-clause-text_kept c = λ r. drawn_none r.ends

pub returns-clause-written : goal.returns-clause-written
returns-clause-written c = λ r d s. subst (Appends r.held r.holds) ((of_drawn r.ends d).made (inl (inl s))).1
    (r.ends.whole (inl s))

pub returns-clause-front : goal.returns-clause-front
returns-clause-front c = λ r d s. subst (AppendsFront r.held r.holds) ((of_drawn r.ends d).made (inr s)).1
    (r.ends.front s)

pub returns-clause-plain : goal.returns-clause-plain
returns-clause-plain c = λ r d s. subst (Appends r.held r.holds) (plain_of_drawn r.ends d (inl s))
    (r.ends.whole (inl s))

pub returns-clause-plain_front : goal.returns-clause-plain_front
returns-clause-plain_front c = λ r d s. subst (AppendsFront r.held r.holds) (plain_of_drawn r.ends d (inr s))
    (r.ends.front s)

pub returns-clause-complete : goal.returns-clause-complete
returns-clause-complete c = λ r. drawn_completes r.ends
