-- What follows of the end of a run, of what was made or why nothing was.
use Rattle.std.specs.declared.alloc.Global.{Global}
use Rattle.std.specs.Prelude.{Option, String}
use Rattle.std.proofs.Common.{◌≡◌, ◌≢◌, inl, inr, refl, sym, subst, arith, ℕ, List, []}
use Rattle.edit_history.specs.declared.history.Entry.{Entry}
use Rattle.edit_history.specs.Histories.{replay}
use Rattle.command_words.specs.declared.stop.Stop.{Stop}
use Rattle.command_words.specs.declared.stop.Stop.TheVariants.{Memory, Usage}
use Rattle.command_words.specs.Lines.{status_of}
use Rattle.command_words.specs.Words.{Checks, Draws, Kind, Parts, Queries, Reports, Steps, asks_order, asks_shape}
use Rattle.command_words.specs.Words.{kind_of_words}
use Rattle.command_pages.specs.Report.{text_of_history}
use Rattle.command_ends.specs.Commands.{command_of}
use Rattle.command_ends.specs.Drawn.{drawing}
use Rattle.command_ends.specs.Ends.{IsDone, IsUnmade}
use Rattle.command_ends.specs.Queried.{IsQueried}
use Rattle.command_ends.specs.Stepped.{IsStepped}
use Rattle.command_ends.proofs.Carried.{IsCarried, IsOfBytes}
use Rattle.command_ends.proofs.ChecksEnded.{check_carried}
use Rattle.command_ends.proofs.CommandEnds.{ends_of}
use Rattle.command_ends.proofs.FilePromises.{file_carried, file_of_bytes, plain_end}
use Rattle.command_ends.proofs.PartPromises.{part_carried, part_of_bytes}
use Rattle.command_ends.proofs.TextStatuses.{early_only}

-- that of `gen`
draw_carried : IsCarried drawing (ends_of Draws)
draw_carried =
    record {
      made = λ words left late h text m status s. record {
        statuses = elim (plain_end status late text m.0 s) [ inl z ↦ inl (omega (arith, z)) | inr z ↦ inr z ];
        made = λ k. m.1;
      };
      unmade = λ words left failed stop u. absurd u;
      early = λ words left status s. record {
        statuses = inl (elim s [ inl z ↦ omega (arith, z) | inr z ↦ omega (arith, z) ]);
        made = λ k. absurd (early_only status s k);
      };
      stops = λ left failed stop u. absurd u;
      told = λ left failed line u. absurd u;
    }

-- each is carried
pub carried : (kind : Kind) → IsCarried (command_of kind) (ends_of kind)
carried Reports =
    file_carried (λ words h text file. text ≡ text_of_history (asks_shape words) (asks_order words) file h)
carried Steps = file_carried (λ words h text file. IsStepped (replay h) text)
carried Parts = part_carried
carried Queries = file_carried (λ words h text file. IsQueried (replay h) file.queries text)
carried Checks = check_carried
carried Draws = draw_carried

-- and that of a command that reads a file tells of its bytes
pub of_bytes : (kind : Kind) → kind ≢ Draws → kind ≢ Checks → IsOfBytes (ends_of kind)
of_bytes Reports n m =
    file_of_bytes (λ words h text file. text ≡ text_of_history (asks_shape words) (asks_order words) file h)
of_bytes Steps n m = file_of_bytes (λ words h text file. IsStepped (replay h) text)
of_bytes Parts n m = part_of_bytes
of_bytes Queries n m = file_of_bytes (λ words h text file. IsQueried (replay h) file.queries text)
of_bytes Checks n m = absurd (m refl)
of_bytes Draws n m = absurd (n refl)

-- so what follows of why nothing was made
of_unmade : (words : List (String Global)) (left : Option (List ℕ)) (failed : Type 0) (stop : Stop) →
    IsUnmade words left failed stop → ends_of (kind_of_words words) words left (status_of stop) [] []
of_unmade words left failed Memory u = (carried (kind_of_words words)).early words left 1 (inl refl)
of_unmade words left failed Usage u = (carried (kind_of_words words)).early words left 2 (inr refl)
of_unmade words left failed stop u = (carried (kind_of_words words)).unmade words left failed stop u.1

-- and of how the words were done
pub of_done : (words : List (String Global)) (left : Option (List ℕ)) (failed : Type 0) (status : ℕ) (h : List Entry)
    (text : List ℕ) → IsDone words left failed status h text →
    ends_of (kind_of_words words) words left status h text
of_done words left failed status h text (inl m) =
    (carried (kind_of_words words)).made words left m.0 h text m.1.1 status m.2
of_done words left failed status h text (inr u) =
    subst (λ (n : ℕ). ends_of (kind_of_words words) words left n h text) (sym u.2)
    (subst (λ (k : List Entry). ends_of (kind_of_words words) words left (status_of u.0) k text) (sym u.3)
    (subst (λ (t : List ℕ). ends_of (kind_of_words words) words left (status_of u.0) [] t) (sym u.4)
    (of_unmade words left failed u.0 u.1)))
