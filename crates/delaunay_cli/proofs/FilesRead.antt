-- What holds of a file that was read of a source.
use Rattle.std.proofs.Common.{sym, subst, inl, inr, ℕ, ◌+◌, ◌<◌, ◌^◌, Bool, List, length, arith}
use Rattle.std.specs.Prelude.{Option, IfSome, IfOk, IfErr, Result, Ok, Err, Vec}
use Rattle.std.specs.declared.alloc.Global.{Global}
use Rattle.list_laws.proofs.Cited.{if_some}
use Rattle.edit_history.specs.declared.history.Entry.{Entry}
use Rattle.edit_files.specs.Content.{Content}
use Rattle.command_pages.specs.declared.made.Parts.{Parts}
use Rattle.command_words.specs.declared.stop.Stop.{Stop}
use Rattle.command_pages.specs.Files.{HasNoMesh, IsFlatFile}
use Rattle.command_pages.specs.Reading.{IsFileOf, IsFileWithin}
use Rattle.command_pages.specs.Page.{report_of_parts}
use Rattle.command_ends.specs.Meshed.{IsAnswered, IsQueriedFile, IsMeshed, IsReportOf, IsUnmeshed}

module _ (left : Option (List ℕ)) (file : Content) (f : IsFileOf left file) where
  -- its lines are few
  pub few_lines : length file.points + length file.edits + 4 < 2 ^ 32
  few_lines = let l = f.lines in omega (arith, l)

  -- why it has no mesh is why there is none of the source
  pub no_mesh : {A : Type 0} (failed : Type 0) (m : Result A Stop) → IfErr m (IsUnmeshed file) →
      IfErr m (HasNoMesh left failed)
  no_mesh failed (Ok made) u = tt
  no_mesh failed (Err stop) u = elim u [
    | inl e ↦ subst (HasNoMesh left failed) (sym e) tt
    | inr e ↦ subst (HasNoMesh left failed) (sym e.0)
        (if_some (IsFileWithin file) IsFlatFile left (λ bytes w. (w.0, (file, w.1, e.1))) f.told)
  ]

  -- what is made of it is made of what the source had left
  pub report_told : (workers : ℕ) (shape order : Bool) (m : Result (Vec Entry Global × Parts) Stop) →
      IfOk m (λ made. IsMeshed workers shape order file made.0.items (report_of_parts made.1)) →
      IfOk m (λ made. IfSome left (IsReportOf workers shape order made.0.items (report_of_parts made.1)))
  report_told workers shape order (Err stop) r = tt
  report_told workers shape order (Ok made) r =
      if_some (IsFileWithin file) (IsReportOf workers shape order made.0.items (report_of_parts made.1)) left
      (λ bytes w. record {
        within = w.0;
        file = file;
        is_file = w.1;
        solid = r.solid;
        kept = r.kept;
        text_is = r.report_is;
      }) f.told

  -- so with the answers to its queries
  pub answers_told : (workers : ℕ) (h : List Entry) (text : List ℕ) → IsAnswered workers file h text →
      IfSome left (IsQueriedFile workers h text)
  answers_told workers h text r =
      if_some (IsFileWithin file) (IsQueriedFile workers h text) left
      (λ bytes w. record {
        within = w.0;
        file = file;
        is_file = w.1;
        solid = r.solid;
        kept = r.kept;
        text_is = r.told;
      }) f.told

-- what holds of a result for every number of workers holds for one
pub by_any : {A : Type 0} (P : ℕ → A → Type 0) (m : Result A Stop) (workers : ℕ) → 0 < workers →
    IfOk m (λ a. (n : ℕ) → 0 < n → P n a) → IfOk m (P workers)
by_any P (Ok a) workers some k = k workers some
by_any P (Err stop) workers some k = tt
