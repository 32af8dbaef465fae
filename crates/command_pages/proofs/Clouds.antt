-- The history of one thread of a file keeps it for every number of workers.
use Rattle.std.specs.Prelude.{◌≡◌, ◌⊎◌, ℕ, ◌%◌, ◌<◌, List, Some}
use Rattle.std.specs.Option.{option_map}
use Rattle.std.proofs.Common.{sym, subst, inl, arith}
use Rattle.list_laws.proofs.Cited.{all_of_each, each_of_all}
use Rattle.edit_history.specs.declared.history.Edit.{Edit}
use Rattle.edit_history.specs.declared.history.Entry.{Entry}
use Rattle.edit_history.specs.Edits.{point_of}
use Rattle.edit_history.specs.Laws.{KeepsLaw}
use Rattle.edit_history.specs.Opening.{opening_four}
use Rattle.edit_history.specs.OneThread.{Keeps, one_thread, places}
use Rattle.point_history.proofs.Cited.{found}
use Rattle.edit_files.specs.Content.{Content}
use Rattle.command_pages.specs.Run.{AreDealt, IsKept}

-- entries by 0 are entries by one of some workers
any_workers : (points : List ℕ) (edits : List Edit) (workers : ℕ) (h : List Entry) → 0 < workers →
    Keeps points edits 1 h → Keeps points edits workers h
any_workers points edits workers h some k =
    record {
      opening = k.opening;
      lines = k.lines;
      order = k.order;
      workers = all_of_each (λ (e : Entry). e.by < workers) h (λ e i. let b =
          each_of_all (λ (e : Entry). e.by < 1) h k.workers e i in omega (arith, b, some));
    }

-- so it keeps the file for each
pub kept_by_any : (file : Content) (four : List ℕ) (h : List Entry) → KeepsLaw →
    option_map places (opening_four file.points) ≡ Some four → h ≡ one_thread file.points file.edits →
    (workers : ℕ) → 0 < workers → IsKept file workers h
kept_by_any file four h law e same workers some =
    let one = (found (opening_four file.points) four e (law file.points file.edits)).1 in
    record {
      keeps = subst (Keeps file.points file.edits workers) (sym same)
          (any_workers file.points file.edits workers (one_thread file.points file.edits) some one);
      alone = λ one. same;
      dealt = subst (AreDealt workers) (sym same) (all_of_each
          (λ (e : Entry). (e.by ≡ 0) ⊎ (e.by ≡ point_of e.edit % workers)) (one_thread file.points file.edits) (λ e i.
          let b = each_of_all (λ (e : Entry). e.by < 1) (one_thread file.points file.edits) one.workers e i in
          inl (omega (arith, b))));
    }
