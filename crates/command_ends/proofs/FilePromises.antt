-- The promise of a command that reads a file, and makes one text of it.
use Rattle.std.specs.declared.alloc.Global.{Global}
use Rattle.std.specs.Prelude.{Option, None, Some, IfSome, String, ⊤}
use Rattle.std.proofs.Common.{◌≡◌, ◌≢◌, ◌⊎◌, inl, inr, refl, subst, ap, ◌∙◌, ℕ, List, [], false, arith}
use Rattle.list_laws.proofs.Cited.{if_some}
use Rattle.point_order.specs.Solid.{is_solid}
use Rattle.edit_history.specs.declared.history.Entry.{Entry}
use Rattle.edit_files.specs.Content.{Content}
use Rattle.command_pages.specs.Run.{file_limits}
use Rattle.edit_files.proofs.Cited.{no_fault_of, one_file_of}
use Rattle.command_words.specs.declared.stop.Stop.{Stop}
use Rattle.command_words.specs.declared.stop.Stop.TheVariants.{Memory, Usage, ReadFault, WriteFault, BadLine, Flat}
use Rattle.command_words.specs.declared.stop.Stop.TheVariants.{TooLong, NoPart, NoAlpha, BadMesh}
use Rattle.command_words.specs.Lines.{status_of}
use Rattle.command_words.specs.Words.{worker_count}
use Rattle.command_pages.specs.Files.{HasNoMesh, IsOfFile, of_file}
use Rattle.command_pages.specs.Statuses.{HasText, IsEarly}
use Rattle.command_ends.proofs.Carried.{IsCarried, IsOfBytes}
use Rattle.command_ends.proofs.CommandEnds.{FileEnds, TellsOfBytes}
use Rattle.command_ends.proofs.TextStatuses.{IsOfNothing, early_only, has_text, no_other, stopped_only}

-- of bytes of which a text is made, none of the statuses 5, 6 and 7 comes
pub verdict_made : (status workers : ℕ) (h : List Entry) (P : Content → Type 0) (bytes : List ℕ) → HasText status →
    IsOfFile workers h P bytes → TellsOfBytes status bytes
verdict_made status workers h P bytes s r =
    record {
      too_long = (
        λ e. absurd (no_other status s 7 (omega arith) (omega arith) (λ k. omega (arith, k)) e),
        λ l. absurd (let w = r.within in omega (arith, l, w)),
      );
      bad_line = λ n. (
        λ e. absurd (no_other status s 5 (omega arith) (omega arith) (λ k. omega (arith, k)) e),
        λ k. absurd (no_fault_of file_limits bytes r.file k.0 r.is_file k.1),
      );
      not_solid = λ n file is. (
        λ e. absurd (no_other status s 6 (omega arith) (omega arith) (λ k. omega (arith, k)) e),
        λ flat. absurd (let w = ap (λ (f : Content). is_solid f.points)
            (one_file_of file_limits bytes r.file file r.is_file is) in let t = r.solid in cc),
      );
    }

-- of bytes without one, each comes with its cause
pub verdict_unmade : (left : Option (List ℕ)) (failed : Type 0) (stop : Stop) → HasNoMesh left failed stop →
    (IsEarly (status_of stop) → ⊥) → IfSome left (TellsOfBytes (status_of stop))
verdict_unmade None failed stop s late = tt
verdict_unmade (Some bytes) failed Memory s late = absurd (late (inl refl))
verdict_unmade (Some bytes) failed Usage s late = absurd s
verdict_unmade (Some bytes) failed ReadFault s late = absurd (late (inr (inr refl)))
verdict_unmade (Some bytes) failed WriteFault s late = absurd s
verdict_unmade (Some bytes) failed NoPart s late = absurd s
verdict_unmade (Some bytes) failed NoAlpha s late = absurd s
verdict_unmade (Some bytes) failed BadMesh s late = absurd s
verdict_unmade (Some bytes) failed (BadLine line) s late =
    record {
      too_long = (λ e. absurd (omega (arith, e)), λ l. absurd (let w = s.1 in omega (arith, l, w)));
      bad_line = λ n. (λ e. (s.0.fault, s.0.cause), λ k. refl);
      not_solid = λ n file is. (
        λ e. absurd (omega (arith, e)),
        λ flat. absurd
            (no_fault_of file_limits bytes file s.0.fault is s.0.cause),
      );
    }
verdict_unmade (Some bytes) failed Flat s late =
    record {
      too_long = (λ e. absurd (omega (arith, e)), λ l. absurd (let w = s.0 in omega (arith, l, w)));
      bad_line = λ n. (λ e. absurd (omega (arith, e)), λ k. absurd (no_fault_of file_limits bytes s.1.0 k.0 s.1.1 k.1));
      not_solid = λ n file is. (
        λ e. subst (λ (f : Content). is_solid f.points ≡ false)
            (one_file_of file_limits bytes s.1.0 file s.1.1 is) s.1.2,
        λ flat. refl,
      );
    }
verdict_unmade (Some bytes) failed TooLong s late =
    record { too_long = (λ e. s, λ l. refl); bad_line = λ n. absurd (n refl); not_solid = λ n. absurd (n refl) }

-- where there is no mesh, the status is one of 1, 3, 5, 6 and 7, and 3 where the source failed
pub status_unmeshed : (left : Option (List ℕ)) (failed : Type 0) (stop : Stop) → HasNoMesh left failed stop →
    IsOfNothing failed (status_of stop)
status_unmeshed left failed Usage s = absurd s
status_unmeshed left failed WriteFault s = absurd s
status_unmeshed left failed NoPart s = absurd s
status_unmeshed left failed NoAlpha s = absurd s
status_unmeshed left failed BadMesh s = absurd s
status_unmeshed left failed ReadFault s = (
  omega arith,
  λ e. omega (arith, e),
  λ e. omega (arith, e),
  λ e. omega (arith, e),
  λ e. s,
)
status_unmeshed left failed stop s = (
  omega arith,
  λ e. omega (arith, e),
  λ e. omega (arith, e),
  λ e. omega (arith, e),
  λ e. absurd (omega (arith, e)),
)

-- where nothing is told of what was made, the status is 0 or 4
pub plain_end : (status late : ℕ) (text : List ℕ) → late ≡ 0 → (status ≡ late) ⊎ ((status ≡ 4) × (text ≢ [])) →
    (status ≡ 0) ⊎ (status ≡ 4)
plain_end status late text e s = elim s [ inl z ↦ inl (z ∙ e) | inr z ↦ inr z.0 ]

-- what is promised where something was made of a file, where no mesh was, and of an early end
file_made : (workers : ℕ) (h : List Entry) (P : Content → Type 0) (left : Option (List ℕ)) (status : ℕ) →
    IfSome left (IsOfFile workers h P) → (status ≡ 0) ⊎ (status ≡ 4) → FileEnds (IsOfFile workers h P) left status
file_made workers h P left status m s =
    record {
      statuses = elim s [ inl z ↦ omega (arith, z) | inr z ↦ omega (arith, z) ];
      verdict = λ early. if_some (IsOfFile workers h P) (TellsOfBytes status) left
          (λ bytes. verdict_made status workers h P bytes (has_text status s)) m;
      made = λ k. m;
    }

-- where none was made of it, the verdict is told and nothing is kept
file_unmade : (P : List ℕ → Type 0) (left : Option (List ℕ)) (failed : Type 0) (stop : Stop) →
    HasNoMesh left failed stop → FileEnds P left (status_of stop)
file_unmade P left failed stop u =
    let n = status_unmeshed left failed stop u in
    record {
      statuses = n.0;
      verdict = λ early. verdict_unmade left failed stop u early;
      made =
          λ k. absurd (stopped_only (status_of stop) n.0 n.1 n.3 k);
    }

-- and so where the run ended early
file_early : (P : List ℕ → Type 0) (left : Option (List ℕ)) (status : ℕ) → (status ≡ 1) ⊎ (status ≡ 2) →
    FileEnds P left status
file_early P left status s =
    record {
      statuses = elim s [ inl z ↦ omega (arith, z) | inr z ↦ omega (arith, z) ];
      verdict = λ early. absurd (early (elim s [ inl z ↦ inl z | inr z ↦ inr (inl z) ]));
      made = λ k. absurd (early_only status s k);
    }

-- what is kept of a file, whatever holds of it
pub only_kept : (workers : ℕ) (h : List Entry) (P : Content → Type 0) (bytes : List ℕ) → IsOfFile workers h P bytes →
    IsOfFile workers h (λ file. ⊤) bytes
only_kept workers h P bytes m =
    record {
      within = m.within;
      file = m.file;
      is_file = m.is_file;
      solid = m.solid;
      kept = m.kept;
      text_is = tt;
    }

-- so what a command promises of a file holds
module _ (P : List (String Global) → List Entry → List ℕ → Content → Type 0) where
  -- as `IsOfFile` for its words
  abbrev Of : List (String Global) → List Entry → List ℕ → List ℕ → Type 0
  Of words h text bytes = IsOfFile (worker_count words) h (P words h text) bytes

  -- it is carried
  pub file_carried : IsCarried (of_file P) (λ words left status h text. FileEnds (Of words h text) left status)
  file_carried =
      record {
        made = λ words left late h text m status s. file_made (worker_count words) h (P words h text) left status m.1
            (plain_end status late text m.0 s);
        unmade = λ words left failed stop u. file_unmade (Of words [] []) left failed stop u;
        early = λ words left status s. file_early (Of words [] []) left status s;
        stops = λ left failed stop u. status_unmeshed left failed stop u;
        told = λ left failed line u. u.0;
      }

  -- and tells of the bytes
  pub file_of_bytes : IsOfBytes (λ words left status h text. FileEnds (Of words h text) left status)
  file_of_bytes =
      record {
        verdict = λ words left status h text e. e.verdict;
        kept = λ words left status h text e s. if_some (Of words h text)
            (IsOfFile (worker_count words) h (λ file. ⊤)) left
            (λ bytes m. only_kept (worker_count words) h (P words h text) bytes m) (e.made s);
      }
