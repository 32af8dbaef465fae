-- The promise of `parts`.
use Rattle.std.specs.Prelude.{Option, IfSome, ⊤}
use Rattle.std.proofs.Common.{◌≡◌, ◌≢◌, ◌⊎◌, inl, inr, refl, sym, subst, ℕ, ◌≤◌, List, [], arith}
use Rattle.list_laws.proofs.Cited.{if_some}
use Rattle.edit_history.specs.declared.history.Entry.{Entry}
use Rattle.edit_history.specs.Histories.{replay}
use Rattle.command_words.specs.declared.stop.Stop.{Stop}
use Rattle.command_words.specs.Lines.{status_of}
use Rattle.command_words.specs.Words.{Parts, asked_alpha, asked_index, asked_most, worker_count}
use Rattle.command_pages.specs.Files.{HasNoMesh, IsOfFile}
use Rattle.command_pages.specs.Statuses.{HasText, IsWrittenWhole}
use Rattle.command_ends.specs.Parted.{IsParted, IsPartedFile, TellsParts, parting}
use Rattle.command_ends.proofs.Carried.{IsCarried, IsOfBytes}
use Rattle.command_ends.proofs.CommandEnds.{PartEnds, TellsOfBytes, ends_of}
use Rattle.command_ends.proofs.FilePromises.{only_kept, status_unmeshed, verdict_made, verdict_unmade}
use Rattle.command_ends.proofs.TextStatuses.{early_only, stopped_only, whole_only}

-- what is told of parts has a status of a whole text
tells_whole : (late : ℕ) (text : List ℕ) → TellsParts late text → IsWrittenWhole late × (late ≤ 9)
tells_whole late text (inl z) = (inl z, omega (arith, z))
tells_whole late text (inr (inl e, n)) = (inr (omega (arith, e)), omega (arith, e))
tells_whole late text (inr (inr e, n)) = (inr (omega (arith, e)), omega (arith, e))

-- what is promised of parts where they were told or a text of them was cut off, where no mesh was, and of an early end
module _ (workers alpha most : ℕ) (index : Option ℕ) (left : Option (List ℕ)) where
  -- of bytes of which parts are told none of 5, 6 and 7 comes
  part_verdict : (status late : ℕ) (h : List Entry) (text : List ℕ) → HasText status →
      IfSome left (IsPartedFile workers alpha most index late h text) → IfSome left (TellsOfBytes status)
  part_verdict status late h text has m =
      if_some (IsPartedFile workers alpha most index late h text) (TellsOfBytes status) left
      (λ bytes. verdict_made status workers h (λ file. IsParted (replay h) alpha most index late text) bytes has) m

  -- where they were told whole
  part_whole : (late : ℕ) (h : List Entry) (text : List ℕ) → TellsParts late text →
      IfSome left (IsPartedFile workers alpha most index late h text) →
      PartEnds workers alpha most index left late h text
  part_whole late h text t m =
      let whole = tells_whole late text t in
      record {
        statuses = whole.1;
        verdict = λ early. part_verdict late late h text (inl whole.0) m;
        made = λ k. m;
        cut = λ k. absurd (whole_only late 4 whole.0 (omega arith) (omega arith) k);
        nothing = λ l. elim t [ inl z ↦ absurd (omega (arith, l, z)) | inr k ↦ k.1 ];
      }

  -- where a text of them was cut off
  part_cut : (status : ℕ) (h : List Entry) (text : List ℕ) →
      IfSome left (IsPartedFile workers alpha most index 0 h text) → status ≡ 4 →
      PartEnds workers alpha most index left status h text
  part_cut status h text m e =
      record {
        statuses = omega (arith, e);
        verdict = λ early. part_verdict status 0 h text (inr e) m;
        made = λ k. absurd (whole_only status 4 k (omega arith) (omega arith) e);
        cut = λ k. m;
        nothing = λ l. absurd (omega (arith, l, e));
      }

  -- so where they were told, however the write ended
  part_made : (late : ℕ) (h : List Entry) (text : List ℕ) → TellsParts late text →
      IfSome left (IsPartedFile workers alpha most index late h text) → (status : ℕ) →
      (status ≡ late) ⊎ ((status ≡ 4) × (text ≢ [])) → PartEnds workers alpha most index left status h text
  part_made late h text t m status (inl e) =
      subst (λ (n : ℕ). PartEnds workers alpha most index left n h text) (sym e) (part_whole late h text t m)
  part_made late h text (inl z) m status (inr f) =
      part_cut status h text
      (subst (λ (n : ℕ). IfSome left (IsPartedFile workers alpha most index n h text)) z m) f.0
  part_made late h text (inr t) m status (inr f) = absurd (f.1 t.1)

  -- where no mesh was
  part_unmade : (failed : Type 0) (stop : Stop) → HasNoMesh left failed stop →
      PartEnds workers alpha most index left (status_of stop) [] []
  part_unmade failed stop u =
      let n = status_unmeshed left failed stop u in
      record {
        statuses = let l = n.0 in omega (arith, l);
        verdict = λ early. verdict_unmade left failed stop u early;
        made = λ k. absurd (stopped_only (status_of stop) n.0 n.1 n.3 (inl k));
        cut = λ k. absurd (n.3 k);
        nothing = λ l. refl;
      }

  -- where the run ended early
  part_early : (status : ℕ) → (status ≡ 1) ⊎ (status ≡ 2) → PartEnds workers alpha most index left status [] []
  part_early status s =
      record {
        statuses = elim s [ inl z ↦ omega (arith, z) | inr z ↦ omega (arith, z) ];
        verdict = λ early. absurd (early (elim s [ inl z ↦ inl z | inr z ↦ inr (inl z) ]));
        made = λ k. absurd (early_only status s (inl k));
        cut = λ k. absurd (early_only status s (inr k));
        nothing = λ l. refl;
      }

  -- and what they are told of is a file that is kept
  part_kept : (status : ℕ) (h : List Entry) (text : List ℕ) → PartEnds workers alpha most index left status h text →
      HasText status → IfSome left (IsOfFile workers h (λ file. ⊤))
  part_kept status h text e s = elim s [ inl whole ↦ by status (e.made whole) | inr four ↦ by 0 (e.cut four) ]
    where
      by : (n : ℕ) → IfSome left (IsPartedFile workers alpha most index n h text) →
          IfSome left (IsOfFile workers h (λ file. ⊤))
      by n m =
          if_some (IsPartedFile workers alpha most index n h text) (IsOfFile workers h (λ file. ⊤)) left
          (λ bytes. only_kept workers h (λ file. IsParted (replay h) alpha most index n text) bytes) m

-- so it is carried
pub part_carried : IsCarried parting (ends_of Parts)
part_carried =
    record {
      made = λ words left late h text m status s. part_made (worker_count words) (asked_alpha words)
          (asked_most words) (asked_index words) left late h text m.0 m.1 status s;
      unmade = λ words left failed stop u. part_unmade (worker_count words) (asked_alpha words) (asked_most words)
          (asked_index words) left failed stop u;
      early = λ words left status s. part_early (worker_count words) (asked_alpha words) (asked_most words)
          (asked_index words) left status s;
      stops = λ left failed stop u. status_unmeshed left failed stop u;
      told = λ left failed line u. u.0;
    }

-- and tells of the bytes
pub part_of_bytes : IsOfBytes (ends_of Parts)
part_of_bytes =
    record {
      verdict = λ words left status h text e. e.verdict;
      kept = λ words left status h text e s. part_kept (worker_count words) (asked_alpha words) (asked_most words)
          (asked_index words) left status h text e s;
    }
