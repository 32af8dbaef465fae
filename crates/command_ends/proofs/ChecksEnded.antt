-- The end of a run that judges a mesh: of what was told of it, or why nothing was.
use Rattle.std.specs.Prelude.{Option, None, Some, IfSome}
use Rattle.std.proofs.Common.{◌≡◌, ◌≢◌, ◌⊎◌, inl, inr, refl, sym, subst, ℕ, ◌≤◌, List, [], arith}
use Rattle.list_laws.proofs.Cited.{if_some}
use Rattle.edit_history.specs.declared.history.Entry.{Entry}
use Rattle.mesh_reader.proofs.Cited.{no_fault_of_mesh}
use Rattle.command_words.specs.declared.stop.Stop.{Stop}
use Rattle.command_words.specs.declared.stop.Stop.TheVariants.{Memory, ReadFault, BadLine, TooLong}
use Rattle.command_pages.specs.Checked.{IsChecked, IsUnchecked, TellsVerdict, checking}
use Rattle.command_pages.specs.Statuses.{HasText, IsEarly, IsWrittenWhole}
use Rattle.command_words.specs.Lines.{status_of}
use Rattle.command_words.specs.Words.{Checks}
use Rattle.command_ends.proofs.Carried.{IsCarried}
use Rattle.command_ends.proofs.CommandEnds.{CheckEnds, IsMeshVerdict, ends_of}
use Rattle.command_ends.proofs.TextStatuses.{IsOfNothing, early_only, no_other, stopped_only, whole_only}

-- the status of a verdict is that of a whole text
tells_verdict : (late : ℕ) → TellsVerdict late → IsWrittenWhole late
tells_verdict late (inl z) = inl z
tells_verdict late (inr t) = inr (omega (arith, t))

-- of bytes of which a verdict is told, neither 5 nor 7 comes
verdict_checked : (status late : ℕ) (text bytes : List ℕ) → HasText status → IsChecked late text bytes →
    IsMeshVerdict status bytes
verdict_checked status late text bytes s r =
    record {
      too_long = (
        λ e. absurd (no_other status s 7 (omega arith) (omega arith) (λ k. omega (arith, k)) e),
        λ l. absurd (let w = r.within in omega (arith, l, w)),
      );
      bad_line = λ n. (
        λ e. absurd (no_other status s 5 (omega arith) (omega arith) (λ k. omega (arith, k)) e),
        λ k. absurd (no_fault_of_mesh bytes r.mesh k.0 r.is_mesh k.1),
      );
    }

-- of bytes without one, each comes with its cause
verdict_unchecked : (left : Option (List ℕ)) (failed : Type 0) (stop : Stop) → IsUnchecked left failed stop →
    (IsEarly (status_of stop) → ⊥) → IfSome left (IsMeshVerdict (status_of stop))
verdict_unchecked None failed stop s late = tt
verdict_unchecked (Some bytes) failed Memory s late = absurd (late (inl refl))
verdict_unchecked (Some bytes) failed ReadFault s late = absurd (late (inr (inr refl)))
verdict_unchecked (Some bytes) failed (BadLine line) s late =
    record {
      too_long = (λ e. absurd (omega (arith, e)), λ l. absurd (let w = s.1 in omega (arith, l, w)));
      bad_line = λ n. (λ e. (s.0.fault, s.0.cause), λ k. refl);
    }
verdict_unchecked (Some bytes) failed TooLong s late =
    record { too_long = (λ e. s, λ l. refl); bad_line = λ n. absurd (n refl) }
verdict_unchecked (Some bytes) failed stop s late = absurd s

-- where nothing is told of a mesh, the status is one of 1, 3, 5 and 7, and 3 where the source failed
unchecked_five : (left : Option (List ℕ)) (failed : Type 0) (stop : Stop) → IsUnchecked left failed stop →
    (status_of stop ≤ 5) ⊎ (status_of stop ≡ 7)
unchecked_five left failed Memory s = inl (omega arith)
unchecked_five left failed ReadFault s = inl (omega arith)
unchecked_five left failed (BadLine line) s = inl (omega arith)
unchecked_five left failed TooLong s = inr refl
unchecked_five left failed stop s = absurd s

-- so it is at most 7, none of 0, 2 and 4, and 3 only where the source failed
status_unchecked : (left : Option (List ℕ)) (failed : Type 0) (stop : Stop) → IsUnchecked left failed stop →
    IsOfNothing failed (status_of stop)
status_unchecked left failed ReadFault s = (
  omega arith,
  λ e. omega (arith, e),
  λ e. omega (arith, e),
  λ e. omega (arith, e),
  λ e. s,
)
status_unchecked left failed Memory s = (
  omega arith,
  λ e. omega (arith, e),
  λ e. omega (arith, e),
  λ e. omega (arith, e),
  λ e. absurd (omega (arith, e)),
)
status_unchecked left failed (BadLine line) s = (
  omega arith,
  λ e. omega (arith, e),
  λ e. omega (arith, e),
  λ e. omega (arith, e),
  λ e. absurd (omega (arith, e)),
)
status_unchecked left failed TooLong s = (
  omega arith,
  λ e. omega (arith, e),
  λ e. omega (arith, e),
  λ e. omega (arith, e),
  λ e. absurd (omega (arith, e)),
)
status_unchecked left failed stop s = absurd s

-- what is promised of a verdict where it was told or its text was cut off, where none was, and of an early end
module _ (left : Option (List ℕ)) where
  -- of the bytes of the source, too, none of 5 and 7 comes with a verdict
  checked : (status late : ℕ) (text : List ℕ) → HasText status → IfSome left (IsChecked late text) →
      IfSome left (IsMeshVerdict status)
  checked status late text has m =
      if_some (IsChecked late text) (IsMeshVerdict status) left
      (λ bytes. verdict_checked status late text bytes has) m

  -- where the verdict was written whole
  check_whole : (late : ℕ) (h : List Entry) (text : List ℕ) → TellsVerdict late → h ≡ [] →
      IfSome left (IsChecked late text) → CheckEnds left late h text
  check_whole late h text t n m =
      record {
        statuses = elim t [ inl z ↦ inl (omega (arith, z)) | inr z ↦ inr (inr z) ];
        no_history = n;
        verdict = λ early. checked late late text (inl (tells_verdict late t)) m;
        made = λ k. m;
        cut = λ k. absurd (whole_only late 4 (tells_verdict late t) (omega arith) (omega arith) k);
      }

  -- where its text was cut off
  check_cut : (status late : ℕ) (h : List Entry) (text : List ℕ) → h ≡ [] → IfSome left (IsChecked late text) →
      status ≡ 4 → CheckEnds left status h text
  check_cut status late h text n m e =
      record {
        statuses = inl (omega (arith, e));
        no_history = n;
        verdict = λ early. checked status late text (inr e) m;
        made = λ k. absurd (whole_only status 4 k (omega arith) (omega arith) e);
        cut = λ k. if_some (IsChecked late text) (λ bytes. (n : ℕ) × IsChecked n text bytes) left
            (λ bytes w. (late, w)) m;
      }

  -- so where it was told, however the write ended
  check_made : (late : ℕ) (h : List Entry) (text : List ℕ) → TellsVerdict late → h ≡ [] →
      IfSome left (IsChecked late text) → (status : ℕ) → (status ≡ late) ⊎ ((status ≡ 4) × (text ≢ [])) →
      CheckEnds left status h text
  check_made late h text t n m status (inl e) =
      subst (λ (k : ℕ). CheckEnds left k h text) (sym e) (check_whole late h text t n m)
  check_made late h text t n m status (inr f) = check_cut status late h text n m f.0

  -- where none was
  check_unmade : (failed : Type 0) (stop : Stop) → IsUnchecked left failed stop →
      CheckEnds left (status_of stop) [] []
  check_unmade failed stop u =
      let n = status_unchecked left failed stop u in
      record {
        statuses = elim (unchecked_five left failed stop u) [ inl l ↦ inl l | inr e ↦ inr (inl e) ];
        no_history = refl;
        verdict = λ early. verdict_unchecked left failed stop u early;
        made = λ k. absurd (stopped_only (status_of stop) n.0 n.1 n.3 (inl k));
        cut = λ k. absurd (n.3 k);
      }

  -- and where the run ended early
  check_early : (status : ℕ) → (status ≡ 1) ⊎ (status ≡ 2) → CheckEnds left status [] []
  check_early status s =
      record {
        statuses = inl (elim s [ inl z ↦ omega (arith, z) | inr z ↦ omega (arith, z) ]);
        no_history = refl;
        verdict = λ early. absurd (early (elim s [ inl z ↦ inl z | inr z ↦ inr (inl z) ]));
        made = λ k. absurd (early_only status s (inl k));
        cut = λ k. absurd (early_only status s (inr k));
      }

-- so the promise of `check` is carried
pub check_carried : IsCarried checking (ends_of Checks)
check_carried =
    record {
      made = λ words left late h text m status s. check_made left late h text m.0 m.1 m.2 status s;
      unmade = λ words left failed stop u. check_unmade left failed stop u;
      early = λ words left status s. check_early left status s;
      stops = λ left failed stop u. status_unchecked left failed stop u;
      told = λ left failed line u. u.0;
    }
