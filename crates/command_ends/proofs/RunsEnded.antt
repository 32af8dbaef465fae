-- How a run ends: from what was made for its words, or why nothing was.
use Rattle.std.specs.declared.alloc.Global.{Global}
use Rattle.std.specs.Prelude.{Option, Some, IfOk, IfErr, IsOk, Result, Ok, Err, String}
use Rattle.std.specs.Io.KnownBytes.{Appends, Keeps, IsAtEnd}
use Rattle.std.proofs.Common.{◌≡◌, ◌≢◌, ◌⊎◌, ◌↔◌, inl, inr, refl, sym, subst, ap, ◌∙◌, ℕ, ◌≤◌, List, [], arith}
use Rattle.byte_ends.specs.Ends.{AppendsFront}
use Rattle.edit_history.specs.declared.history.Entry.{Entry}
use Rattle.edit_history.specs.Histories.{IsLegal}
use Rattle.command_pages.specs.declared.made.Made.{Made}
use Rattle.command_words.specs.declared.stop.Stop.{Stop}
use Rattle.command_words.specs.declared.stop.Stop.TheVariants.{Memory, Usage, WriteFault, BadLine}
use Rattle.command_ends.specs.Commands.{command_of_words}
use Rattle.command_ends.specs.Ends.{Ends, IsToldLine, IsDone, IsMadeOfWords, IsUnmade}
use Rattle.command_ends.specs.PutOut.{IsPutOut}
use Rattle.command_pages.specs.Page.{IsFitToWrite, text_of_page}
use Rattle.command_pages.specs.Run.{ReadsTo}
use Rattle.command_pages.specs.Statuses.{HasText, IsWrittenWhole}
use Rattle.command_words.specs.Stops.{line_of_stop, line_of_end, status_of_end, status_of_made}
use Rattle.command_words.specs.Lines.{status_of, plain_line}
use Rattle.command_words.specs.Words.{ReadsSource, AreWordsTaken, kind_of_words}
use Rattle.command_pages.proofs.Cited.{reads_front}
use Rattle.command_ends.proofs.Carried.{IsCarried}
use Rattle.command_ends.proofs.CommandEnds.{ends_of}
use Rattle.command_ends.proofs.CommandPromises.{carried}
use Rattle.command_ends.proofs.TextStatuses.{late_whole, no_other, stopped_only, whole_only}

-- where memory is wanting once all is read, nothing changes of that
reads_stopped : (limit : ℕ) (old new : Option (List ℕ)) → ReadsTo limit old new 0 → ReadsTo limit old new 1
reads_stopped limit old new r = record {
  taken = r.taken;
  consumed = r.consumed;
  within = r.within;
  whole =
      λ late. absurd (late (inl refl));
  past = λ e. inr refl;
}

module _ (words : List (String Global)) (left_old left_new : Option (List ℕ)) (read_failed : Type 0)
    (held holds : Option (List ℕ)) (write_failed : Type 0) where
  -- what is made for the words is of their command
  carried_of : IsCarried (command_of_words words) (ends_of (kind_of_words words))
  carried_of = carried (kind_of_words words)

  -- how much was read, where the source is
  abbrev HasRead : ℕ → Type 0
  HasRead status = ReadsSource words → ReadsTo (command_of_words words).limit left_old left_new status

  -- a run that stopped before a write
  unmade : (status : ℕ) → (status ≤ 7) × (status ≢ 0) × (status ≢ 4) →
      (status ≢ 1 → status ≡ 2 ↔ (AreWordsTaken words → ⊥)) → (status ≡ 3 → read_failed)
      → IsDone words left_old read_failed status [] [] → HasRead status →
      Keeps held holds
      → Ends words left_old left_new read_failed held holds write_failed status []
  unmade status n usage read done reads keeps =
      record {
        statuses = let l = n.0 in omega (arith, l);
        usage = usage;
        read_fault = read;
        write_fault = λ e. absurd (n.2 e);
        reads = reads;
        to_its_end = λ r k. absurd (stopped_only status n.0 n.1 n.2 (inl k));
        legal = tt;
        text = [];
        done = done;
        whole = λ k. absurd (stopped_only status n.0 n.1 n.2 (inl k));
        front = λ e. absurd (n.2 e);
        none_kept = λ k. refl;
        nothing = λ k. keeps;
      }

  -- so what was not made ends the run as its stop says
  stopped : (stop : Stop) → IsUnmade words left_old read_failed stop →
      HasRead (status_of stop) → Keeps held holds
      → Ends words left_old left_new read_failed held holds write_failed (status_of stop) []
  stopped Memory s reads keeps =
      unmade 1 (omega arith, λ e. omega (arith, e), λ e. omega (arith, e)) (λ n. absurd (n refl))
      (λ e. absurd (omega (arith, e))) (inr (Memory, tt, refl, refl, refl)) reads keeps
  stopped Usage s reads keeps =
      unmade 2 (omega arith, λ e. omega (arith, e), λ e. omega (arith, e)) (λ n. (λ e. s, λ k. refl))
      (λ e. absurd (omega (arith, e))) (inr (Usage, s, refl, refl, refl)) reads keeps
  stopped stop s reads keeps =
      let n = carried_of.stops left_old read_failed stop s.1 in
      unmade (status_of stop) (n.0, n.1, n.3) (λ k. (λ e. absurd (n.2 e), λ t. absurd (t s.0))) n.4
      (inr (stop, s, refl, refl, refl)) reads keeps

  -- a run that wrote
  made : (late : ℕ) (h : List Entry) (text : List ℕ) → IsLegal h → IsMadeOfWords words left_old late h text →
      (ReadsSource words → IsAtEnd left_new) → (status : ℕ) → (status ≡ late) ⊎ ((status ≡ 4) × (text ≢ [])) →
      HasText status → status ≤ 10
      → HasRead status → (status ≡ 4 → write_failed) →
      (IsWrittenWhole status → Appends held holds text) → (status ≡ 4 → AppendsFront held holds text)
      → Ends words left_old left_new read_failed held holds write_failed status h
  made late h text legal m end status s has small reads failed whole front =
      record {
        statuses = small;
        usage = λ n. (
          λ e. absurd (no_other status has 2 (omega arith) (omega arith) (λ k. omega (arith, k)) e),
          λ k. absurd (k m.0),
        );
        read_fault = λ e. absurd (no_other status has 3 (omega arith) (omega arith) (λ k. omega (arith, k)) e);
        write_fault = failed;
        reads = reads;
        to_its_end = λ r e. end r;
        legal = legal;
        text = text;
        done = inl (late, m, s);
        whole = whole;
        front = front;
        none_kept = λ k. absurd (k has);
        nothing = λ k. absurd (k has);
      }

  -- the end of a run, of what was made and how the write ended
  pub ends : (m : Result Made Stop) (stop : Option Stop) (status : ℕ) (h : List Entry) → IfOk m IsFitToWrite →
      IfOk m (λ made. IsMadeOfWords words left_old (status_of_end made.after) made.kept.items
      (text_of_page made.page)) →
      IfErr m (IsUnmade words left_old read_failed)
      → HasRead (status_of_made m) → (ReadsSource words → IsOk m → IsAtEnd left_new) →
      status ≡ status_of_end stop
      → IfOk m (λ made. IsPutOut write_failed held holds (text_of_page made.page) made.after made.kept.items stop h) →
      IfErr m (λ s. (stop ≡ Some s) × (h ≡ []) × Keeps held holds)
      → Ends words left_old left_new read_failed held holds write_failed status h
  ends (Err s) stop status h sound m u reads end e put stopped_by =
      subst (λ (n : ℕ). Ends words left_old left_new read_failed held holds write_failed n h)
      (sym (e ∙ ap status_of_end stopped_by.0))
      (subst (λ (k : List Entry). Ends words left_old left_new read_failed held holds write_failed (status_of s) k)
      (sym stopped_by.1) (stopped s u reads stopped_by.2))
  ends (Ok v) stop status h sound m u reads end e put stopped_by = by put
    where
      kept : h ≡ v.kept.items → Ends words left_old left_new read_failed held holds write_failed status v.kept.items →
          Ends words left_old left_new read_failed held holds write_failed status h
      kept k d = subst (λ (l : List Entry). Ends words left_old left_new read_failed held holds write_failed status l)
          (sym k) d

      by : IsPutOut write_failed held holds (text_of_page v.page) v.after v.kept.items stop h →
          Ends words left_old left_new read_failed held holds write_failed status h
      by (inl w) =
          let z = e ∙ ap status_of_end w.0 in
          let l = late_whole v.after sound.late in
          let k = subst IsWrittenWhole (sym z) l.0 in
          kept w.1 (made (status_of_end v.after) v.kept.items (text_of_page v.page) sound.legal m (λ r. end r refl)
          status (inl z) (inl k) (subst (λ (n : ℕ). n ≤ 10) (sym z) l.1)
          (λ r. reads_front (command_of_words words).limit left_old left_new status (reads r)) (λ f. absurd
          (whole_only status 4 k (omega arith) (omega arith) f)) (λ f. w.2)
          (λ f. absurd (whole_only status 4 k (omega arith) (omega arith) f)))
      by (inr (inl w)) =
          let z = e ∙ ap status_of_end w.0 in
          kept w.1 (made (status_of_end v.after) v.kept.items (text_of_page v.page) sound.legal m (λ r. end r refl)
          status (inr (z, w.4)) (inr z) (omega (arith, z))
          (λ r. reads_front (command_of_words words).limit left_old left_new status (reads r)) (λ f. w.2)
          (λ f. absurd (whole_only status 4 f (omega arith) (omega arith) z)) (λ f. w.3))
      by (inr (inr w)) =
          subst (λ (n : ℕ). Ends words left_old left_new read_failed held holds write_failed n h)
          (sym (e ∙ ap status_of_end w.0))
          (subst (λ (l : List Entry). Ends words left_old left_new read_failed held holds write_failed 1 l) (sym w.1)
          (stopped Memory tt (λ r. reads_stopped (command_of_words words).limit left_old left_new (reads r)) w.2))

  -- and its line
  abbrev TheLine : ℕ → List ℕ → Type 0
  TheLine status line = IsToldLine (kind_of_words words) left_old status line

  -- the line of the end is that of its status, of what was made or of why nothing was
  pub told : (m : Result Made Stop) (stop : Option Stop) (status : ℕ) (h : List Entry) → IfOk m IsFitToWrite →
      IfErr m (IsUnmade words left_old read_failed) → status ≡ status_of_end stop
      → IfOk m (λ made. IsPutOut write_failed held holds (text_of_page made.page) made.after made.kept.items stop h) →
      IfErr m (λ s. (stop ≡ Some s) × (h ≡ []) × Keeps held holds) → TheLine status (line_of_end stop)
  told (Err s) stop status h sound u e put stopped_by =
      subst (λ (n : ℕ). IsToldLine (kind_of_words words) left_old n (line_of_end stop)) (sym e)
      (subst (λ (o : Option Stop). TheLine (status_of_end o) (line_of_end o)) (sym stopped_by.0)
      (by s u))
    where
      by : (s : Stop) → IsUnmade words left_old read_failed s → TheLine (status_of s) (line_of_stop s)
      by (BadLine line) u = record {
        plain = λ n. absurd (n refl);
        bad =
            λ k. carried_of.told left_old read_failed line u.1;
      }
      by s u = record { plain = λ n. refl; bad = λ k. absurd (omega (arith, k)) }
  told (Ok v) stop status h sound u e put stopped_by = subst (λ (n : ℕ). TheLine n (line_of_end stop))
      (sym e) (by put)
    where
      at : (o : Option Stop) → stop ≡ o → line_of_end o ≡ plain_line (status_of_end o) → status_of_end o ≢ 5 →
          IsToldLine (kind_of_words words) left_old (status_of_end stop) (line_of_end stop)
      at o z l n = subst (λ (p : Option Stop). TheLine (status_of_end p) (line_of_end p)) (sym z)
          (record { plain = λ k. l; bad = λ k. absurd (n k) })

      by : IsPutOut write_failed held holds (text_of_page v.page) v.after v.kept.items stop h →
          IsToldLine (kind_of_words words) left_old (status_of_end stop) (line_of_end stop)
      by (inl w) = let l = late_whole v.after sound.late in at v.after w.0 l.2
          (λ k. whole_only (status_of_end v.after) 5 l.0 (omega arith) (omega arith) k)
      by (inr (inl w)) = at (Some WriteFault) w.0 refl (λ k. omega (arith, k))
      by (inr (inr w)) = at (Some Memory) w.0 refl (λ k. omega (arith, k))

  -- a status of 2 is one of what was made
  pub unread : (m : Result Made Stop) (stop : Option Stop) (status : ℕ) (h : List Entry) → IfOk m IsFitToWrite →
      status ≡ status_of_end stop
      → IfOk m (λ made. IsPutOut write_failed held holds (text_of_page made.page) made.after made.kept.items stop h) →
      IfErr m (λ s. (stop ≡ Some s) × (h ≡ []) × Keeps held holds) → status ≡ 2 → status_of_made m ≡ 2
  unread (Err s) stop status h sound e put stopped_by k = sym (ap status_of_end stopped_by.0) ∙ sym e ∙ k
  unread (Ok v) stop status h sound e put stopped_by k = absurd (by put)
    where
      by : IsPutOut write_failed held holds (text_of_page v.page) v.after v.kept.items stop h → ⊥
      by (inl w) = whole_only (status_of_end v.after) 2 (late_whole v.after sound.late).0 (omega arith) (omega arith)
          (sym (e ∙ ap status_of_end w.0) ∙ k)
      by (inr (inl w)) = let z = e ∙ ap status_of_end w.0 in omega (arith, z, k)
      by (inr (inr w)) = let z = e ∙ ap status_of_end w.0 in omega (arith, z, k)
