-- What follows of a run that judged a mesh.
use Rattle.std.specs.Prelude.{Option, None, Some, IfSome, String}
use Rattle.std.specs.declared.alloc.Global.{Global}
use Rattle.std.specs.Io.KnownBytes.{Appends}
use Rattle.std.proofs.Common.{◌≡◌, ◌≢◌, ◌⊎◌, ◌↔◌, inl, inr, subst, ℕ, ◌<◌, List, length, arith}
use Rattle.std.proofs.lemmas.Bool.{cases_eq}
use Rattle.list_laws.proofs.Cited.{if_some}
use Rattle.byte_ends.specs.Ends.{AppendsFront}
use Rattle.edit_history.specs.declared.history.Entry.{Entry}
use Rattle.mesh_reader.specs.Grammar.{IsMeshText, MeshParts}
use Rattle.mesh_reader.specs.Order.{IsInOrder}
use Rattle.mesh_reader.proofs.Cited.{mesh_order, no_fault_of_mesh, one_mesh_of}
use Rattle.mesh_check.specs.declared.flaw.Verdict.{Verdict}
use Rattle.mesh_check.specs.declared.flaw.Verdict.TheVariants.{Good, Bad}
use Rattle.mesh_check.specs.Flaws.{IsVerdict, as_cells}
use Rattle.mesh_check.specs.Text.{verdict_text}
use Rattle.mesh_check.proofs.Cited.{flaw_is_true, flaw_shows, good_is_complex}
use Rattle.command_pages.specs.Checked.{IsChecked, IsTrueMesh, IsJudged, IsMeshWithin, status_of_verdict}
use Rattle.command_ends.specs.Ends.{Ends}
use Rattle.command_pages.specs.Run.{mesh_limit}
use Rattle.command_pages.specs.Statuses.{IsEarly, IsWrittenWhole}
use Rattle.command_words.specs.Words.{AreWordsTaken, Asks, Checks}
use Rattle.command_pages.proofs.Cited.{cells_of}
use Rattle.command_ends.proofs.CommandEnds.{IsMeshVerdict}
use Rattle.command_ends.proofs.Promised.{of_check}

-- the status tells whether the mesh is good
status_tells : (mesh : MeshParts) (status : ℕ) (text : List ℕ) → IsInOrder mesh → IsJudged mesh status text →
    (status ≡ 0 ↔ IsTrueMesh mesh) × (status ≡ 10 ↔ (IsTrueMesh mesh → ⊥))
status_tells mesh status text o j = by j.verdict j.is_verdict j.status_is
  where
    by : (v : Verdict) → IsVerdict mesh.points (as_cells mesh.cells mesh.hull) v → status ≡ status_of_verdict v →
        (status ≡ 0 ↔ IsTrueMesh mesh) × (status ≡ 10 ↔ (IsTrueMesh mesh → ⊥))
    by Good v e =
        let good : IsTrueMesh mesh = (good_is_complex mesh.points (as_cells mesh.cells mesh.hull) o.ascending
        (record { below = o.keys }) (cells_of mesh o)).0 v in (
          (λ z. good, λ g. e),
          (λ t. absurd (omega (arith, e, t)), λ n. absurd (n good)),
        )
    by (Bad flaw) v e =
        let bad : IsTrueMesh mesh → ⊥ = flaw_shows mesh.points (as_cells mesh.cells mesh.hull) flaw o.ascending
        (record { below = o.keys }) (flaw_is_true mesh.points (as_cells mesh.cells mesh.hull) flaw v) in (
          (λ z. absurd (omega (arith, e, z)), λ g. absurd (bad g)),
          (λ t. bad, λ n. e),
        )

-- what is told of bytes is told of the one mesh that they are of
told_of : (status : ℕ) (text bytes : List ℕ) → IsChecked status text bytes → (mesh : MeshParts) →
    IsMeshText bytes mesh → IsJudged mesh status text
told_of status text bytes m mesh is =
    subst (λ (f : MeshParts). IsJudged f status text) (one_mesh_of bytes m.mesh mesh m.is_mesh is) m.judged

module _ {words : List (String Global)} {left left_after : Option (List ℕ)} {read_failed : Type 0}
    {held holds : Option (List ℕ)} {write_failed : Type 0} {status : ℕ} {kept : List Entry}
    (e : Ends words left left_after read_failed held holds write_failed status kept) (w : Asks Checks words) where
  -- what the statuses 7 and 5 tell of the bytes
  pub of_mesh_bytes : (P : List ℕ → Type 0) → ((bytes : List ℕ) → IsMeshVerdict status bytes → P bytes) →
      (IsEarly status → ⊥) → IfSome left P
  of_mesh_bytes P f late = if_some (IsMeshVerdict status) P left f ((of_check e w).verdict late)

  -- and 0 and 10 of their mesh
  of_mesh : (P : List ℕ → MeshParts → Type 0) → ((bytes : List ℕ) (mesh : MeshParts) → IsInOrder mesh →
      IsJudged mesh status e.text → P bytes mesh) → IsWrittenWhole status →
      IfSome left (λ bytes. (mesh : MeshParts) → IsMeshText bytes mesh → P bytes mesh)
  of_mesh P f s =
      if_some (IsChecked status e.text) (λ bytes. (mesh : MeshParts) → IsMeshText bytes mesh → P bytes mesh) left
      (λ bytes m mesh is. f bytes mesh (mesh_order bytes mesh is) (told_of status e.text bytes m mesh is))
      ((of_check e w).made s)

  -- of a whole text status 10 comes exactly where the mesh is not good
  pub bad_mesh : IsWrittenWhole status → IfSome left (λ bytes. (mesh : MeshParts) → IsMeshText bytes mesh →
      (status ≡ 10 ↔ (IsTrueMesh mesh → ⊥)))
  bad_mesh = of_mesh (λ bytes mesh. status ≡ 10 ↔ (IsTrueMesh mesh → ⊥))
      (λ bytes mesh o j. (status_tells mesh status e.text o j).1)

  -- and status 0 exactly where it is
  pub good_mesh : IsWrittenWhole status → IfSome left (λ bytes. (mesh : MeshParts) → IsMeshText bytes mesh →
      (status ≡ 0 ↔ IsTrueMesh mesh))
  good_mesh = of_mesh (λ bytes mesh. status ≡ 0 ↔ IsTrueMesh mesh)
      (λ bytes mesh o j. (status_tells mesh status e.text o j).0)

  -- and what is written is the text of the verdict on the mesh
  pub check_written : IsWrittenWhole status → IfSome left (λ bytes. (mesh : MeshParts) → IsMeshText bytes mesh →
      (verdict : Verdict) × IsVerdict mesh.points (as_cells mesh.cells mesh.hull) verdict ×
      Appends held holds (verdict_text mesh.points verdict))
  check_written s = of_mesh
      (λ bytes mesh. (verdict : Verdict) × IsVerdict mesh.points (as_cells mesh.cells mesh.hull) verdict ×
      Appends held holds (verdict_text mesh.points verdict))
      (λ bytes mesh o j. (j.verdict, j.is_verdict, subst (Appends held holds) j.text_is (e.whole s))) s

  -- on status 4 a front of that text is written
  pub check_front : status ≡ 4 → IfSome left (λ bytes. (mesh : MeshParts) → IsMeshText bytes mesh →
      (verdict : Verdict) × IsVerdict mesh.points (as_cells mesh.cells mesh.hull) verdict ×
      AppendsFront held holds (verdict_text mesh.points verdict))
  check_front four =
      if_some (λ bytes. (late : ℕ) × IsChecked late e.text bytes)
      (λ bytes. (mesh : MeshParts) → IsMeshText bytes mesh →
      (verdict : Verdict) × IsVerdict mesh.points (as_cells mesh.cells mesh.hull) verdict ×
      AppendsFront held holds (verdict_text mesh.points verdict)) left
      (λ bytes m mesh is. let j = told_of m.0 e.text bytes m.1 mesh is in
      (j.verdict, j.is_verdict, subst (AppendsFront held holds) j.text_is (e.front four))) ((of_check e w).cut four)

  -- of the text of a mesh within the limit a run ends with status 1 or one of a whole text
  pub check_completes : AreWordsTaken words → IfSome left (λ bytes. IsMeshWithin bytes → (read_failed → ⊥) →
      (write_failed → ⊥) → IsWrittenWhole status ⊎ (status ≡ 1))
  check_completes t = by left (of_check e w).verdict
    where
      by : (told : Option (List ℕ)) → ((IsEarly status → ⊥) → IfSome told (IsMeshVerdict status)) →
          IfSome told (λ bytes. IsMeshWithin bytes → (read_failed → ⊥) → (write_failed → ⊥) → IsWrittenWhole status ⊎
          (status ≡ 1))
      by None v = tt
      by (Some bytes) v =
          λ mesh nr nw.
          let ne2 : status ≢ 2 = λ k. (e.usage (λ m. absurd (omega (arith, k, m)))).0 k t in
          let ne3 : status ≢ 3 = λ k. nr (e.read_fault k) in
          let ne4 : status ≢ 4 = λ k. nw (e.write_fault k) in
          elim (cases_eq status 1) [
            | inl k ↦ inr k
            | inr ne1 ↦
                let told : IsMeshVerdict status bytes = v (λ s. elim s
                [ inl k ↦ ne1 k | inr q ↦ elim q [ inl k ↦ ne2 k | inr k ↦ ne3 k ] ]) in
                let ne7 : status ≢ 7 = λ k. let l : mesh_limit < length bytes = told.too_long.0 k in let m =
                mesh.0 in omega (arith, l, m) in
                let ne5 : status ≢ 5 = λ k. let f = (told.bad_line ne7).0 k in
                no_fault_of_mesh bytes mesh.1.0 f.0 mesh.1.1 f.1 in
                inl (elim (of_check e w).statuses [
                  | inl l ↦ inl (omega (arith, l, ne1, ne2, ne3, ne4, ne5))
                  | inr (inl k) ↦ absurd (ne7 k)
                  | inr (inr k) ↦ inr (omega (arith, k))
                ])
          ]
