-- The machine value of a handle, and what its pointer owns.
use Rattle.std.proofs.Common.{◌≡◌, ℕ, List, [], ◌∷◌, ◌++◌, refl, subst}
use seplogic.Ra.Ura.{Ura}
use mir.Raw.{raw as bare}
use mir.Val.{Val, vstruct, vcons, vnil, of_list, has_ty}
use base.Fraction.{full_share}
use base.Logic.{SProp, ent, via, never, fst∗, snd∗, guard, guard_i}
use types.Logic.{Logic, sem}
use types.Kit.{Item, Goal, Seq, Step, step, given, learn, ‵, ◌$◌, drop, fsplit, fjoin, fpick, fpack, use1, feq_i, feq_l}
use contract.Monad.{fact_use}
use denote.RattleType.{Valss}
use denote.Builtin.{RawPtr}
use denote.Memory.{lone}
use denote.RawPtr.{Ptr, block_ptr, null_ptr, ptr_val, in_a_block, lies_at, Testable, rawptr_Lawful}
use denote.Steps.{nothing}
use denote.Param.{layout}
use denote.Struct.Struct.{within}
use denote.Struct.Owning.{shape}
use Rattle.std.specs.Prelude.{Option, None, Some}
use Rattle.std.specs.declared.alloc.Global.{Global}
use Rattle.std.specs.contracts.impls.GlobalAllocator.TheImpl.{ghosts}
use Rattle.std.specs.Box.Ownership.{box_owns}
use Rattle.std.proofs.GlobalToken.{dealloc_token-Testable}
use Rattle.std.proofs.ResultValues.{and_tt}
use Rattle.std.proofs.cell.Inside.{Good}
use Rattle.mesh_handle.specs.Held.{MeshView, keeps, mesh_row}
use Rattle.mesh_handle.specs.contracts.handle.MeshHandle as handle

-- the struct of one pointer
abbrev pub held_val : Ptr → Val
held_val p = vstruct (vcons (ptr_val p) vnil)

module _ {M : Type 1} {𝓤 : Ura M} (𝓛 : Logic 𝓤) where
  -- a pointer is a value of its kind
  abbrev pub ptr_good : (p : Ptr) → Good (layout RawPtr) (ptr_val p)
  ptr_good p = ((rawptr_Lawful 𝓛).typed p _ refl).0

  -- and so is the struct of it
  pub held_good : (p : Ptr) → Good (layout handle.the_row) (held_val p)
  held_good p = (and_tt (has_ty (layout RawPtr) (ptr_val p)) (ptr_good p).0, ((ptr_good p).1, tt))

  -- the pointer of a box may be tested
  tested : (heap : Global) (p : Ptr) (mesh : MeshView) →
      ent 𝓤 (sem 𝓛 (box_owns (ghosts.dealloc_token heap) mesh_row p mesh))
      (guard 𝓤 (Testable p) (sem 𝓛 (box_owns (ghosts.dealloc_token heap) mesh_row p mesh)))
  tested heap p mesh =
      let B : SProp 𝓤 = sem 𝓛 (box_owns (ghosts.dealloc_token heap) mesh_row p mesh) in
      fact_use 𝓤 (Testable p)
      (via 𝓤 _ (snd∗ 𝓤 (sem 𝓛 (lies_at mesh_row full_share p mesh)) (sem 𝓛 (ghosts.dealloc_token heap (bare
      (lone mesh_row.mir)) p)))
      (dealloc_token-Testable 𝓛 heap (bare (lone mesh_row.mir)) p))
      (guard_i 𝓤 (Testable p) B)

module _ {M : Type 1} {𝓤 : Ura M} {𝓛 : Logic 𝓤} {K : Type 0} {Γ : List (Item 𝓤)} {G : Goal 𝓤 𝓛.H} where
  -- the handle is put together
  pub held_in : K → (p : Ptr) (mesh : Option MeshView)
      → Step K 𝓛 (‵ ((handle.the_row).own_val (record { at = p; mesh = mesh }) (held_val p ∷ [])) ∷
      Γ) G (‵ (keeps p mesh) ∷ Γ) G
  held_in t p mesh = step (λ s.
      nothing t $ feq_i t (List Val) (ptr_val p ∷ []) (ptr_val p ∷ []) refl $ fjoin t $
      feq_i t (List Val) (held_val p ∷ []) (held_val p ∷ []) refl $ fjoin t $
      fpack t (Valss (RawPtr ∷ [])) (within (shape handle.the_type) (p, tt) (held_val p ∷ [])) (ptr_val p ∷ [], tt) $
      fjoin t $ s)

  -- and taken apart
  pub held_out : K → (h : (handle.the_row).Denot) (vs : List Val)
      → (vs ≡ held_val h.at ∷ [] → Seq K 𝓛 (‵ (keeps h.at h.mesh) ∷ Γ) G)
      → Seq K 𝓛 (‵ ((handle.the_row).own_val h vs) ∷ Γ) G
  held_out t h vs k =
      fsplit t $ fpick t (λ vss. fsplit t $ feq_l t (λ ev. fsplit t $ feq_l t (λ ep. drop t $
      k (subst (λ (ps : List Val). vs ≡ vstruct (of_list (ps ++ [])) ∷ []) ep ev))))

  -- null, or a box whose pointer may be tested
  pub either_kept : K → (p : Ptr) (mesh : Option MeshView)
      → (p ≡ null_ptr → mesh ≡ None → Seq K 𝓛 Γ G)
      → ((b o : ℕ) (x : MeshView) (heap : Global) → p ≡ block_ptr b o → mesh ≡ Some x → Testable (block_ptr b o)
      → Seq K 𝓛 (‵ (box_owns (ghosts.dealloc_token heap) mesh_row (block_ptr b o) x) ∷ Γ) G)
      → Seq K 𝓛 (‵ (keeps p mesh) ∷ Γ) G
  either_kept t p None none one = feq_l t (λ e. none e refl)
  either_kept t p (Some x) none one =
      fpick t (λ heap. in_a_block t p
      (λ q. box_owns (ghosts.dealloc_token heap) mesh_row q x) (fst∗ 𝓤 (never 𝓤) (sem 𝓛 (ghosts.dealloc_token heap
      (bare (lone mesh_row.mir)) null_ptr))) (λ b o e.
      use1 𝓛 (given (Testable (block_ptr b o)) (‵ (box_owns (ghosts.dealloc_token heap) mesh_row (block_ptr b o) x)))
      (tested 𝓛 heap (block_ptr b o) x) $ learn t (λ ok. one b o x heap e refl ok)))
