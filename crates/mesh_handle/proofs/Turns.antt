-- Many edits and many looks, one after another.
use Rattle.std.proofs.Common.{◌≡◌, ◌∙◌, ℕ, ◌+◌, ◌<◌, ◌≤◌, ◌++◌, ap, arith, inl, inr, refl, sym, subst, List, [], ◌∷◌}
use Rattle.std.proofs.Common.{drop, get_or, length, set, take}
use Rattle.std.specs.Prelude.{Option, Result, Ok, Err, IfOk, IfErr, OnErr}
use Rattle.std.specs.List.{AllZip}
use Rattle.std.proofs.lemmas.List.{drop-drop, drop-set-lt, take_more, take_more_set}
use Rattle.list_laws.proofs.Cited.{zip_push}
use Rattle.edit_history.specs.declared.history.Reply.{Reply}
use Rattle.mesh_handle.specs.Held.{MeshView}
use Rattle.mesh_rows.specs.declared.rows.Place.{Place}
use Rattle.mesh_rows.specs.Meshes.{HasOutside}
use Rattle.mesh_handle.specs.declared.many.EditRow.{EditRow}
use Rattle.mesh_handle.specs.declared.refusal.Refusal.{Refusal}
use Rattle.mesh_handle.specs.declared.refusal.Refusal.TheVariants.{Memory, Outside, Empty, Full, Unknown}
use Rattle.mesh_handle.specs.Handles.{IsRefusalCause}
use Rattle.mesh_handle.specs.Replies.{TellsReply, reply_number}
use Rattle.mesh_handle.specs.Many.{IsEditCause, IsEditStop, NamesOutside, WasMade, WereMade, told_of}
use Rattle.mesh_handle.proofs.Places.{outside_one, outside_two}

-- ---- one edit

-- the places that an edit of one place names, and one of two
pub names_one : (edit : EditRow) → edit.kind ≤ 1 → HasOutside (edit.place ∷ []) → NamesOutside edit
names_one edit k h = inl (omega arith, outside_one edit.place h)

pub one_named : (edit : EditRow) → edit.kind ≤ 1 → NamesOutside edit → HasOutside (edit.place ∷ [])
one_named edit k (inl h) = (edit.place, inl refl, h.1)
one_named edit k (inr h) = absurd (omega (arith, h.0))

pub names_two : (edit : EditRow) → edit.kind ≡ 2 → HasOutside (edit.place ∷ edit.to ∷ []) → NamesOutside edit
names_two edit k h = elim (outside_two edit.place edit.to h) [
  | inl o ↦ inl (omega arith, o)
  | inr o ↦ inr (k, o)
]

pub two_named : (edit : EditRow) → edit.kind ≡ 2 → NamesOutside edit → HasOutside (edit.place ∷ edit.to ∷ [])
two_named edit k (inl h) = (edit.place, inl refl, h.1)
two_named edit k (inr h) = (edit.to, inr (inl refl), h.1)

-- what is told where an edit was made
pub told_made : (answer : Result Reply Refusal) (told : Result ℕ Refusal) (P : Reply → Type 0) (Q : ℕ → Type 0) →
    told ≡ told_of answer → IfOk answer P → ((n : ℕ) → TellsReply n P → Q n) → IfOk told Q
told_made (Ok reply) told P Q e h f =
    subst (λ (r : Result ℕ Refusal). IfOk r Q) (sym e) (f (reply_number reply) (reply, refl, h))
told_made (Err r) told P Q e h f = subst (λ (r : Result ℕ Refusal). IfOk r Q) (sym e) tt

-- and where it was refused
pub told_refused : (answer : Result Reply Refusal) (told : Result ℕ Refusal) (P : Type 0) → told ≡ told_of answer →
    OnErr answer P → OnErr told P
told_refused (Ok reply) told P e h = subst (λ (r : Result ℕ Refusal). OnErr r P) (sym e) tt
told_refused (Err r) told P e h = subst (λ (r : Result ℕ Refusal). OnErr r P) (sym e) h

-- the cause of a refusal is that of the edit's
cause_of : (held : Option MeshView) (edit : EditRow) (places : List Place) (r : Refusal) →
    (HasOutside places → NamesOutside edit) → IsRefusalCause held places r → IsEditCause held edit r
cause_of held edit places Memory f k = tt
cause_of held edit places Outside f k = f k
cause_of held edit places Empty f k = k
cause_of held edit places Full f k = k
cause_of held edit places Unknown f k = absurd k

pub told_stop : (answer : Result Reply Refusal) (told : Result ℕ Refusal) (held : Option MeshView) (edit : EditRow)
    (places : List Place) → told ≡ told_of answer → IfErr answer (λ r. IsRefusalCause held places r) →
    (HasOutside places → answer ≡ Err Outside) → (HasOutside places → NamesOutside edit) →
    (NamesOutside edit → HasOutside places) → IfErr told (λ r. IsEditStop held edit r)
told_stop (Ok reply) told held edit places e k o f g =
    subst (λ (t : Result ℕ Refusal). IfErr t (λ r. IsEditStop held edit r)) (sym e) tt
told_stop (Err r) told held edit places e k o f g =
    subst (λ (t : Result ℕ Refusal). IfErr t (λ r. IsEditStop held edit r)) (sym e)
    (record { cause = cause_of held edit places r f k; first = λ n. let is = o (g n) in cc })

-- ---- one after another

-- one more edit
pub were_more : (old between new : Option MeshView) (edits : List EditRow) (numbers : List ℕ) (edit : EditRow)
    (number : ℕ) → WereMade old edits between numbers → WasMade between edit new number →
    WereMade old (edits ++ edit ∷ []) new (numbers ++ number ∷ [])
were_more old between new [] [] edit number h m =
    (new, subst (λ (o : Option MeshView). WasMade o edit new number) h m, refl)
were_more old between new [] (n ∷ numbers) edit number h m = absurd h
were_more old between new (e ∷ edits) [] edit number h m = absurd h
were_more old between new (e ∷ edits) (n ∷ numbers) edit number h m =
    (h.0, h.1, were_more h.0 between new edits numbers edit number h.2 m)

-- so of a front of the edits and of the room
pub edits_more : (old between new : Option MeshView) (edits : List EditRow) (numbers : List ℕ) (i : ℕ) (d : EditRow)
    (number : ℕ) → i < length edits → i < length numbers → WereMade old (take i edits) between (take i numbers) →
    WasMade between (get_or edits i d) new number →
    WereMade old (take (i + 1) edits) new (take (i + 1) (set numbers i number))
edits_more old between new edits numbers i d number l m h k =
    subst (λ (ns : List ℕ). WereMade old (take (i + 1) edits) new ns) (sym (take_more_set numbers i number m))
    (subst (λ (es : List EditRow). WereMade old es new (take i numbers ++ number ∷ [])) (sym (take_more edits i d l))
    (were_more old between new (take i edits) (take i numbers) (get_or edits i d) number h k))

-- one more look
pub looks_more : {H A B : Type 0} (R : H → A → B → Type 0) (held before : H) (xs : List A) (ys : List B) (i : ℕ) (d : A)
    (y : B) → i < length xs → i < length ys → held ≡ before → AllZip (R before) (take i xs) (take i ys) →
    R held (get_or xs i d) y → AllZip (R before) (take (i + 1) xs) (take (i + 1) (set ys i y))
looks_more {H} {A} {B} R held before xs ys i d y l m e h k =
    subst (λ (v : List B). AllZip (R before) (take (i + 1) xs) v) (sym (take_more_set ys i y m))
    (subst (λ (u : List A). AllZip (R before) u (take i ys ++ y ∷ [])) (sym (take_more xs i d l))
    (zip_push (R before) (take i xs) (take i ys) (get_or xs i d) y h
    (subst (λ (u : H). R u (get_or xs i d) y) e k)))

-- what is behind stays
pub behind_more : {A : Type 0} (now before : List A) (i : ℕ) (y : A) → drop i now ≡ drop i before →
    drop (i + 1) (set now i y) ≡ drop (i + 1) before
behind_more {A} now before i y e =
    drop-set-lt (i + 1) now i y (omega arith) ∙ sym (drop-drop 1 i now) ∙ ap (λ (l : List A). drop 1 l) e
    ∙ drop-drop 1 i before
