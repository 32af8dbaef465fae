-- The faces of a complex, and the least alphas of its Full cells, which stand in front of those of all its cells.
use Rattle.std.proofs.Common.{◌≡◌, ◌∙◌, ℕ, ◌<◌, ap, refl, sym, subst, List, [], ◌∷◌, get_or, length, map, nat_le, take}
use Rattle.std.specs.List.{AllZip, list_all, list_any}
use Rattle.std.proofs.lemmas.List.{get_or-map}
use Rattle.point_order.specs.declared.cell.Cell.{Cell}
use Rattle.point_order.specs.declared.cell.Cell.TheVariants.{Full}
use Rattle.point_order.specs.Complex.{complex}
use Rattle.face_list.specs.declared.table.Table.{Table}
use Rattle.face_list.specs.Faces.{cells_with, full_cells, parts_in, points_in, points_with_cells, with_cells_around}
use Rattle.face_list.specs.Seen.{FaceLists}
use Rattle.face_list.specs.Tables.{IsTable, cells_numbered, table_seen}
use Rattle.alpha_complex.specs.Condition.{AreFacesOf}
use Rattle.alpha_complex.specs.Admitted.{is_admitted, is_admitted_cell, kind}
use Rattle.alpha_complex.specs.Leasts.{AreLeastOf, IsLeastOf}
use Rattle.alpha_complex.specs.Told.{TellsFace}
use Rattle.alpha_complex.specs.declared.numbers.FaceAlphas.{FaceAlphas}
use Rattle.alpha_complex.proofs.Cited.{firsts_are, zip_at, zip_places}
use Rattle.face_list.proofs.Cited.{around_seen, keys_seen, points_of_complex}
use Rattle.hole_laws.specs.Edits.{IsSet}
use Rattle.list_laws.proofs.Cited.{length_zip}
use Rattle.mesh_rows.specs.Around.{AreAlphasAround, IsAround, numbers_at}
use Rattle.mesh_rows.specs.Held.{ShowsParts}
use Rattle.mesh_rows.specs.Meshes.{AreCellAlphas, IsCloud}
use Rattle.mesh_rows.proofs.FullFirst.{kinds, kinds_of}

-- what holds of all cells and numbers holds of the Full ones and the first numbers
front_of : (P : Cell → ℕ → Type 0) (fulls opens : List (List ℕ)) (ns : List ℕ) → AllZip P (kinds fulls opens) ns →
    AllZip (λ q n. P (Full q) n) fulls (take (length fulls) ns)
front_of P [] opens ns h = tt
front_of P (q ∷ fulls) opens [] h = absurd h
front_of P (q ∷ fulls) opens (n ∷ ns) h = (h.0, front_of P fulls opens ns h.1)

-- so of a complex
pub full_alphas : (s : List ℕ) → IsSet s → (ns : List ℕ) →
    AllZip (λ c n. IsLeastOf (λ alpha. is_admitted_cell s alpha c) n) (complex s) ns →
    AreCellAlphas s (take (length (full_cells (complex s))) ns)
full_alphas s i ns h =
    let P : Cell → ℕ → Type 0 = λ c n. IsLeastOf (λ alpha. is_admitted_cell s alpha c) n in
    let r = kinds_of (complex s) (s, i, refl) in
    subst (λ (l : List (List ℕ)). AllZip (λ q n. P (Full q) n) l (take (length l) ns)) (sym r.fulls_are)
    (front_of P r.fulls r.opens ns (subst (λ (l : List Cell). AllZip P l ns) r.is h))

-- the faces of the cells of a cloud are those of its set
pub faces_of : (s : List ℕ) (cells : List Cell) (faces : FaceLists) → IsCloud s cells → faces.cells ≡ cells →
    faces.points ≡ points_with_cells (points_in cells) cells →
    faces.pairs ≡ with_cells_around (parts_in 2 cells) cells →
    faces.triples ≡ with_cells_around (parts_in 3 cells) cells → AreFacesOf s faces
faces_of s cells faces k c p q t =
    let e = k.cells_are in
    record {
      ascending = k.set.ascending;
      keys = k.set.keys;
      solid = k.solid;
      points = p ∙ ap (λ (l : List Cell). points_with_cells (points_in l) l) e;
      pairs = q ∙ ap (λ (l : List Cell). with_cells_around (parts_in 2 l) l) e;
      triples = t ∙ ap (λ (l : List Cell). with_cells_around (parts_in 3 l) l) e;
      cells = c ∙ e;
    }

-- the parts of a complex, each without its cells
pub parts_mapped : (n : ℕ) (s : List ℕ) (faces : List (List ℕ × List Cell)) →
    faces ≡ with_cells_around (parts_in n (complex s)) (complex s) → map (λ f. f.0) faces ≡ parts_in n (complex s)
parts_mapped n s faces e =
    ap (λ (l : List (List ℕ × List Cell)). map (λ f. f.0) l) e ∙ firsts_are (parts_in n (complex s)) (complex s)

-- the points of a complex, each without its cells
pub points_mapped : (s : List ℕ) (faces : FaceLists) → AreFacesOf s faces → map (λ f. f.0) faces.points ≡ s
points_mapped s faces h =
    ap (λ (l : List (ℕ × List Cell)). map (λ f. f.0) l) h.points ∙ alone (points_in (complex s))
    ∙ points_of_complex s h.ascending h.keys h.solid
  where
    alone : (points : List ℕ) → map (λ f. f.0) (points_with_cells points (complex s)) ≡ points
    alone [] = refl
    alone (p ∷ points) = ap (λ (l : List ℕ). p ∷ l) (alone points)

-- ---- the numbers of faces, one after another

-- the numbers tell of the point of an index
abbrev pub TellsPoint : FaceLists → ℕ → FaceAlphas → Type 0
TellsPoint faces i a = (s : List ℕ) → AreFacesOf s faces → TellsFace s (get_or s i 0 ∷ []) a

-- no numbers
none : FaceAlphas
none = record { admitted = 0; regular = 0; interior = 0 }

-- where they do of each point, they do of all
pub points_told :
    (s : List ℕ) (faces : FaceLists) (alphas : List FaceAlphas) (k : ℕ) → AreFacesOf s faces → k ≡ length s →
    length alphas ≡ k → ((i : ℕ) (d : FaceAlphas) → i < k → TellsPoint faces i (get_or alphas i d)) →
    AllZip (λ p a. TellsFace s (p ∷ []) a) s alphas
points_told s faces alphas k h e n t =
    zip_places (λ p a. TellsFace s (p ∷ []) a) 0 none s alphas (n ∙ e)
    (λ i l. t i none (subst (λ (j : ℕ). i < j) (sym e) l) s h)

-- ---- faces of one kind by themselves

-- the numbers of a face tell of it, where those of its admission and of the cells do
tells_around : (s face leasts around : List ℕ) (admitted : ℕ) (a : FaceAlphas) →
    AreLeastOf (is_admitted_cell s) (complex s) leasts → IsLeastOf (λ alpha. is_admitted s alpha face) admitted →
    cells_numbered (complex s) around ≡ cells_with face (complex s) → IsAround leasts around admitted a →
    TellsFace s face a
unfolding kind
tells_around s face leasts around admitted a z m e w =
    let some : IsLeastOf (λ alpha. list_any (is_admitted_cell s alpha) (cells_with face (complex s))) a.regular =
    λ alpha l. ap (list_any (is_admitted_cell s alpha)) (sym e)
    ∙ w.regular (complex s) (is_admitted_cell s) z alpha l in
    let each : IsLeastOf (λ alpha. list_all (is_admitted_cell s alpha) (cells_with face (complex s))) a.interior =
    λ alpha l. ap (list_all (is_admitted_cell s alpha)) (sym e)
    ∙ w.interior (complex s) (is_admitted_cell s) z alpha l in
    record {
      admitted = λ alpha l. m alpha l ∙ ap (λ n. nat_le n alpha) (sym w.admits);
      regular = some;
      interior = each;
      kind = λ alpha l. rw (each alpha l, some alpha l) refl;
    }

-- a table by itself shows the parts of a complex where it shows those that are listed of it
pub shows_parts : (n : ℕ) (s : List ℕ) (cells : List Cell) (listed : List (List ℕ × List Cell)) (t : Table (List ℕ)) →
    cells ≡ complex s → listed ≡ with_cells_around (parts_in n (complex s)) (complex s) →
    table_seen cells t ≡ listed → IsTable (length cells) t → ShowsParts n s t
shows_parts n s cells listed t c l e k = record {
  table = subst (λ (v : List Cell). IsTable (length v) t) c k;
  shows = subst (λ (v : List Cell). table_seen v t ≡ with_cells_around (parts_in n (complex s)) (complex s)) c (e ∙ l);
}

-- its keys are these
pub keys_told : (n : ℕ) (s : List ℕ) (t : Table (List ℕ)) → ShowsParts n s t → t.keys.items ≡ parts_in n (complex s)
keys_told n s t k =
    sym (keys_seen (complex s) t k.table) ∙ parts_mapped n s (table_seen (complex s) t) k.shows

-- as many numbers as cells, and as parts
pub held_counts : (n : ℕ) (s : List ℕ) (t : Table (List ℕ)) (leasts admitted : List ℕ) → ShowsParts n s t →
    AreLeastOf (is_admitted_cell s) (complex s) leasts → AreLeastOf (is_admitted s) (parts_in n (complex s)) admitted →
    IsTable (length leasts) t × (length admitted ≡ length t.keys.items)
held_counts n s t leasts admitted k z m = (
  subst (λ (j : ℕ). IsTable j t)
      (length_zip (λ x j. IsLeastOf (λ alpha. is_admitted_cell s alpha x) j) (complex s) leasts z) k.table,
  sym (ap length (keys_told n s t k)
      ∙ length_zip (λ x j. IsLeastOf (λ alpha. is_admitted s alpha x) j) (parts_in n (complex s)) admitted m),
)

-- and the numbers of each tell of it
pub parts_told :
    (n : ℕ) (s : List ℕ) (t : Table (List ℕ)) (leasts admitted : List ℕ) (alphas : List FaceAlphas) →
    ShowsParts n s t → AreLeastOf (is_admitted_cell s) (complex s) leasts →
    AreLeastOf (is_admitted s) (parts_in n (complex s)) admitted → AreAlphasAround leasts t admitted alphas →
    AllZip (TellsFace s) (parts_in n (complex s)) alphas
parts_told n s t leasts admitted alphas k z m w =
    let parts = parts_in n (complex s) in
    let same = ap length (keys_told n s t k) in
    zip_places (TellsFace s) [] none parts alphas (w.count ∙ same) (λ i l.
    let face = get_or parts i [] in
    let h : i < length t.keys.items = subst (λ (j : ℕ). i < j) (sym same) l in
    let around : cells_numbered (complex s) (numbers_at t i) ≡ cells_with face (complex s) =
    sym (around_seen (complex s) t k.table i [] h)
    ∙ ap (λ (v : List (List ℕ × List Cell)). (get_or v i ([], [])).1) k.shows
    ∙ ap (λ (f : List ℕ × List Cell). f.1)
    (get_or-map (λ p. (p, cells_with p (complex s))) parts i [] ([], []) l) in
    tells_around s face leasts (numbers_at t i) (get_or admitted i 0) (get_or alphas i none) z
    (zip_at (λ x j. IsLeastOf (λ alpha. is_admitted s alpha x) j) parts admitted i [] 0 m l) around
    (w.each i none h))
