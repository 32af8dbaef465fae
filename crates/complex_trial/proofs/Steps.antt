-- The trial goes on: the lists that begin with a front go on with the next element, or without it.
use Rattle.std.proofs.Common.{◌≡◌, refl, sym, ap, ◌∙◌, ℕ, zero, suc, ◌+◌, ◌<◌, List, [], ◌∷◌, ◌++◌, Bool, length}
use Rattle.std.proofs.Common.{get_or, drop, append_assoc, add-one, drop-cons, arith}
use Rattle.std.specs.Prelude.{map}
use Rattle.std.specs.List.{filter}
use Rattle.std.proofs.lemmas.List.{map-append}
use Rattle.std.proofs.lemmas.List.Elements.{filter-append}
use Rattle.list_laws.proofs.Cited.{rises}
use Rattle.point_order.specs.Sets.{IsAscending}
use Rattle.point_order.specs.Subsets.{subsets}
use Rattle.point_order.specs.declared.cell.Cell.{Cell}
use Rattle.point_order.specs.Complex.{complex, is_full, is_open}
use Rattle.point_order.specs.declared.cell.Cell.TheVariants.{Full, Open}
use Rattle.complex_trial.specs.Trial.{found_from, full_from, open_from}

-- lists with an element in front, put behind a front, are put behind the front with the element
map_map : (front : List ℕ) (x : ℕ) (qs : List (List ℕ)) → map (λ q. front ++ q) (map (λ q. x ∷ q) qs)
    ≡ map (λ q. (front ++ x ∷ []) ++ q) qs
map_map front x [] = refl
map_map front x (q ∷ qs) = ap₂_cons (sym (append_assoc front (x ∷ []) q)) (map_map front x qs)
  where
    ap₂_cons : {a b : List ℕ} {xs ys : List (List ℕ)} → a ≡ b → xs ≡ ys → a ∷ xs ≡ b ∷ ys
    ap₂_cons e f = cc

-- what begins with a front goes on with the next element, or without it
step_cons : (make : List ℕ → Cell) (test : List ℕ → Bool) (front : List ℕ) (k x : ℕ) (rest : List ℕ) →
    found_from make test front (suc k) (x ∷ rest) ≡ found_from make test (front ++ x ∷ []) k rest
    ++ found_from make test front (suc k) rest
step_cons make test front k x rest =
    let a = map (λ q. x ∷ q) (subsets k rest) in
    let b = subsets (suc k) rest in
    let longer : List ℕ → List ℕ = λ q. front ++ q in
    let e : map longer (a ++ b) ≡ map (λ q. (front ++ x ∷ []) ++ q) (subsets k rest) ++ map longer b =
    map-append longer a b ∙ ap (λ l. l ++ map longer b) (map_map front x (subsets k rest)) in
    ap (λ l. map make (filter test l)) e
    ∙ ap (map make) (filter-append test (map (λ q. (front ++ x ∷ []) ++ q) (subsets k rest)) (map longer b))
    ∙ map-append make (filter test (map (λ q. (front ++ x ∷ []) ++ q) (subsets k rest))) (filter test (map longer b))

-- from a place of a list to the next
pub found_step : (make : List ℕ → Cell) (test : List ℕ → Bool) (front : List ℕ) (k : ℕ) (s : List ℕ) (i : ℕ) →
    i < length s → found_from make test front (suc k) (drop i s) ≡ found_from make test (front ++ get_or s i 0 ∷ []) k
    (drop (i + 1) s) ++ found_from make test front (suc k) (drop (i + 1) s)
found_step make test front k s i h =
    rw (add-one i, drop-cons s i 0) (step_cons make test front k (get_or s i 0) (drop (suc i) s))

-- nothing is put before the whole
pub map_id : (qs : List (List ℕ)) → map (λ q. [] ++ q) qs ≡ qs
map_id [] = refl
map_id (q ∷ qs) = ap (λ l. q ∷ l) (map_id qs)

-- the element at a place, whatever stands for one past the end
pub at_place : (s : List ℕ) (i r : ℕ) → i < length s → r ≡ get_or s i r → r ≡ get_or s i 0
at_place [] i r h e = absurd (omega (arith, h))
at_place (x ∷ s) zero r h e = e
at_place (x ∷ s) (suc i) r h e = at_place s i r (omega (arith, h)) e

-- two places of an ascending list
pub in_order : (s : List ℕ) (i j a b : ℕ) → IsAscending s → i < j → j < length s → a ≡ get_or s i a → b ≡ get_or s j b →
    a < b
in_order s i j a b h l m e f =
    let u : a ≡ get_or s i 0 = at_place s i a (omega arith) e in
    let v : b ≡ get_or s j 0 = at_place s j b m f in
    omega (arith, rises s i j 0 h l m, u, v)

-- one turn of the trial: what begins with the front and the element at i was put behind the cells
pub one_turn : (make : List ℕ → Cell) (test : List ℕ → Bool) (front : List ℕ) (k : ℕ) (s : List ℕ) (i : ℕ)
    (now new whole : List Cell) → i < length s → new ≡ now ++ found_from make test (front ++ get_or s i 0 ∷ []) k
    (drop (i + 1) s) → now ++ found_from make test front (suc k) (drop i s) ≡ whole →
    new ++ found_from make test front (suc k) (drop (i + 1) s) ≡ whole
one_turn make test front k s i now new whole h e f =
    let a = found_from make test (front ++ get_or s i 0 ∷ []) k (drop (i + 1) s) in
    let b = found_from make test front (suc k) (drop (i + 1) s) in
    ap (λ l. l ++ b) e ∙ append_assoc now a b ∙ ap (λ l. now ++ l) (sym (found_step make test front k s i h)) ∙ f

-- the Full cells and then the Open cells are the complex
pub whole_complex : (s : List ℕ) (none full both : List Cell) → none ≡ [] → full ≡ none ++ full_from s [] 4 s →
    both ≡ full ++ open_from s [] 3 s → both ≡ complex s
unfolding complex
whole_complex s none full both e f g =
    let a : full_from s [] 4 s ≡ map Full (filter (is_full s) (subsets 4 s)) =
    ap (λ (qs : List (List ℕ)). map Full (filter (is_full s) qs)) (map_id (subsets 4 s)) in
    let b : open_from s [] 3 s ≡ map Open (filter (is_open s) (subsets 3 s)) =
    ap (λ (qs : List (List ℕ)). map Open (filter (is_open s) qs)) (map_id (subsets 3 s)) in
    g ∙ ap (λ (l : List Cell). l ++ open_from s [] 3 s) (f ∙ ap (λ (l : List Cell). l ++ full_from s [] 4 s) e)
    ∙ ap (λ (l : List Cell). l ++ open_from s [] 3 s) a
    ∙ ap (λ (l : List Cell). map Full (filter (is_full s) (subsets 4 s)) ++ l) b
