-- How points are written one after another.
use Rattle.std.proofs.Common.{◌≡◌, refl, sym, ap, ◌∙◌, ℕ, ◌+◌, ◌<◌, ◌≤◌, List, [], ◌∷◌, ◌++◌, length, get_or, take}
use Rattle.std.proofs.Common.{codes, flat_map, append_assoc, append-nil}
use Rattle.std.proofs.lemmas.Grind.{flat_map-append}
use Rattle.std.proofs.lemmas.List.{take_all, take_more}
use Rattle.point_order.specs.Texts.{point_text, points_to}

-- points, each behind a comma
abbrev pub behind_comma : ℕ → List ℕ
behind_comma p = codes ", " ++ point_text p

-- points, each behind a comma, one after another
abbrev pub others_text : List ℕ → List ℕ
others_text l = flat_map behind_comma l

-- one more of them
pub one_more : (front l : List ℕ) (i p : ℕ) → i < length l → p ≡ get_or l i p
    → (front ++ others_text (take i l)) ++ behind_comma p ≡ front ++ others_text (take (i + 1) l)
one_more front l i p h is =
    append_assoc front (others_text (take i l)) (behind_comma p)
    ∙ ap (λ t. front ++ t) (ap (λ q. others_text (take i l) ++ behind_comma q) is
    ∙ ap (λ t. others_text (take i l) ++ t) (sym (append-nil (behind_comma (get_or l i p))))
    ∙ sym (flat_map-append behind_comma (take i l) (get_or l i p ∷ []))
    ∙ ap others_text (sym (take_more l i p h)))

-- the first, and each other behind a comma
points_to_is : (end : List ℕ) (p : ℕ) (l : List ℕ) → point_text p ++ (others_text l ++ end) ≡ points_to end (p ∷ l)
unfolding points_to
points_to_is end p [] = refl
points_to_is end p (q ∷ l) =
    ap (λ t. point_text p ++ (codes ", " ++ t)) (append_assoc (point_text q) (others_text l) end ∙ points_to_is end q l)

-- all of them, and the end
pub all_points : (front end : List ℕ) (p : ℕ) (l : List ℕ) (i : ℕ) → length l ≤ i
    → ((front ++ point_text p) ++ others_text (take i l)) ++ end ≡ front ++ points_to end (p ∷ l)
all_points front end p l i h =
    ap (λ t. ((front ++ point_text p) ++ others_text t) ++ end) (take_all i l h)
    ∙ append_assoc (front ++ point_text p) (others_text l) end
    ∙ append_assoc front (point_text p) (others_text l ++ end)
    ∙ ap (λ t. front ++ t) (points_to_is end p l)
