-- The numbered lines that stand at the places of an ascending list.
use Rattle.std.specs.Prelude.{◌≡◌, ℕ, suc, ◌+◌, ◌-◌, ◌<◌, ◌≤◌, Bool, true, false, List, [], ◌∷◌, ◌⊎◌, map, length}
use Rattle.std.specs.Prelude.{slice_index_or, ◌==◌}
use Rattle.std.specs.List.{enumerate_from, filter}
use Rattle.std.proofs.Common.{refl, sym, ◌∙◌, ap, inl, inr, arith}
use Rattle.std.proofs.lemmas.Bool.Decides.{nat_tests}
use Rattle.list_laws.proofs.Cited.{among_from, among_true, below_each, numbered_from, same_filter}
use Rattle.point_order.specs.Sets.{IsIn, IsAscending, is_among}
use Rattle.edit_history.specs.declared.history.Edit.{Edit}

-- ---- lists and tests

-- where no element passes the test, none is left
none_pass : {X : Type 0} (t : X → Bool) (xs : List X) → ((y : X) → IsIn y xs → t y ≡ false) → filter t xs ≡ []
none_pass t [] f = refl
none_pass t (x ∷ xs) f = rw (f x (inl refl)) (none_pass t xs (λ y i. f y (inr i)))

-- two functions that agree on the elements give the same list
pub same_map : {X : Type 0} (f g : ℕ → X) (ps : List ℕ) → ((p : ℕ) → IsIn p ps → f p ≡ g p) → map f ps ≡ map g ps
same_map f g [] h = refl
same_map {X} f g (p ∷ ps) h =
    ap (λ (x : X). x ∷ map f ps) (h p (inl refl)) ∙ ap (λ (t : List X). g p ∷ t) (same_map f g ps (λ q i. h q (inr i)))

-- a place before all of some places is none of them
not_among : (p n : ℕ) (ps : List ℕ) → ((q : ℕ) → IsIn q (p ∷ ps) → n < q) → is_among n (p ∷ ps) ≡ false
not_among p n ps f = by (is_among n (p ∷ ps)) refl
  where
    by : (b : Bool) → is_among n (p ∷ ps) ≡ b → b ≡ false
    by true e = absurd (let l = f n (among_from n (p ∷ ps) e) in omega (arith, l))
    by false e = refl

-- a place after the first one is among them exactly where it is among the others
among_later : (p n : ℕ) (ps : List ℕ) → p < n → is_among n (p ∷ ps) ≡ is_among n ps
among_later p n ps h = let e : (p == n) ≡ false = grind (arith, nat_tests) in rw e refl

-- ---- the lines at ascending places

-- the line at a place, the first place being n
abbrev pub line_at : ℕ → List Edit → Edit → ℕ → ℕ × Edit
line_at n xs d p = (p, slice_index_or xs (p - n) d)

-- the numbered lines whose places are among some ascending ones in range are the lines at these places, in order
pub picked : (ps : List ℕ) (n : ℕ) (xs : List Edit) (d : Edit) → IsAscending ps →
    ((p : ℕ) → IsIn p ps → (n ≤ p) × (p < n + length xs)) → filter (λ line. is_among line.0 ps) (enumerate_from n xs)
    ≡ map (line_at n xs d) ps
picked [] n xs d a f = none_pass (λ line. is_among line.0 []) (enumerate_from n xs) (λ y i. refl)
picked (p ∷ ps) n [] d a f = let b = f p (inl refl) in absurd (omega (arith, b.0, b.1))
picked (p ∷ ps) n (x ∷ xs) d a f =
    elim (side n p (f p (inl refl)).0) [
      | inl e ↦ here e (picked ps (n + 1) xs d a.1 (λ q i. let b = f q (inr i) in
          let l : p < q = below_each p ps a.0 a.1 q i in (omega (arith, l, e), omega (arith, b.1))))
      | inr l ↦ there l (picked (p ∷ ps) (n + 1) xs d a (λ q i. let b = f q i in (above l q i, omega (arith, b.1))))
    ]
  where
    side : (n p : ℕ) → n ≤ p → (n ≡ p) ⊎ (n < p)
    side n p h = grind arith

    above : n < p → (q : ℕ) → IsIn q (p ∷ ps) → n + 1 ≤ q
    above l q (inl e) = omega (arith, l, e)
    above l q (inr i) = let b : p < q = below_each p ps a.0 a.1 q i in omega (arith, b, l)

    -- one place on
    on : (q : ℕ) → n + 1 ≤ q → line_at (n + 1) xs d q ≡ line_at n (x ∷ xs) d q
    on q l = let z : suc (q - (n + 1)) ≡ q - n = omega (arith, l) in ap (λ (k : ℕ). (q, slice_index_or (x ∷ xs) k d)) z

    here : n ≡ p → filter (λ line. is_among line.0 ps) (enumerate_from (n + 1) xs) ≡ map (line_at (n + 1) xs d) ps →
        filter (λ line. is_among line.0 (p ∷ ps)) (enumerate_from n (x ∷ xs)) ≡ map (line_at n (x ∷ xs) d) (p ∷ ps)
    here e r =
        let g : is_among n (p ∷ ps) ≡ true = among_true n (p ∷ ps) (inl (sym e)) in
        let same = same_filter (λ line. is_among line.0 (p ∷ ps)) (λ line. is_among line.0 ps)
        (enumerate_from (n + 1) xs) (λ y i. let l = numbered_from (n + 1) xs y i in
        among_later p y.0 ps (omega (arith, l, e))) in
        let z : p - n ≡ 0 = omega (arith, e) in
        let first : (n, x) ≡ line_at n (x ∷ xs) d p =
        ap (λ (m : ℕ). (m, x)) e ∙ ap (λ (k : ℕ). (p, slice_index_or (x ∷ xs) k d)) (sym z) in
        rw g (ap (λ (t : List (ℕ × Edit)). (n, x) ∷ t) (same ∙ r
        ∙ same_map (line_at (n + 1) xs d) (line_at n (x ∷ xs) d) ps
        (λ q i. on q (let b : p < q = below_each p ps a.0 a.1 q i in omega (arith, b, e))))
        ∙ ap (λ (y : ℕ × Edit). y ∷ map (line_at n (x ∷ xs) d) ps) first)

    there : n < p → filter (λ line. is_among line.0 (p ∷ ps)) (enumerate_from (n + 1) xs) ≡ map (line_at (n + 1) xs d)
        (p ∷ ps) → filter (λ line. is_among line.0 (p ∷ ps)) (enumerate_from n (x ∷ xs)) ≡ map (line_at n (x ∷ xs) d)
        (p ∷ ps)
    there l r =
        rw (not_among p n ps (λ q i. let b = above l q i in omega (arith, b)))
        (r ∙ same_map (line_at (n + 1) xs d) (line_at n (x ∷ xs) d) (p ∷ ps) (λ q i. on q (above l q i)))
