-- What workers made of a round.
use Rattle.std.specs.Prelude.{◌≡◌, ℕ, zero, suc, ◌+◌, ◌<◌, List, [], ◌∷◌, ◌++◌, map, length, take, drop, Option}
use Rattle.std.specs.Prelude.{slice_index_or}
use Rattle.std.specs.List.{range_with_len, flat_map}
use Rattle.std.proofs.Common.{refl, sym, ◌∙◌, ap, subst, arith, append-nil}
use Rattle.std.proofs.lemmas.List.{length-map, drop_all, take_all}
use Rattle.round_table.specs.declared.worker.Worker.{Worker}
use Rattle.round_table.specs.Rounds.{Opened, Standing, fresh, fresh_passes, AreParted}
use Rattle.round_table.specs.Workers.{passes_of, states_of, AreAll, all_claims}
use Rattle.round_table.specs.Jobs.{AreFresh, AreWorked, IsRound}

pub at_mapped : {X Y : Type 0} (f : X → Y) (xs : List X) (i : ℕ) (d : X) →
    slice_index_or (map f xs) i (f d) ≡ f (slice_index_or xs i d)
at_mapped f [] i d = refl
at_mapped f (x ∷ xs) zero d = refl
at_mapped f (x ∷ xs) (suc i) d = at_mapped f xs i d

length_range : (a n : ℕ) → length (range_with_len a n) ≡ n
length_range a zero = refl
length_range a (suc n) = let r = length_range (a + 1) n in omega arith

-- what a loan of a whole list leaves
pub written : {X : Type 0} (n : ℕ) (before ys : List X) → length before ≡ n → length ys ≡ length before →
    take n (ys ++ drop (length ys) before) ≡ ys
written {X} n before ys wide same =
    let none : drop (length ys) before ≡ [] = drop_all (length ys) before (omega arith) in
    ap (λ (l : List X). take n (ys ++ l)) none ∙ ap (take n) (append-nil ys) ∙ take_all n ys (omega arith)

module _ {T : Type 0} where
  fresh_at : (t : Opened T) (a n k : ℕ) (d : Standing T) → k < n →
      slice_index_or (map (fresh t) (range_with_len a n)) k d ≡ fresh t (a + k)
  fresh_at t a zero k d l = absurd (omega arith)
  fresh_at t a (suc n) zero d l = let q : a ≡ a + 0 = omega arith in ap (fresh t) q
  fresh_at t a (suc n) (suc k) d l =
      let q : a + 1 + k ≡ a + suc k = omega arith in fresh_at t (a + 1) n k d (omega arith) ∙ ap (fresh t) q

module _ {T S : Type 0} where
  -- the worker at a place has the pass of this number
  pass_at : (t : Opened T) (ws : List (Worker T S)) → passes_of ws ≡ fresh_passes t → (k : ℕ) (d : Worker T S) →
      k < t.workers → (slice_index_or ws k d).pass ≡ fresh t k
  pass_at t ws e k d l =
      let q : 0 + k ≡ k = omega arith in
      sym (at_mapped (λ (w : Worker T S). w.pass) ws k d)
      ∙ ap (λ (l : List (Standing T)). slice_index_or l k d.pass) e ∙ fresh_at t 0 t.workers k d.pass l ∙ ap (fresh t) q

  -- there are as many of them as the table has passes
  pub count_of : (t : Opened T) (ws : List (Worker T S)) → passes_of ws ≡ fresh_passes t → length ws ≡ t.workers
  count_of t ws e =
      sym (length-map ws (λ (w : Worker T S). w.pass)) ∙ ap length e
      ∙ length-map (range_with_len 0 t.workers) (fresh t) ∙ length_range 0 t.workers

  pub fresh_all : (t : Opened T) (ws : List (Worker T S)) → passes_of ws ≡ fresh_passes t → AreFresh t ws
  fresh_all t ws e k d l =
      let n = count_of t ws e in
      let p = pass_at t ws e k d (omega arith) in
      p ∙ ap (fresh t) (sym (ap (λ (s : Standing T). s.number) p))

  pub all_of : (makes : List T → ℕ → List ℕ → S → S → Type 0) (t : Opened T) (old new : List (Worker T S)) →
      passes_of old ≡ fresh_passes t → AreWorked makes t old new → AreAll t new
  all_of makes t old new e w =
      let n = count_of t old e in
      let c = w.count in
      record {
        count = c ∙ n;
        of_table = λ k d l. (w.each k d (omega arith)).table;
      }

  claims_flat : (ws : List (Worker T S)) →
      flat_map (λ (c : List ℕ). c) (map (λ (w : Worker T S). w.pass.claims) ws) ≡ all_claims ws
  claims_flat [] = refl
  claims_flat (w ∷ ws) = ap (λ (l : List ℕ). w.pass.claims ++ l) (claims_flat ws)

  -- the whole round
  pub round_is : (makes : List T → ℕ → List ℕ → S → S →
      Type 0) (t : Opened T) (contents : List T) (states states' : List S)
      (old new after : List (Worker T S)) (rest : List (Option T)) → passes_of old ≡ fresh_passes t →
      states_of old ≡ states →
      t.contents ≡ contents → AreWorked makes t old new → after ≡ new → states' ≡ states_of after →
      AreParted t.contents (all_claims after) rest
      → IsRound makes contents states states' rest
  round_is makes t contents states states' old new after rest e olds same w whole news' parted' =
      let news : states' ≡ states_of new = news' ∙ ap (λ (l : List (Worker T S)). map (λ x. x.state) l) whole in
      let parted : AreParted t.contents (all_claims new) rest =
      subst (λ (l : List (Worker T S)). AreParted t.contents (all_claims l) rest) whole parted' in
      let claims : List (List ℕ) = map (λ (x : Worker T S). x.pass.claims) new in
      let n = count_of t old e in
      let c = w.count in
      let a = length-map old (λ (x : Worker T S). x.state) in
      let b = ap length olds in
      let long : length states ≡ length old = omega arith in
      record {
        claims = claims;
        count = (
          (let p = ap length news in let q = length-map new (λ (x : Worker T S). x.state) in omega arith),
          (let q = length-map new (λ (x : Worker T S). x.pass.claims) in omega arith),
        );
        parted = subst (λ (p : List T ×
            List ℕ). AreParted p.0 p.1 rest) (λ j. (same j, sym (claims_flat new) j)) parted;
        each = λ i c d l.
            let dw : Worker T S = record { pass = record { table = t; number = 0; claims = c }; state = d } in
            let k = w.each i dw (omega arith) in
            let number : (slice_index_or new i dw).pass.number ≡ i =
            k.number ∙ ap (λ (s : Standing T). s.number) (pass_at t old e i dw (omega arith)) in
            let mine : (slice_index_or new i dw).pass.claims ≡ slice_index_or claims i c =
            sym (at_mapped (λ (x : Worker T S). x.pass.claims) new i dw) in
            let before : (slice_index_or old i dw).state ≡ slice_index_or states i d =
            sym (at_mapped (λ (x : Worker T S). x.state) old i dw) ∙ ap (λ (l : List S). slice_index_or l i d) olds in
            let after : (slice_index_or new i dw).state ≡ slice_index_or states' i d =
            sym (at_mapped (λ (x : Worker T S). x.state) new i dw) ∙ ap (λ (l : List S). slice_index_or l i d)
            (sym news) in
            subst (λ (p : List T × ℕ × List ℕ × S × S). makes p.0 p.1 p.2 p.3 p.4)
            (λ j. (same j, number j, mine j, before j, after j)) k.made;
      }
