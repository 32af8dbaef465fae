-- The seats that are dealt to the workers.
use Rattle.std.specs.Prelude.{◌≡◌, ℕ, suc, ◌+◌, ◌-◌, ◌<◌, List, [], ◌∷◌, ◌++◌, map}
use Rattle.std.specs.List.{range_with_len}
use Rattle.std.proofs.Common.{refl, sym, ◌∙◌, ap, arith}
use Rattle.std.proofs.lemmas.List.{map-append, length_push}
use Rattle.atomic_table.specs.Seated.{TableId}
use Rattle.round_table.specs.declared.view.Key.{Key}
use Rattle.round_table.specs.declared.view.View.{View}
use Rattle.round_table.specs.declared.worker.Worker.{Worker}
use Rattle.round_table.specs.Rounds.{fresh, claims_of, standing}
use Rattle.round_table.specs.Rule.{contents_of, empty_hand, opening_view}
use Rattle.round_table.specs.Plays.{first_of, but_first, first_hand, other_hands}
use Rattle.round_table.specs.Closed.{opened_as, IsDealing}
use Rattle.round_table.proofs.Shut.{mapped_more}

module _ {T : Type 0} where
  -- a view that stands for the passes from a number on
  abbrev pub from : Key T → ℕ → View T
  from k number = record {
    contents = contents_of k;
    workers = k.workers;
    hands = map empty_hand (range_with_len number (k.workers - number));
  }

  one_less : (k : Key T) (number : ℕ) → number < k.workers →
      map empty_hand (range_with_len number (k.workers - number))
      ≡ empty_hand number ∷ map empty_hand (range_with_len (number + 1) (k.workers - (number + 1)))
  one_less k number l =
      let q : k.workers - number ≡ suc (k.workers - (number + 1)) = omega arith in
      ap (λ (n : ℕ). map empty_hand (range_with_len number n)) q

  -- the first of them has its number, and has claimed nothing
  pub first_is : (k : Key T) (v : View T) (number : ℕ) → v ≡ from k number → number < k.workers →
      (first_of v).hands ≡ empty_hand number ∷ []
  first_is k v number is l = ap (λ (u : View T). first_hand u.hands) is ∙ ap first_hand (one_less k number l)

  pub first_in_order : (k : Key T) (v : View T) (number : ℕ) → v ≡ from k number → number < k.workers →
      (first_of v).hands ≡ record { number = number; claims = claims_of (first_of v).hands } ∷ []
  first_in_order k v number is l =
      let e = first_is k v number is l in
      e ∙ (λ i. record { number = number; claims = claims_of (sym e i) } ∷ [])

  pub first_stands : (id : TableId) (k : Key T) (own : TableId) (v : View T) (number : ℕ) → own ≡ id →
      v ≡ from k number →
      number < k.workers → standing own (first_of v) number ≡ fresh (opened_as id k) number
  first_stands id k own v number same is l =
      let e = first_is k v number is l in
      (λ i. record {
        table = record { id = same i; workers = (is i).workers; contents = (is i).contents };
        number = number;
        claims = claims_of (e i);
      })

  pub deals_none : {S : Type 0} (id : TableId) (k : Key T) (own : TableId) (v : View T) (workers : List (Worker T S)) →
      own ≡ id → v ≡ opening_view k → workers ≡ [] → IsDealing id k own v workers [] 0
  deals_none id k own v workers same is none =
      let q : k.workers ≡ k.workers - 0 = omega arith in
      record {
        number_is = refl;
        table = same;
        view = is ∙ (λ i. record {
          contents = contents_of k;
          workers = k.workers;
          hands = map empty_hand (range_with_len 0 (q i));
        });
        passes = ap (λ (l : List (Worker T _)). map (λ w. w.pass) l) none;
        states_are = ap (λ (l : List (Worker T _)). map (λ w. w.state) l) none;
      }

  pub deals_on : {S : Type 0} (id : TableId) (k : Key T) (own own' : TableId) (v v' : View T)
      (workers workers' : List (Worker T S))
      (states : List S) (number number' : ℕ) (w : Worker T S) → IsDealing id k own v workers states number →
      number < k.workers → own' ≡ own → v' ≡ but_first v → w.pass ≡ fresh (opened_as id k) number →
      workers' ≡ workers ++ w ∷ [] → number' ≡ number + 1
      → IsDealing id k own' v' workers' (states ++ w.state ∷ []) number'
  deals_on {S} id k own own' v v' workers workers' states number number' w d l same next pass pushed more =
      record {
        number_is = let q = d.number_is in let p = length_push states w.state in omega arith;
        table = same ∙ d.table;
        view = next ∙ ap but_first d.view ∙ (λ i. record {
          contents = contents_of k;
          workers = k.workers;
          hands = other_hands (one_less k number l i);
        }) ∙ ap (from k) (sym more);
        passes = ap (λ (l : List (Worker T S)). map (λ w. w.pass) l) pushed ∙ map-append (λ
            (w : Worker T S). w.pass) workers (w ∷ [])
            ∙ (λ i. d.passes i ++ pass i ∷ []) ∙ sym (mapped_more (fresh (opened_as id k)) number)
            ∙ ap (λ (n : ℕ). map (fresh (opened_as id k)) (range_with_len 0 n)) (sym more);
        states_are = ap (λ (l : List (Worker T S)). map (λ w. w.state) l) pushed
            ∙ map-append (λ (w : Worker T S). w.state) workers (w ∷ []) ∙ ap (λ
            (l : List S). l ++ w.state ∷ []) d.states_are;
      }
