-- What workers have taken that do nothing but claim.
use Rattle.std.specs.Prelude.{◌≡◌, ℕ, zero, suc, ◌<◌, List, [], ◌∷◌, ◌++◌, map, length, All, Option, Some}
use Rattle.std.specs.Prelude.{IsPermutation, slice_get, slice_index_or}
use Rattle.std.specs.List.{flat_map}
use Rattle.std.proofs.Common.{refl, sym, ◌∙◌, ap, arith, append_assoc, append-nil}
use Rattle.std.proofs.lemmas.List.{map-append}
use Rattle.round_table.specs.declared.taking.Taking.{Taking}
use Rattle.round_table.specs.Rounds.{Opened, Standing, fresh, IsClaimed, held}
use Rattle.round_table.specs.Jobs.{HasMore, IsRound}
use Rattle.round_table.specs.Taken.{IsTaking, takes}
use Rattle.round_table.proofs.Staying.{stays}

module _ {T : Type 0} where
  pub takes_none : (contents : List T) (old : Standing T) (hand : List T) → IsTaking contents old old hand hand
  takes_none contents old hand = record {
    more = [];
    new_is = λ i. record old { claims = sym (append-nil old.claims) i };
    hand_is = sym (append-nil (map Some hand));
  }

  pub takes_one : (b : ℕ) (content : T) (old new : Standing T) (before after : List T) → IsClaimed b content old new →
      after ≡ before ++ content ∷ [] → IsTaking old.table.contents old new before after
  takes_one b content old new before after c e = record {
    more = b ∷ [];
    new_is = c.new_is;
    hand_is = ap (map Some) e ∙ map-append (λ (x : T). Some x) before (content ∷ [])
        ∙ (λ i. map Some before ++ sym c.content_is i ∷ []);
  }

  pub takes_both : (contents : List T) (a b c : Standing T) (x y z : List T) → IsTaking contents a b x y →
      IsTaking contents b c y z → IsTaking contents a c x z
  takes_both contents a b c x y z p q = record {
    more = p.more ++ q.more;
    new_is = q.new_is ∙ (λ i. record (p.new_is i) { claims = (p.new_is i).claims ++ q.more })
        ∙ (λ i. record a { claims = append_assoc a.claims p.more q.more i });
    hand_is = q.hand_is ∙ (λ i. p.hand_is i ++ map (slice_get contents) q.more)
        ∙ append_assoc (map Some x) (map (slice_get contents) p.more) (map (slice_get contents) q.more)
        ∙ ap (λ (l : List (Option T)). map Some x ++ l) (sym (map-append (slice_get contents) p.more q.more));
  }

  -- a pass that had claimed nothing has claimed just these
  pub takes_all : (contents : List T) (t : Opened T) (n : ℕ) (old new : Standing T) (before after : List T) →
      IsTaking contents old new before after → old ≡ fresh t n
      → map Some after ≡ map Some before ++ map (slice_get contents) new.claims
  takes_all contents t n old new before after p e =
      let claims : new.claims ≡ p.more =
      ap (λ (s : Standing T). s.claims) p.new_is ∙ ap (λ (s : Standing T). s.claims ++ p.more) e in
      p.hand_is ∙ ap (λ (l : List ℕ). map Some before ++ map (slice_get contents) l) (sym claims)

  pub has_more : (contents : List T) (old new : Standing T) (before after : List T) →
      IsTaking contents old new before after → HasMore old new
  has_more contents old new before after p = record { more = p.more; new_is = p.new_is }

  -- of all workers
  all_hands : (contents : List T) (claims : List (List ℕ)) (new : List (Taking T)) → length claims ≡ length new →
      ((i : ℕ) (c : List ℕ) (d : Taking T) → i < length new →
      map Some (slice_index_or new i d).hand.items ≡ map (slice_get contents) (slice_index_or claims i c))
      → map Some (flat_map (λ (s : Taking T). s.hand.items) new) ≡ map (slice_get contents) (flat_map (λ
      (c : List ℕ). c) claims)
  all_hands contents [] [] e f = refl
  all_hands contents [] (s ∷ new) e f = absurd (omega arith)
  all_hands contents (c ∷ claims) [] e f = absurd (omega arith)
  all_hands contents (c ∷ claims) (s ∷ new) e f =
      let r = all_hands contents claims new (omega arith) (λ i c' d l. f (suc i) c' d (omega arith)) in
      map-append (λ (x : T). Some x) s.hand.items (flat_map (λ (u : Taking T). u.hand.items) new)
      ∙ (λ i. f zero c s (omega arith) i ++ r i)
      ∙ sym (map-append (slice_get contents) c (flat_map (λ (u : List ℕ). u) claims))

  -- they have, with what is left, all that there was
  pub all_stay : (contents : List T) (old new : List (Taking T)) (rest : List (Option T)) →
      All (λ s. s.hand.items ≡ []) old → IsRound takes contents old new rest
      → IsPermutation contents (flat_map (λ (s : Taking T). s.hand.items) new ++ held rest)
  all_stay contents old new rest empty r =
      let n = r.count.0 in
      let m = r.count.1 in
      stays contents (flat_map (λ (c : List ℕ). c) r.claims) (flat_map (λ
      (s : Taking T). s.hand.items) new) rest r.parted
      (all_hands contents r.claims new (omega arith) (λ i c d l.
      r.each i c d (omega arith) ∙ (λ j. map Some (empty i d (omega arith) j) ++ map (slice_get contents)
      (slice_index_or r.claims i c))))
