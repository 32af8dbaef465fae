-- Words and slots of a new table, as they are laid out.
use Rattle.std.specs.Prelude.{◌≡◌, ◌≢◌, ℕ, zero, suc, ◌+◌, ◌*◌, ◌<◌, ◌≤◌, List, [], ◌∷◌, ◌++◌, Option, None, Some}
use Rattle.std.specs.Prelude.{IsSome, length, replicate, take, slice_set}
use Rattle.std.proofs.Common.{refl, sym, ◌∙◌, ap, subst, arith, add-one, length-set, get_or-set_other, length-take}
use Rattle.list_laws.proofs.Cited.{same_there}
use Rattle.cell_store.specs.Buckets.{BucketContent, InHand, bucket_at}
use Rattle.cell_store.specs.Meshes.{AllInHand}
use Rattle.claim_table.specs.Homing.{IsLaying}

-- ---- words

-- so many words 0, and one behind them
zero_behind : (n : ℕ) → ◌++◌ {A = ℕ} (replicate n 0) (0 ∷ []) ≡ replicate (suc n) 0
zero_behind zero = refl
zero_behind (suc n) = ap (λ (l : List ℕ). 0 ∷ l) (zero_behind n)

-- are one more of them
pub one_more_zero : (n : ℕ) → ◌++◌ {A = ℕ} (replicate n 0) (0 ∷ []) ≡ replicate (n + 1) 0
one_more_zero n = zero_behind n ∙ ap (λ (k : ℕ). replicate k 0) (sym (add-one n))

-- ---- slots

-- room for the count of a list is room for the list
wide_enough : (l count room : ℕ) → count ≡ l → count ≤ room → l ≤ room
wide_enough l count room e m = omega arith

-- as many slots as the grid has buckets
pub bucket_count :
    (hold : InHand) (g count : ℕ) → count ≡ g * g * g → g ≡ hold.grid →
    length hold.places ≡ hold.grid * hold.grid * hold.grid → count ≡ length hold.places
bucket_count hold g count is same wide = is ∙ ap (λ (x : ℕ). x * x * x) same ∙ sym wide

-- before the first bucket none is laid out, and there is room for all
pub laying_none :
    (hold : InHand) (laid : List (Option BucketContent)) (count room : ℕ) → laid ≡ [] → count ≡ length hold.places →
    count ≤ room → IsLaying hold hold laid room 0
laying_none hold laid count room none is enough = record {
  enough = wide_enough (length hold.places) count room is enough;
  places = refl;
  laid_are = none;
  rest_are = λ k l. refl;
}

-- a number is not above itself
at_itself : (b : ℕ) → b ≤ b
at_itself b = omega arith

-- a bucket that comes next is still in hand
pub laying_some :
    (hold now : InHand) (laid : List (Option BucketContent)) (count room b : ℕ) → IsLaying hold now laid room b →
    AllInHand hold → count ≡ length hold.places → b < count → IsSome (bucket_at now.places b)
laying_some hold now laid count room b i all is l =
    same_there (bucket_at hold.places b) (bucket_at now.places b) (sym (i.rest_are b (at_itself b)))
    (all b (subst (λ (x : ℕ). b < x) is l))

-- while fewer are laid out than there are, there is room for one more
room_left : (len b count l room t : ℕ) → len ≡ t → t ≡ b → count ≡ l → b < count → l ≤ room → len < room
room_left len b count l room t e f is k m = omega arith

-- the first b of a list that has more are b
take_count : (l : List (Option BucketContent)) (b : ℕ) → b < length l → length (take b l) ≡ b
take_count l b h = simp length-take (omega arith)

-- so there is room for the bucket that comes next
pub laying_room :
    (hold now : InHand) (laid : List (Option BucketContent)) (len count room b : ℕ) → IsLaying hold now laid room b →
    len ≡ length laid → count ≡ length hold.places → b < count → len < room
laying_room hold now laid len count room b i e is l =
    room_left len b count (length hold.places) room (length laid) e
    (ap length i.laid_are ∙ take_count hold.places b (subst (λ (x : ℕ). b < x) is l)) is l i.enough

-- the first b with the one behind them are the first b + 1
take_on :
    (l : List (Option BucketContent)) (b : ℕ) (x : BucketContent) → bucket_at l b ≡ Some x →
    take b l ++ Some x ∷ [] ≡ take (suc b) l
take_on [] b x e = absurd (cc e)
take_on (o ∷ l) zero x e = ap (λ (y : Option BucketContent). y ∷ []) (sym e)
take_on (o ∷ l) (suc b) x e = ap (λ (t : List (Option BucketContent)). o ∷ t) (take_on l b x e)

-- what is behind the next is behind this
behind : (k b : ℕ) → b + 1 ≤ k → b ≤ k
behind k b l = omega arith

-- and is not this
apart : (k b : ℕ) → b + 1 ≤ k → k ≢ b
apart k b l e = absurd (omega arith)

-- with the next bucket taken and laid out, one more has been
pub laying_on :
    (hold now next : InHand) (laid more : List (Option BucketContent)) (room room' b : ℕ) (x : BucketContent) →
    IsLaying hold now laid room b → next.places ≡ slice_set now.places b None → bucket_at now.places b ≡ Some x →
    more ≡ laid ++ Some x ∷ [] → room' ≡ room → IsLaying hold next more room' (b + 1)
laying_on hold now next laid more room room' b x i taken had laid_more same = record {
  enough = subst (λ (r : ℕ). length hold.places ≤ r) (sym same) i.enough;
  places = ap length taken ∙ length-set now.places b None ∙ i.places;
  laid_are = laid_more ∙ ap (λ (l : List (Option BucketContent)). l ++ Some x ∷ []) i.laid_are ∙ take_on
      hold.places b x (sym (i.rest_are b (at_itself b)) ∙ had)
      ∙ ap (λ (k : ℕ). take k hold.places) (sym (add-one b));
  rest_are = λ k l. ap (λ (places : List (Option BucketContent)). bucket_at places k) taken ∙ get_or-set_other
      now.places b k None None (apart k b l) ∙ i.rest_are k (behind k b l);
}

-- no fewer than all are all
take_whole : (l : List (Option BucketContent)) (b : ℕ) → length l ≤ b → take b l ≡ l
take_whole [] zero h = refl
take_whole [] (suc b) h = refl
take_whole (o ∷ l) zero h = absurd (omega arith)
take_whole (o ∷ l) (suc b) h = ap (λ (t : List (Option BucketContent)). o ∷ t) (take_whole l b (omega arith))

-- once all have been laid out they are the buckets of the hold
pub laid_all :
    (hold now : InHand) (laid : List (Option BucketContent)) (count room b : ℕ) → IsLaying hold now laid room b →
    count ≡ length hold.places → count ≤ b → laid ≡ hold.places
laid_all hold now laid count room b i is l = i.laid_are ∙ take_whole hold.places b (subst (λ (x : ℕ). x ≤ b) is l)
