-- What an event does to a board that is kept in one hold with words.
use Rattle.std.specs.Prelude.{◌≡◌, ◌≢◌, ℕ, zero, suc, Bool, true, false, ◌<◌, List, [], ◌∷◌, Option, None, Some, map}
use Rattle.std.specs.Prelude.{length, slice_index_or, slice_set, if◌then◌else◌}
use Rattle.std.specs.Option.{option_map}
use Rattle.std.proofs.Common.{refl, sym, ◌∙◌, ap, arith}
use Rattle.std.proofs.lemmas.List.{set-get_or}
use Rattle.cell_store.specs.Buckets.{BucketContent, bucket_at}
use Rattle.claim_rule.specs.Boards.{View}
use Rattle.claim_rule.specs.Events.{with_view}
use Rattle.claim_rule.specs.Kept.{whose}

-- a content, if the test passes
abbrev pub if_so : Bool → Option BucketContent → Option BucketContent
if_so t o = if t then o else None

-- where there is no content there is none, whatever the test says
none_so : (t : Bool) → None ≡ if_so t None
none_so true = refl
none_so false = refl

-- there are as many places as words
pub whose_length : (t : ℕ → Bool) (words : List ℕ) (places : List (Option BucketContent)) →
    length (whose t words places) ≡ length words
whose_length t [] places = refl
whose_length t (w ∷ words) [] = ap suc (whose_length t words [])
whose_length t (w ∷ words) (o ∷ places) = ap suc (whose_length t words places)

-- at a place the content is there where its word passes the test
pub whose_at : (t : ℕ → Bool) (words : List ℕ) (places : List (Option BucketContent)) (b : ℕ) → b < length words →
    bucket_at (whose t words places) b ≡ if_so (t (slice_index_or words b 0)) (bucket_at places b)
whose_at t [] places b h = absurd (omega arith)
whose_at t (w ∷ words) [] zero h = none_so (t w)
whose_at t (w ∷ words) (o ∷ places) zero h = refl
whose_at t (w ∷ words) [] (suc b) h = whose_at t words [] b (omega arith)
whose_at t (w ∷ words) (o ∷ places) (suc b) h = whose_at t words places b (omega arith)

-- with one word set, the content of its bucket is there where the new word passes
pub whose_set : (t : ℕ → Bool) (words : List ℕ) (places : List (Option BucketContent)) (b w : ℕ) → b < length words →
    whose t (slice_set words b w) places ≡ slice_set (whose t words places) b (if_so (t w) (bucket_at places b))
whose_set t [] places b w h = absurd (omega arith)
whose_set t (u ∷ words) [] zero w h = ap (λ o. o ∷ whose t words []) (none_so (t w))
whose_set t (u ∷ words) (o ∷ places) zero w h = refl
whose_set t (u ∷ words) [] (suc b) w h = ap (λ l. None ∷ l) (whose_set t words [] b w (omega arith))
whose_set t (u ∷ words) (o ∷ places) (suc b) w h =
    ap (λ l. (if t u then o else None) ∷ l) (whose_set t words places b w (omega arith))

-- a word that passes neither before nor after changes nothing
pub whose_same : (t : ℕ → Bool) (words : List ℕ) (places : List (Option BucketContent)) (b w : ℕ) → b < length words →
    t (slice_index_or words b 0) ≡ false → t w ≡ false → whose t (slice_set words b w) places ≡ whose t words places
whose_same t words places b w h e f =
    let was : bucket_at (whose t words places) b ≡ None =
    whose_at t words places b h ∙ ap (λ k. if_so k (bucket_at places b)) e in
    whose_set t words places b w h ∙ ap (λ k. slice_set (whose t words places) b (if_so k (bucket_at places b))) f
    ∙ ap (λ o. slice_set (whose t words places) b o) (sym was) ∙ set-get_or (whose t words places) b None

-- ---- seats

-- the view at a place is that of the seat there
pub seen_at : {X : Type 0} (f : X → View) (seats : List (Option X)) (n : ℕ) →
    slice_index_or (map (option_map f) seats) n None ≡ option_map f (slice_index_or seats n None)
seen_at f [] n = refl
seen_at f (o ∷ seats) zero = refl
seen_at f (o ∷ seats) (suc n) = seen_at f seats n

-- where each seat is seen as before, the views are as before
pub map_same : {X : Type 0} (f f' : X → View) (seats : List (Option X)) →
    ((i : ℕ) (x : X) → slice_index_or seats i None ≡ Some x → f' x ≡ f x) → map (option_map f') seats
    ≡ map (option_map f) seats
map_same f f' [] e = refl
map_same f f' (None ∷ seats) e = ap (λ l. None ∷ l) (map_same f f' seats (λ i x. e (suc i) x))
map_same f f' (Some y ∷ seats) e =
    ap (λ v. Some v ∷ map (option_map f') seats) (e 0 y refl) ∙ ap (λ l. Some (f y) ∷ l)
    (map_same f f' seats (λ i x. e (suc i) x))

-- where just one seat is seen otherwise, just its view is changed
pub seats_changed : {X : Type 0} (f f' : X → View) (g : View → View) (seats : List (Option X)) (n : ℕ) →
    ((i : ℕ) (x : X) → slice_index_or seats i None ≡ Some x → i ≢ n → f' x ≡ f x) →
    ((x : X) → slice_index_or seats n None ≡ Some x → f' x ≡ g (f x)) →
    map (option_map f') seats ≡ with_view n g (map (option_map f) seats)
seats_changed f f' g [] n a b = refl
seats_changed f f' g (None ∷ seats) zero a b =
    ap (λ l. None ∷ l) (map_same f f' seats (λ i x e. a (suc i) x e (λ q. omega arith)))
seats_changed f f' g (Some y ∷ seats) zero a b =
    ap (λ v. Some v ∷ map (option_map f') seats) (b y refl) ∙ ap (λ l. Some (g (f y)) ∷ l)
    (map_same f f' seats (λ i x e. a (suc i) x e (λ q. omega arith)))
seats_changed f f' g (None ∷ seats) (suc n) a b =
    ap (λ l. None ∷ l) (seats_changed f f' g seats n (λ i x e d. a (suc i) x e (λ q. d (omega (arith, q)))) b)
seats_changed f f' g (Some y ∷ seats) (suc n) a b =
    ap (λ v. Some v ∷ map (option_map f') seats) (a 0 y refl (λ q. omega arith))
    ∙ ap (λ l. Some (f y) ∷ l) (seats_changed f f' g seats n (λ i x e d. a (suc i) x e (λ q. d (omega (arith, q)))) b)
