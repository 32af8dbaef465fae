-- Steps on the table as events of its board.
use Rattle.std.specs.Prelude.{◌≡◌, ◌≢◌, ℕ, zero, suc, ◌+◌, ◌<◌, true, cond, List, [], ◌∷◌, ◌++◌, map, drop, Option}
use Rattle.std.specs.Prelude.{None, Some, slice_index_or, slice_set, ltb}
use Rattle.std.specs.List.{range_with_len}
use Rattle.std.specs.Option.{option_map, option_map_or}
use Rattle.std.proofs.Common.{refl, sym, ◌∙◌, ap, subst, inl, inr, arith}
use Rattle.std.proofs.lemmas.Bool.Decides.{nat_tests}
use mathlib.Core.Logic.{dite}
use mathlib.Core.Option as maybe
use mathlib.Core.Option.{some, none, some-injective, some-ne-none}
use native.Mathlib.Decide.{ℕ_discrete}
use lib.ListN.{get_elem?}
use lib.Seq.{map-set}
use Rattle.atomic_table.specs.Table.{State, takes, stepped}
use Rattle.atomic_table.proofs.Lists.{at_set, set_else}
use Rattle.std.proofs.lemmas.List.{map-append}
use Rattle.list_laws.specs.Lists.{AreDistinct}
use Rattle.list_laws.proofs.Cited.{in_both, rest_distinct}
use Rattle.point_order.specs.Sets.{IsIn}
use Rattle.cell_store.specs.Buckets.{BucketContent, bucket_at}
use Rattle.claim_rule.specs.Boards.{BoardState, view_at}
use Rattle.claim_rule.specs.Boards as board
use Rattle.claim_rule.specs.Events.{claimed}
use Rattle.claim_table.specs.declared.view.Key.{Key}
use Rattle.claim_table.specs.declared.view.View.{View}
use Rattle.claim_table.specs.declared.view.Child.{Child}
use Rattle.claim_table.specs.Faces.{buckets_of, plain, plain_child, passes_of, passes_in, at_home, board_of}
use Rattle.claim_table.specs.Faces.{view_numbered}
use Rattle.claim_table.specs.Plays.{claims}
use Rattle.claim_table.proofs.LivePasses.{passes_from, passes_to, in_firsts, numbered_is, at_place, place_set}

-- a table at a moment: its words, its slots and the views of its seats
abbrev pub Table : Type 0
Table = State (Option BucketContent) View

-- a live pass, as a board shows it
abbrev pub Live : Type 0
Live = board.View

-- the numbers of some passes
abbrev pub firsts : List Live → List ℕ
firsts l = map (λ (v : Live). v.first) l

-- those of two lists
pub firsts_append : (l m : List Live) → firsts (l ++ m) ≡ firsts l ++ firsts m
firsts_append l m = map-append (λ (v : Live). v.first) l m

-- the passes of a seat with a part and no child are its own
pub alone : (count : ℕ) (v : View) → 0 < v.parts → v.child ≡ None → passes_of count v ≡ plain v ∷ []
alone count v live lone =
    let t : ltb 0 v.parts ≡ true = grind (arith, nat_tests) in
    (λ i. cond (t i) (plain v ∷ []) [] ++ option_map_or (λ c. plain_child count c ∷ []) (lone i) [])

-- and with a child, both
pub with_child : (count : ℕ) (v : View) (c : Child) → 0 < v.parts → v.child ≡ Some c →
    passes_of count v ≡ plain v ∷ plain_child count c ∷ []
with_child count v c live some_child =
    let t : ltb 0 v.parts ≡ true = grind (arith, nat_tests) in
    (λ i. cond (t i) (plain v ∷ []) [] ++ option_map_or (λ d. plain_child count d ∷ []) (some_child i) [])

-- one seat's view is set
pub others_to : (count : ℕ) (views : List View) (id : ℕ) (v w : View) (u : Live) → get_elem? views id ≡ some v →
    ¬ (IsIn u (passes_of count v)) → IsIn u (passes_in count views) → IsIn u (passes_in count (slice_set views id w))
others_to count views id v w u at lacks i =
    let r = passes_from count views u i in
    dite (ℕ_discrete r.seat id)
    (λ e. absurd (lacks (subst (λ (x : View). IsIn u (passes_of count x))
    (some-injective r.view v (sym r.there ∙ ap (get_elem? views) e ∙ at)) r.is_of)))
    (λ n. passes_to count (slice_set views id w) r.seat r.view u (set_else views id r.seat w n ∙ r.there) r.is_of)

-- a pass that is none of the seat's new ones was there before
pub others_from : (count : ℕ) (views : List View) (id : ℕ) (w : View) (u : Live) → ¬ (IsIn u (passes_of count w)) →
    IsIn u (passes_in count (slice_set views id w)) → IsIn u (passes_in count views)
others_from count views id w u lacks i =
    let r = passes_from count (slice_set views id w) u i in
    elim (at_set views id r.seat w r.view r.there) [
      | inl k ↦ absurd (lacks (subst (λ (x : View). IsIn u (passes_of count x)) (sym k.1) r.is_of))
      | inr k ↦ passes_to count views r.seat r.view u k.1 r.is_of
    ]

-- what is set in a list stands there
pub set_at : {A : Type 0} (l : List A) (i : ℕ) (a b : A) → get_elem? l i ≡ some a → get_elem? (slice_set l i b) i
    ≡ some b
set_at [] i a b e = absurd (some-ne-none a (sym e))
set_at (x ∷ xs) zero a b e = refl
set_at (x ∷ xs) (suc i) a b e = set_at xs i a b e

-- a view that has the same numbers as the one before leaves the numbers of all
pub same_firsts : (count : ℕ) (views : List View) (id : ℕ) (v w : View) → get_elem? views id ≡ some v →
    firsts (passes_of count w) ≡ firsts (passes_of count v) → firsts (passes_in count (slice_set views id w))
    ≡ firsts (passes_in count views)
same_firsts count [] id v w at e = refl
same_firsts count (x ∷ views) zero v w at e =
    let is : x ≡ v = some-injective x v at in
    firsts_append (passes_of count w) (passes_in count views) ∙ ap (λ (l : List ℕ). l ++ firsts (passes_in count views))
    (e ∙ ap (λ (y : View). firsts (passes_of count y)) (sym is))
    ∙ sym (firsts_append (passes_of count x) (passes_in count views))
same_firsts count (x ∷ views) (suc id) v w at e =
    firsts_append (passes_of count x) (passes_in count (slice_set views id w))
    ∙ ap (λ (l : List ℕ). firsts (passes_of count x) ++ l) (same_firsts count views id v w at e)
    ∙ sym (firsts_append (passes_of count x) (passes_in count views))

-- a live pass of a seat is shown at its number
pub shown : (k : Key) (s : Table) (v : Live) → AreDistinct (firsts (passes_in (buckets_of k) s.views)) →
    v.first < k.parts → IsIn v (passes_in (buckets_of k) s.views) → view_at (board_of k s) v.first ≡ Some v
shown k s v d b i =
    at_place k.parts (passes_in (buckets_of k) s.views) v.first b ∙ numbered_is (passes_in (buckets_of k) s.views) v d i

-- one pass is put for another with its number
pub views_set : (k : Key) (s : Table) (id : ℕ) (v w : View) → AreDistinct (firsts (passes_in (buckets_of k) s.views)) →
    get_elem? s.views id ≡ some v → 0 < v.parts → 0 < w.parts → v.child ≡ None → w.child ≡ None → w.first ≡ v.first →
    v.first < k.parts
    → map (λ n. view_numbered n (passes_in (buckets_of k) (slice_set s.views id w))) (range_with_len 0 k.parts)
    ≡ slice_set (map (λ n. view_numbered n (passes_in (buckets_of k) s.views)) (range_with_len 0 k.parts)) v.first
    (Some (plain w))
views_set k s id v w d at live live' lone lone' same b =
    let count = buckets_of k in
    let views' : List View = slice_set s.views id w in
    let is_v : passes_of count v ≡ plain v ∷ [] = alone count v live lone in
    let is_w : passes_of count w ≡ plain w ∷ [] = alone count w live' lone' in
    let eq : firsts (passes_in count views') ≡ firsts (passes_in count s.views) =
    same_firsts count s.views id v w at (ap firsts is_w ∙ (λ i. same i ∷ []) ∙ sym (ap firsts is_v)) in
    let d' : AreDistinct (firsts (passes_in count views')) = subst (λ (l : List ℕ). AreDistinct l) (sym eq) d in
    let not_v : (u : Live) → u.first ≢ w.first → ¬ (IsIn u (passes_of count v)) =
    λ u n i. elim (subst (λ (l : List Live). IsIn u l) is_v i) [
      | inl e ↦ n (ap (λ (x : Live). x.first) (sym e) ∙ sym same)
      | inr e ↦ e
    ] in
    let not_w : (u : Live) → u.first ≢ w.first → ¬ (IsIn u (passes_of count w)) =
    λ u n i. elim (subst (λ (l : List Live). IsIn u l) is_w i) [
      | inl e ↦ n (ap (λ (x : Live). x.first) (sym e))
      | inr e ↦ e
    ] in
    let r = place_set k.parts (passes_in count s.views) (passes_in count views') (plain w) d d'
    (subst (λ (x : ℕ). x < k.parts) (sym same) b)
    (passes_to count views' id w (plain w) (set_at s.views id v w at)
    (subst (λ (l : List Live). IsIn (plain w) l) (sym is_w) (inl refl)))
    (λ u n i. others_to count s.views id v w u at (not_v u n) i)
    (λ u n i. others_from count s.views id w u (not_w u n) i) in
    r ∙ ap (λ (x : ℕ). slice_set (map (λ n. view_numbered n (passes_in count s.views)) (range_with_len 0 k.parts)) x
    (Some (plain w))) same

-- ---- seats that differ

-- passes of two seats have two numbers
pub seats_differ : (count : ℕ) (views : List View) (i j : ℕ) (v u : View) (x y : Live) → i ≢ j →
    get_elem? views i ≡ some v → get_elem? views j ≡ some u → IsIn x (passes_of count v) → IsIn y (passes_of count u) →
    AreDistinct (firsts (passes_in count views)) → x.first ≢ y.first
seats_differ count [] i j v u x y n a b p q d e = absurd (some-ne-none v (sym a))
seats_differ count (z ∷ views) zero zero v u x y n a b p q d e = n refl
seats_differ count (z ∷ views) zero (suc j) v u x y n a b p q d e =
    in_both (firsts (passes_of count z)) (firsts (passes_in count views)) x.first
    (subst (λ (l : List ℕ). AreDistinct l) (firsts_append (passes_of count z) (passes_in count views)) d)
    (in_firsts (passes_of count z) x (subst (λ (t : View). IsIn x (passes_of count t)) (sym (some-injective z v a)) p))
    (subst (λ (k : ℕ). IsIn k (firsts (passes_in count views))) (sym e)
    (in_firsts (passes_in count views) y (passes_to count views j u y b q)))
seats_differ count (z ∷ views) (suc i) zero v u x y n a b p q d e =
    in_both (firsts (passes_of count z)) (firsts (passes_in count views)) y.first
    (subst (λ (l : List ℕ). AreDistinct l) (firsts_append (passes_of count z) (passes_in count views)) d)
    (in_firsts (passes_of count z) y (subst (λ (t : View). IsIn y (passes_of count t)) (sym (some-injective z u b)) q))
    (subst (λ (k : ℕ). IsIn k (firsts (passes_in count views))) e
    (in_firsts (passes_in count views) x (passes_to count views i v x a p)))
seats_differ count (z ∷ views) (suc i) (suc j) v u x y n a b p q d e =
    seats_differ count views i j v u x y (λ f. n (ap suc f)) a b p q
    (rest_distinct (firsts (passes_of count z)) (firsts (passes_in count views))
    (subst (λ (l : List ℕ). AreDistinct l) (firsts_append (passes_of count z) (passes_in count views)) d)) e

-- a live seat's own pass
pub own_pass : (count : ℕ) (u : View) → 0 < u.parts → IsIn (plain u) (passes_of count u)
own_pass count u live =
    let t : ltb 0 u.parts ≡ true = grind (arith, nat_tests) in
    subst (λ (l : List Live). IsIn (plain u) (l ++ option_map_or (λ c. plain_child count c ∷ []) u.child []))
    (λ i. cond (sym t i) (plain u ∷ []) []) (inl refl)

-- ---- words and slots

-- setting the word of a bucket sets it among the words behind the ticket
pub word_behind : (words : List ℕ) (b x : ℕ) → drop 1 (slice_set words (b + 1) x) ≡ slice_set (drop 1 words) b x
word_behind [] b x = refl
word_behind (w ∷ words) b x =
    let q : b + 1 ≡ suc b = omega arith in ap (λ (i : ℕ). drop 1 (slice_set (w ∷ words) i x)) q

-- and leaves the ticket
pub first_word : (words : List ℕ) (b x : ℕ) → slice_index_or (slice_set words (b + 1) x) 0 0 ≡ slice_index_or words 0 0
first_word [] b x = refl
first_word (w ∷ words) b x =
    let q : b + 1 ≡ suc b = omega arith in ap (λ (i : ℕ). slice_index_or (slice_set (w ∷ words) i x) 0 0) q

-- a slot with a bucket in it has the bucket at home
home_is : (homes : List (maybe.Option (Option BucketContent))) (b : ℕ) (o : Option BucketContent) →
    get_elem? homes b ≡ some (some o) → bucket_at (map at_home homes) b ≡ o
home_is [] b o e = absurd (some-ne-none (some o) (sym e))
home_is (x ∷ homes) zero o e = ap at_home (some-injective x (some o) e)
home_is (x ∷ homes) (suc b) o e = home_is homes b o e

-- ---- a claim

-- a claim that finds 0 is the event
pub claim_is_event : (k : Key) (s : Table) (id b : ℕ) (v : View) (c : BucketContent)
    (cs : List (ℕ × Option BucketContent)) → AreDistinct (firsts (passes_in (buckets_of k) s.views)) →
    get_elem? s.views id ≡ some v → 0 < v.parts → v.child ≡ None → v.first < k.parts →
    get_elem? s.homes b ≡ some (some (Some c))
    → board_of k (stepped s (b + 1) (v.first + 1) id cs (claims v b c) (takes b (Some c)))
    ≡ claimed (board_of k s) v.first b
claim_is_event k s id b v c cs d at live lone below there =
    let count = buckets_of k in
    let old = board_of k s in
    let w : View = claims v b c in
    let views = views_set k s id v w d at live live lone lone refl below in
    let words = word_behind s.words b (v.first + 1) in
    let ticket = first_word s.words b (v.first + 1) in
    let homes = map-set at_home s.homes b none in
    let here : bucket_at old.homes b ≡ Some c = home_is s.homes b (Some c) there in
    let is_v : passes_of count v ≡ plain v ∷ [] = alone count v live lone in
    let shows : view_at old v.first ≡ Some (plain v) = shown k s (plain v) d below
    (passes_to count s.views id v (plain v) at (subst (λ (l : List Live). IsIn (plain v) l) (sym is_v)
    (inl refl))) in
    let new : Option Live → Option BucketContent → Option Live =
    λ o x. option_map (λ (u : Live). record u { held = slice_set u.held b x }) o in
    (λ i. record old { ticket = ticket i; words = words i; homes = homes i; views = views i })
    ∙ (λ i. record old {
      words = slice_set old.words b (v.first + 1);
      homes = slice_set old.homes b None;
      views = slice_set old.views v.first (new (sym shows i) (sym here i));
    })
