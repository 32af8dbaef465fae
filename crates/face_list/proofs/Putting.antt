-- Laws of the loops that put numbers under keys, over plain variables: what holds as `put_numbers` passes items, and
-- as `put_lists` passes keys.
use Rattle.std.proofs.Common.{◌≡◌, sym, ap, subst, ◌∙◌, ℕ, ◌+◌, ◌<◌, ◌≤◌, ◌⊎◌, inl, inr, List, [], ◌∷◌, ◌++◌, map, take}
use Rattle.std.proofs.Common.{drop, length, get_or, arith, refl, append_assoc, append-nil}
use Rattle.std.specs.List.Sorted.{IsStrictlySortedBy}
use Rattle.std.specs.Cmp.{IsTotalOrder}
use Rattle.std.specs.declared.cmp.Ordering.{Ordering}
use Rattle.std.specs.declared.cmp.Ordering.TheVariants.{Less, Equal, Greater}
use Rattle.std.proofs.lemmas.List.{take_more, drop_more, take_all, map-append, length-append}
use Rattle.list_laws.proofs.Cited.{before_others, from_append}
use Rattle.point_order.specs.Sets.{IsIn}
use Rattle.face_list.specs.Gather.{item_cmp, numbers_of}
use Rattle.face_list.specs.Tables.{AreStops, stretches}
use Rattle.face_list.proofs.Gathering.{other_key, same_key, none_behind, before_later, sorted_rest, end_joined}
use Rattle.face_list.proofs.Gathering.{end_none, number_of_item}
use Rattle.face_list.proofs.Stretches.{one_more, stops_more}

-- ---- items that are passed for one key

-- the numbers so far and those of the items that are left are those of the key, and what was passed over is of no
-- later key
pub record IsPut {K : Type 0} (cmp : K → K → Ordering) (old now : List ℕ) (items rest : List (K × ℕ)) (key : K) : Type 0
  where
    pub numbers : now ++ numbers_of cmp rest key ≡ old ++ numbers_of cmp items key
    pub order : IsStrictlySortedBy (item_cmp cmp) rest
    pub later : (k : K) → cmp key k ≡ Less → numbers_of cmp rest k ≡ numbers_of cmp items k

module _ {K : Type 0} (cmp : K → K → Ordering) (o : IsTotalOrder cmp) (old now : List ℕ) (items rest : List (K × ℕ))
    (key : K) (first : K × ℕ) (others : List (K × ℕ))
    (split : rest ≡ first ∷ others) (put : IsPut cmp old now items rest key) where
  -- the items that are left, with their first one
  here : IsPut cmp old now items (first ∷ others) key
  here = subst (λ l. IsPut cmp old now items l key) split put

  -- an item of an earlier key is passed over
  pub put_passed : cmp first.0 key ≡ Less → IsPut cmp old now items others key
  put_passed e = record {
    numbers = ap (λ l. now ++ l) (sym (other_key cmp first others key Less e refl)) ∙ here.numbers;
    order = sorted_rest cmp first others here.order;
    later = λ k h. sym (other_key cmp first others k Less (before_later cmp o first.0 key k (inl e) h) refl)
        ∙ here.later k h;
  }

  -- the number of one of the key is put
  pub put_own : (new : List ℕ) → new ≡ now ++ first.1 ∷ [] → cmp first.0 key ≡ Equal →
      IsPut cmp old new items others key
  put_own new pushed e = record {
    numbers = ap (λ l. l ++ numbers_of cmp others key) pushed ∙ end_joined now first.1 (numbers_of cmp others key)
        ∙ ap (λ l. now ++ l) (sym (same_key cmp first others key e)) ∙ here.numbers;
    order = sorted_rest cmp first others here.order;
    later = λ k h. sym (other_key cmp first others k Less (before_later cmp o first.0 key k (inr e) h) refl)
        ∙ here.later k h;
  }

  -- at one of a later key all are put
  pub put_all : cmp first.0 key ≡ Greater → now ≡ old ++ numbers_of cmp items key
  put_all e = end_none now (numbers_of cmp (first ∷ others) key) (none_behind cmp o first others key here.order e)
      ∙ here.numbers

-- ---- keys that are passed

-- The keys so far have their stretches, behind those that were there before, and the items that are left are those of
-- the keys that are left.
pub record IsListed {K : Type 0} (cmp : K → K → Ordering) (items rest : List (K × ℕ)) (keys : List K) (n : ℕ)
    (before old ended put : List ℕ) : Type 0 where
  pub order : IsStrictlySortedBy (item_cmp cmp) rest
  pub left : (k : K) → IsIn k (drop n keys) → numbers_of cmp rest k ≡ numbers_of cmp items k
  pub ends : length ended ≡ length before + n
  pub stops : AreStops 0 (length put) ended
  pub lists : stretches put 0 ended ≡ stretches old 0 before ++ map (numbers_of cmp items) (take n keys)
  pub numbers : (i : ℕ) → IsIn i put → IsIn i old ⊎ IsIn i (map (λ j. j.1) items)

-- a key more
pub listed_more :
    {K : Type 0} (cmp : K → K → Ordering) (items rest next : List (K × ℕ)) (keys : List K) (n : ℕ)
    (before old ends numbers ends' numbers' : List ℕ) (key : K) (count : ℕ) →
    IsStrictlySortedBy cmp keys → n < length keys → key ≡ get_or keys n key →
    IsListed cmp items rest keys n before old ends numbers →
    numbers' ≡ numbers ++ numbers_of cmp rest key → IsStrictlySortedBy (item_cmp cmp) next →
    ((k : K) → cmp key k ≡ Less → numbers_of cmp next k ≡ numbers_of cmp rest k) →
    count ≡ length numbers' → ends' ≡ ends ++ count ∷ [] → IsListed cmp items next keys (n + 1) before old ends'
    numbers'
listed_more cmp items rest next keys n before old ends numbers ends' numbers' key count sorted h is was grown order
    later counted ended =
    let more = numbers_of cmp items key in
    let d : drop n keys ≡ key ∷ drop (n + 1) keys = drop_more keys n key h ∙ ap (λ v. v ∷ drop (n + 1) keys) (sym is) in
    let t : take (n + 1) keys ≡ take n keys ++ key ∷ [] = take_more keys n key h
    ∙ ap (λ v. take n keys ++ v ∷ []) (sym is) in
    let put : numbers' ≡ numbers ++ more = grown ∙ ap (λ l. numbers ++ l)
    (was.left key (subst (IsIn key) (sym d) (inl refl))) in
    let end : count ≡ length numbers + length more = counted ∙ ap length put ∙ length-append numbers more in
    let below : length numbers ≤ length numbers + length more = omega arith in
    let w = was.ends in
    record {
      order = order;
      left = λ k m. later k (before_others cmp keys n key k sorted d m) ∙ was.left k (subst (IsIn k) (sym d) (inr m));
      ends = ap length ended ∙ length-append ends (count ∷ []) ∙ omega (arith, w);
      stops = rw (ended, put, length-append numbers more, end) (stops_more 0 (length numbers)
          (length numbers + length more) ends was.stops below);
      lists = rw (ended, put, t) (one_more numbers more 0 count ends was.stops end ∙ ap (λ l. l ++ more ∷ []) was.lists
          ∙ append_assoc (stretches old 0 before) (map (numbers_of cmp items) (take n keys)) (more ∷ [])
          ∙ ap (λ l. stretches old 0 before ++ l) (sym (map-append (numbers_of cmp items) (take n keys) (key ∷ []))));
      numbers = λ k m. elim (from_append k numbers more (subst (IsIn k) put m))
          [ inl i ↦ was.numbers k i | inr i ↦ inr (number_of_item cmp items key k i) ];
    }

-- of the first no elements there is none
take_none : {K : Type 0} (l : List K) → take 0 l ≡ []
take_none [] = refl
take_none (x ∷ l) = refl

-- no key yet
pub listed_none :
    {K : Type 0} (cmp : K → K → Ordering) (items : List (K × ℕ)) (keys : List K) (before old : List ℕ) →
    IsStrictlySortedBy (item_cmp cmp) items → AreStops 0 (length old) before →
    IsListed cmp items items keys 0 before old before old
listed_none cmp items keys before old sorted stops = record {
  order = sorted;
  left = λ k m. refl;
  ends = omega arith;
  stops = stops;
  lists = sym (append-nil (stretches old 0 before)) ∙ ap (λ v. stretches old 0 before ++ map (numbers_of cmp items) v)
      (sym (take_none keys));
  numbers = λ i m. inl m;
}

-- all keys
pub listed_all :
    {K : Type 0} (cmp : K → K → Ordering) (items rest : List (K × ℕ)) (keys : List K) (n : ℕ)
    (before old ended put : List ℕ) → length keys ≤ n →
    IsListed cmp items rest keys n before old ended put → stretches put 0 ended ≡ stretches old 0 before
    ++ map (numbers_of cmp items) keys
listed_all cmp items rest keys n before old ended put h was = was.lists
    ∙ ap (λ v. stretches old 0 before ++ map (numbers_of cmp items) v) (take_all n keys h)

-- once all keys have passed there is a stop for each
pub ended_all :
    {K : Type 0} (keys : List K) (n : ℕ) (before ended : List ℕ) → length keys ≤ n → n ≤ length keys →
    length ended ≡ length before + n → length ended ≡ length before + length keys
ended_all keys n before ended h k e = omega (arith, e)
