-- What a table that is closed has left.
use Rattle.std.specs.Prelude.{◌≡◌, ℕ, zero, suc, ◌+◌, ◌<◌, ◌≤◌, ◌==◌, Bool, false, List, [], ◌∷◌, ◌++◌, map, length}
use Rattle.std.specs.Prelude.{slice_get, slice_index, slice_index_or, slice_set, Option, None, Some, IsPermutation}
use Rattle.std.specs.List.{range_with_len}
use Rattle.std.proofs.Common.{refl, sym, ◌∙◌, ap, subst, arith, eq-eqb, ne_eqb, get_or-set_other, get_or-set_same}
use Rattle.std.proofs.lemmas.List.{length-map, get_or_past}
use Rattle.std.proofs.lemmas.List.Sorted.{IsPermutation-refl, IsPermutation-sym, IsPermutation-cons}
use Rattle.std.proofs.lemmas.List.Sorted.{IsPermutation-middle, IsPermutation-trans}
use mathlib.Core.Logic.{dite}
use mathlib.Core.Option.{some, some-injective}
use native.Mathlib.Decide.{ℕ_discrete, dec_le}
use lib.ListN.{get_elem?}
use Rattle.atomic_table.specs.Table.{Final, Seen}
use Rattle.round_table.specs.declared.view.Key.{Key}
use Rattle.round_table.specs.declared.view.Hand.{Hand}
use Rattle.round_table.specs.declared.view.View.{View}
use Rattle.round_table.specs.Counts.{one, times, tally, each, claims_in, is_taken}
use Rattle.round_table.specs.Rounds.{AreParted, buckets_left}
use Rattle.round_table.specs.Workers.{all_claims}
use Rattle.round_table.specs.declared.worker.Worker.{Worker}
use Rattle.round_table.specs.Rule.{contents_of, IsRule}
use Rattle.round_table.specs.Closed.{claims_in_all, hand_of, left_if, left_at, IsEmptying}
use Rattle.round_table.proofs.Counted.{times_append, alone, within}

-- ---- lists with the same numbers

itself : (x : ℕ) → one (x == x) ≡ 1
itself x = ap one (eq-eqb x x refl)

-- a number that stands in a list parts it
found : (x : ℕ) (ys : List ℕ) → 0 < times x ys → (front : List ℕ) × (back : List ℕ) × (ys ≡ front ++ x ∷ back)
found x [] l = absurd (omega arith)
found x (y ∷ ys) l = dite (ℕ_discrete x y)
    (λ e. ([], ys, ap (λ (z : ℕ). z ∷ ys) (sym e)))
    (λ d. let q : one (x == y) ≡ 0 = ap one (ne_eqb x y d) in let r = found x ys (omega arith) in (
      y ∷ r.0,
      r.1,
      ap (λ (l : List ℕ). y ∷ l) r.2,
    ))

none_is : (ys : List ℕ) → ((x : ℕ) → times x ys ≡ 0) → [] ≡ ys
none_is [] z = refl
none_is (y ∷ ys) z = absurd (let a = z y in let b = itself y in omega arith)

-- lists in which each number stands as often are the same but for their order
pub same_counts : (xs ys : List ℕ) → ((x : ℕ) → times x xs ≡ times x ys) → IsPermutation xs ys
same_counts [] ys same = subst (IsPermutation []) (none_is ys (λ x. sym (same x))) (IsPermutation-refl [])
same_counts (x ∷ xs) ys same =
    let h = same x in
    let q = itself x in
    let f = found x ys (omega arith) in
    let front : List ℕ = f.0 in
    let back : List ℕ = f.1 in
    let rest : (z : ℕ) → times z xs ≡ times z (front ++ back) =
    λ z. let a = same z in let b : times z ys ≡ times z (front ++ x ∷ back) = ap (times z) f.2 in
    let c = times_append z front (x ∷ back) in let d = times_append z front back in omega arith in
    subst (IsPermutation (x ∷ xs)) (sym f.2)
    (IsPermutation-trans (x ∷ xs) (x ∷ (front ++ back)) (front ++ x ∷ back)
    (IsPermutation-cons x xs (front ++ back) (same_counts xs (front ++ back) rest))
    (IsPermutation-sym (front ++ x ∷ back) (x ∷ (front ++ back)) (IsPermutation-middle front x back)))

-- ---- ranges

-- a number that is counted once within a range, and else not
record IsWithin (x a n inside sum : ℕ) : Type 0 where
  pub here : a ≤ x → x < a + n → sum ≡ inside
  pub before : x < a → sum ≡ 0
  pub behind : a + n ≤ x → sum ≡ 0

in_range : (x a n : ℕ) → IsWithin x a n 1 (times x (range_with_len a n))
in_range x a zero = record { here = λ l h. absurd (omega arith); before = λ l. refl; behind = λ l. refl }
in_range x a (suc n) =
    let r = in_range x (a + 1) n in
    dite (ℕ_discrete x a)
    (λ e. let q : one (x == a) ≡ 1 = ap one (eq-eqb x a e) in let z = r.before (omega arith) in record {
      here = λ l h. omega arith;
      before = λ l. absurd (omega arith);
      behind = λ l. absurd (omega arith);
    })
    (λ d. let q : one (x == a) ≡ 0 = ap one (ne_eqb x a d) in record {
      here = λ l h. let z = r.here (omega arith) (omega arith) in omega arith;
      before = λ l. let z = r.before (omega arith) in omega arith;
      behind = λ l. let z = r.behind (omega arith) in omega arith;
    })

pub length_range : (a n : ℕ) → length (range_with_len a n) ≡ n
length_range a zero = refl
length_range a (suc n) = let r = length_range (a + 1) n in omega arith

range_more : (a n : ℕ) → range_with_len a (suc n) ≡ range_with_len a n ++ (a + n) ∷ []
range_more a zero = let q : a ≡ a + 0 = omega arith in ap (λ (x : ℕ). x ∷ []) q
range_more a (suc n) = let q : a + 1 + n ≡ a + suc n = omega arith in
    ap (λ (l : List ℕ). a ∷ l) (range_more (a + 1) n ∙ ap (λ (x : ℕ). range_with_len (a + 1) n ++ x ∷ []) q)

times_all : (b : ℕ) (hands : List Hand) → times b (claims_in_all hands) ≡ tally (claims_in b) hands
times_all b [] = refl
times_all b (h ∷ hands) = let a = times_append b h.claims
    (claims_in_all hands) in let r = times_all b hands in omega arith

tally_each : (hands : List Hand) → tally each hands ≡ length hands
tally_each [] = refl
tally_each (h ∷ hands) = let r = tally_each hands in omega arith

pub at_index : (l : List ℕ) (i x : ℕ) → get_elem? l i ≡ some x → slice_index l i ≡ x
at_index [] i x e = absurd (cc e)
at_index (y ∷ l) zero x e = some-injective y x e
at_index (y ∷ l) (suc i) x e = at_index l i x e

pub mapped_more : {X : Type 0} (g : ℕ → X) (n : ℕ) →
    map g (range_with_len 0 (n + 1)) ≡ map g (range_with_len 0 n) ++ g n ∷ []
mapped_more {X} g n =
    let p : n + 1 ≡ suc n = omega arith in
    let q : 0 + n ≡ n = omega arith in
    ap (λ (j : ℕ). map g (range_with_len 0 j)) p ∙ ap (map g) (range_more 0 n)
    ∙ ap (λ (j : ℕ). map g (range_with_len 0 n ++ j ∷ [])) q ∙ pushed (range_with_len 0 n)
  where
    pushed : (l : List ℕ) → map g (l ++ n ∷ []) ≡ map g l ++ g n ∷ []
    pushed [] = refl
    pushed (x ∷ l) = ap (λ (m : List X). g x ∷ m) (pushed l)

module _ {T : Type 0} where
  abbrev there : Option T → ℕ
  there None = 0
  there (Some c) = 1

  in_left : (g : ℕ → Option T) (x a n : ℕ) →
      IsWithin x a n (there (g x)) (times x (buckets_left a (map g (range_with_len a n))))
  in_left g x a zero = record { here = λ l h. absurd (omega arith); before = λ l. refl; behind = λ l. refl }
  in_left g x a (suc n) = by (in_left g x (a + 1) n) (g a) refl
    where
      by : IsWithin x (a + 1) n (there (g x)) (times x (buckets_left (a + 1) (map g (range_with_len (a + 1) n)))) →
          (o : Option T) → g a ≡ o
          → IsWithin x a (suc n) (there (g x)) (times x (buckets_left a (o ∷ map g (range_with_len (a + 1) n))))
      by r None e =
          dite (ℕ_discrete x a)
          (λ q. let t : there (g x) ≡ 0 = ap (λ (y : ℕ). there (g y)) q ∙ ap there e in
          let z = r.before (omega arith) in record {
            here = λ l h. omega arith;
            before = λ l. absurd (omega arith);
            behind = λ l. absurd (omega arith);
          })
          (λ d. record {
            here = λ l h. r.here (omega arith) (omega arith);
            before = λ l. r.before (omega arith);
            behind = λ l. r.behind (omega arith);
          })
      by r (Some c) e =
          dite (ℕ_discrete x a)
          (λ q. let t : there (g x) ≡ 1 = ap (λ (y : ℕ). there (g y)) q ∙ ap there e in
          let u : one (x == a) ≡ 1 = ap one (eq-eqb x a q) in
          let z = r.before (omega arith) in record {
            here = λ l h. omega arith;
            before = λ l. absurd (omega arith);
            behind = λ l. absurd (omega arith);
          })
          (λ d. let u : one (x == a) ≡ 0 = ap one (ne_eqb x a d) in record {
            here = λ l h. let z = r.here (omega arith) (omega arith) in omega arith;
            before = λ l. let z = r.before (omega arith) in omega arith;
            behind = λ l. let z = r.behind (omega arith) in omega arith;
          })

  at_mapped : (g : ℕ → Option T) (a n b : ℕ) (o : Option T) → slice_get (map g (range_with_len a n)) b ≡ Some o →
      g (a + b) ≡ o
  at_mapped g a zero b o e = absurd (cc e)
  at_mapped g a (suc n) zero o e = let q : a + 0 ≡ a = omega arith in ap g q ∙ one_value (g a) o e
    where
      one_value : (x y : Option T) → ◌≡◌ {A = Option (Option T)} (Some x) (Some y) → x ≡ y
      one_value x y e = cc
  at_mapped g a (suc n) (suc b) o e =
      let q : a + suc b ≡ a + 1 + b = omega arith in ap g q ∙ at_mapped g (a + 1) n b o e

  taken_or_left : (w : ℕ) (o : Option T) (d : T) → o ≡ Some d → is_taken w + there (left_if w o) ≡ 1
  taken_or_left zero o d e = let p : there o ≡ 1 = ap there e in omega arith
  taken_or_left (suc n) o d e = refl

  was_there : (w : ℕ) (o : Option T) (c : T) → left_if w o ≡ Some c → o ≡ Some c
  was_there zero o c e = e
  was_there (suc n) o c e = absurd (cc e)

  -- What stands in the slots of which the words are 0, and the claims that the words tell, are all that there was.
  pub parted : (contents : List T) (words claims : List ℕ) (rest : List (Option T)) → length words ≡ length contents →
      ((b : ℕ) → times b claims ≡ is_taken (slice_index words b))
      → rest ≡ map (left_at words contents) (range_with_len 0 (length contents)) → AreParted contents claims rest
  parted contents words claims rest wide taken is =
      let n : ℕ = length contents in
      let g : ℕ → Option T = left_at words contents in
      record {
        count = ap length is ∙ length-map (range_with_len 0 n) g ∙ length_range 0 n;
        buckets = same_counts (range_with_len 0 n) (claims ++ buckets_left 0 rest) (λ x.
            let a = times_append x claims (buckets_left 0 rest) in
            let b : times x (buckets_left 0 rest) ≡ times x (buckets_left 0 (map g (range_with_len 0 n))) =
            ap (λ (l : List (Option T)). times x (buckets_left 0 l)) is in
            let r = in_range x 0 n in
            let l = in_left g x 0 n in
            let t = taken x in
            dite (dec_le (suc x) n)
            (λ h.
            let d = within contents x h in
            let s = taken_or_left (slice_index words x) (slice_get contents x) d.0 d.1 in
            let p = r.here (omega arith) (omega arith) in
            let q = l.here (omega arith) (omega arith) in
            omega arith)
            (λ h.
            let w : slice_index words x ≡ 0 = get_or_past words x 0 (omega arith) in
            let s : is_taken (slice_index words x) ≡ 0 = ap is_taken w in
            let p = r.behind (omega arith) in
            let q = l.behind (omega arith) in
            omega arith));
        left = λ b c e.
            was_there (slice_index words b) (slice_get contents b) c
            (let q : b ≡ 0 + b = omega arith in
            ap g q ∙ at_mapped g 0 n b (Some c) (ap (λ (l : List (Option T)). slice_get l b) (sym is) ∙ e));
      }

  pub claims_same : {S : Type 0} (workers : List (Worker T S)) →
      claims_in_all (map hand_of workers) ≡ all_claims workers
  claims_same [] = refl
  claims_same (w ∷ workers) = ap (λ (l : List ℕ). w.pass.claims ++ l) (claims_same workers)

  -- what a closed table shows
  pub record IsShut (k : Key T) (hands : List Hand) (words : List ℕ) (slots : List (Option T)) : Type 0 where
    pub wide : length words ≡ length (contents_of k)
    pub taken : (b : ℕ) → times b (claims_in_all hands) ≡ is_taken (slice_index words b)
    pub home : (b : ℕ) → b < length (contents_of k) → slice_index words b ≡ 0 →
        get_elem? slots b ≡ some (slice_get (contents_of k) b)

  pub shut : (k : Key T) (id : ℕ) (v : View T) (words : List ℕ) (slots : List (Option T)) →
      Final (Seen (IsRule k) id v) words slots → length v.hands ≡ k.workers → IsShut k v.hands words slots
  shut k id v words slots f all =
      let s = f.0 in
      let r = f.1.0 in
      let at = f.1.1 in
      let e = r.count in
      let c = tally_each v.hands in
      let word : (b : ℕ) → slice_index s.words b ≡ slice_index words b =
      λ b. ap (λ (l : List ℕ). slice_index l b) f.2 in
      record {
        wide = ap length (sym f.2) ∙ r.words;
        taken = λ b. times_all b v.hands
            ∙ sym (alone (claims_in b) each (λ h z. absurd (omega arith)) s.views id v at (omega arith))
            ∙ r.once b ∙ ap is_taken (word b);
        home = λ b l z. f.4 b (slice_get (contents_of k) b) (r.home b l (word b ∙ z));
      }

  -- ---- the loop that takes out of the slots

  item_is : (w : ℕ) (x o : Option T) → (w ≡ 0 → x ≡ o) → left_if w x ≡ left_if w o
  item_is zero x o e = e refl
  item_is (suc n) x o e = refl

  -- one slot more
  pub empties_on : (k : Key T) (hands : List Hand) (words words' words'' : List ℕ) (slots slots' slots'' : List
      (Option T))
      (len len' len'' : ℕ) (filled filled' : List Bool) (rest rest' : List (Option T)) (b word : ℕ) (slot : Option T) →
      IsShut k hands words slots → b < length (contents_of k) → len ≡ length (contents_of k) → len' ≡ length filled →
      IsEmptying words words' slots slots' len len' filled (contents_of k) rest b
      → get_elem? slots' b ≡ some slot → get_elem? words'' b ≡ some word → words'' ≡ words' → slots'' ≡ slots' →
      len'' ≡ len' →
      filled' ≡ slice_set filled b false → rest' ≡ rest ++ left_if word slot ∷ []
      → IsEmptying words words'' slots slots'' len len'' filled' (contents_of k) rest' (b + 1)
  empties_on k hands words words' words'' slots slots' slots'' len len' len'' filled filled' rest rest' b word slot
      sh inside count marks i got read same_words same_slots same_len marked pushed =
      let same = i.len_is in
      let in_marks : b < length filled = omega arith in
      let word_is : slice_index words b ≡ word = ap (λ (l : List ℕ). slice_index l b) (sym (same_words ∙ i.words_are))
      ∙ at_index words'' b word read in
      let slot_is : word ≡ 0 → slot ≡ slice_get (contents_of k) b =
      λ z. some-injective slot (slice_get (contents_of k) b) (sym got ∙ ap (λ (l : List
      (Option T)). get_elem? l b) i.slots_are
      ∙ sh.home b inside (word_is ∙ z)) in
      record {
        words_are = same_words ∙ i.words_are;
        slots_are = same_slots ∙ i.slots_are;
        len_is = same_len ∙ i.len_is;
        taken = λ j l. ap (λ (f : List Bool). slice_index_or f j false) marked ∙ dite (ℕ_discrete j b)
            (λ e. ap (λ (x : ℕ). slice_index_or
            (slice_set filled b false) x false) e ∙ get_or-set_same filled b false false in_marks)
            (λ ne. get_or-set_other filled b j false false ne ∙ i.taken j (omega arith));
        full = λ j l h. ap (λ (f : List Bool). slice_index_or f j false) marked
            ∙ get_or-set_other filled b j false false (λ e. omega arith) ∙ i.full j (omega arith) h;
        rest_is = pushed ∙ (λ t. i.rest_is t ++ (item_is word slot (slice_get (contents_of k) b) slot_is
            ∙ ap (λ (w : ℕ). left_if w (slice_get (contents_of k) b)) (sym word_is)) t ∷ [])
            ∙ sym (mapped_more (left_at words (contents_of k)) b);
      }

  -- how many slots were taken out of
  pub emptied_count : (words words' : List ℕ) (slots slots' : List (Option T)) (len len' : ℕ) (filled : List Bool)
      (contents : List T) (rest : List (Option T)) (b : ℕ) →
      IsEmptying words words' slots slots' len len' filled contents rest b →
      length rest ≡ b
  emptied_count words words' slots slots' len len' filled contents rest b i =
      ap length i.rest_is ∙ length-map (range_with_len 0 b) (left_at words contents) ∙ length_range 0 b
