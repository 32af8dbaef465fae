-- A claim keeps the rule.
use Rattle.std.specs.Prelude.{◌≡◌, ◌≢◌, ℕ, zero, suc, ◌+◌, ◌<◌, List, [], ◌∷◌, ◌++◌, map, drop, Option, None, Some}
use Rattle.std.specs.Prelude.{length, slice_index, slice_index_or, slice_set}
use Rattle.std.proofs.Common.{refl, sym, ◌∙◌, ap, subst, inl, inr, arith, get_or-set_other, get_or-set_same, length-set}
use mathlib.Core.Logic.{dite}
use mathlib.Core.Option as maybe
use mathlib.Core.Option.{some, none, some-injective, some-ne-none}
use native.Mathlib.Decide.{ℕ_discrete}
use lib.ListN.{get_elem?}
use lib.Seq.{set-get_or}
use Rattle.atomic_table.specs.Table.{step, Act, takes, stepped, carried_after, Valid}
use Rattle.atomic_table.proofs.Lists.{at_set}
use Rattle.list_laws.specs.Lists.{AreDistinct}
use Rattle.list_laws.proofs.Cited.{all_of_each, distinct_push, each_of_all, in_snoc, is_there, none_or, none_there}
use Rattle.list_laws.proofs.Cited.{same_there, snoc_new, snoc_old, some_of}
use Rattle.point_order.specs.Sets.{IsIn}
use Rattle.edit_history.specs.declared.history.Entry.{Entry}
use Rattle.cell_store.specs.Buckets.{BucketContent, bucket_at}
use Rattle.cell_store.specs.Shares.{Stands}
use Rattle.claim_rule.specs.Boards.{BoardState, word_of, view_at, in_hand_of}
use Rattle.claim_rule.specs.Good.{IsGood, AreSharesOf}
use Rattle.claim_rule.specs.Events.{claimed}
use Rattle.claim_rule.proofs.Cited.{claim_keeps, stands_for}
use Rattle.claim_table.specs.declared.view.Key.{Key}
use Rattle.claim_table.specs.declared.view.View.{View}
use Rattle.claim_table.specs.declared.view.Act.TheVariants.{Claim}
use Rattle.claim_table.specs.Faces.{buckets_of, plain, passes_of, passes_in, at_home, board_of}
use Rattle.claim_table.specs.Trails.{in_hand}
use Rattle.claim_table.specs.Rule.{IsSeatInOrder, IsRule, Rule}
use Rattle.claim_table.specs.Plays.{Seated, claims, Claimed}
use Rattle.claim_table.proofs.LivePasses.{passes_to}
use Rattle.claim_table.proofs.Boarded.{Table, Live, firsts, alone, shown, same_firsts, others_from, claim_is_event}
use Rattle.claim_table.proofs.Trailed.{in_hand_snoc, steps_snoc}
use Rattle.claim_table.specs.Reached.{IsLedTo}
use Rattle.claim_table.proofs.Reached.{IsOneSet, reached_claim}

-- ---- what the rule says of a live seat

-- the view of a seat whose pass is live, and from which none was split off that has no seat yet
pub record IsAlone (k : Key) (s : Table) (id : ℕ) (v : View) : Type 0 where
  pub there : get_elem? s.views id ≡ some v
  pub live : 0 < v.parts
  pub lone : v.child ≡ None

-- its pass is one of the live ones
pub listed : (k : Key) (s : Table) (id : ℕ) (v : View) → IsAlone k s id v →
    IsIn (plain v) (passes_in (buckets_of k) s.views)
listed k s id v a =
    passes_to (buckets_of k) s.views id v (plain v) a.there (subst (λ (l : List Live). IsIn (plain v) l)
    (sym (alone (buckets_of k) v a.live a.lone)) (inl refl))

-- and has a number below the number of parts
pub below : (k : Key) (s : Table) (h : List Entry) (id : ℕ) (v : View) → IsRule k s h → IsAlone k s id v →
    v.first < k.parts
below k s h id v r a =
    each_of_all (λ (u : Live). u.first < k.parts) (passes_in (buckets_of k) s.views) r.below (plain v)
    (listed k s id v a)

-- so the board shows it at its number
pub on_board : (k : Key) (s : Table) (h : List Entry) (id : ℕ) (v : View) → IsRule k s h → IsAlone k s id v →
    view_at (board_of k s) v.first ≡ Some (plain v)
on_board k s h id v r a = shown k s (plain v) r.apart (below k s h id v r a) (listed k s id v a)

-- words and slots, as the board has them
pub word_behind : (words : List ℕ) (b : ℕ) → slice_index_or (drop 1 words) b 0 ≡ slice_index words (b + 1)
word_behind [] b = refl
word_behind (w ∷ words) b = let q : suc b ≡ b + 1 = omega arith in ap (λ (i : ℕ). slice_index_or (w ∷ words) i 0) q

-- behind the ticket there is a word less
pub behind_count : (words : List ℕ) (n : ℕ) → length words ≡ n + 1 → length (drop 1 words) ≡ n
behind_count [] n e = absurd (omega arith)
behind_count (w ∷ words) n e = omega arith

-- a bucket that is at home is in its slot
pub slot_of : (homes : List (maybe.Option (Option BucketContent))) (b : ℕ) (c : BucketContent) →
    bucket_at (map at_home homes) b ≡ Some c → get_elem? homes b ≡ some (some (Some c))
slot_of [] b c e = absurd (cc e)
slot_of (none ∷ homes) zero c e = absurd (cc e)
slot_of (some o ∷ homes) zero c e = ap (λ (x : Option BucketContent). some (some x)) e
slot_of (x ∷ homes) (suc b) c e = slot_of homes b c e

-- what a live seat holds stands for the history
pub hand_stands : (k : Key) (s : Table) (h : List Entry) (g : ℕ) (held : List (Option BucketContent)) → IsRule k s h →
    g ≡ k.grid → AreSharesOf k.grid h held → Stands (in_hand_of g held) h
hand_stands k s h g held r same sh =
    subst (λ (n : ℕ). Stands (in_hand_of n held) h) (sym same)
    (stands_for k.grid h held r.good.legal r.good.keys r.good.solid sh)

-- ---- a seat's step

-- One seat's view is set, and the words and slots: the rule holds where the board is good and the seats are in order.
pub set_rule : (k : Key) (s : Table) (h h' : List Entry) (id : ℕ) (v w : View) (words : List ℕ)
    (homes : List (maybe.Option (Option BucketContent))) → IsRule k s h → IsAlone k s id v → w.first ≡ v.first →
    0 < w.parts → w.child ≡ None → length words ≡ buckets_of k + 1
    → (IsOneSet k s record { words = words; homes = homes; views = slice_set s.views id w } id v w
    → IsLedTo k record { words = words; homes = homes; views = slice_set s.views id w } h') →
    IsGood (board_of k record { words = words; homes = homes; views = slice_set s.views id w }) h' →
    IsSeatInOrder k h' w → ((j : ℕ) (u : View) → j ≢ id → get_elem? s.views j ≡ some u → IsSeatInOrder k h' u)
    → IsRule k record { words = words; homes = homes; views = slice_set s.views id w } h'
set_rule k s h h' id v w words homes r a first live lone wide reached good mine others =
    let count : ℕ = buckets_of k in
    let views' : List View = slice_set s.views id w in
    let is_v : passes_of count v ≡ plain v ∷ [] = alone count v a.live a.lone in
    let is_w : passes_of count w ≡ plain w ∷ [] = alone count w live lone in
    let same : firsts (passes_in count views') ≡ firsts (passes_in count s.views) =
    same_firsts count s.views id v w a.there (ap firsts is_w ∙ (λ i. first i ∷ []) ∙ sym (ap firsts is_v)) in
    record {
      good = good;
      words = wide;
      apart = subst (λ (l : List ℕ). AreDistinct l) (sym same) r.apart;
      below = all_of_each (λ (u : Live). u.first < k.parts) (passes_in count views') (λ u i.
          dite (ℕ_discrete u.first v.first)
          (λ q. let b = below k s h id v r a in omega arith)
          (λ n. each_of_all (λ (z : Live). z.first < k.parts) (passes_in count s.views) r.below u
          (others_from count s.views id w u (λ j. elim (subst (λ (l : List Live). IsIn u l) is_w j) [
            | inl q ↦ n (ap (λ (z : Live). z.first) (sym q) ∙ first)
            | inr q ↦ q
          ]) i)));
      seats = λ j u q. elim (at_set s.views id j w u q) [
        | inl y ↦ subst (IsSeatInOrder k h') y.1 mine
        | inr y ↦ others j u y.0 y.1
      ];
      reached = reached record { apart = r.apart; there = a.there; live = a.live; views = refl; first = first };
    }

-- where the word that a step wrote is that which it found, the words are as before
pub word_stays : (k : Key) (s : Table) (h : List Entry) (id i : ℕ) (w : View) →
    IsRule k record { words = s.words; homes = s.homes; views = slice_set s.views id w } h → Rule k record {
      words = slice_set s.words i (slice_index s.words i);
      homes = s.homes;
      views = slice_set s.views id w;
    }
word_stays k s h id i w rule = (
  h,
  subst (λ (l : List ℕ). IsRule k record { words = l; homes = s.homes; views = slice_set s.views id w } h)
      (sym (set-get_or s.words i 0)) rule,
)

-- ---- the claim

-- a step of a seat keeps the rule: there is a view and a deed of the slots after which it holds, and this is told
abbrev pub Taken : Key → Table → ℕ → ℕ → Seated → (Seated → Type 0) → ℕ → Type 0
Taken k s i id me then y =
    (w : View) × (a : Act (Option BucketContent)) × Valid s.homes me.1 a × Rule k (stepped s i y id me.1 w a)
    × then (w, carried_after me.1 a)

-- a claim that finds the word 0 keeps the rule: the pass has the bucket
pub hits : (k : Key) (slots id b : ℕ) (me : Seated) (s : Table) (h : List Entry) → IsRule k s h → IsAlone k s id me.0 →
    b < buckets_of k → slice_index s.words (b + 1) ≡ 0
    → Taken k s (b + 1) id me (Claimed (step slots (b + 1) 0 (me.0.first + 1) none) me (slice_index s.words (b + 1)))
    (me.0.first + 1)
hits k slots id b me s h r a inside is_free =
    let v : View = me.0 in
    let count : ℕ = buckets_of k in
    let old : BoardState = board_of k s in
    let good = r.good in
    let ok = r.seats id v a.there in
    let shows = on_board k s h id v r a in
    let order = good.passes (plain v) shows in
    let words_count : length old.words ≡ count = behind_count s.words count r.words in
    let word : word_of old b ≡ 0 = word_behind s.words b ∙ is_free in
    let home = some_of (bucket_at old.homes b) ((good.home b (omega arith)).0 word) in
    let c : BucketContent = home.0 in
    let slot : get_elem? s.homes b ≡ some (some (Some c)) = slot_of s.homes b c home.1 in
    let lacks : bucket_at v.held b ≡ None =
    none_or (bucket_at v.held b) (λ t. let q : word_of old b ≡ v.first + 1 = order.words b t in omega arith) in
    let w : View = claims v b c in
    let s' : Table = stepped s (b + 1) (v.first + 1) id me.1 w (takes b (Some c)) in
    let event : board_of k s' ≡ claimed old v.first b =
    claim_is_event k s id b v c me.1 r.apart a.there a.live a.lone (below k s h id v r a) slot in
    let good' : IsGood (board_of k s') h = subst (λ (t : BoardState). IsGood t h) (sym event)
    (claim_keeps old h v.first b (plain v) good shows (omega arith) lacks word) in
    let held_below : b < length v.held = let q = ok.places a.live in omega arith in
    let here : bucket_at w.held b ≡ Some c = get_or-set_same v.held b (Some c) None held_below in
    let else_where : (x : ℕ) → x ≢ b → bucket_at w.held x ≡ bucket_at v.held x =
    λ x n. get_or-set_other v.held b x (Some c) None n in
    let trail : in_hand w.trail ≡ in_hand v.trail ++ b ∷ [] = in_hand_snoc v.trail (Claim b) in
    let mine : IsSeatInOrder k h w = record {
      table = ok.table;
      places = λ q. length-set v.held b (Some c) ∙ ok.places q;
      idle = λ e. absurd (let q = a.live in omega arith);
      made = ok.made;
      known = ok.known;
      holds = λ x. (
        (λ t. subst (λ (l : List ℕ). IsIn x l) (sym trail) (dite (ℕ_discrete x b)
            (λ e. subst (λ (y : ℕ). IsIn y (in_hand v.trail ++ b ∷ [])) (sym e) (snoc_new (in_hand v.trail) b))
            (λ n. snoc_old (in_hand v.trail) b x ((ok.holds x).0 (same_there (bucket_at w.held x) (bucket_at v.held x)
            (else_where x n) t))))),
        (λ i. dite (ℕ_discrete x b)
            (λ e. is_there (bucket_at w.held x) c (ap (λ (y : ℕ). bucket_at w.held y) e ∙ here))
            (λ n. elim (in_snoc (in_hand v.trail) b x (subst (λ (l : List ℕ). IsIn x l) trail i)) [
              | inl j ↦ same_there (bucket_at v.held x) (bucket_at w.held x) (sym (else_where x n)) ((ok.holds x).1 j)
              | inr e ↦ absurd (n (sym e))
            ])),
      );
      once = subst (λ (l : List ℕ). AreDistinct l) (sym trail) (distinct_push (in_hand v.trail) b ok.once
          (λ i. none_there (bucket_at v.held b) lacks ((ok.holds b).1 i)));
      steps = steps_snoc k.grid h v.trail (Claim b) ok.steps tt;
      child = λ d e. absurd (cc (sym a.lone ∙ e));
    } in
    let rule : IsRule k s' h = set_rule k s h h id v w s'.words s'.homes r a refl a.live a.lone
    (length-set s.words (b + 1) (v.first + 1) ∙ r.words)
    (λ one. reached_claim k s s' h id b v w r.reached one refl shows (omega arith) lacks word event) good' mine
    (λ j u n e. r.seats j u e) in
    let shares : AreSharesOf k.grid h w.held = λ x y e. dite (ℕ_discrete x b)
    (λ q. good.shares x y (ap (λ (z : ℕ). bucket_at old.homes z) q ∙ home.1 ∙ sym here
    ∙ ap (λ (z : ℕ). bucket_at w.held z) (sym q) ∙ e))
    (λ n. order.shares x y (sym (else_where x n) ∙ e)) in (
      w,
      takes b (Some c),
      slot,
      (h, rule),
      λ x is.
          let q : b ≡ x = omega arith in (
            (λ hit. (
              c,
              (λ i. claims v (q i) c),
              (λ i. (q i, Some c) ∷ me.1),
              ap (λ (z : ℕ). bucket_at v.held z) (sym q) ∙ lacks,
              ap (λ (y : BucketContent). y.place) (good.shares b c home.1)
                  ∙ (λ i. Some (sym (ok.table a.live).0 i, q i)),
              (h, hand_stands k s h v.grid w.held r (ok.table a.live).0 shares),
            )),
            (λ miss. absurd (miss is_free)),
          ),
    )
