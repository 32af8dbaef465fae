-- A spent seat, and what is at home when one pass owns all parts.
use Rattle.std.specs.Prelude.{◌≡◌, ℕ, zero, suc, ◌+◌, ◌<◌, ◌≤◌, cond, List, [], ◌∷◌, ◌++◌, drop, None, Some, IsSome}
use Rattle.std.specs.Prelude.{length, slice_index_or}
use Rattle.std.specs.List.{filter}
use Rattle.std.proofs.Common.{refl, sym, ◌∙◌, ap, subst, arith}
use Rattle.list_laws.proofs.Cited.{none_there, some_of}
use mathlib.Core.Logic.{dite}
use mathlib.Core.Option.{some}
use native.Mathlib.Decide.{ℕ_discrete}
use lib.ListN.{get_elem?}
use Rattle.edit_history.specs.declared.history.Entry.{Entry}
use Rattle.cell_store.specs.Buckets.{BucketContent, bucket_at}
use Rattle.claim_rule.specs.Boards.{BoardState, word_of, is_by, made_by}
use Rattle.cell_store.specs.Shares.{share_at}
use Rattle.claim_rule.proofs.Cited.{parts_by}
use Rattle.claim_table.specs.declared.view.Key.{Key}
use Rattle.claim_table.specs.declared.view.View.{View}
use Rattle.claim_table.specs.Faces.{buckets_of, opening_of, plain, board_of}
use Rattle.claim_table.specs.Rule.{IsSeatInOrder, IsRule}
use Rattle.claim_table.specs.Plays.{no_pass}
use Rattle.claim_table.proofs.Boarded.{Table, Live}
use Rattle.claim_table.proofs.Claims.{IsAlone, behind_count, on_board, slot_of}
use Rattle.claim_table.proofs.Divides.{empty_hand, empty_once}

-- a pass that was taken in holds no bucket
nowhere : (b : ℕ) → bucket_at no_pass.held b ≡ None
nowhere zero = refl
nowhere (suc b) = refl

-- The seat of a pass that was joined to another is in order.
pub spent_in_order : (k : Key) (h : List Entry) → IsSeatInOrder k h no_pass
spent_in_order k h = record {
  table = λ q. absurd (omega arith);
  places = λ q. absurd (omega arith);
  idle = λ e. (refl, nowhere);
  made = λ q. absurd (omega arith);
  known = (h, refl);
  holds = λ b. ((λ t. absurd (none_there (bucket_at no_pass.held b) (nowhere b) t)), (λ i. absurd (empty_hand b i)));
  once = empty_once;
  steps = tt;
  child = λ c e. absurd (cc e);
}

-- Where a pass that holds nothing owns all parts, every bucket is at home, in its slot, with its share.
pub all_home : (k : Key) (s : Table) (h : List Entry) (id b : ℕ) (v : View) → IsRule k s h → IsAlone k s id v →
    v.parts ≡ k.parts → ((x : ℕ) → bucket_at v.held x ≡ None) → b < buckets_of k →
    get_elem? s.homes b ≡ some (some (Some (share_at k.grid b h)))
all_home k s h id b v r a all nothing inside =
    let old : BoardState = board_of k s in
    let good = r.good in
    let shown = on_board k s h id v r a in
    let mine : v.first + v.parts ≤ k.parts = (good.passes (plain v) shown).inside in
    let live = a.live in
    let words_count : length old.words ≡ buckets_of k = behind_count s.words (buckets_of k) r.words in
    dite (ℕ_discrete (word_of old b) 0)
    (λ z.
    let c = some_of (bucket_at old.homes b) ((good.home b (omega arith)).0 z) in
    slot_of s.homes b (share_at k.grid b h) (c.1 ∙ ap (λ (x : BucketContent). Some x) (good.shares b c.0 c.1)))
    (λ n.
    let o = good.away b (omega arith) n in
    let ok = good.passes o.view o.live in
    let fits : o.view.first + o.view.parts ≤ k.parts = ok.inside in
    let some_part : 0 < o.view.parts = ok.some_part in
    let owner = good.owners o.view.first (omega arith) in
    let one : o.view ≡ plain v = owner.only o.view o.live (omega arith, omega arith)
    ∙ sym (owner.only (plain v) shown (omega arith, omega arith)) in
    absurd (none_there (bucket_at v.held b) (nothing b) (subst (λ (x : Live). IsSome (bucket_at x.held b)) one
    o.holds)))

-- and the history is the opening entries and what it has made
pub all_made : (k : Key) (s : Table) (h : List Entry) (id : ℕ) (v : View) → IsRule k s h → IsAlone k s id v →
    v.parts ≡ k.parts → h ≡ opening_of k ++ v.made
all_made k s h id v r a all =
    let good = r.good in
    let shown = on_board k s h id v r a in
    let mine : v.first + v.parts ≤ k.parts = (good.passes (plain v) shown).inside in
    let first : v.first ≡ 0 = omega arith in
    let c : ℕ = length (opening_of k) in
    let made : v.made ≡ made_by v.first v.parts c h = (r.seats id v a.there).made a.live in
    let every : made_by v.first v.parts c h ≡ drop c h = whole v.first v.parts (drop c h)
    (λ j d i. let q : (slice_of (drop c h) j d).by < k.parts = good.makers j d i in (omega arith, omega arith)) in
    good.starts.1 ∙ ap (λ (l : List Entry). opening_of k ++ l) (sym (dropped (opening_of k) good.starts.0)
    ∙ sym (ap (drop c) good.starts.1) ∙ sym every ∙ sym made)
  where
    slice_of : List Entry → ℕ → Entry → Entry
    slice_of l j d = slice_index_or l j d

    dropped : (front rest : List Entry) → drop (length front) (front ++ rest) ≡ rest
    dropped [] rest = refl
    dropped (x ∷ front) rest = dropped front rest

    whole : (first parts : ℕ) (l : List Entry) → ((j : ℕ) (d : Entry) → j < length l →
        (first ≤ (slice_index_or l j d).by) × ((slice_index_or l j d).by < first + parts)) →
        filter (is_by first parts) l ≡ l
    whole first parts [] f = refl
    whole first parts (e ∷ l) f =
        let k = f 0 e (omega arith) in
        (λ i. cond (parts_by first parts e k.0 k.1 i) (e ∷ filter (is_by first parts) l) (filter (is_by first parts) l))
        ∙ ap (λ (m : List Entry). e ∷ m) (whole first parts l (λ j d i. f (suc j) d (omega arith)))
