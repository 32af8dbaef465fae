-- The step lemmas, as the table asks for them.
use Rattle.std.specs.Prelude.{◌≡◌, ℕ, ◌+◌, ◌-◌, ◌^◌, ◌<◌, ◌≤◌, ◌%◌, eqb, ◌∷◌, None, Some, length}
use Rattle.std.proofs.Common.{refl, sym, subst, arith}
use Rattle.cell_store.specs.Buckets.{BucketContent, bucket_at}
use Rattle.edit_history.specs.Edits.{HasKeys}
use Rattle.edit_history.specs.declared.history.Edit.{Edit}
use Rattle.edit_history.specs.declared.history.Reply.{Reply}
use Rattle.claim_table.proofs.Commits.{commits_keep}
use Rattle.claim_table.proofs.Releases.{releases_keep}
use Rattle.claim_rule.specs.Boards.{left_in}
use Rattle.claim_rule.proofs.Cited.{left_one}
use Rattle.claim_table.specs.declared.view.View.{View}
use mathlib.Core.Option.{none}
use prog.Atomic.{either}
use Rattle.atomic_table.specs.Table.{step, rest, keeps, Allows, Splits}
use Rattle.atomic_table.proofs.Lists.{exchanged}
use Rattle.std.specs.Prelude.{slice_index}
use Rattle.claim_table.specs.declared.view.Key.{Key}
use Rattle.claim_table.specs.Faces.{buckets_of, plain, board_of}
use Rattle.claim_table.specs.Rule.{Rule}
use Rattle.claim_table.specs.Plays.{Seated, Committed, IsReady, Released, Claimed, Looked, Shown, SplitTold, splits}
use Rattle.claim_table.specs.Plays.{without_child, child_of}
use Rattle.claim_table.proofs.Claims.{IsAlone, hits, on_board, Taken, word_stays}
use Rattle.claim_table.proofs.Divides.{split_keeps_rule, seating_keeps_rule}
use Rattle.claim_table.proofs.Looks.{looks_keep, misses_keep, shows_keep}

-- a live pass may look: the step reads the ticket and leaves it
pub looks_allowed : (k : Key) (slots id : ℕ) (me : Seated) → 0 < me.0.parts → me.0.child ≡ None →
    Allows (Rule k) slots id me 0 (λ n. n) (Looked (step slots 0 0 0 none) me)
looks_allowed k slots id me live lone s rule deep at small =
    looks_keep k slots id me s rule.0 rule.1 record { there = at; live = live; lone = lone }

-- a live pass may look for a snapshot: the step reads the ticket and leaves it
pub shows_allowed : (k : Key) (slots id : ℕ) (me : Seated) → 0 < me.0.parts → me.0.child ≡ None →
    Allows (Rule k) slots id me 0 (λ n. n) (Shown me)
shows_allowed k slots id me live lone s rule deep at small =
    shows_keep k slots id me s rule.0 rule.1 record { there = at; live = live; lone = lone }

-- a live pass may claim a bucket that it does not hold: a word that is 0 becomes its own, and another stays
claims_allowed : (k : Key) (slots id b : ℕ) (me : Seated) → b < buckets_of k → bucket_at me.0.held b ≡ None →
    0 < me.0.parts → me.0.child ≡ None
    → Allows (Rule k) slots id me (b + 1) (λ n. either (eqb n 0) (me.0.first + 1) n)
    (Claimed (step slots (b + 1) 0 (me.0.first + 1) none) me)
claims_allowed k slots id b me inside lacks live lone s rule deep at small =
    exchanged (slice_index s.words (b + 1)) 0 (me.0.first + 1)
    (λ y. Taken k s (b + 1) id me (Claimed (step slots (b + 1) 0 (me.0.first + 1) none) me
    (slice_index s.words (b + 1))) y)
    (λ is_free. hits k slots id b me s rule.0 rule.1 record { there = at; live = live; lone = lone } inside is_free)
    (λ away. misses_keep k slots id b me s rule.0 rule.1 record { there = at; live = live; lone = lone } inside lacks
    away)

-- the same, of the code's own number
pub claims_by : (k : Key) (slots id b first : ℕ) (me : Seated) → b < buckets_of k → bucket_at me.0.held b ≡ None →
    0 < me.0.parts → me.0.child ≡ None → first ≡ me.0.first
    → Allows (Rule k) slots id me (b + 1) (λ n. either (eqb n 0) (first + 1) n)
    (Claimed (step slots (b + 1) 0 (first + 1) none) me)
claims_by k slots id b first me inside lacks live lone is =
    subst (λ (x : ℕ). Allows (Rule k) slots id me (b + 1) (λ n. either (eqb n 0) (x + 1) n)
    (Claimed (step slots (b + 1) 0 (x + 1) none) me)) (sym is)
    (claims_allowed k slots id b me inside lacks live lone)

-- the load of a split
splits_allowed : (k : Key) (slots id parts left : ℕ) (me : Seated) → 0 < me.0.parts → me.0.child ≡ None →
    ((b : ℕ) → bucket_at me.0.held b ≡ None) → 0 < parts → parts < me.0.parts → left ≤ me.0.left
    → Allows (Rule k) slots id me 0 (λ n. n) (SplitTold parts left me)
splits_allowed k slots id parts left me live lone nothing some_parts fewer less s rule deep at small =
    let h = rule.0 in
    let r = rule.1 in
    let v : View = me.0 in
    let a : IsAlone k s id v = record { there = at; live = live; lone = lone } in
    let found : ℕ = slice_index s.words 0 in
    let w : View = splits v parts left found in
    let shown = on_board k s h id v r a in
    let order = r.good.passes (plain v) shown in
    let seen : v.seen ≤ length h = order.seen in
    let ticket : found ≡ length h = r.good.ticket in
    let inside : v.first + v.parts ≤ k.parts = order.inside in
    let few : k.parts ≤ 64 = r.good.shape.few_parts in
    let part : v.left ≤ left_in (board_of k s).views = left_one (board_of k s).views v.first (plain v) shown in
    let room = r.good.room in
    let most = r.good.shape.most in (
      w,
      keeps,
      tt,
      word_stays k s h id 0 w (split_keeps_rule k s h id parts left v r a nothing some_parts fewer less),
      record { later = omega arith; few = omega arith; inside = omega arith; view = refl; slots = refl },
    )

-- the same, of the code's own numbers
pub splits_by : (k : Key) (slots id p l parts left : ℕ) (me : Seated) → p ≡ parts → l ≡ left → 0 < me.0.parts →
    me.0.child ≡ None → ((b : ℕ) → bucket_at me.0.held b ≡ None) → 0 < parts → parts < me.0.parts → left ≤ me.0.left
    → Allows (Rule k) slots id me 0 (λ n. n) (SplitTold p l me)
splits_by k slots id p l parts left me e f live lone nothing some_parts fewer less =
    subst (λ (t : ℕ × ℕ). Allows (Rule k) slots id me 0 (λ n. n) (SplitTold t.0 t.1 me)) (λ i. (sym e i, sym f i))
    (splits_allowed k slots id parts left me live lone nothing some_parts fewer less)

-- the new pass's seat
pub seats_allowed : (k : Key) (id found parts left : ℕ) (v w : View) → w ≡ splits v parts left found → parts < v.parts →
    Splits (Rule k) id w (without_child w) (child_of w)
seats_allowed k id found parts left v w e fewer =
    subst (λ (u : View). Splits (Rule k) id u (without_child u) (child_of u)) (sym e)
    (seating_keeps_rule k id (splits v parts left found)
    (record {
      first = v.first + (v.parts - parts);
      parts = parts;
      left = left;
      seen = found;
      made = Rattle.claim_table.specs.Lists.entries_by (v.first + (v.parts - parts)) parts v.made;
    }) refl (omega arith))

-- a commit
pub commits_by : (k : Key) (slots id tag tag' : ℕ) (edit edit' : Edit) (reply reply' : Reply) (me : Seated) →
    tag' ≡ tag → edit' ≡ edit → reply' ≡ reply → 0 < me.0.parts → me.0.child ≡ None → 0 < me.0.left → HasKeys edit →
    IsReady me.0 edit reply
    → Allows (Rule k) slots id me 0 (λ n. (n + 1) % 2 ^ 64) (Committed tag' edit' reply' me)
commits_by k slots id tag tag' edit edit' reply reply' me e f g live lone some_left key ready =
    subst (λ (t : ℕ × Edit × Reply). Allows (Rule k) slots id me 0 (λ n. (n + 1) % 2 ^ 64) (Committed t.0 t.1 t.2 me))
    (λ i. (sym e i, sym f i, sym g i))
    (λ s rule deep at small. commits_keep k slots id tag edit reply me s rule.0 rule.1
    record { there = at; live = live; lone = lone } ready some_left key)

-- a release
pub releases_by : (k : Key) (slots id b : ℕ) (me : Seated) (u : BucketContent) → 0 < me.0.parts → me.0.child ≡ None →
    bucket_at me.0.held b ≡ Some u → me.1 ≡ (b, Some u) ∷ rest me.1
    → Allows (Rule k) slots id me (b + 1) (λ _. 0) (λ _. Released (step slots (b + 1) 0 0 none) me 0)
releases_by k slots id b me u live lone holds slot s rule deep at small =
    releases_keep k slots id b me u (rest me.1) s rule.0 rule.1 record { there = at; live = live; lone = lone } holds
    slot
