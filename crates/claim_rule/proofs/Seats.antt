-- Splits and joins of a board that is kept in one hold with words.
use Rattle.std.specs.Prelude.{◌≡◌, ◌≢◌, ℕ, suc, Bool, false, ◌+◌, ◌-◌, ◌^◌, ◌<◌, ◌≤◌, ◌==◌, List, [], ◌∷◌, Option, None}
use Rattle.std.specs.Prelude.{Some, IsSome, All, max, length, replicate, slice_index_or, slice_set}
use Rattle.std.specs.Option.{option_map, option_map_or}
use Rattle.std.proofs.Common.{refl, sym, ◌∙◌, ap, subst, arith, ne_eqb}
use Rattle.std.proofs.lemmas.List.{length-map, map-set}
use Rattle.list_laws.proofs.Cited.{default_free, none_there, one_value, past, some_and, to_some}
use mathlib.Core.Logic.{dite}
use native.Mathlib.Decide.{dec_lt}
use Rattle.edit_history.specs.declared.history.Entry.{Entry}
use Rattle.cell_store.specs.Buckets.{BucketContent, bucket_at}
use Rattle.claim_rule.specs.declared.board.Seat.{Seat}
use Rattle.claim_rule.specs.declared.event.Event.TheVariants.{Split, Join}
use Rattle.claim_rule.specs.declared.event.Played.TheVariants.{Done}
use Rattle.claim_rule.specs.Boards.{View, BoardState, view_at, word_of, IsLive}
use Rattle.claim_rule.specs.Good.{IsGood}
use Rattle.claim_rule.specs.Events.{Next, HoldsNothing, CanSplit, CanJoin, split_of, join_of, split_off}
use Rattle.claim_rule.specs.Kept.{KeptBoard, whose, held_by, with_held, view_of, board_of}
use Rattle.claim_rule.proofs.Places.{left_one}
use Rattle.claim_rule.proofs.Steps.{live_at}
use Rattle.claim_rule.proofs.Kept.{if_so, whose_length, whose_at}
use Rattle.claim_rule.proofs.Moves.{live_view, view_is, first_is, named_holds}
use Rattle.claim_rule.proofs.Parts.{same_owner}

-- a pass whose number no word has holds nothing
pub nothing_of : (words : List ℕ) (places : List (Option BucketContent)) (n : ℕ) → All (λ w. w ≢ n + 1) words →
    (b : ℕ) → bucket_at (held_by n words places) b ≡ None
nothing_of words places n all b =
    dite (dec_lt b (length words))
    (λ below. whose_at (λ w. w == n + 1) words places b below ∙ ap (λ k. if_so k (bucket_at places b))
    (ne_eqb (slice_index_or words b 0) (n + 1) (all b 0 below)))
    (λ not. past (held_by n words places) b (let l = whose_length (λ w. w == n + 1) words places in omega arith))

-- where no word passes the test no content is there
pub held_none : (t : ℕ → Bool) (words : List ℕ) (places : List (Option BucketContent)) →
    ((b : ℕ) → b < length words → t (slice_index_or words b 0) ≡ false) →
    whose t words places ≡ replicate (length words) None
held_none t [] places e = refl
held_none t (w ∷ words) [] e = ap (λ l. None ∷ l) (held_none t words [] (λ b h. e (suc b) (omega arith)))
held_none t (w ∷ words) (o ∷ places) e =
    ap (λ k. if_so k o ∷ whose t words places) (e 0 (omega arith))
    ∙ ap (λ l. None ∷ l) (held_none t words places (λ b h. e (suc b) (omega arith)))

-- a pass that holds nothing is named by no word
pub no_word : (kept : KeptBoard) (h : List Entry) (n : ℕ) (v : View) → IsGood (board_of kept) h →
    view_at (board_of kept) n ≡ Some v → HoldsNothing v → All (λ w. w ≢ n + 1) kept.words
no_word kept h n v good at nothing k d below q =
    let r = some_and (view_at (board_of kept) n) (λ v. IsSome (bucket_at v.held k))
    (named_holds kept n k h good below (default_free kept.words k 0 d below ∙ q)) in
    let same : r.0 ≡ v = one_value r.0 v (sym r.1 ∙ at) in
    none_there (bucket_at v.held k) (nothing k) (subst (λ (x : View). IsSome (bucket_at x.held k)) same r.2)

-- a pass whose number no word has holds nothing, by its seat
seat_empty : (kept : KeptBoard) (n : ℕ) (seat : Seat) → seat.first ≡ n → All (λ w. w ≢ n + 1) kept.words →
    HoldsNothing (view_of kept seat)
seat_empty kept n seat first nothing =
    nothing_of kept.words kept.hold.places seat.first
    (subst (λ (j : ℕ). All (λ w. w ≢ j + 1) kept.words) (sym first) nothing)

-- ---- numbers

-- a pass's parts are parts of the board, at most 64, and its allowance is at most 2^32
pub seat_inside : (kept : KeptBoard) (h : List Entry) (n : ℕ) (seat : Seat) → IsGood (board_of kept) h →
    slice_index_or kept.seats n None ≡ Some seat → (seat.first + seat.parts ≤ length kept.seats)
    × (seat.first + seat.parts ≤ 64) × (seat.left ≤ 2 ^ 32)
seat_inside kept h n seat good live =
    let s : BoardState = board_of kept in
    let v : View = view_of kept seat in
    let at = live_view kept n seat live in
    let inside : seat.first + seat.parts ≤ kept.parts = (good.passes v (live_at s h n v good at)).inside in
    let views : length s.views ≡ kept.parts = good.shape.views in
    let seats : length s.views ≡ length kept.seats = length-map kept.seats (option_map (view_of kept)) in
    let few : kept.parts ≤ 64 = good.shape.few_parts in
    let most_is : kept.most ≤ 2 ^ 32 = good.shape.most in
    let room = good.room in
    let one : seat.left ≤ Rattle.claim_rule.specs.Boards.left_in s.views = left_one s.views n v at in
    (omega (arith, inside, views, seats), omega (arith, inside, few), omega (arith, one, room, most_is))

-- ---- split

-- a split that may come: no word names the pass, it keeps and gives a part, and gives no more allowance than it has
pub split_facts : (kept : KeptBoard) (h : List Entry) (n : ℕ) (seat : Seat) (k left : ℕ) → IsGood (board_of kept) h →
    slice_index_or kept.seats n None ≡ Some seat → CanSplit (board_of kept) n k left →
    All (λ w. w ≢ n + 1) kept.words × (0 < k) × (k < seat.parts) × (left ≤ seat.left)
split_facts kept h n seat k left good live can =
    let v = some_and (view_at (board_of kept) n) _ can in
    let same : v.0 ≡ view_of kept seat = view_is kept n seat v.0 live v.1 in (
      no_word kept h n v.0 good v.1 v.2.0,
      v.2.1,
      subst (λ (x : View). k < x.parts) same v.2.2,
      subst (λ (x : View). left ≤ x.left) same v.2.3,
    )

-- the seat of a pass that is split, which keeps the first parts, and that of the last parts
abbrev pub first_seat : Seat → ℕ → ℕ → ℕ → Seat
first_seat seat k left ticket = record seat { parts = seat.parts - k; left = seat.left - left; seen = ticket }

abbrev pub last_seat : Seat → ℕ → ℕ → ℕ → Seat
last_seat seat k left ticket =
    record { first = seat.first + (seat.parts - k); parts = k; left = left; seen = ticket; since = ticket }

-- where these hold a split is done, with a seat for the last parts more
pub split_next : (kept : KeptBoard) (h : List Entry) (n : ℕ) (seat : Seat) (k left : ℕ) → IsGood (board_of kept) h →
    slice_index_or kept.seats n None ≡ Some seat →
    All (λ w. w ≢ n + 1) kept.words → 0 < k → k < seat.parts → left ≤ seat.left →
    Next h (board_of kept) (Split n k left) Done (board_of (record kept {
      seats = slice_set (slice_set kept.seats n (Some (first_seat seat k left kept.ticket)))
          (seat.first + (seat.parts - k)) (Some (last_seat seat k left kept.ticket));
    }))
split_next kept h n seat k left good live nothing some fewer less =
    let s : BoardState = board_of kept in
    let f : Seat → View = view_of kept in
    let v : View = f seat in
    let at : view_at s n ≡ Some v = live_view kept n seat live in
    let first : seat.first ≡ n = first_is kept h good n seat live in
    let v_live : IsLive s v = live_at s h n v good at in
    let m : ℕ = seat.first + (seat.parts - k) in
    let a : Seat = first_seat seat k left kept.ticket in
    let b : Seat = last_seat seat k left kept.ticket in
    let free : (c : ℕ) → c < length kept.words → (slice_index_or kept.words c 0 == m + 1) ≡ false =
    λ c below. ne_eqb (slice_index_or kept.words c 0) (m + 1) (λ q.
    let r = some_and (view_at s m) (λ v. IsSome (bucket_at v.held c)) (named_holds kept m c h good below q) in
    let u : View = r.0 in
    let is : u.first ≡ m = good.shape.named m u r.1 in
    let u_live : IsLive s u = live_at s h m u good r.1 in
    let u_some : 0 < u.parts = (good.passes u u_live).some_part in
    let same : v ≡ u = same_owner s h v u m good v_live u_live (omega (arith, fewer, some), omega (arith, fewer, some))
    (omega (arith, is), omega (arith, is, u_some)) in
    let e : seat.first ≡ u.first = ap (λ (x : View). x.first) same in omega (arith, e, is, fewer)) in
    let off : f b ≡ split_off s v k left =
    ap (with_held b) (held_none (λ w. w == m + 1) kept.words kept.hold.places free) in (
      to_some (λ v. HoldsNothing v × (0 < k) × (k < v.parts) × (left ≤ v.left)) (view_at s n) v at
          (seat_empty kept n seat first nothing, some, fewer, less),
      ap (λ vs. record s { views = vs })
          (map-set (option_map f) (slice_set kept.seats n (Some a)) m (Some b)
          ∙ ap (λ l. slice_set l m (Some (f b))) (map-set (option_map f) kept.seats n (Some a))
          ∙ ap (λ x. slice_set (slice_set s.views n (Some (f a))) m (Some x)) off
          ∙ ap (λ j. slice_set (slice_set s.views j (Some (f a))) m (Some (split_off s v k left))) (sym first))
          ∙ ap (λ (o : Option View). option_map_or (λ v. split_of s v k left) o s) (sym at),
    )

-- ---- join

-- a join that may come: no word names the two passes, and the second's parts come next
pub join_facts : (kept : KeptBoard) (h : List Entry) (n m : ℕ) (seat : Seat) → IsGood (board_of kept) h →
    slice_index_or kept.seats n None ≡ Some seat → CanJoin (board_of kept) n m →
    All (λ w. w ≢ n + 1) kept.words × All (λ w. w ≢ m + 1) kept.words × (m ≡ seat.first + seat.parts)
join_facts kept h n m seat good live can =
    let v = some_and (view_at (board_of kept) n) _ can.0 in
    let w = some_and (view_at (board_of kept) m) _ can.1 in (
      no_word kept h n v.0 good v.1 v.2.0,
      no_word kept h m w.0 good w.1 w.2,
      subst (λ (x : View). m ≡ x.first + x.parts) (view_is kept n seat v.0 live v.1) v.2.1,
    )

-- the seat of two passes that are joined
abbrev pub both_seats : Seat → Seat → ℕ → Seat
both_seats seat other seen =
    record seat { parts = seat.parts + other.parts; left = seat.left + other.left; seen = seen }

-- where these hold a join is done: one seat has the parts and allowances of both, and has seen what either has
pub join_next : (kept : KeptBoard) (h : List Entry) (n m : ℕ) (seat other : Seat) → IsGood (board_of kept) h →
    slice_index_or kept.seats n None ≡ Some seat → slice_index_or kept.seats m None ≡ Some other →
    All (λ w. w ≢ n + 1) kept.words → All (λ w. w ≢ m + 1) kept.words → m ≡ seat.first + seat.parts →
    Next h (board_of kept) (Join n m) Done (board_of (record kept {
      seats = slice_set (slice_set kept.seats m None) n
          (Some (both_seats seat other (max seat.seen other.seen)));
    }))
join_next kept h n m seat other good live live' nothing nothing' next =
    let s : BoardState = board_of kept in
    let f : Seat → View = view_of kept in
    let v : View = f seat in
    let w : View = f other in
    let at : view_at s n ≡ Some v = live_view kept n seat live in
    let at' : view_at s m ≡ Some w = live_view kept m other live' in
    let first : seat.first ≡ n = first_is kept h good n seat live in
    let second : other.first ≡ m = first_is kept h good m other live' in
    let both : Seat = both_seats seat other (max seat.seen other.seen) in (
      (
        to_some (λ v. HoldsNothing v × (m ≡ v.first + v.parts)) (view_at s n) v at
            (seat_empty kept n seat first nothing, next),
        to_some (λ w. HoldsNothing w) (view_at s m) w at' (seat_empty kept m other second nothing'),
      ),
      ap (λ vs. record s { views = vs })
          (map-set (option_map f) (slice_set kept.seats m None) n (Some both)
          ∙ ap (λ l. slice_set l n (Some (f both))) (map-set (option_map f) kept.seats m None)
          ∙ ap (λ j. slice_set (slice_set s.views j None) n (Some (f both))) (sym second)
          ∙ ap (λ j. slice_set (slice_set s.views other.first None) j (Some (f both))) (sym first))
          ∙ ap (λ (o : Option View). option_map_or (λ w. join_of s v w) o s) (sym at')
          ∙ ap (λ (o : Option View). option_map_or (λ v. option_map_or (λ w. join_of s v w) (view_at s m) s) o s)
          (sym at),
    )
