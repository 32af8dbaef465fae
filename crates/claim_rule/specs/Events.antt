-- What each event makes of a board, and when it may come.
use Rattle.std.specs.Prelude.{◌≡◌, ◌≢◌, ℕ, ◌+◌, ◌-◌, ◌<◌, ◌≤◌, List, [], ◌∷◌, ◌++◌, length, max, replicate, Option}
use Rattle.std.specs.Prelude.{None, Some, IsSome, IsSomeAnd, slice_set, slice_index_or}
use Rattle.std.specs.Option.{option_map, option_map_or, option_and_then}
use Rattle.edit_history.specs.declared.history.Edit.{Edit}
use Rattle.edit_history.specs.declared.history.Entry.{Entry}
use Rattle.edit_history.specs.Edits.{HasKeys, reply_to}
use Rattle.edit_history.specs.Histories.{replay}
use Rattle.cell_store.specs.Buckets.{BucketContent, bucket_at}
use Rattle.claim_rule.specs.declared.event.Event.{Event}
use Rattle.claim_rule.specs.declared.event.Event.TheVariants.{Claim, Commit, Release, Look, Split, Join}
use Rattle.claim_rule.specs.declared.event.Played.{Played}
use Rattle.claim_rule.specs.declared.event.Played.TheVariants.{Done, Taken, Short}
use Rattle.cell_store.specs.Touches.{HoldTouched}
use Rattle.claim_rule.specs.Boards.{View, BoardState, word_of, view_at}
use Rattle.cell_store.specs.Shares.{share_at}

-- the pass holds no bucket
abbrev pub HoldsNothing : View → Type 0
HoldsNothing v = (b : ℕ) → bucket_at v.held b ≡ None

-- ---- conditions

-- The pass is live, the bucket is one of the grid's, and the pass does not hold it.
abbrev pub CanClaim : BoardState → ℕ → ℕ → Type 0
CanClaim s n b = (b < length s.words) × IsSomeAnd (view_at s n) (λ v. bucket_at v.held b ≡ None)

-- The pass is live, it may still make an edit, and it holds every bucket that the edit touches after this history.
abbrev pub CanCommit : List Entry → BoardState → ℕ → Edit → Type 0
CanCommit h s n edit = IsSomeAnd (view_at s n) (λ v. (0 < v.left) × HoldTouched s.grid (replay h) edit v.held)

-- The pass is live and holds the bucket.
abbrev pub CanRelease : BoardState → ℕ → ℕ → Type 0
CanRelease s n b = IsSomeAnd (view_at s n) (λ v. IsSome (bucket_at v.held b))

-- The pass is live.
abbrev pub CanLook : BoardState → ℕ → Type 0
CanLook s n = IsSome (view_at s n)

-- The pass is live and holds nothing, it keeps a part and gives one, and gives no more allowance than it has.
abbrev pub CanSplit : BoardState → ℕ → ℕ → ℕ → Type 0
CanSplit s n parts left =
    IsSomeAnd (view_at s n) (λ v. HoldsNothing v × (0 < parts) × (parts < v.parts) × (left ≤ v.left))

-- Both passes are live and hold nothing, and the second's parts come next.
abbrev pub CanJoin : BoardState → ℕ → ℕ → Type 0
CanJoin s n m =
    IsSomeAnd (view_at s n) (λ v. HoldsNothing v × (m ≡ v.first + v.parts))
    × IsSomeAnd (view_at s m) (λ w. HoldsNothing w)

-- ---- effects

-- one live pass is changed
abbrev pub with_view : ℕ → (View → View) → List (Option View) → List (Option View)
with_view n f views = slice_set views n (option_map f (slice_index_or views n None))

-- a claim of a bucket at home: its word names the pass, and the pass holds its content
abbrev pub claimed : BoardState → ℕ → ℕ → BoardState
claimed s n b = record s {
  words = slice_set s.words b (n + 1);
  homes = slice_set s.homes b None;
  views = with_view n (λ v. record v { held = slice_set v.held b (bucket_at s.homes b) }) s.views;
}

-- the entry of a commit, after a history
abbrev pub entry_after : List Entry → ℕ → ℕ → ℕ → Edit → Entry
entry_after h number by tag edit =
    record { number = number; by = by; tag = tag; edit = edit; reply = reply_to (replay h) edit }

-- each content in hand, from bucket b on, becomes its share of the history
abbrev pub renewed_from : ℕ → List Entry → ℕ → List (Option BucketContent) → List (Option BucketContent)
renewed_from g h b [] = []
renewed_from g h b (o ∷ places) = option_map (λ c. share_at g b h) o ∷ renewed_from g h (b + 1) places

-- a commit: the ticket counts one more, and all contents in the pass's hands become the shares of the new history
abbrev pub committed : List Entry → BoardState → ℕ → ℕ → Edit → BoardState
committed h s n tag edit = record s {
  ticket = s.ticket + 1;
  views = with_view n (λ v. record v {
    left = v.left - 1;
    seen = s.ticket + 1;
    held = renewed_from s.grid (h ++ entry_after h s.ticket n tag edit ∷ []) 0 v.held;
  }) s.views;
}

-- a release: the bucket is at home, as the pass held it
abbrev pub released : BoardState → ℕ → ℕ → BoardState
released s n b = record s {
  words = slice_set s.words b 0;
  homes = slice_set s.homes b (option_and_then (λ v. bucket_at v.held b) (view_at s n));
  views = with_view n (λ v. record v { held = slice_set v.held b None }) s.views;
}

-- a look
abbrev pub looked : BoardState → ℕ → BoardState
looked s n = record s { views = with_view n (λ v. record v { seen = s.ticket }) s.views }

-- the pass that is split off: it owns the last parts, and it was made at this ticket
abbrev pub split_off : BoardState → View → ℕ → ℕ → View
split_off s v parts left = record {
  first = v.first + (v.parts - parts);
  parts = parts;
  left = left;
  seen = s.ticket;
  since = s.ticket;
  held = replicate (length s.words) None;
}

-- a split, of this pass
abbrev pub split_of : BoardState → View → ℕ → ℕ → BoardState
split_of s v parts left = record s {
  views = slice_set
      (slice_set s.views v.first (Some (record v { parts = v.parts - parts; left = v.left - left; seen = s.ticket })))
      (v.first + (v.parts - parts)) (Some (split_off s v parts left));
}

-- a split
abbrev pub split : BoardState → ℕ → ℕ → ℕ → BoardState
split s n parts left = option_map_or (λ v. split_of s v parts left) (view_at s n) s

-- a join, of these two
abbrev pub join_of : BoardState → View → View → BoardState
join_of s v w = record s {
  views = slice_set (slice_set s.views w.first None) v.first
      (Some (record v { parts = v.parts + w.parts; left = v.left + w.left; seen = max v.seen w.seen }));
}

-- a join
abbrev pub after_join : BoardState → ℕ → ℕ → BoardState
after_join s n m = option_map_or (λ v. option_map_or (λ w. join_of s v w) (view_at s m) s) (view_at s n) s

-- ---- the table of events

-- an event that is done where it may come, and else is short
abbrev pub ComesTo : Type 0 → BoardState → BoardState → Played → BoardState → Type 0
ComesTo Can s after Done s' = Can × (s' ≡ after)
ComesTo Can s after (Taken word) s' = ⊥
ComesTo Can s after Short s' = (¬ Can) × (s' ≡ s)

-- a claim, which may find the bucket away
abbrev pub ClaimGives : BoardState → ℕ → ℕ → Played → BoardState → Type 0
ClaimGives s n b Done s' = CanClaim s n b × (word_of s b ≡ 0) × (s' ≡ claimed s n b)
ClaimGives s n b (Taken word) s' = CanClaim s n b × (word ≢ 0) × (word ≡ word_of s b) × (s' ≡ s)
ClaimGives s n b Short s' = (¬ (CanClaim s n b)) × (s' ≡ s)

-- What an event answers on a board with this history, and the board after it.
abbrev pub Next : List Entry → BoardState → Event → Played → BoardState → Type 0
Next h s (Claim n b) answer s' = ClaimGives s n b answer s'
Next h s (Commit n tag edit) answer s' = ComesTo (CanCommit h s n edit) s (committed h s n tag edit) answer s'
Next h s (Release n b) answer s' = ComesTo (CanRelease s n b) s (released s n b) answer s'
Next h s (Look n) answer s' = ComesTo (CanLook s n) s (looked s n) answer s'
Next h s (Split n parts left) answer s' = ComesTo (CanSplit s n parts left) s (split s n parts left) answer s'
Next h s (Join n m) answer s' = ComesTo (CanJoin s n m) s (after_join s n m) answer s'

-- the history after it: a commit that is done adds its entry
abbrev pub history_after : List Entry → BoardState → Event → Played → List Entry
history_after h s (Commit n tag edit) Done = h ++ entry_after h s.ticket n tag edit ∷ []
history_after h s _ _ = h

-- the points of a commit's edit are points
abbrev pub HasKey : Event → Type 0
HasKey (Commit n tag edit) = HasKeys edit
HasKey _ = Unit {0}

-- it is a commit
abbrev pub is_commit : Event → Type 0
is_commit (Commit n tag edit) = Unit {0}
is_commit _ = ⊥
