-- After the exchange of cells and the entry, the hold has what the view said at the ticket step.
use Rattle.std.specs.Prelude.{◌≡◌, ℕ, ◌+◌, ◌==◌, Bool, true, false, cond, List, [], ◌∷◌, ◌++◌, Option, None, Some}
use Rattle.std.specs.Prelude.{length}
use Rattle.std.specs.Option.{option_map}
use Rattle.std.proofs.Common.{refl, sym, ◌∙◌, ap, arith, ext_get_or}
use Rattle.point_order.specs.declared.cell.Cell.{Cell}
use Rattle.edit_history.specs.declared.history.Entry.{Entry}
use Rattle.edit_history.specs.Edits.{is_move, point_of}
use Rattle.bucket_grid.specs.Grids.{bucket_of}
use Rattle.cell_store.specs.Buckets.{BucketContent, InHand, bucket_at}
use Rattle.cell_store.specs.Shares.{IsShare, share_at}
use Rattle.cell_store.specs.Changes.{IsArrived, IsNext, IsSwapped, IsNoted, arrived_in, brought_in, swapped_in}
use Rattle.cell_store.specs.Changes.{noted_in}
use Rattle.cell_store.proofs.Cited.{arrived_rest, share_after_any}
use Rattle.claim_rule.specs.Good.{AreSharesOf}
use Rattle.claim_rule.specs.Events.{renewed_from}
use Rattle.claim_rule.proofs.Commits.{renewed_at, renewed_length}

-- the place of a content stays
place_stays : (g b : ℕ) (e : Entry) (c : BucketContent) → (noted_in g b e c).place ≡ c.place
place_stays g b e c = by (bucket_of g (point_of e.edit) == b)
  where
    by : (t : Bool) → (cond t (record c {
      points = Rattle.edit_history.specs.Edits.changed c.points (point_of e.edit)
          e.reply;
      entries = c.entries ++ e ∷ [];
    }) c).place ≡ c.place
    by true = refl
    by false = refl

-- a content that is its bucket's share, and at its place, is just that
is_share_at : (g b : ℕ) (h : List Entry) (c : BucketContent) → IsShare g b h c → c.place ≡ Some (g, b) →
    c ≡ share_at g b h
is_share_at g b h c s p = λ i. record { points = s.points i; cells = s.cells i; entries = s.entries i; place = p i }

-- all that an entry makes of a bucket leaves its place
brought_place : (g b : ℕ) (gone fresh : List Cell) (e : Entry) (c : BucketContent) →
    (brought_in g b gone fresh e c).place ≡ c.place
brought_place g b gone fresh e c =
    place_stays g b e (arrived_in g b e (swapped_in g b gone fresh c))
    ∙ (arrived_rest g b e (swapped_in g b gone fresh c)).2

-- of any entry: the cells are exchanged, the place comes to which a point has moved, and the entry is noted
pub any_brought :
    (g : ℕ) (h : List Entry) (e : Entry) (gone fresh : List Cell) (old between with_goal new : InHand) →
    old.grid ≡ g → AreSharesOf g h old.places → IsNext h e gone fresh → IsSwapped gone fresh old between →
    IsArrived e between with_goal → IsNoted e with_goal new → new.places ≡ renewed_from g (h ++ e ∷ []) 0 old.places
any_brought g h e gone fresh old between with_goal new same shares next swap arrived note =
    let h' : List Entry = h ++ e ∷ [] in
    let at_swap : between.grid ≡ g = swap.grid ∙ same in
    let at_goal : with_goal.grid ≡ g = arrived.grid ∙ at_swap in
    let wide : length new.places ≡ length (renewed_from g h' 0 old.places) =
    note.count ∙ arrived.count ∙ swap.count ∙ sym (renewed_length g h' 0 old.places) in
    ext_get_or None new.places (renewed_from g h' 0 old.places) wide (λ b l.
    let z : 0 + b ≡ b = omega arith in
    note.places b
    ∙ (λ i. option_map (noted_in (at_goal i) b e) (arrived.places b i))
    ∙ (λ i. option_map (noted_in g b e) (option_map (arrived_in (at_swap i) b e) (swap.places b i)))
    ∙ (λ i. option_map (noted_in g b e) (option_map (arrived_in g b e)
    (option_map (swapped_in (same i) b gone fresh) (bucket_at old.places b))))
    ∙ one b (bucket_at old.places b) (shares b)
    ∙ (λ i. option_map (λ c. share_at g (sym z i) h') (bucket_at old.places b))
    ∙ sym (renewed_at g h' 0 old.places b))
  where
    one : (b : ℕ) (o : Option BucketContent) → ((c : BucketContent) → o ≡ Some c → c ≡ share_at g b h) →
        option_map (noted_in g b e) (option_map (arrived_in g b e) (option_map (swapped_in g b gone fresh) o))
        ≡ option_map (λ c. share_at g b (h ++ e ∷ [])) o
    one b None f = refl
    one b (Some c) f =
        let is : c ≡ share_at g b h = f c refl in
        let s : IsShare g b h c = record {
          points = ap (λ (x : BucketContent). x.points) is;
          cells = ap (λ (x : BucketContent). x.cells) is;
          entries = ap (λ (x : BucketContent). x.entries) is;
        } in
        let p : c.place ≡ Some (g, b) = ap (λ (x : BucketContent). x.place) is in
        ap (λ (x : BucketContent). Some x) (is_share_at g b (h ++ e ∷ []) (brought_in g b gone fresh e c)
        (share_after_any g b h e gone fresh c next s) (brought_place g b gone fresh e c ∙ p))
