-- A board that is kept in one hold with words, as it begins.
use Rattle.std.specs.Prelude.{◌≡◌, ℕ, zero, suc, ◌+◌, ◌-◌, ◌*◌, ◌^◌, ◌<◌, ◌≤◌, ◌==◌, min, false, List, [], ◌∷◌, map}
use Rattle.std.specs.Prelude.{Option, None, Some, length, replicate, slice_index_or}
use Rattle.std.specs.Option.{option_map}
use Rattle.std.proofs.Common.{refl, sym, ◌∙◌, ap, subst, arith, ext_get_or, ne_eqb}
use Rattle.std.proofs.lemmas.List.{length-replicate}
use Rattle.list_laws.proofs.Cited.{some_of, zero_at}
use Rattle.edit_history.specs.declared.history.Entry.{Entry}
use Rattle.cell_store.specs.Buckets.{BucketContent, InHand, bucket_at, StandAtPlaces}
use Rattle.cell_store.specs.Shares.{share_at}
use Rattle.cell_store.specs.Meshes.{MeshView, IsHoldOf, within_64_bits}
use Rattle.cell_store.proofs.Cited.{share_is_one}
use Rattle.claim_rule.specs.declared.board.Seat.{Seat}
use Rattle.claim_rule.specs.Boards.{View}
use Rattle.claim_rule.specs.Good.{Good}
use Rattle.claim_rule.specs.Opening.{shares_from, opening_board}
use Rattle.claim_rule.specs.Kept.{KeptBoard, homes_of, held_by, with_held, board_of}
use Rattle.claim_rule.proofs.OneHistory.{shares_count, all_shares}
use Rattle.claim_rule.proofs.Opening.{opening_is_good}
use Rattle.claim_rule.proofs.Seats.{held_none}

-- a count of a list that is short enough is its length
pub as_counted : (n l a : ℕ) → n ≡ within_64_bits l → l + a ≤ 2 ^ 32 → n ≡ l
as_counted n l a e h = omega arith

-- with all words 0, all contents are at home
all_home : (n : ℕ) (places : List (Option BucketContent)) → length places ≡ n → homes_of (replicate n 0) places ≡ places
all_home zero [] e = refl
all_home zero (o ∷ places) e = absurd (omega arith)
all_home (suc n) [] e = absurd (omega arith)
all_home (suc n) (o ∷ places) e = ap (λ l. o ∷ l) (all_home n places (omega arith))

-- where there are no seats there are no views
all_none : (f : Seat → View) (n : ℕ) → map (option_map f) (replicate n None) ≡ replicate n None
all_none f zero = refl
all_none f (suc n) = ap (λ l. None ∷ l) (all_none f n)

-- with all words 0 no pass holds anything
none_held : (n first : ℕ) (places : List (Option BucketContent)) → held_by first (replicate n 0) places
    ≡ replicate n None
none_held n first places =
    held_none (λ w. w == first + 1) (replicate n 0) places (λ b h. ap (λ w. w == first + 1) (zero_at n b)
    ∙ ne_eqb 0 (first + 1) (λ q. omega (arith, q)))
    ∙ ap (λ k. replicate k None) (length-replicate n 0)

-- the buckets of a mesh are its shares
pub mesh_shares : (mesh : MeshView) (hold : InHand) → IsHoldOf mesh hold → StandAtPlaces hold.grid hold.places →
    hold.places ≡ shares_from mesh.grid mesh.history 0 (mesh.grid * mesh.grid * mesh.grid)
mesh_shares mesh hold i placed =
    let g : ℕ = mesh.grid in
    let h : List Entry = mesh.history in
    let count : length hold.places ≡ g * g * g = i.whole.has.places ∙ ap (λ (n : ℕ). n * n * n) i.grid in
    ext_get_or None hold.places (shares_from g h 0 (g * g * g)) (count ∙ sym (shares_count g h 0 (g * g * g))) (λ b l.
    let c = some_of (bucket_at hold.places b) (i.whole.all b l) in
    c.1 ∙ ap (λ (x : BucketContent). Some x) (share_is_one hold.grid b h c.0 (i.stands.shares b c.0 c.1)
    (placed b c.0 c.1))
    ∙ ap (λ (n : ℕ). Some (share_at n b h)) i.grid ∙ sym (all_shares g h b (omega (arith, l, count))))

-- a board that is kept so at the start is the opening board of the mesh's history
pub begun_is : (mesh : MeshView) (kept : KeptBoard) (allowance : ℕ) → IsHoldOf mesh kept.hold →
    StandAtPlaces kept.hold.grid kept.hold.places → kept.opening ≡ mesh.history → kept.ticket ≡ length mesh.history →
    kept.most ≡ length mesh.history + allowance → kept.words ≡ replicate (mesh.grid * mesh.grid * mesh.grid) 0 →
    kept.seats ≡ Some (record {
      first = 0;
      parts = kept.parts;
      left = allowance;
      seen = kept.ticket;
      since = kept.ticket;
    }) ∷ replicate (kept.parts - 1) None →
    board_of kept ≡ opening_board mesh.grid kept.parts allowance mesh.history
begun_is mesh kept allowance i placed o t m w s =
    let g : ℕ = mesh.grid in
    let h : List Entry = mesh.history in
    let n : ℕ = g * g * g in
    let first : ℕ → Seat =
    λ seen. record { first = 0; parts = kept.parts; left = allowance; seen = seen; since = seen } in
    let zeros : List ℕ = replicate n 0 in
    let homes : List (Option BucketContent) = shares_from g h 0 n in
    let at : kept.hold.places ≡ homes = mesh_shares mesh kept.hold i placed in
    let home : homes_of zeros homes ≡ homes = all_home n homes (shares_count g h 0 n) in
    let seen : Seat → View = λ v. with_held v (held_by v.first zeros homes) in
    let views : map (option_map seen) (Some (first kept.ticket) ∷ replicate (kept.parts - 1) None)
    ≡ Some (with_held (first (length h)) (replicate n None)) ∷ replicate (kept.parts - 1) None =
    λ k. Some (with_held (first (t k)) (none_held n 0 homes k)) ∷ all_none seen (kept.parts - 1) k in
    (λ k. board_of (record {
      hold = record { grid = i.grid k; places = at k; room = kept.hold.room };
      parts = kept.parts;
      most = m k;
      opening = o k;
      ticket = t k;
      words = w k;
      seats = s k;
    }))
    ∙ (λ k. record {
      grid = g;
      parts = kept.parts;
      most = length h + allowance;
      opening = h;
      ticket = length h;
      words = zeros;
      homes = home k;
      views = views k;
    })

-- and that is good, where there are few enough parts and entries
pub begun_good : (mesh : MeshView) (hold : InHand) (parts allowance : ℕ) → IsHoldOf mesh hold → 0 < parts → parts ≤ 64 →
    length mesh.history + allowance ≤ 2 ^ 32 → Good (opening_board mesh.grid parts allowance mesh.history)
begun_good mesh hold parts allowance i some few fits = (
  mesh.history,
  opening_is_good mesh.grid parts allowance mesh.history
      (subst (λ (n : ℕ). Rattle.bucket_grid.specs.Grids.is_grid_size n ≡ Rattle.std.specs.Prelude.true) i.grid
      i.whole.has.size) some few fits i.stands.legal i.stands.keys i.stands.solid,
)
