-- Planned exchanges keep the stars, and make the exchange.
use Rattle.std.specs.Prelude.{◌≡◌, ℕ, true, Some, ◌⊎◌}
use Rattle.std.proofs.Common.{inl, inr, sym, ◌∙◌, ap}
use Rattle.point_order.specs.declared.cell.Cell.{Cell}
use Rattle.point_order.specs.Facets.{points_of}
use Rattle.point_order.specs.Sets.{IsIn}
use Rattle.cell_stars.specs.Places.{IsPlaceAround, IsStarred, lies_in, touches_in, at_slot}
use Rattle.cell_stars.specs.Plans.{RewrittenIsMoved}

-- where cells are put and stars rewritten so, the stars are those of the cells and the exchange is made
pub rewritten_is_moved : RewrittenIsMoved
rewritten_is_moved gone fresh freed placed old new e s f r w = (
  record { order = w.order; names = names; listed = listed; filled = w.filled; once = once; touching = touching },
  record {
    place = e;
    stays = λ i c q n. r.kept i c q (λ m. (let g = f.freed_gone i c m q in n g.0 g.1));
    comes =
        comes;
    only = only;
  },
)
  where
    at_home : (p : ℕ) → lies_in old.place p ≡ true → lies_in new.place p ≡ true
    at_home p t = ap (λ o. lies_in o p) e ∙ t

    names : (p i : ℕ) → IsStarred new.keys new.stars p i → IsPlaceAround new.place new.slots p i
    names p i m = elim ((w.starred p i).0 m) [
      | inl o ↦ (let t = s.names p i o.0 in record {
        cell = t.cell;
        there = r.kept i t.cell t.there o.1;
        has =
            t.has;
        inside = at_home p t.inside;
      })
      | inr q ↦ record { cell = q.cell; there = r.put i q.cell q.put; has = q.has; inside = at_home p q.inside }
    ]

    listed : (p i : ℕ) (c : Cell) → at_slot new.slots i ≡ Some c → IsIn p (points_of c) → lies_in new.place p ≡ true →
        IsStarred new.keys new.stars p i
    listed p i c q m n =
        let home = ap (λ o. lies_in o p) (sym e) ∙ n in
        elim (r.only i c q) [
          | inl o ↦ (w.starred p i).1 (inr (record { cell = c; put = o; has = m; inside = home }))
          | inr o ↦ (w.starred p i).1 (inl (s.listed p i c o.0 m home, o.1))
        ]

    once : (i j : ℕ) (c : Cell) → at_slot new.slots i ≡ Some c → at_slot new.slots j ≡ Some c → i ≡ j
    once i j c p q = elim (r.only i c p) [
      | inl a ↦ elim (r.only j c q) [ inl b ↦ f.single i j c a b | inr b ↦ absurd (b.1 (f.new i j c a b.0)) ]
      | inr a ↦ elim (r.only j c q) [ inl b ↦ absurd (a.1 (f.new j i c b a.0)) | inr b ↦ s.once i j c a.0 b.0 ]
    ]

    touching : (i : ℕ) (c : Cell) → at_slot new.slots i ≡ Some c → touches_in new.place c ≡ true
    touching i c p = ap (λ o. touches_in o c) e
        ∙ elim (r.only i c p) [ inl a ↦ (f.placed_fresh i c a).1 | inr a ↦ s.touching i c a.0 ]

    comes : (c : Cell) → IsIn c fresh → touches_in old.place c ≡ true → (i : ℕ) × (at_slot new.slots i ≡ Some c)
    comes c m t = elim (f.fresh_placed c m t) [
      | inl q ↦ (q.0, r.put q.0 c q.1)
      | inr o ↦ (o.0, r.kept o.0 c o.1 o.2)
    ]

    only : (i : ℕ) (c : Cell) → at_slot new.slots i ≡ Some c →
        (IsIn c fresh × (touches_in old.place c ≡ true))
        ⊎ ((at_slot old.slots i ≡ Some c) × (IsIn c gone → touches_in old.place c ≡ true → ⊥))
    only i c q = elim (r.only i c q) [
      | inl o ↦ inl (f.placed_fresh i c o)
      | inr o ↦ inr (o.0, λ m t. o.1 (f.gone_freed i c o.0 m t))
    ]
