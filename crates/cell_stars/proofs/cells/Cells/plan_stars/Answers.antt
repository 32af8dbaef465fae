use Rattle.std.proofs.Common.{ℕ, List, ◌<◌, length, subst, sym, ap, ◌∙◌}
use Rattle.std.specs.Option.{option_map}
use Rattle.point_order.specs.Sets.{IsIn}
use Rattle.cell_stars.specs.Places.{AreStars}
use Rattle.cell_stars.specs.Plans.{or_else, set_all}
use Rattle.cell_stars.specs.Moves.{AreAgreed, AreKeysAfter, HasSameStars}
use Rattle.cell_stars.proofs.Planned.{agreed}
use Rattle.cell_stars.proofs.cells.Cells.plan_stars.Goals as goal

pub keys_after-requires-clause-agreed : goal.keys_after-requires-clause-agreed
keys_after-requires-clause-agreed c =
    subst AreAgreed (sym c.deref-2.ensures.value)
    (agreed c.args.self.now c.args.moves.now.freed.items c.args.moves.now.placed.items c.in_ok-stars.stars.items
    c.in_ok-stars.ensures)

pub grown_stars-requires : goal.grown_stars-requires
grown_stars-requires c n s m =
    c.behind_numbers-end.ensures n s (subst (λ (l : List (ℕ × (ℕ × List ℕ))). IsIn (n, s) l)
    (c.deref-4.ensures.value ∙ sym c.deref.ensures.value) m)

pub returns-clause-before : goal.returns-clause-before
returns-clause-before c = subst AreStars c.self.view_is c.self.invariant

pub returns-clause-stars : goal.returns-clause-stars
returns-clause-stars c = c.in_ok-stars.ensures

pub keys_after-requires-clause-numbers : goal.keys_after-requires-clause-numbers
keys_after-requires-clause-numbers c n s m =
    let r = c.in_ok-stars.ensures in
    r.numbered.held n s.0 (r.after.each n s
    (subst (λ (l : List (ℕ × (ℕ × List ℕ))). IsIn (n, s) l) c.deref-2.ensures.value m))

pub returns-clause-keys : goal.returns-clause-keys
returns-clause-keys c =
    let b = c.args.self.now in
    let parts = option_map (λ v. v.items) c.in_ok-keys.keys.more in
    subst (λ (w : List (ℕ × (ℕ × List ℕ))). AreKeysAfter b.keys w
    (set_all c.in_ok-keys.keys.parts.items (or_else parts b.keys))) c.deref-2.ensures.value c.in_ok-keys.ensures.keys

pub returns-clause-same : goal.returns-clause-same
returns-clause-same c =
    let more = option_map (λ v. v.items) c.in_ok-more.more in
    subst (λ (l : List (ℕ × List ℕ)). HasSameStars l (or_else more l))
    (c.deref-3.ensures.value ∙ ap (λ v. v.stars) c.self.view_is) c.in_ok-more.ensures.same

pub returns-clause-long : goal.returns-clause-long
returns-clause-long c n s m =
    let more = option_map (λ v. v.items) c.in_ok-more.more in
    subst (λ (l : List (ℕ × List ℕ)). n < length (or_else more l))
    (c.deref-3.ensures.value ∙ ap (λ v. v.stars) c.self.view_is)
    (c.in_ok-more.ensures.long n s (subst (λ (l : List (ℕ × (ℕ × List ℕ))). IsIn (n, s) l) (sym c.deref-4.ensures.value)
    m))
