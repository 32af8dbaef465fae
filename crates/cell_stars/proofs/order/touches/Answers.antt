use Rattle.std.proofs.Common.{◌==◌, ◌≡◌, ◌<◌, ◌+◌, ◌||◌, ◌∙◌, ℕ, List, Bool, false, ap, sym, subst, take, length}
use Rattle.std.proofs.Common.{slice_index_or, inl, inr}
use Rattle.std.proofs.lemmas.Bool.Decides.{eqb_tells}
use Rattle.std.proofs.lemmas.List.{take_all}
use Rattle.std.proofs.lemmas.List.Folds.{list_any_more}
use Rattle.std.specs.List.{list_any}
use Rattle.bucket_grid.specs.Grids.{bucket_of}
use Rattle.cell_stars.proofs.order.touches.Goals as goal

other : (n m : ℕ) → (n ≡ m → ⊥) → (n == m) ≡ false
other n m f = elim (eqb_tells n m) [ inl t ↦ absurd (f t.1) | inr t ↦ t.0 ]

none_more : (test : ℕ → Bool) (xs : List ℕ) (n x : ℕ) → n < length xs → x ≡ slice_index_or xs n x → test x ≡ false →
    list_any test (take n xs) ≡ false → list_any test (take (n + 1) xs) ≡ false
none_more test xs n x h s t i = list_any_more test xs n x h ∙ ap (λ (q : Bool). q || test (slice_index_or xs n x)) i
    ∙ ap test (sym s) ∙ t

pub loop-p-preserved : goal.loop-p-preserved
loop-p-preserved c =
    let x = c.p-item.result in
    none_more (λ (p : ℕ). bucket_of c.args.grid p == c.args.b) c.points-p-items.result.now c.loop-p.p-index x
    c.loop-p-test.true c.p-item.is
    (other (bucket_of c.args.grid x) c.args.b (λ e. c.if-bucket_of-b.false (c.bucket_of.ensures.number ∙ e)))
    c.loop-p.invariant

pub returns : goal.returns
returns c =
    let test = λ (p : ℕ). bucket_of c.args.grid p == c.args.b in
    let all : list_any test c.points-p-items.result.now ≡ false =
    ap (λ (l : List ℕ). list_any test l) (sym (take_all c.loop-p.p-index c.points-p-items.result.now
    c.loop-p-test.false)) ∙ c.loop-p.invariant in
    sym (subst (λ (l : List ℕ). list_any test l ≡ false) c.points-p-items.ensures.points all)
