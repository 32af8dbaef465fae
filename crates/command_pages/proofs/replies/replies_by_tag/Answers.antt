use Rattle.std.proofs.Common.{◌≡◌, ◌∙◌, inl, inr, sym, ap, ℕ, zero, suc, ◌<◌, ◌≤◌, ◌+◌, ◌-◌, ◌==◌, arith, List, [], ◌∷◌}
use Rattle.std.proofs.Common.{drop, length, get_or}
use Rattle.std.specs.Prelude.{map, if◌then◌else◌}
use Rattle.std.proofs.Math.ListN.{set}
use Rattle.std.proofs.lemmas.Bool.{cases_lt}
use Rattle.std.proofs.lemmas.Grind.{get_or-set_at}
use Rattle.std.proofs.lemmas.List.{get_or-set_other, length-set}
use Rattle.std.proofs.lemmas.Bool.Decides.{nat_tests}
use Rattle.edit_history.specs.declared.history.Entry.{Entry}
use Rattle.edit_history.specs.declared.history.Reply.{Reply}
use Rattle.std.specs.List.{range_with_len}
use Rattle.edit_history.specs.declared.history.Reply.TheVariants.{Missing}
use Rattle.plain_laws.specs.Plain.{reply_at}
use Rattle.command_pages.proofs.Lines.{told_by_place}
use Rattle.command_pages.proofs.replies.replies_by_tag.Goals as goal

-- so many lines have the replies of these entries
abbrev IsTold : ℕ → List Reply → List Entry → Type 0
IsTold count items h = (length items ≡ count) × ((t : ℕ) → t < count → get_or items t Missing ≡ reply_at h t)

-- the reply of a line, where the entry before the others is known
front : (kept : List Entry) (n : ℕ) (e : Entry) (t : ℕ) → n < length kept → e ≡ get_or kept n e →
    reply_at (drop n kept) t ≡ (if e.tag == t then e.reply else reply_at (drop (n + 1) kept) t)
front [] n e t l k = absurd (omega (arith, l))
front (x ∷ kept) zero e t l k = ap (λ (d : Entry). if d.tag == t then d.reply else reply_at kept t) (sym k)
front (x ∷ kept) (suc n) e t l k = front kept n e t (omega (arith, l)) k
    ∙ ap (λ (m : ℕ). if e.tag == t then e.reply else reply_at (drop m (x ∷ kept)) t) (up n)
  where
    up : (n : ℕ) → suc (n + 1) ≡ suc n + 1
    up n = omega arith

before : (kept : List Entry) (i : ℕ) (e : Entry) (t : ℕ) → 0 < i → i ≤ length kept → e ≡ get_or kept (i - 1) e →
    reply_at (drop (i - 1) kept) t ≡ (if e.tag == t then e.reply else reply_at (drop i kept) t)
before kept i e t p l k = front kept (i - 1) e t (omega (arith, p, l)) k
    ∙ ap (λ (m : ℕ). if e.tag == t then e.reply else reply_at (drop m kept) t) (omega (arith, p))

-- an entry of no line changes nothing
passed_over : (count i : ℕ) (items : List Reply) (kept : List Entry) (e : Entry) → 0 < i → i ≤ length kept →
    e ≡ get_or kept (i - 1) e → count ≤ e.tag → IsTold count items (drop i kept) →
    IsTold count items (drop (i - 1) kept)
passed_over count i items kept e p l k past a =
    (a.0, λ t m. a.1 t m ∙ sym (before kept i e t p l k ∙ other e.tag t e.reply (reply_at (drop i kept) t) past m))
  where
    other : (tag t : ℕ) (x y : Reply) → count ≤ tag → t < count → (if tag == t then x else y) ≡ y
    other tag t x y past m = grind (arith, nat_tests)

-- an entry of a line tells its reply
told : (count i : ℕ) (items : List Reply) (kept : List Entry) (e : Entry) → 0 < i → i ≤ length kept →
    e ≡ get_or kept (i - 1) e → e.tag < length items → IsTold count items (drop i kept)
    → IsTold count (set items e.tag e.reply) (drop (i - 1) kept)
told count i items kept e p l k below a = (
  length-set items e.tag e.reply ∙ a.0,
  λ t m. at items e.tag t e.reply _ below (a.1 t m) ∙ sym (before kept i e t p l k),
)
  where
    is_at : (tag t : ℕ) (x y : Reply) → tag ≡ t → (if tag == t then x else y) ≡ x
    is_at tag t x y e = grind (arith, nat_tests)

    is_not : (tag t : ℕ) (x y : Reply) → (tag ≡ t → ⊥) → (if tag == t then x else y) ≡ y
    is_not tag t x y n = grind (arith, nat_tests)

    same : (items : List Reply) (tag t : ℕ) (x y : Reply) → tag < length items → t ≡ tag →
        get_or (set items tag x) t Missing ≡ (if tag == t then x else y)
    same items tag t x y l e = get_or-set_at items tag t x Missing e l ∙ sym (is_at tag t x y (sym e))

    other : (items : List Reply) (tag t : ℕ) (x y : Reply) → (t ≡ tag → ⊥) → get_or items t Missing ≡ y →
        get_or (set items tag x) t Missing ≡ (if tag == t then x else y)
    other items tag t x y n e = get_or-set_other items tag t x Missing n ∙ e ∙ sym (is_not tag t x y (λ q. n (sym q)))

    at : (items : List Reply) (tag t : ℕ) (x y : Reply) → tag < length items → get_or items t Missing ≡ y →
        get_or (set items tag x) t Missing ≡ (if tag == t then x else y)
    at items tag t x y l e =
        elim (cases_lt tag t) [
          | inl u ↦ other items tag t x y (λ q. omega (arith, u, q)) e
          | inr u ↦ elim (cases_lt t tag) [
            | inl v ↦ other items tag t x y (λ q. omega (arith, v, q)) e
            | inr v ↦ same items tag t x y l (omega (arith, u, v))
          ]
        ]

pub returns : goal.returns
returns c =
    let items = c.loop-i.replies.items in
    let kept = c.args.kept.now in
    let start : c.loop-i.i ≡ 0 = omega arith in
    let count : length items ≡ c.args.count = c.loop-i.invariant.0 in
    let shown : (k : ℕ) → k < length items → get_or items k Missing ≡ reply_at kept (0 + k) =
    λ k l. c.loop-i.invariant.1 k (omega (arith, l, count)) ∙ ap (λ (i : ℕ). reply_at (drop i kept) k) start
    ∙ ap (λ (t : ℕ). reply_at kept t) (omega arith) in
    told_by_place (reply_at kept) Missing 0 items shown ∙ ap (λ (n : ℕ). map (reply_at kept) (range_with_len 0 n)) count

pub loop-i-preserved : goal.loop-i-preserved
loop-i-preserved c =
    let past : c.args.count ≤ c.index-kept-i.result.tag =
    omega (arith, c.len.ensures, c.loop-i.replies.ok.0, c.loop-i.invariant.0, c.if-line-len.false) in
    passed_over c.args.count c.loop-i.i c.loop-i.replies.items c.args.kept.now c.index-kept-i.result c.loop-i-test.true
    c.loop-i.auto.i c.index-kept-i.is past c.loop-i.invariant

pub loop-i-preserved-then-line-len : goal.loop-i-preserved-then-line-len
loop-i-preserved-then-line-len c =
    let below : c.index-kept-i.result.tag < length c.loop-i.replies.items =
    omega (arith, c.len.ensures, c.loop-i.replies.ok.0, c.if-line-len.true) in
    told c.args.count c.loop-i.i c.loop-i.replies.items c.args.kept.now c.index-kept-i.result c.loop-i-test.true
    c.loop-i.auto.i c.index-kept-i.is below c.loop-i.invariant
