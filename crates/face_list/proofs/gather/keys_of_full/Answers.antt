use Rattle.std.proofs.Common.{◌≡◌, sym, ap, subst, ◌∙◌, inl, inr, take, [], ◌∷◌, ◌++◌, arith}
use Rattle.std.specs.List.Sorted.{IsStrictlySortedBy}
use Rattle.std.specs.declared.cmp.Ordering.TheVariants.{Less}
use Rattle.std.proofs.lemmas.List.{take_more, take_all}
use Rattle.list_laws.proofs.Cited.{at_in, before_next, in_end, sorted_none}
use Rattle.point_order.specs.Sets.{IsIn}
use Rattle.face_list.specs.Gather.{full_keys, item_cmp, is_a_full_cell}
use Rattle.face_list.specs.Tables.{cell_at}
use Rattle.face_list.proofs.Gathering.{full_from, full_more, open_more, not_greater, cell_is}
use Rattle.face_list.proofs.gather.keys_of_full.Goals as goal
use Rattle.face_list.proofs.gather.keys_of_full.Goals.{then-is_full+in_ok-put_key, else-is_full}

pub loop-key-init : goal.loop-key-init
loop-key-init g c = record {
  order = subst (IsStrictlySortedBy g.K.Ord.cmp) (sym c.in_ok-keys.ensures.items) (sorted_none g.K.Ord.cmp);
  keys = λ k. (λ i. subst (IsIn k) c.in_ok-keys.ensures.items i, λ i. absurd i);
}

pub bounds-cells-number : goal.bounds-cells-number
bounds-cells-number g c =
    c.requires.numbers c.loop-key-item.result (subst (λ v. IsIn v c.args.items.now) (sym c.loop-key-item.is)
    (at_in c.args.items.now c.loop-key.key-index c.loop-key-item.result c.loop-key-test.true))

pub put_key-requires-clause-not_before : goal.put_key-requires-clause-not_before
put_key-requires-clause-not_before g c k i =
    let cmp = g.K.Ord.cmp in
    let items = c.args.items.now in
    let n = c.loop-key.key-index in
    let item = c.loop-key-item.result in
    let f = full_from c.args.cells.now (take n items) k ((c.loop-key.invariant.keys k).0 i) in
    not_greater cmp (k, f.0) item (subst (λ v. item_cmp cmp (k, f.0) v ≡ Less) (sym c.loop-key-item.is)
    (before_next (item_cmp cmp) items n item (k, f.0) c.requires.order c.loop-key-test.true f.1))

-- the next item is of a Full cell and its key is put, unless it is the last one's, or it is of an Open cell
pub loop-key-preserved : goal.loop-key-preserved
loop-key-preserved g c =
    let cells = c.args.cells.now in
    let items = c.args.items.now in
    let n = c.loop-key.key-index in
    let item = c.loop-key-item.result in
    let t = take_more items n item c.loop-key-test.true ∙ ap (λ v. take n items ++ v ∷ []) (sym c.loop-key-item.is) in
    let inside = c.requires.numbers item (subst (λ v. IsIn v items) (sym c.loop-key-item.is)
    (at_in items n item c.loop-key-test.true)) in
    let full : c.is_full.result ≡ is_a_full_cell (cell_at cells item.1) =
    c.is_full.ensures ∙ ap is_a_full_cell
    (cell_is cells item.1 c.index-cells-number.result inside c.index-cells-number.is) in
    elim c.if-is_full.branch [
      | then-is_full+in_ok-put_key w ↦ record {
        order = rw w.keys-is w.in_ok-put_key.ensures.order;
        keys = λ k. rw (w.keys-is, t, full_more cells (take n items) item (sym full ∙ w.if-is_full.true)) (
          λ i. (in_end (full_keys cells (take n items)) item.0 k).1
              (elim ((w.in_ok-put_key.ensures.keys k).0 i)
              [ inl j ↦ inl ((c.loop-key.invariant.keys k).0 j) | inr e ↦ inr e ]),
          λ i. (w.in_ok-put_key.ensures.keys k).1
              (elim ((in_end (full_keys cells (take n items)) item.0 k).0 i)
              [ inl j ↦ inl ((c.loop-key.invariant.keys k).1 j) | inr e ↦ inr e ]),
        );
      }
      | else-is_full w ↦ record {
        order = rw w.keys-is c.loop-key.invariant.order;
        keys = λ k. rw (w.keys-is, t, open_more cells (take n items) item (sym full ∙ w.if-is_full.false))
            (c.loop-key.invariant.keys k);
      }
    ]

pub returns-clause-keys : goal.returns-clause-keys
returns-clause-keys g c k = rw (take_all c.loop-key.key-index c.args.items.now (omega arith)) at
    (c.loop-key.invariant.keys k)
