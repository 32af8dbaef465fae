use Rattle.std.proofs.Common.{◌≡◌, ◌<◌, ◌++◌, ◌∷◌, [], List, length, All, sym, ◌∙◌, ap, subst, arith, append_assoc}
use Rattle.std.proofs.lemmas.List.{map-append}
use Rattle.std.proofs.lemmas.List.Elements.{All-head, All-tail}
use Rattle.std.specs.Vec.Iter.{into_iter_items}
use Rattle.round_table.specs.declared.view.Hand.{Hand}
use Rattle.round_table.specs.declared.worker.Worker.{Worker}
use Rattle.round_table.specs.Closed.{opened_as, hand_of}
use Rattle.round_table.proofs.Moves.{comes_allowed, whole_splits, joins_keep}
use Rattle.round_table.proofs.closing.gathered.Goals as goal

pub load_new_seat-all-requires : goal.load_new_seat-all-requires
load_new_seat-all-requires g c =
    let t = c.args.board.now.shared in (c.requires.words, comes_allowed t.key t.table_id.slots)

pub split_seat-whole-requires : goal.split_seat-whole-requires
split_seat-whole-requires g c =
    let t = c.args.board.now.shared in
    let at = c.loop-worker in
    let x = c.in-Some.worker in
    let P : Worker g.row.T.Denot g.row.S.Denot → Type 0 = λ w. w.pass.table ≡ opened_as t.table_id t.key in
    let known : x.pass.table ≡ opened_as t.table_id t.key = All-head P x (into_iter_items c.next.new.self)
    (subst (All P) c.in-Some.ensures.steps.0 at.invariant.2) in (
      (λ i. (c.pass.view_is i).table.id) ∙ (λ i. (known i).id),
      c.requires.words,
      whole_splits t.key c.pass.inside.place.id c.pass.inside.place.me.0,
    )

pub join_seat-requires : goal.join_seat-requires
join_seat-requires g c =
    let t = c.args.board.now.shared in
    let at = c.loop-worker in
    let x = c.in-Some.worker in
    let P : Worker g.row.T.Denot g.row.S.Denot → Type 0 = λ w. w.pass.table ≡ opened_as t.table_id t.key in
    let known : x.pass.table ≡ opened_as t.table_id t.key = All-head P x (into_iter_items c.next.new.self)
    (subst (All P) c.in-Some.ensures.steps.0 at.invariant.2) in
    let is = c.split_seat-whole.ensures.4 in
    let hands : c.split_seat-whole.result.me.0.hands ≡ _ = ap (λ m. m.0.hands) is ∙ c.pass.invariant in (
      at.invariant.3,
      c.split_seat-whole.ensures.3 ∙ (λ i. (c.pass.view_is i).table.id) ∙ (λ i. (known i).id),
      ap (λ m. m.1) is,
      c.requires.words,
      joins_keep t.key at.all.id at.all.me.0 c.split_seat-whole.result.id c.split_seat-whole.result.me.0
          (subst (λ (l : List Hand). 0 < length l) (sym hands) (omega arith)),
    )

pub loop-worker-preserved : goal.loop-worker-preserved
loop-worker-preserved g c =
    let t = c.args.board.now.shared in
    let at = c.loop-worker in
    let x : Worker g.row.T.Denot g.row.S.Denot = c.in-Some.worker in
    let P : Worker g.row.T.Denot g.row.S.Denot → Type 0 = λ w. w.pass.table ≡ opened_as t.table_id t.key in
    let steps : into_iter_items at.worker-iterator ≡ x ∷ into_iter_items c.next.new.self = c.in-Some.ensures.steps.0 in
    let whole : c.split_seat-whole.result.me.0.hands ≡ hand_of x ∷ [] =
    ap (λ m. m.0.hands) c.split_seat-whole.ensures.4 ∙ c.pass.invariant
    ∙ (λ i. record { number = (c.pass.view_is i).number; claims = (c.pass.view_is i).claims } ∷ []) in (
      append_assoc at.yielded (x ∷ []) _ ∙ rw (← steps) at.invariant.0,
      (let was = at.invariant.1 in
          let gone = c.in-Some.ensures.steps.1 in
          let short = ap length steps in
          omega arith),
      All-tail P x (into_iter_items c.next.new.self) (subst (All P) steps at.invariant.2),
      c.join_seat.ensures.0 ∙ at.invariant.3,
      ap (λ m. m.0.hands) c.join_seat.ensures.2 ∙ (λ i. at.invariant.4 i ++ whole i)
          ∙ sym (map-append hand_of at.yielded (x ∷ [])),
      c.in_ok-push.ensures.items ∙ ap (λ (l : List g.row.S.Denot). l ++ x.state ∷ []) at.invariant.5
          ∙ sym (map-append (λ (w : Worker g.row.T.Denot g.row.S.Denot). w.state) at.yielded (x ∷ [])),
    )
