use Rattle.std.proofs.Common.{◌∙◌, ap, inl, refl, sym, List, ℕ, [], ◌∷◌, ◌++◌}
use Rattle.std.specs.Prelude.{Option, slice_set}
use Rattle.std.proofs.lemmas.List.{get_or-map}
use Rattle.list_laws.proofs.Cited.{map_set}
use Rattle.solid_parts.specs.declared.part.Part.{Part}
use Rattle.solid_parts.specs.Seen.{parts_seen}
use Rattle.solid_parts.specs.Gathered.{place_at}
use Rattle.solid_parts.proofs.gathering.put_cell.Goals as goal

-- the cell comes last in the part of its label
pub returns-in_ok-push-in-Some : goal.returns-in_ok-push-in-Some
returns-in_ok-push-in-Some c =
    let parts = c.args.parts.now.items in
    let p = c.in-Some.place in
    let told = ap (λ (v : List (Option ℕ)). place_at v c.args.label) (sym c.deref.ensures.value) ∙ sym
    c.place_of_label.ensures ∙ c.in-Some.is in
    let there = c.requires.place p told in
    let pushed = c.in_ok-push-in-Some.ensures.items
    ∙ ap (λ (v : List (List ℕ)). v ++ c.args.quad ∷ [])
    (ap (λ (v : Part). v.cells.items) c.index_mut.ensures.value ∙ sym
    (get_or-map (λ (v : Part). v.cells.items) parts p c.index_mut.result.now [] there)) in
    inl (
      p,
      told,
      refl,
      map_set (λ (v : Part). v.cells.items) parts p (record { cells = c.push.new.self }) ∙ ap
          (slice_set (parts_seen parts) p) pushed,
    )
