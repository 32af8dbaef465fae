-- The lemmas that other crates cite.
pub use Rattle.hole_laws.proofs.AroundPoint.{star_connected}
pub use Rattle.hole_laws.proofs.EditLaws.{changes_reached, edits_commute, stays_solid}
pub use Rattle.hole_laws.proofs.FacetVertices.{IsAgainst, against_of, over_facet}
pub use Rattle.hole_laws.proofs.Judged.{goes_in_conflict, mates_judge, stays_without_conflict}
pub use Rattle.hole_laws.proofs.Laws.{cells_after, found_from_held, fresh_are_near, fresh_have_point, old_lack_point}
pub use Rattle.hole_laws.proofs.Laws.{region_connected, some_rim}
pub use Rattle.hole_laws.proofs.NewCells.{point_vertex}
pub use Rattle.hole_laws.proofs.OfSets.{lists_of, more_set}
pub use Rattle.hole_laws.proofs.RemovalLaws.{cells_of_rest, coming_are_near, refilled_from_link, solid_near}
pub use Rattle.hole_laws.proofs.Rest.{rest_new, rest_set, within_new, without_from, without_true}
pub use Rattle.hole_laws.proofs.RimCells.{one_fresh_each, one_gone_each}
pub use Rattle.hole_laws.proofs.Vertex.{IsFacetVertex}
pub use Rattle.hole_laws.proofs.Crossing.{crossed_found, crossed_goes, crossed_stays}
pub use Rattle.hole_laws.proofs.Exploring.{facets_few, more_twice, next_facet, next_uncrossed, one_more, still_at}
pub use Rattle.hole_laws.proofs.FourCells.{four_have_five}
pub use Rattle.hole_laws.proofs.Mates.{judged, mate_against, some_against}
pub use Rattle.hole_laws.proofs.Standing.{on_cell, one_of_two, some_on, triple_on}
