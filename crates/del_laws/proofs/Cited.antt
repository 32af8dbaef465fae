-- The lemmas that other crates cite.
pub use Rattle.del_laws.proofs.Across.{across_full, across_open}
pub use Rattle.del_laws.proofs.BaseFacts.{point_finite, test_symmetric}
pub use Rattle.del_laws.proofs.Bools.{cell_from, cell_true}
pub use Rattle.del_laws.proofs.CellFacts.{full_turned, open_under}
pub use Rattle.del_laws.proofs.Decide.{vertex_discrete}
pub use Rattle.del_laws.proofs.EmptySpheres.{edge_by_cells, triangle_by_cells}
pub use Rattle.del_laws.proofs.Identities.{lifted_swap45, orientation_same12, orientation_same13, orientation_same23}
pub use Rattle.del_laws.proofs.Kept.{full_is_kept, open_is_kept}
pub use Rattle.del_laws.proofs.Listed.{cell_is_listed, definition_is_cell, full_not_flat, listed_full, listed_inside}
pub use Rattle.del_laws.proofs.Listed.{listed_is_cell, listed_open, not_both_kinds, part_ascending, part_inside}
pub use Rattle.del_laws.proofs.Listed.{part_true, same_full, same_open}
pub use Rattle.del_laws.proofs.ListedParts.{listed_every_point, listed_mate}
pub use Rattle.del_laws.proofs.Lists.{of_four}
pub use Rattle.del_laws.proofs.Nearness.{before_chain, before_not, fewer_nearer}
pub use Rattle.del_laws.proofs.Neighbours.{IsOver, fits, listed_facets, over_facet}
pub use Rattle.del_laws.proofs.Ordered.{against, complex_is_sorted, same_members}
pub use Rattle.del_laws.proofs.Pairs.{same_point}
pub use Rattle.del_laws.proofs.Perturbed.{out_is}
pub use Rattle.del_laws.proofs.PointSets.{ascending_of, extensional, finite, has_from, has_minus, has_plus, has_true}
pub use Rattle.del_laws.proofs.PointSets.{keys_of, minus_points, plus_points, set_true, solid_more}
pub use Rattle.del_laws.proofs.Ranks.{nearer_across, nearer_inside, some_triple_towards}
pub use Rattle.del_laws.proofs.Recognised.{closed_list_is_complex, complex_is_closed_list}
pub use Rattle.del_laws.proofs.Sorting.{apart12, apart14, apart23, apart24, apart34, cell_of_swap12, cell_of_swap23}
pub use Rattle.del_laws.proofs.Sorting.{cell_of_swap34, rotate1, rotate2, test_is_listed, turn12, turn23, turn34}
pub use Rattle.del_laws.proofs.StarLaw.{base}
pub use Rattle.del_laws.proofs.Ranks.{out_swap23}
