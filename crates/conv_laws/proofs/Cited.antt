-- The lemmas that other crates cite.
pub use Rattle.conv_laws.proofs.Affine.{crossing, lifted_carried, orient_carried, pencil, three_terms, weights_add_up}
pub use Rattle.conv_laws.proofs.Affine.{weights_of_heights}
pub use Rattle.conv_laws.proofs.Alternation.{lifted_acdb, lifted_bcad, lifted_same15, lifted_same25, lifted_same35}
pub use Rattle.conv_laws.proofs.Alternation.{lifted_same45, lifted_swap12, lifted_swap23, lifted_swap34, lifted_swap35}
pub use Rattle.conv_laws.proofs.Alternation.{lifted_swap45, orient_acdb, orient_bcad, orient_same12, orient_same13}
pub use Rattle.conv_laws.proofs.Alternation.{orient_same23}
pub use Rattle.conv_laws.proofs.Solidity.{line_in_plane, only_on_line}
pub use Rattle.conv_laws.proofs.Spheres.{affine_change, edge_power_carried, paraboloid_is_convex}
pub use Rattle.conv_laws.proofs.Spheres.{triangle_power_carried}
