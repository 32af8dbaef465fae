-- The lemmas that other crates cite.
pub use Rattle.gabriel_faces.proofs.JudgedByLink.{judged_by_link}
pub use Rattle.gabriel_faces.proofs.Links.{link_is_link, listed_is_face}
