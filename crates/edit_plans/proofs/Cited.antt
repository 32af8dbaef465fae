-- The lemmas that other crates cite.
pub use Rattle.edit_plans.proofs.Planned.{home_begins, planner_stays}
