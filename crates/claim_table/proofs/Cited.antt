-- The lemmas that other crates cite.
pub use Rattle.claim_table.proofs.Homecoming.{all_in_hand, homed, last_of, stands_so}
pub use Rattle.claim_table.proofs.Joins.{joins_keep}
pub use Rattle.claim_table.proofs.MoreHands.{claimed_then, claimed_with_room, hands_missed, hands_more, hands_room}
pub use Rattle.claim_table.proofs.MoreHands.{hands_same, hands_with_room, has_more, more_none, more_then, shown}
pub use Rattle.claim_table.proofs.MoreHands.{stands_in}
pub use Rattle.claim_table.proofs.Resting.{few_more, left_over, rested_hands, rests_after_look, rests_apart}
pub use Rattle.claim_table.proofs.Resting.{rests_first}
pub use Rattle.claim_table.proofs.Showing.{claiming_ends, claiming_goes_on, next_absent, stands_some}
pub use Rattle.claim_table.proofs.Trailed.{in_hand_snoc}
