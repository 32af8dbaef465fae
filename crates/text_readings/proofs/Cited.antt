-- The lemmas that other crates cite.
pub use Rattle.text_readings.proofs.Decided.{Decides, HasNo, err_same, fields_front, fields_last, four_fields}
pub use Rattle.text_readings.proofs.Decided.{from_four, number_no_space, number_without, ok_same, point_complete}
pub use Rattle.text_readings.proofs.Decided.{point_field, point_form, point_only, point_range, point_sound}
pub use Rattle.text_readings.proofs.Decided.{points_decided}
pub use Rattle.text_readings.proofs.Judged.{IsJudgedBy, end_or_fault, given_fault, given_right, judged_right, no_fault}
pub use Rattle.text_readings.proofs.Judged.{lead_append, one_end, one_fault, right_judged}
pub use Rattle.text_readings.proofs.Points.{packed_is, some_field, third_last, third_more}
pub use Rattle.text_readings.proofs.Results.{err_one, ok_err, ok_one}
pub use Rattle.text_readings.proofs.Steps.{Adds, adds, off_form, off_range, takes, then_err, then_ok, word_err, word_is}
pub use Rattle.text_readings.proofs.Steps.{word_not, word_ok}
pub use Rattle.text_readings.proofs.Texts.{HaveNoFeed, line_first, lines_of_text, point_no_feed, without_append}
pub use Rattle.text_readings.proofs.Turns.{judge_bad, judge_end, judge_on, judge_refused}
pub use Rattle.text_readings.proofs.Values.{number_none_not, number_of, number_read, number_some, of_number, reading}
pub use Rattle.text_readings.proofs.Written.{decimal_is, no_minus, point_line, text_of_append}
