use Rattle.del_laws.proofs.ListedParts.{listed_star, listed_part, listed_at_a_point}
use Rattle.del_laws.proofs.listed_parts.Goals as goal

pub returns-clause-star : goal.returns-clause-star
returns-clause-star c = listed_star

pub returns-clause-part : goal.returns-clause-part
returns-clause-part c = listed_part

pub returns-clause-at_a_point : goal.returns-clause-at_a_point
returns-clause-at_a_point c = listed_at_a_point
