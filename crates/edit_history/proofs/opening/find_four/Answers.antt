use Rattle.edit_history.proofs.OpeningSolid.{found_of, none_of, refused_of, four_none, solid_kept_none}
use Rattle.edit_history.proofs.opening.find_four.Goals as goal

pub returns-clause-found : goal.returns-clause-found
returns-clause-found c =
    let s = c.args.points.now in
    let o = c.four_but.result in
    found_of s o (four_none s o c.four_but.ensures.four) (solid_kept_none s o c.four_but.ensures.solid) c.ok_or.result
    c.ok_or.ensures.ok_part

pub returns-clause-none : goal.returns-clause-none
returns-clause-none c =
    let s = c.args.points.now in
    let o = c.four_but.result in
    none_of s o (four_none s o c.four_but.ensures.four) (solid_kept_none s o c.four_but.ensures.solid) c.ok_or.result
    c.ok_or.ensures.ok_part

pub returns-clause-refused : goal.returns-clause-refused
returns-clause-refused c =
    let s = c.args.points.now in
    let o = c.four_but.result in
    refused_of s o (four_none s o c.four_but.ensures.four) (solid_kept_none s o c.four_but.ensures.solid) c.ok_or.result
    c.ok_or.ensures.ok_part
