use Rattle.command_ends.proofs.ends.end.Goals as goal

pub put_page-requires-after_bounds : goal.put_page-requires-after_bounds
put_page-requires-after_bounds g c κs l = (c.requires c.in-Ok.field-0 c.in-Ok.is).writable
