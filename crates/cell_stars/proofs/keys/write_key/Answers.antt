use Rattle.cell_stars.proofs.KeyLaws.{unkeyed, rekeyed}
use Rattle.cell_stars.proofs.keys.write_key.Goals as goal

pub returns-then-not-has_places-clause-keys : goal.returns-then-not-has_places-clause-keys
returns-then-not-has_places-clause-keys c = unkeyed c.args.keys.now.items c.drop_key.new.keys.items c.args.n
    c.vertex.result c.args.around.now c.vertex.ensures (rw c.if-not-has_places.true at c.has_places.ensures)
    c.drop_key.ensures.keys

pub returns-clause-keys : goal.returns-clause-keys
returns-clause-keys c = rekeyed c.args.keys.now.items c.put_key.new.keys.items c.args.n c.vertex-2.result
    c.args.around.now c.vertex-2.ensures (rw c.if-not-has_places.false at c.has_places.ensures)
    c.in_ok-put_key.ensures.keys
