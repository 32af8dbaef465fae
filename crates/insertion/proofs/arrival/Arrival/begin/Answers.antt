use Rattle.insertion.proofs.arrival.Arrival.begin.Goals as goal

pub returns : goal.returns
returns c hold s p new = (new, c.begin.ensures hold s p)
