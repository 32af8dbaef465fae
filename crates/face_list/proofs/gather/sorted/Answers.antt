use Rattle.list_laws.proofs.Cited.{arranged_same}
use Rattle.face_list.proofs.gather.sorted.Goals as goal

pub each_once-requires-clause-order : goal.each_once-requires-clause-order
each_once-requires-clause-order g c = c.sort_unstable.ensures.sorted

pub returns-clause-same : goal.returns-clause-same
returns-clause-same g c k =
    let a = arranged_same c.args.items.items c.sort_unstable.new.self.items c.sort_unstable.ensures.permutation k in
    let b = c.each_once.ensures.same k in
    (λ m. a.0 (b.0 m), λ m. b.1 (a.1 m))
