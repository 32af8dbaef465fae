use Rattle.std.proofs.Common.{arith, [], ◌∷◌}
use Rattle.mesh_handle.specs.Handles.{WasAdded, WasMoved, WasTaken}
use Rattle.mesh_handle.specs.Many.{WasMade}
use Rattle.mesh_handle.proofs.Turns.{names_one, one_named, names_two, two_named, told_made, told_refused, told_stop}
use Rattle.mesh_handle.proofs.many.make.Goals as goal

pub returns-in-0-clause-made : goal.returns-in-0-clause-made
returns-in-0-clause-made c =
    told_made c.add.result c.told.result (WasAdded c.args.handle.now.mesh c.args.edit.now.place c.add.new.handle.mesh)
    (λ n. WasMade c.args.handle.now.mesh c.args.edit.now c.add.new.handle.mesh n) c.told.ensures c.add.ensures.done
    (λ n t. record {
      kind = omega arith;
      add = λ _. t;
      take = λ e. absurd (omega arith);
      shift = λ e. absurd (omega arith);
    })

pub returns-in-0-clause-refused : goal.returns-in-0-clause-refused
returns-in-0-clause-refused c = told_refused _ _ _ c.told.ensures c.add.ensures.refused

pub returns-in-0-clause-stop : goal.returns-in-0-clause-stop
returns-in-0-clause-stop c =
    told_stop c.add.result c.told.result c.args.handle.now.mesh c.args.edit.now (c.args.edit.now.place ∷ [])
    c.told.ensures c.add.ensures.cause c.add.ensures.first (names_one c.args.edit.now (omega arith))
    (one_named c.args.edit.now (omega arith))

pub returns-in-1-clause-made : goal.returns-in-1-clause-made
returns-in-1-clause-made c =
    told_made c.take.result c.told-in-1.result
    (WasTaken c.args.handle.now.mesh c.args.edit.now.place c.take.new.handle.mesh)
    (λ n. WasMade c.args.handle.now.mesh c.args.edit.now c.take.new.handle.mesh n) c.told-in-1.ensures
    c.take.ensures.done
    (λ n t. record {
      kind = omega arith;
      add = λ e. absurd (omega arith);
      take = λ _. t;
      shift = λ e. absurd (omega arith);
    })

pub returns-in-1-clause-refused : goal.returns-in-1-clause-refused
returns-in-1-clause-refused c = told_refused _ _ _ c.told-in-1.ensures c.take.ensures.refused

pub returns-in-1-clause-stop : goal.returns-in-1-clause-stop
returns-in-1-clause-stop c =
    told_stop c.take.result c.told-in-1.result c.args.handle.now.mesh c.args.edit.now (c.args.edit.now.place ∷ [])
    c.told-in-1.ensures c.take.ensures.cause c.take.ensures.first (names_one c.args.edit.now (omega arith))
    (one_named c.args.edit.now (omega arith))

pub returns-in-2-clause-made : goal.returns-in-2-clause-made
returns-in-2-clause-made c =
    told_made c.shift.result c.told-in-2.result
    (WasMoved c.args.handle.now.mesh c.args.edit.now.place c.args.edit.now.to c.shift.new.handle.mesh)
    (λ n. WasMade c.args.handle.now.mesh c.args.edit.now c.shift.new.handle.mesh n) c.told-in-2.ensures
    c.shift.ensures.done
    (λ n t. record {
      kind = omega arith;
      add = λ e. absurd (omega arith);
      take = λ e. absurd (omega arith);
      shift = λ _. t;
    })

pub returns-in-2-clause-refused : goal.returns-in-2-clause-refused
returns-in-2-clause-refused c = told_refused _ _ _ c.told-in-2.ensures c.shift.ensures.refused

pub returns-in-2-clause-stop : goal.returns-in-2-clause-stop
returns-in-2-clause-stop c =
    told_stop c.shift.result c.told-in-2.result c.args.handle.now.mesh c.args.edit.now
    (c.args.edit.now.place ∷ c.args.edit.now.to ∷ []) c.told-in-2.ensures c.shift.ensures.cause c.shift.ensures.first
    (names_two c.args.edit.now c.in-2.is) (two_named c.args.edit.now c.in-2.is)
