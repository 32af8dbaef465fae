use Rattle.edit_files.specs.Grammar.{up_to}
use Rattle.edit_files.proofs.Judged.{given_is_file, given_is_fault}
use Rattle.edit_files.proofs.reader.read_file_up_to.Goals as goal

pub returns-clause-accepted : goal.returns-clause-accepted
returns-clause-accepted c = given_is_file (up_to c.args.newest) c.args.bytes.now c.judge.result c.judge.ensures

pub returns-clause-fault : goal.returns-clause-fault
returns-clause-fault c = λ fault e. given_is_fault (up_to c.args.newest) c.args.bytes.now c.judge.result fault
    c.judge.ensures e
