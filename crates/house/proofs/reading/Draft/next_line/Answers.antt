use Rattle.std.proofs.lemmas.Result.{err_from_is_err_and}
use Rattle.house.proofs.Stepping.{taken_none, taken_line}
use Rattle.house.proofs.reading.Draft.next_line.Goals as goal

pub returns-in_err-line-clause-takes : goal.returns-in_err-line-clause-takes
returns-in_err-line-clause-takes c =
    let q = err_from_is_err_and c.from_residual.result c.from_residual.ensures.1 in
    rw (q.1, q.2) (taken_none c.args.self.now.text.now c.args.self.now.tables c.args.reader.now c.line.new.self c.line.result c.line.ensures _ _ c.in_err-line.was)

pub returns-clause-takes : goal.returns-clause-takes
returns-clause-takes c = taken_line c.args.self.now.text.now c.args.self.now.tables c.args.reader.now c.line.new.self c.line.result c.line.ensures c.in_ok-line.line c.add_line.result c.add_line.new.self.tables c.in_ok-line.was c.add_line.ensures.adds
