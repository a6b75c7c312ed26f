use Rattle.std.proofs.Common.{refl, arith}
use Rattle.waiting.proofs.Rounds.{length-waiting, put_waiting}
use Rattle.waiting.proofs.line.Line.put.Goals as goal

pub returns-then-line-size-clause-answer : goal.returns-then-line-size-clause-answer
returns-then-line-size-clause-answer g c = grind (arith, length-waiting c.args.places.now c.args.self.now)

pub returns-clause-answer : goal.returns-clause-answer
returns-clause-answer g c = grind (arith, length-waiting c.args.places.now c.args.self.now)

pub returns-clause-after : goal.returns-clause-after
returns-clause-after g c =
    let over = c.over-line in
    (rw c.behind.ensures.is (put_waiting c.args.places.now c.args.self.now over.result.start over.result.count c.args.x over.ensures.start over.ensures.count c.if-line-size.false), (c.behind.result, c.behind.ensures.within, refl))
