use Rattle.std.proofs.Common.{refl, arith}
use Rattle.std.proofs.lemmas.List.{nil_from_length}
use Rattle.waiting.proofs.Rounds.{length-waiting, take_waiting}
use Rattle.waiting.proofs.line.Line.take.Goals as goal

pub returns-then-line-eq0 : goal.returns-then-line-eq0
returns-then-line-eq0 g c = (nil_from_length _ (omega (arith, length-waiting c.args.places.now c.args.self.now)), refl)

pub returns : goal.returns
returns g c =
    let over = c.over-line in
    rw c.behind.ensures.is (take_waiting c.args.places.now c.args.self.now over.result.start over.result.count _ over.ensures.start over.ensures.count c.if-line-eq0.false c.index-places-line.is)
