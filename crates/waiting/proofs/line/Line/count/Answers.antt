use Rattle.std.proofs.Common.{arith}
use Rattle.waiting.proofs.Rounds.{length-waiting}
use Rattle.waiting.proofs.line.Line.count.Goals as goal

pub returns : goal.returns
returns g c = omega (arith, length-waiting c.args.places.now c.args.self.now)
