use Rattle.std.proofs.Common.{length}
use Rattle.book.specs.Places.{left}
use Rattle.book.proofs.Bodies.{BodySoFar}
use Rattle.book.proofs.reader.Reader.more_items.Given as goal

abbrev pub invariant-loop-self : goal.invariant-loop-self
invariant-loop-self l = BodySoFar l.initial.self l.self l.count

abbrev pub decreases-loop-self : goal.decreases-loop-self
decreases-loop-self l = length (left l.self)
