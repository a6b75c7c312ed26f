use Rattle.house.proofs.Judging.{JudgedSoFar}
use Rattle.house.proofs.reading.Draft.judge.Given as goal

abbrev pub invariant-loop-item : goal.invariant-loop-item
invariant-loop-item l = JudgedSoFar l.self.text.now l.self.tables l.head l.body l.single l.enrolled l.strange l.item-iterator
