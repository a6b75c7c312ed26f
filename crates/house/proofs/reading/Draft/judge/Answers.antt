use Rattle.std.proofs.Common.{false, sym, subst}
use Rattle.house.proofs.Judging.{JudgedSoFar, judged_first, judged_next, judges}
use Rattle.house.proofs.reading.Draft.judge.Goals as goal

pub loop-item-init : goal.loop-item-init
loop-item-init c =
    subst (JudgedSoFar c.args.self.now.text.now c.args.self.now.tables c.args.head c.args.body c.args.head.single c.enrols_ends-enrolled.result false) (sym c.into_iter-item-iterator.ensures.into_iter_gives)
    (judged_first c.args.self.now.text.now c.args.self.now.tables c.args.head c.args.body c.enrols_ends-enrolled.result c.enrols_ends-enrolled.ensures)

pub loop-item-preserved : goal.loop-item-preserved
loop-item-preserved c =
    judged_next c.args.self.now.text.now c.args.self.now.tables c.args.head c.args.body c.loop-item.single c.loop-item.enrolled c.loop-item.strange c.loop-item.item-iterator c.loop-item.invariant c.next.new.self
    c.in-Some.item c.in-Some.ensures.steps c.enrols_ends-enrolled-in-loop-item.result c.concerns.result c.enrols_ends-enrolled-in-loop-item.ensures c.concerns.ensures

pub returns-then-single : goal.returns-then-single
returns-then-single c = rw c.if-single.true at (judges c.args.self.now.text.now c.args.self.now.tables c.args.head c.args.body c.loop-item.single c.loop-item.enrolled c.loop-item.strange c.loop-item.item-iterator c.loop-item.invariant c.next.new.self c.in-None.ensures.steps)

pub returns-then-not-enrolled : goal.returns-then-not-enrolled
returns-then-not-enrolled c =
    rw (c.if-single.false, c.if-not-enrolled.true) at (judges c.args.self.now.text.now c.args.self.now.tables c.args.head c.args.body c.loop-item.single c.loop-item.enrolled c.loop-item.strange c.loop-item.item-iterator c.loop-item.invariant c.next.new.self c.in-None.ensures.steps)

pub returns-then-strange : goal.returns-then-strange
returns-then-strange c =
    rw (c.if-single.false, c.if-not-enrolled.false, c.if-strange.true) at (judges c.args.self.now.text.now c.args.self.now.tables c.args.head c.args.body c.loop-item.single c.loop-item.enrolled c.loop-item.strange c.loop-item.item-iterator c.loop-item.invariant c.next.new.self c.in-None.ensures.steps)

pub returns : goal.returns
returns c =
    rw (c.if-single.false, c.if-not-enrolled.false, c.if-strange.false) at (judges c.args.self.now.text.now c.args.self.now.tables c.args.head c.args.body c.loop-item.single c.loop-item.enrolled c.loop-item.strange c.loop-item.item-iterator c.loop-item.invariant c.next.new.self c.in-None.ensures.steps)
