use Rattle.std.proofs.Common.{◌≡◌}
use Rattle.house.proofs.Rules.{RuleSoFar}
use Rattle.house.proofs.reading.Draft.add_rule.Given as goal

abbrev pub invariant-loop-item : goal.invariant-loop-item
invariant-loop-item l =
    record {
      so_far : RuleSoFar l.fn.self.text.now l.initial.self.tables l.initial.rule l.body l.self.tables l.rule l.item-iterator;
      same_text : l.self.text ≡ l.fn.self.text;
    }
