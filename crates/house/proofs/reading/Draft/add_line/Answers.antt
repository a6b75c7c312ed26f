use Rattle.std.proofs.Common.{sym, ap, ◌∙◌}
use Rattle.book.specs.declared.parts.Line.TheVariants.{Rule}
use Rattle.house.proofs.Dispatch.{by_hold, by_rule}
use Rattle.house.proofs.reading.Draft.add_line.Goals as goal

pub returns-in-Hold-clause-adds : goal.returns-in-Hold-clause-adds
returns-in-Hold-clause-adds c = λ v place l f a e.
    by_hold c.args.self.now.text.now c.args.self.now.tables v place f c.add_rule.result c.add_rule.new.self.tables c.in-Hold.head c.new.result c.new.ensures.text c.new.ensures.count c.add_rule.ensures.adds l a (sym c.in-Hold.is ∙ e)

pub returns-in-Rule-clause-adds : goal.returns-in-Rule-clause-adds
returns-in-Rule-clause-adds c = λ v place l f a e.
    by_rule c.args.self.now.text.now c.args.self.now.tables v place f c.add_rule-in-Rule.result c.add_rule-in-Rule.new.self.tables c.in-Rule.head c.new-in-Rule.result c.new-in-Rule.ensures.text c.add_rule-in-Rule.ensures.adds l a (ap (λ x. Rule c.in-Rule.head x c.new-in-Rule.result.count) c.new-in-Rule.ensures.place ∙ ap (Rule c.in-Rule.head c.in-Rule.body) c.new-in-Rule.ensures.count ∙ sym c.in-Rule.is ∙ e)
