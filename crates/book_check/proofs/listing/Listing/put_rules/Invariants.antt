use Rattle.std.proofs.Common.{take}
use Rattle.std.specs.List.{flat_map}
use Rattle.house.specs.View.{rule_view}
use Rattle.book_check.specs.Report.{rule_line}
use Rattle.book_check.specs.Listing.{Puts}
use Rattle.book_check.proofs.listing.Listing.put_rules.Given as goal

abbrev pub invariant-loop-rule : goal.invariant-loop-rule
invariant-loop-rule l = Puts l.initial.self l.self (flat_map (λ r. rule_line (rule_view r)) (take l.rule-index l.rules))
