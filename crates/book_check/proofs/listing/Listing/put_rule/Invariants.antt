use Rattle.std.proofs.Common.{take}
use Rattle.std.specs.List.{flat_map}
use Rattle.book_check.specs.Report.{spaced}
use Rattle.book_check.specs.Listing.{Puts}
use Rattle.book_check.proofs.listing.Listing.put_rule.Given as goal

abbrev pub invariant-loop-number : goal.invariant-loop-number
invariant-loop-number l = Puts l.initial.self l.self (flat_map spaced (take l.number-index l.body))
