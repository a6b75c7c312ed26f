use Rattle.std.proofs.Common.{take}
use Rattle.book.specs.Laws.{cut_out}
use Rattle.book_check.specs.Report.{numbered_line, numbered}
use Rattle.book_check.specs.Listing.{Puts}
use Rattle.book_check.proofs.listing.Listing.put_parts.Given as goal

abbrev pub invariant-loop-number : goal.invariant-loop-number
invariant-loop-number g l = Puts l.initial.self l.self (numbered (λ n x. numbered_line l.word n (cut_out l.initial.self.book.now (g.T.Placed.part_of x))) 0 (take l.number l.entries))
