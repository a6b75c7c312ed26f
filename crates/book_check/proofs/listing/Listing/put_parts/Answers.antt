use Rattle.std.proofs.Common.{ap, ◌∙◌, subst}
use Rattle.book.specs.Laws.{cut_out}
use Rattle.book_check.specs.Report.{numbered_line}
use Rattle.book_check.specs.Listing.{Puts}
use Rattle.book_check.proofs.Putting.{puts_numbered}
use Rattle.book_check.proofs.listing.Listing.put_parts.Goals as goal

pub loop-number-preserved : goal.loop-number-preserved
loop-number-preserved g c =
    let line = numbered_line c.args.word.now c.loop-number.number in
    puts_numbered (λ n x. numbered_line c.args.word.now n (cut_out c.args.self.now.book.now (g.T.Placed.part_of x))) c.args.entries.now c.loop-number.number c.index-entries-number.result _ _ _ c.loop-number-test.true c.loop-number.invariant
    (subst (λ t. Puts c.loop-number.self c.put_part.new.self (line t)) (ap (λ b. cut_out b.now c.part.result) c.loop-number.invariant.book ∙ ap (cut_out c.args.self.now.book.now) (c.part.ensures ∙ ap g.T.Placed.part_of c.index-entries-number.is)) c.in_ok-put_part.ensures)
