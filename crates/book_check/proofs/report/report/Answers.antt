use Rattle.std.proofs.Common.{◌++◌, ap, ◌∙◌}
use Rattle.house.specs.House.{view}
use Rattle.book_check.specs.Report.{view_listing}
use Rattle.book_check.proofs.Printed.{printed_house, printed_refusal}
use Rattle.book_check.proofs.report.report.Goals as goal
use Rattle.book_check.proofs.report.report.Goals.{in-Ok+in_ok-put_house-in-Ok, in-Err+in_ok-put_refusal-in-Err}

pub returns : goal.returns
returns c =
    let start = c.new-listing.ensures in
    let text = ap (λ v. v.items) c.into_text.ensures in
    elim c.match-read.branch [
      | in-Ok+in_ok-put_house-in-Ok w ↦
          let put = w.in_ok-put_house-in-Ok.ensures in
          printed_house c.args.book.now c.read.result (view c.read.new.house) c.read.ensures c.new-listing.result.out.items c.into_text.result.items start.out w.in-Ok.field-0 w.in-Ok.is
          (text ∙ ap (λ l. l.out.items) w.listing-is ∙ put.out ∙ ap (λ b. c.new-listing.result.out.items ++ view_listing b.now (view c.read.new.house)) start.book)
      | in-Err+in_ok-put_refusal-in-Err w ↦
          let put = w.in_ok-put_refusal-in-Err.ensures in
          printed_refusal c.args.book.now c.read.result (view c.read.new.house) c.read.ensures c.new-listing.result.out.items c.into_text.result.items start.out w.in-Err.refusal w.in-Err.is
          (text ∙ ap (λ l. l.out.items) w.listing-is ∙ put.out)
    ]
