use Rattle.std.proofs.Common.{◌<◌, ◌++◌, length, string_bytes, refl, ap, ◌∙◌, arith}
use Rattle.std.proofs.lemmas.Result.{on_ok_weaker}
use Rattle.book_check.specs.Report.{spaced, body_line}
use Rattle.book_check.proofs.Lines.{body_line_lem, joined_all}
use Rattle.book_check.proofs.Putting.{puts_joined, when_ok}
use Rattle.book_check.proofs.listing.Listing.put_rule.Goals as goal

pub loop-number-preserved : goal.loop-number-preserved
loop-number-preserved c =
    puts_joined spaced c.as_slice-body.result.now c.loop-number.number-index 0 _ c.loop-number.self _ c.loop-number-test.true c.loop-number.invariant
    record {
      out = c.in_ok-extend_from_slice-2.ensures.items ∙ ap (λ b. c.loop-number.self.out.items ++ b) (c.as_bytes-in-loop-number.ensures.value ∙ c.in_ok-more.ensures.ok);
      book = refl;
    }

pub returns : goal.returns
returns c =
    let body = c.as_slice-body.result.now in
    let some = c.if-is_empty.ensures in
    let l : 0 < length body = grind arith in
    let start = c.args.self.now.out.items in
    let s = c.loop-number.invariant in
    on_ok_weaker c.extend_from_slice-3.result
    (λ e.
    record {
      out =
          body_line_lem c.args.rule.now.head body start c.extend_from_slice-2.new.self.items c.loop-number.self.out.items c.extend_from_slice-3.new.self.items (string_bytes c.in_ok-front.front) l
          c.in_ok-front.ensures.ok (c.in_ok-extend_from_slice.ensures.items ∙ ap (λ b. start ++ b) c.as_bytes-2.ensures.value)
          (joined_all spaced body c.loop-number.number-index c.extend_from_slice-2.new.self.items c.loop-number.self.out.items (omega arith) s.out) e
          ∙ ap (λ x. start ++ body_line c.args.rule.now.head x) c.as_slice-body.ensures;
      book = s.book;
    })
    (when_ok c.extend_from_slice-3.result c.extend_from_slice-3.new.self.items _ _ c.extend_from_slice-3.ensures.items)
