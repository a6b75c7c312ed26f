use Rattle.std.proofs.Common.{codes, sym, ◌∙◌, arith}
use Rattle.book.proofs.Steps.{took, missed, word_took, word_missed}
use Rattle.book.proofs.Bodies.{body_start, body_end, body_fails, body_next, body_few}
use Rattle.book.proofs.reader.Reader.more_items.Goals as goal

pub loop-self-init : goal.loop-self-init
loop-self-init c = body_start c.args.self.now

pub returns-in_err-item : goal.returns-in_err-item
returns-in_err-item c =
    let w = word_took (codes " and ") c.loop-self.self c.keyword.new.self _ c.keyword.ensures.answer (sym c.is_some.ensures ∙ c.loop-self-test.true) in
    rw c.from_residual.ensures (body_fails c.args.self.now c.loop-self.self c.loop-self.count c.loop-self.invariant c.keyword.new.self w c.item.new.self (missed _ _ _ _ _ c.in_err-item.ensures.answer))

pub loop-self-preserved : goal.loop-self-preserved
loop-self-preserved c =
    let w = word_took (codes " and ") c.loop-self.self c.keyword.new.self _ c.keyword.ensures.answer (sym c.is_some.ensures ∙ c.loop-self-test.true) in
    body_next c.args.self.now c.loop-self.self c.loop-self.count c.loop-self.invariant c.keyword.new.self w _ c.item.new.self (took _ _ _ _ _ _ c.in_ok-item.ensures.answer)

pub overflow_add-count : goal.overflow_add-count
overflow_add-count c =
    let w = word_took (codes " and ") c.loop-self.self c.keyword.new.self _ c.keyword.ensures.answer (sym c.is_some.ensures ∙ c.loop-self-test.true) in
    let k = body_few c.args.self.now c.loop-self.self c.loop-self.count c.loop-self.invariant in
    let p = w.place in
    let v = c.keyword.new.self.within in
    let f = c.keyword.new.self.fits in
    omega arith

pub returns : goal.returns
returns c =
    let m = word_missed (codes " and ") c.loop-self.self c.keyword.new.self _ c.keyword.ensures.answer c.keyword.ensures.stays (sym c.is_some.ensures ∙ c.loop-self-test.false) in
    rw m.1 (body_end c.args.self.now c.loop-self.self c.loop-self.count c.loop-self.invariant m.0.parsed)
