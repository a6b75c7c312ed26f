use Rattle.std.proofs.Common.{◌≡◌, ◌+◌, refl, arith}
use Rattle.book.specs.declared.parts.Line.TheVariants.{Rule}
use Rattle.book.specs.Places.{left, item_size}
use Rattle.book.specs.Lines.{rule_form, rule_parts, rule_size}
use Rattle.book.proofs.Lines.{items_long}
use Rattle.book.proofs.Steps.{took, missed, start, on, off, misfit, end}
use Rattle.book.proofs.reader.Reader.rule.Goals as goal

pub returns-in_default : goal.returns-in_default
unfolding rule_form
returns-in_default c =
    let o = start (rule_form (left c.args.self.now)) c.args.self.now in
    (refl, misfit rule_parts rule_size (off _ o (missed _ _ _ _ _ c.in_default.ensures.answer)))

pub returns-in_default-keyword : goal.returns-in_default-keyword
unfolding rule_form
returns-in_default-keyword c =
    let o = on _ (start (rule_form (left c.args.self.now)) c.args.self.now) (took _ _ _ _ _ _ c.in-Some.ensures.answer) in
    (refl, misfit rule_parts rule_size (off _ o (missed _ _ _ _ _ c.in_default-keyword.ensures.answer)))

pub returns-in_default-item : goal.returns-in_default-item
unfolding rule_form
returns-in_default-item c =
    let o0 = start (rule_form (left c.args.self.now)) c.args.self.now in
    let o1 = on _ o0 (took _ _ _ _ _ _ c.in-Some.ensures.answer) in
    let o = on _ o1 (took _ _ _ _ _ _ c.in-Some-keyword.ensures.answer) in
    (refl, misfit rule_parts rule_size (off _ o (missed _ _ _ _ _ c.in_default-item.ensures.answer)))

pub returns-in_default-more_items : goal.returns-in_default-more_items
unfolding rule_form
returns-in_default-more_items c =
    let o0 = start (rule_form (left c.args.self.now)) c.args.self.now in
    let o1 = on _ o0 (took _ _ _ _ _ _ c.in-Some.ensures.answer) in
    let o2 = on _ o1 (took _ _ _ _ _ _ c.in-Some-keyword.ensures.answer) in
    let o = on _ o2 (took _ _ _ _ _ _ c.in-Some-item.ensures.answer) in
    (refl, misfit rule_parts rule_size (off _ o (missed _ _ _ _ _ c.in_default-more_items.ensures)))

pub overflow_add-result : goal.overflow_add-result
overflow_add-result c =
    let t1 = took _ _ _ _ _ _ c.in-Some.ensures.answer in
    let t2 = took _ _ _ _ _ _ c.in-Some-keyword.ensures.answer in
    let t3 = took _ _ _ _ _ _ c.in-Some-item.ensures.answer in
    let t4 = took _ _ _ _ _ _ c.in-Some-more_items.ensures in
    let l = items_long t4.value in
    let p1 = t1.place in
    let p2 = t2.place in
    let p3 = t3.place in
    let p4 = t4.place in
    let n = t4.shown in
    let w = c.more_items.new.self.within in
    let f = c.more_items.new.self.fits in
    omega arith

pub returns : goal.returns
unfolding rule_form
returns c =
    let t1 = took _ _ _ _ _ _ c.in-Some.ensures.answer in
    let t2 = took _ _ _ _ _ _ c.in-Some-keyword.ensures.answer in
    let t3 = took _ _ _ _ _ _ c.in-Some-item.ensures.answer in
    let t4 = took _ _ _ _ _ _ c.in-Some-more_items.ensures in
    let o2 = on _ (on _ (start (rule_form (left c.args.self.now)) c.args.self.now) t1) t2 in
    let o = on _ (on _ o2 t3) t4 in
    let body : c.keyword.new.self.place ≡ c.args.self.now.place + item_size t1.value + 4 = let p = o2.place in omega arith in
    end rule_parts rule_size o (λ j. Rule (t1.shown j) (body j) (1 + t4.shown j)) (omega arith)
