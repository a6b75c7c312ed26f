use Rattle.std.proofs.Common.{sym, refl, ap, ◌∙◌}
use Rattle.book.specs.declared.parts.Line.TheVariants.{Party, Hold, Ask}
use Rattle.book.specs.Places.{name_part, item_parts}
use Rattle.book.specs.Lines.{form_size, line_parts}
use Rattle.book.proofs.Forms.{all_open, this_form, other_form, rule_line}
use Rattle.book.proofs.Steps.{took, missed, on, off, misfit, end, nothing}
use Rattle.book.proofs.reader.Reader.form.Goals as goal

pub returns-in_default : goal.returns-in_default
returns-in_default c =
    let o0 = all_open c.args.self.now in
    let o = this_form o0 _ _ c.keyword.ensures.answer (sym c.is_some.ensures ∙ c.if-is_some.true) in
    (refl, misfit line_parts form_size (off _ o (missed _ _ _ _ _ c.in_default.ensures)))

pub returns-then-is_some : goal.returns-then-is_some
returns-then-is_some c =
    let o0 = all_open c.args.self.now in
    let o = this_form o0 _ _ c.keyword.ensures.answer (sym c.is_some.ensures ∙ c.if-is_some.true) in
    let t = took _ _ _ _ _ _ c.in-Some.ensures in
    end line_parts form_size (on _ o t) (ap Party (t.shown ∙ ap (λ n. name_part n t.value) o.place)) refl

pub returns-in_default-item : goal.returns-in_default-item
returns-in_default-item c =
    let o0 = all_open c.args.self.now in
    let o1 = other_form o0 _ _ c.keyword.ensures.answer c.keyword.ensures.stays (sym c.is_some.ensures ∙ c.if-is_some.false) in
    let o = this_form o1 _ _ c.keyword-2.ensures.answer (sym c.is_some-2.ensures ∙ c.if-is_some-2.true) in
    (refl, misfit line_parts form_size (off _ o (missed _ _ _ _ _ c.in_default-item.ensures.answer)))

pub returns-then-is_some-2 : goal.returns-then-is_some-2
returns-then-is_some-2 c =
    let o0 = all_open c.args.self.now in
    let o1 = other_form o0 _ _ c.keyword.ensures.answer c.keyword.ensures.stays (sym c.is_some.ensures ∙ c.if-is_some.false) in
    let o = this_form o1 _ _ c.keyword-2.ensures.answer (sym c.is_some-2.ensures ∙ c.if-is_some-2.true) in
    let t = took _ _ _ _ _ _ c.in-Some-item.ensures.answer in
    end line_parts form_size (on _ o t) (ap Hold (t.shown ∙ ap (λ n. item_parts n t.value) o.place)) refl

pub returns-then-is_some-3 : goal.returns-then-is_some-3
returns-then-is_some-3 c =
    let o0 = all_open c.args.self.now in
    let o1 = other_form o0 _ _ c.keyword.ensures.answer c.keyword.ensures.stays (sym c.is_some.ensures ∙ c.if-is_some.false) in
    let o2 = other_form o1 _ _ c.keyword-2.ensures.answer c.keyword-2.ensures.stays (sym c.is_some-2.ensures ∙ c.if-is_some-2.false) in
    let o = this_form o2 _ _ c.keyword-3.ensures.answer (sym c.is_some-3.ensures ∙ c.if-is_some-3.true) in
    rule_line c.args.self.now c.keyword-3.new.self c.rule.new.self c.rule.result o c.rule.ensures

pub returns-in_default-item-2 : goal.returns-in_default-item-2
returns-in_default-item-2 c =
    let o0 = all_open c.args.self.now in
    let o1 = other_form o0 _ _ c.keyword.ensures.answer c.keyword.ensures.stays (sym c.is_some.ensures ∙ c.if-is_some.false) in
    let o2 = other_form o1 _ _ c.keyword-2.ensures.answer c.keyword-2.ensures.stays (sym c.is_some-2.ensures ∙ c.if-is_some-2.false) in
    let o3 = other_form o2 _ _ c.keyword-3.ensures.answer c.keyword-3.ensures.stays (sym c.is_some-3.ensures ∙ c.if-is_some-3.false) in
    let o = this_form o3 _ _ c.keyword-4.ensures.answer (sym c.is_some-4.ensures ∙ c.if-is_some-4.true) in
    (refl, misfit line_parts form_size (off _ o (missed _ _ _ _ _ c.in_default-item-2.ensures.answer)))

pub returns-then-is_some-4 : goal.returns-then-is_some-4
returns-then-is_some-4 c =
    let o0 = all_open c.args.self.now in
    let o1 = other_form o0 _ _ c.keyword.ensures.answer c.keyword.ensures.stays (sym c.is_some.ensures ∙ c.if-is_some.false) in
    let o2 = other_form o1 _ _ c.keyword-2.ensures.answer c.keyword-2.ensures.stays (sym c.is_some-2.ensures ∙ c.if-is_some-2.false) in
    let o3 = other_form o2 _ _ c.keyword-3.ensures.answer c.keyword-3.ensures.stays (sym c.is_some-3.ensures ∙ c.if-is_some-3.false) in
    let o = this_form o3 _ _ c.keyword-4.ensures.answer (sym c.is_some-4.ensures ∙ c.if-is_some-4.true) in
    let t = took _ _ _ _ _ _ c.in-Some-item-2.ensures.answer in
    end line_parts form_size (on _ o t) (ap Ask (t.shown ∙ ap (λ n. item_parts n t.value) o.place)) refl

pub returns : goal.returns
returns c =
    let o0 = all_open c.args.self.now in
    let o1 = other_form o0 _ _ c.keyword.ensures.answer c.keyword.ensures.stays (sym c.is_some.ensures ∙ c.if-is_some.false) in
    let o2 = other_form o1 _ _ c.keyword-2.ensures.answer c.keyword-2.ensures.stays (sym c.is_some-2.ensures ∙ c.if-is_some-2.false) in
    let o3 = other_form o2 _ _ c.keyword-3.ensures.answer c.keyword-3.ensures.stays (sym c.is_some-3.ensures ∙ c.if-is_some-3.false) in
    let o4 = other_form o3 _ _ c.keyword-4.ensures.answer c.keyword-4.ensures.stays (sym c.is_some-4.ensures ∙ c.if-is_some-4.false) in
    let o4 = other_form o3 _ _ c.keyword-4.ensures.answer c.keyword-4.ensures.stays (sym c.is_some-4.ensures ∙ c.if-is_some-4.false) in
    (refl, nothing line_parts form_size o4.way)
