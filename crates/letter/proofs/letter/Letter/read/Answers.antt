use Rattle.std.proofs.Common.{rules, ◌≡◌, ◌<◌}
use Rattle.std.proofs.lemmas.Result.{err_from_is_err_and}
use Rattle.letter.specs.declared.refusal.Refusal.TheVariants.{ItemTooLarge}
use Rattle.letter.proofs.Chained.{is_kind, no_kind, no_first, strange_kind, no_second, large_item_lem, good_letter, written_back}
use Rattle.letter.proofs.letter.Letter.read.Goals as goal

pub returns-in_err-kind-clause-answer : goal.returns-in_err-kind-clause-answer
returns-in_err-kind-clause-answer c = search (rules, no_first)

pub returns-in_err-kind-2-clause-answer : goal.returns-in_err-kind-2-clause-answer
returns-in_err-kind-2-clause-answer c =
    let p = err_from_is_err_and c.from_residual-in_err-kind-2.result c.from_residual-in_err-kind-2.ensures.1 in
    let none = no_kind c.in_ok-kind.kind c.in_err-kind-2.ensures in
    rw (p.1, p.2, none.1) (strange_kind c.in_ok-kind.ensures none.0)

pub returns-in_err-item-clause-answer : goal.returns-in_err-item-clause-answer
returns-in_err-item-clause-answer c =
    let p = err_from_is_err_and c.from_residual-in_err-item.result c.from_residual-in_err-item.ensures.1 in
    rw (p.1, p.2) (no_second c.in_ok-kind.ensures (is_kind c.in_ok-kind.kind c.in_ok-kind-2.ensures) c.in_err-item.ensures)

pub returns-in_err-item-2-clause-answer : goal.returns-in_err-item-2-clause-answer
returns-in_err-item-2-clause-answer c =
    let p = err_from_is_err_and c.from_residual-in_err-item-2.result c.from_residual-in_err-item-2.ensures.1 in
    let large : 255 < c.in_ok-item.item = search rules in
    let is : c.in_err-item-2.field-0.0 ≡ ItemTooLarge = search rules in
    rw (p.1, p.2, is) (large_item_lem c.in_ok-kind.ensures (is_kind c.in_ok-kind.kind c.in_ok-kind-2.ensures) c.in_ok-item.ensures large)

pub returns : goal.returns
returns c =
    let small : c.in_ok-item.item < 256 = search rules in
    let same : c.in_ok-item-2.item ≡ c.in_ok-item.item = search rules in
    let r = good_letter c.in_ok-kind.ensures (is_kind c.in_ok-kind.kind c.in_ok-kind-2.ensures) c.in_ok-item.ensures small in
    rw same (record { answer = r; written_back = written_back _ _ r })
