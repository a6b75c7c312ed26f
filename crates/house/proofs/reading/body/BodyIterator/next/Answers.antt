use Rattle.std.proofs.Common.{◌≡◌, ◌+◌, ◌<◌, min, length, Some, sym, refl, ap, ◌∙◌, arith, rules}
use Rattle.book.specs.Places.{item_parts}
use Rattle.house.specs.Filling.{item_at}
use Rattle.house.proofs.Spots.{item_read, body_next}
use Rattle.house.proofs.reading.body.BodyIterator.next.Goals as goal

pub returns-in_err-item-clause-steps : goal.returns-in_err-item-clause-steps
returns-in_err-item-clause-steps c = λ text. (
  (λ s. c.from_residual-in_err-item.ensures),
  (λ i more s. cc (sym (item_read text _ s.stand.0) ∙ sym (ap (λ x. item_at x c.args.self.now.place) s.text_is) ∙ sym c.in_err-item.ensures)),
)

pub returns-clause-steps : goal.returns-clause-steps
returns-clause-steps c = λ text.
    let counted : c.in_ok-count.count + 1 ≡ c.args.self.now.count = search rules in (
      (λ s. let k = s.counted in absurd (omega arith)),
      (λ i more s.
          let z : length c.args.self.now.text.now < 18446744073709551616 = search rules in
          let same = ap length s.text_is in
          let e : c.in_ok-item.item ≡ item_parts c.args.self.now.place i = cc (c.in_ok-item.ensures ∙ ap (λ x. item_at x c.args.self.now.place) s.text_is ∙ item_read text _ s.stand.0) in
          let next = body_next text c.args.self.now _ i more c.saturating_add.result (omega arith) s refl counted
          (c.saturating_add.ensures ∙ ap (λ p. min (c.args.self.now.place + p.whole.length) 18446744073709551615) e) c.saturating_add-self.ensures in
          (ap Some e, next.0, next.1)),
    )
