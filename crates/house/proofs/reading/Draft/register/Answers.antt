use Rattle.std.proofs.Common.{◌≡◌, None, Some, unwrap_or, sym, refl, ap, ◌∙◌, inl, inr, arith, rules}
use Rattle.std.proofs.lemmas.Result.{err_from_is_err_and, OkIff-at_ok}
use Rattle.table.specs.Held.{held}
use Rattle.book.specs.declared.fault.Fault.TheVariants.{TooMany}
use Rattle.house.specs.declared.entries.Item.{Item}
use Rattle.house.proofs.Pushes.{mapped, mapped_ok, mapped_err, push_cases}
use Rattle.house.proofs.Registering.{known, no_source, no_destination, no_room, added}
use Rattle.house.proofs.reading.Draft.register.Goals as goal

pub returns-in-Some-clause-registers : goal.returns-in-Some-clause-registers
returns-in-Some-clause-registers c = λ v w f e a s d. known c.args.self.now.text.now c.args.self.now.tables v w c.args.item f e a s d c.in-Some.number c.in-Some.ensures

pub returns-in_err-source-clause-registers : goal.returns-in_err-source-clause-registers
returns-in_err-source-clause-registers c = λ v w f e a s d.
    let n : None ≡ c.party_named.result = grind arith in
    no_source c.args.self.now.text.now c.args.self.now.tables v w c.args.item f e a s d (n ∙ c.party_named.ensures)

pub returns-in_err-destination-clause-registers : goal.returns-in_err-destination-clause-registers
returns-in_err-destination-clause-registers c = λ v w f e a s d.
    let n : None ≡ c.party_named-2.result = grind arith in
    no_destination c.args.self.now.text.now c.args.self.now.tables v w c.args.item f e a s d (n ∙ c.party_named-2.ensures)

pub returns-in_err-number-clause-registers : goal.returns-in_err-number-clause-registers
returns-in_err-number-clause-registers c = λ v w f e a s d.
    let p = err_from_is_err_and c.from_residual-in_err-number.result c.from_residual-in_err-number.ensures.1 in
    rw (p.1, p.2) (no_room c.args.self.now.text.now c.args.self.now.tables v w c.args.item f e a s d c.in_default.ensures _
    (mapped_err (λ b. TooMany) c.try_from.result c.map_err.result _ (mapped (λ b. TooMany) c.try_from.result c.map_err.result c.map_err.ensures.cases (λ b d k. search rules)) c.in_err-number.was).2 (search rules))

pub returns-clause-registers : goal.returns-clause-registers
returns-clause-registers c = λ v w f e a s d.
    let source : Some c.in_ok-source.source ≡ c.party_named.result = grind arith in
    let destination : Some c.in_ok-destination.destination ≡ c.party_named-2.result = grind arith in
    let read = mapped_ok (λ b. TooMany) c.try_from.result c.map_err.result c.in_ok-number.number (mapped (λ b. TooMany) c.try_from.result c.map_err.result c.map_err.ensures.cases (λ b d k. search rules)) c.in_ok-number.was in
    let number = (OkIff-at_ok c.try_from.result _ _ c.in_ok-number.number c.try_from.ensures read).1 ∙ c.len.ensures in
    let entry : Item = record { source = c.in_ok-source.source; destination = c.in_ok-destination.destination; credential = c.unwrap_or-credential.result; part = c.args.item.whole } in
    elim (push_cases 256 (held c.args.self.now.tables.items) entry TooMany c.push.result c.map_err-2.result c.push.ensures.answer (mapped (λ b. TooMany) c.push.result c.map_err-2.result c.map_err-2.ensures.cases (λ b d k. search rules))) [
      | inl k ↦ added c.args.self.now.text.now c.args.self.now.tables v w c.args.item f e a s d c.in_default.ensures _ c.in_ok-source.source c.in_ok-destination.destination c.unwrap_or-credential.result c.in_ok-number.number
          (source ∙ c.party_named.ensures) (destination ∙ c.party_named-2.ensures) number (c.unwrap_or-credential.ensures ∙ ap (λ o. unwrap_or o c.in_ok-number.number) c.credential_like.ensures) refl refl refl
          (c.push.ensures.after ∙ k.1)
      | inr k ↦ cc (sym c.in_ok-map_err.was ∙ k.0)
    ]
