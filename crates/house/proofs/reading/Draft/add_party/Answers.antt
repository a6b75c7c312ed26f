use Rattle.std.proofs.Common.{sym, refl, ◌∙◌, inl, inr, arith, rules}
use Rattle.table.specs.Held.{held}
use Rattle.book.specs.declared.fault.Fault.TheVariants.{TooMany}
use Rattle.house.proofs.Pushes.{mapped, push_cases}
use Rattle.house.proofs.Parties.{party_twice, party_many, party_added}
use Rattle.house.proofs.reading.Draft.add_party.Goals as goal

pub returns-then-is_some-clause-adds : goal.returns-then-is_some-clause-adds
returns-then-is_some-clause-adds c = λ v place n f a e.
    let h = c.if-name-eq1.false in
    party_twice c.args.self.now.text.now c.args.self.now.tables v place n c.args.name f a e (grind arith) c.party_named.result c.party_named.ensures _ (sym c.is_some.ensures ∙ c.if-is_some.true)

pub returns-clause-adds : goal.returns-clause-adds
returns-clause-adds c = λ v place n f a e.
    let h = c.if-name-eq1.false in
    let fresh = sym c.is_some.ensures ∙ c.if-is_some.false in
    elim (push_cases 16 (held c.args.self.now.tables.parties) c.args.name TooMany c.push.result c.map_err.result c.push.ensures.answer (mapped (λ b. TooMany) c.push.result c.map_err.result c.map_err.ensures.cases (λ b d k. search rules))) [
      | inl k ↦ rw k.0 (party_added c.args.self.now.text.now c.args.self.now.tables v place n c.args.name f a e (grind arith) c.party_named.result c.party_named.ensures fresh _ refl refl refl (c.push.ensures.after ∙ k.1))
      | inr k ↦ rw k.0 (party_many c.args.self.now.text.now c.args.self.now.tables v place n c.args.name f a e (grind arith) c.party_named.result c.party_named.ensures fresh _ k.1)
    ]
