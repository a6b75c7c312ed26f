use Rattle.std.proofs.Common.{sym, refl, ◌∙◌, subst}
use Rattle.std.proofs.lemmas.Result.{err_from_is_err_and}
use Rattle.house.specs.Filling.{Registers}
use Rattle.house.proofs.Asks.{ask_unknown, ask_many, ask_second, ask_added}
use Rattle.house.proofs.reading.Draft.add_ask.Goals as goal

pub returns-then-not-enrols_ends-clause-adds : goal.returns-then-not-enrols_ends-clause-adds
returns-then-not-enrols_ends-clause-adds c = λ v place i f a e.
    ask_unknown c.args.self.now.text.now c.args.self.now.tables v place i c.args.item f a e c.if-item.false c.enrols_ends.result c.enrols_ends.ensures _ c.if-not-enrols_ends.true

pub returns-in_err-number-clause-adds : goal.returns-in_err-number-clause-adds
returns-in_err-number-clause-adds c = λ v place i f a e.
    let p = err_from_is_err_and c.from_residual.result c.from_residual.ensures.1 in
    rw (p.1, p.2)
    (ask_many c.args.self.now.text.now c.args.self.now.tables v place i c.args.item f a e c.if-item.false c.enrols_ends.result c.enrols_ends.ensures c.if-not-enrols_ends.false _ c.register.new.self.tables _
    (subst (λ r. Registers c.args.self.now.text.now c.args.self.now.tables c.args.item r c.register.new.self.tables) c.in_err-number.was c.register.ensures.registers))

pub returns-then-is_some-clause-adds : goal.returns-then-is_some-clause-adds
returns-then-is_some-clause-adds c = λ v place i f a e.
    ask_second c.args.self.now.text.now c.args.self.now.tables v place i c.args.item f a e c.if-item.false c.enrols_ends.result c.enrols_ends.ensures c.if-not-enrols_ends.false c.in_ok-number.number c.register.new.self.tables
    (subst (λ r. Registers c.args.self.now.text.now c.args.self.now.tables c.args.item r c.register.new.self.tables) c.in_ok-number.was c.register.ensures.registers) _ (sym c.is_some.ensures ∙ c.if-is_some.true)

pub returns-clause-adds : goal.returns-clause-adds
returns-clause-adds c = λ v place i f a e.
    ask_added c.args.self.now.text.now c.args.self.now.tables v place i c.args.item f a e c.if-item.false c.enrols_ends.result c.enrols_ends.ensures c.if-not-enrols_ends.false c.in_ok-number.number c.register.new.self.tables
    (subst (λ r. Registers c.args.self.now.text.now c.args.self.now.tables c.args.item r c.register.new.self.tables) c.in_ok-number.was c.register.ensures.registers) _ (sym c.is_some.ensures ∙ c.if-is_some.false) refl refl refl refl
