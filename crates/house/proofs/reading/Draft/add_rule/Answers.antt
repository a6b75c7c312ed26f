use Rattle.std.proofs.Common.{◌≡◌, true, false, cond, eqb, [], ◌∷◌, ◌++◌, Ok, Err, inl, inr, sym, refl, ap, ◌∙◌, subst, arith, rules}
use Rattle.std.specs.List.{IsAnyAnswer}
use Rattle.std.proofs.lemmas.Result.{err_from_is_err_and}
use Rattle.table.specs.Held.{held}
use Rattle.book.specs.declared.fault.Fault.TheVariants.{TooMany}
use Rattle.house.specs.Filling.{Registers}
use Rattle.house.proofs.Pushes.{mapped_err, push_full, push_room, mapped, push_cases, contains_any}
use Rattle.house.proofs.Rules.{names_at_fault, nine, head_over, start, next_over, next-step, next_room, rules_full, rule_added}
use Rattle.house.proofs.reading.Draft.add_rule.Goals as goal

pub returns-in_err-judge-clause-adds : goal.returns-in_err-judge-clause-adds
returns-in_err-judge-clause-adds c = λ v place h items f a e b p.
    let q = err_from_is_err_and c.from_residual.result c.from_residual.ensures.1 in
    rw (q.1, q.2) (names_at_fault c.args.self.now.text.now c.args.self.now.tables c.args.head c.args.body v place h items f a e b p _ _ c.in_err-judge.ensures)

pub returns-then-body-gt-MOST_BODY-clause-adds : goal.returns-then-body-gt-MOST_BODY-clause-adds
returns-then-body-gt-MOST_BODY-clause-adds c = λ v place h items f a e b p.
    nine c.args.self.now.text.now c.args.self.now.tables c.args.head c.args.body v place h items f a e b p c.in_ok-judge.ensures _ (omega arith)

pub returns-in_err-register-clause-adds : goal.returns-in_err-register-clause-adds
returns-in_err-register-clause-adds c = λ v place h items f a e b p.
    let q = err_from_is_err_and c.from_residual-in_err-register.result c.from_residual-in_err-register.ensures.1 in
    rw (q.1, q.2)
    (head_over c.args.self.now.text.now c.args.self.now.tables c.args.head c.args.body v place h items f a e b p c.in_ok-judge.ensures _ c.register.new.self.tables _ c.in_err-register.ensures.registers)

pub returns-in_err-number-clause-adds : goal.returns-in_err-number-clause-adds
returns-in_err-number-clause-adds c = λ v place h items f a e b p.
    let q = err_from_is_err_and c.from_residual-in_err-number.result c.from_residual-in_err-number.ensures.1 in
    let begun = start c.args.self.now.text.now c.args.self.now.tables c.args.head c.args.body v place h items f a e b p c.in_ok-judge.ensures c.in_ok-register.field-0 c.register.new.self.tables _ c.in_ok-register.ensures.registers (omega arith) refl c.new.ensures in
    let same = c.loop-item.invariant.same_text in
    let item = subst (λ t. Registers t.now c.loop-item.self.tables c.in-Some.item (Err c.in_err-number.field-0.0) c.register-in-loop-item.new.self.tables) same c.in_err-number.ensures.registers in
    rw (q.1, q.2)
    (next_over c.args.self.now.text.now c.args.self.now.tables c.args.head c.args.body v place h items f a e b p c.in_ok-judge.ensures _ c.loop-item.self.tables c.loop-item.rule c.loop-item.item-iterator
    (c.loop-item.invariant.so_far v place h items begun) c.next.new.self c.in-Some.item c.in-Some.ensures.steps _ c.register-in-loop-item.new.self.tables item)

pub loop-item-preserved-in_ok-map_err : goal.loop-item-preserved-in_ok-map_err
loop-item-preserved-in_ok-map_err c =
    record {
      same_text = c.register-in-loop-item.ensures.same_text ∙ c.loop-item.invariant.same_text;
      so_far = λ v place h items s.
          let text = c.args.self.now.text.now in
          let now = c.loop-item.invariant.so_far v place h items s in
          let rule = c.loop-item.rule in
          let n = c.in_ok-number.number in
          let has = sym (contains_any (held rule.body) n false (subst (λ l. IsAnyAnswer (λ y t. eqb y n ≡ t) l false) c.as_slice.ensures c.if-not-contains.ensures.cases)) in
          let same = c.loop-item.invariant.same_text in
          let item = subst (λ t. Registers t.now c.loop-item.self.tables c.in-Some.item (Ok n) c.register-in-loop-item.new.self.tables) same c.in_ok-number.ensures.registers in
          next-step text v place h items c.loop-item.self.tables rule c.loop-item.item-iterator now c.next.new.self c.in-Some.item c.in-Some.ensures.steps (Ok n) c.register-in-loop-item.new.self.tables item n _ refl refl
          (c.push.ensures.after
          ∙ push_room 8 (held rule.body) n (next_room text v place h items c.loop-item.self.tables rule c.loop-item.item-iterator now c.next.new.self c.in-Some.item c.in-Some.ensures.steps (Ok n) c.register-in-loop-item.new.self.tables item)
          ∙ ap (λ b. cond b (held rule.body) (held rule.body ++ n ∷ [])) (sym has));
    }

pub loop-item-preserved : goal.loop-item-preserved
loop-item-preserved c =
    record {
      same_text = c.register-in-loop-item.ensures.same_text ∙ c.loop-item.invariant.same_text;
      so_far = λ v place h items s.
          let rule = c.loop-item.rule in
          let n = c.in_ok-number.number in
          let has = sym (contains_any (held rule.body) n true (subst (λ l. IsAnyAnswer (λ y t. eqb y n ≡ t) l true) c.as_slice.ensures c.if-not-contains.ensures.cases)) in
          let same = c.loop-item.invariant.same_text in
          let item = subst (λ t. Registers t.now c.loop-item.self.tables c.in-Some.item (Ok n) c.register-in-loop-item.new.self.tables) same c.in_ok-number.ensures.registers in
          next-step c.args.self.now.text.now v place h items c.loop-item.self.tables rule c.loop-item.item-iterator (c.loop-item.invariant.so_far v place h items s) c.next.new.self c.in-Some.item c.in-Some.ensures.steps (Ok n) c.register-in-loop-item.new.self.tables
          item n rule refl refl (ap (λ b. cond b (held rule.body) (held rule.body ++ n ∷ [])) (sym has));
    }

pub returns-in_err-map_err-clause-adds : goal.returns-in_err-map_err-clause-adds
returns-in_err-map_err-clause-adds c = λ v place h items f a e b p.
    let text = c.args.self.now.text.now in
    let rule = c.loop-item.rule in
    let n = c.in_ok-number.number in
    let k = mapped_err (λ q. TooMany) c.push.result c.map_err.result _ (mapped (λ q. TooMany) c.push.result c.map_err.result c.map_err.ensures.cases (λ q d k. search rules)) c.in_err-map_err.was in
    let begun = start c.args.self.now.text.now c.args.self.now.tables c.args.head c.args.body v place h items f a e b p c.in_ok-judge.ensures c.in_ok-register.field-0 c.register.new.self.tables _ c.in_ok-register.ensures.registers (omega arith) refl c.new.ensures in
    let item = subst (λ t. Registers t.now c.loop-item.self.tables c.in-Some.item (Ok n) c.register-in-loop-item.new.self.tables) c.loop-item.invariant.same_text c.in_ok-number.ensures.registers in
    let full = push_full 8 (held rule.body) k.0 (sym k.1 ∙ c.push.ensures.answer) in
    let room = next_room text v place h items c.loop-item.self.tables rule c.loop-item.item-iterator (c.loop-item.invariant.so_far v place h items begun) c.next.new.self c.in-Some.item c.in-Some.ensures.steps (Ok n)
    c.register-in-loop-item.new.self.tables item in
    absurd (omega arith)

pub returns-clause-adds : goal.returns-clause-adds
returns-clause-adds c = λ v place h items f a e b p.
    let rule = c.loop-item.rule in
    let begun = start c.args.self.now.text.now c.args.self.now.tables c.args.head c.args.body v place h items f a e b p c.in_ok-judge.ensures c.in_ok-register.field-0 c.register.new.self.tables _ c.in_ok-register.ensures.registers (omega arith) refl c.new.ensures in
    let now = c.loop-item.invariant.so_far v place h items begun in
    elim (push_cases 512 (held c.loop-item.self.tables.rules) rule TooMany c.push-2.result c.map_err-2.result c.push-2.ensures.answer (mapped (λ b. TooMany) c.push-2.result c.map_err-2.result c.map_err-2.ensures.cases (λ b d k. search rules))) [
      | inl k ↦
          rw k.0 (rule_added c.args.self.now.text.now c.args.self.now.tables c.args.head c.args.body v place h items f a e b p c.in_ok-judge.ensures c.loop-item.self.tables rule c.loop-item.item-iterator now
          c.next.new.self c.in-None.ensures.steps _ (omega arith) refl refl refl (c.push-2.ensures.after ∙ k.1))
      | inr k ↦
          rw k.0 (rules_full c.args.self.now.text.now c.args.self.now.tables c.args.head c.args.body v place h items f a e b p c.in_ok-judge.ensures c.loop-item.self.tables rule c.loop-item.item-iterator now
          c.next.new.self c.in-None.ensures.steps _ k.1)
    ]
