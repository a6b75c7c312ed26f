use Rattle.std.proofs.Common.{◌≡◌, Bool, Some, ◌+◌, ◌-◌, ◌||◌, eqb, length, refl, ap, ◌∙◌, arith, length-append}
use Rattle.book.specs.Grammar.{ItemText}
use Rattle.book.specs.Reading.{item_in}
use Rattle.book.specs.Places.{name_part, credential_part, credential_size, item_one_letter, item_parts, item_size}
use Rattle.book.proofs.Answered.{ItemAnswered, item_still, item_none, item_some}
use Rattle.book.proofs.Singles.{any_of_two}
use Rattle.book.proofs.Steps.{took, missed, ahead_start, on, off, end}
use Rattle.book.proofs.reader.Reader.item.Goals.{After-contains-letter}
use Rattle.book.proofs.reader.Reader.item.Goals as goal

pub returns-in_err-source : goal.returns-in_err-source
unfolding item_in
returns-in_err-source c =
    let o = ahead_start item_in c.args.self.now c.args.self.now refl refl in
    item_none c.args.self.now c.from_residual.result (off _ o (missed _ _ _ _ _ c.in_err-source.ensures)).parsed c.from_residual.ensures

pub returns-in_err-expect : goal.returns-in_err-expect
unfolding item_in
returns-in_err-expect c =
    let o = on _ (ahead_start item_in c.args.self.now c.args.self.now refl refl) (took _ _ _ _ _ _ c.in_ok-source.ensures) in
    item_none c.args.self.now c.from_residual-in_err-expect.result (off _ o (missed _ _ _ _ _ c.in_err-expect.ensures)).parsed c.from_residual-in_err-expect.ensures

pub returns-in_err-credential : goal.returns-in_err-credential
unfolding item_in
returns-in_err-credential c =
    let o0 = ahead_start item_in c.args.self.now c.args.self.now refl refl in
    let o1 = on _ o0 (took _ _ _ _ _ _ c.in_ok-source.ensures) in
    let o = on _ o1 (took _ _ _ _ _ _ c.in_ok-expect.ensures) in
    item_none c.args.self.now c.from_residual-in_err-credential.result (off _ o (missed _ _ _ _ _ c.in_err-credential.ensures)).parsed c.from_residual-in_err-credential.ensures

pub returns-in_err-expect-2 : goal.returns-in_err-expect-2
unfolding item_in
returns-in_err-expect-2 c =
    let o0 = ahead_start item_in c.args.self.now c.args.self.now refl refl in
    let o1 = on _ o0 (took _ _ _ _ _ _ c.in_ok-source.ensures) in
    let o2 = on _ o1 (took _ _ _ _ _ _ c.in_ok-expect.ensures) in
    let o = on _ o2 (took _ _ _ _ _ _ c.in_ok-credential.ensures) in
    item_none c.args.self.now c.from_residual-in_err-expect-2.result (off _ o (missed _ _ _ _ _ c.in_err-expect-2.ensures)).parsed c.from_residual-in_err-expect-2.ensures

pub returns-in_err-destination : goal.returns-in_err-destination
unfolding item_in
returns-in_err-destination c =
    let o0 = ahead_start item_in c.args.self.now c.args.self.now refl refl in
    let o1 = on _ o0 (took _ _ _ _ _ _ c.in_ok-source.ensures) in
    let o2 = on _ o1 (took _ _ _ _ _ _ c.in_ok-expect.ensures) in
    let o3 = on _ o2 (took _ _ _ _ _ _ c.in_ok-credential.ensures) in
    let o = on _ o3 (took _ _ _ _ _ _ c.in_ok-expect-2.ensures) in
    item_still c.args.self.now _ c.from_residual-in_err-destination.result refl refl (off _ o (missed _ _ _ _ _ c.in_err-destination.ensures)).parsed c.from_residual-in_err-destination.ensures

pub overflow_sub-whole : goal.overflow_sub-whole
overflow_sub-whole c =
    let t1 = took _ _ _ _ _ _ c.in_ok-source.ensures in
    let t2 = took _ _ _ _ _ _ c.in_ok-expect.ensures in
    let t3 = took _ _ _ _ _ _ c.in_ok-credential.ensures in
    let t4 = took _ _ _ _ _ _ c.in_ok-expect-2.ensures in
    let t5 = took _ _ _ _ _ _ c.in_ok-destination.ensures in
    omega arith

-- the whole item, however the flag is made
item : (c : After-contains-letter) (flag : Bool) → flag ≡ (c.contains-letter.result || c.in_ok-credential.single) →
    ItemAnswered c.args.self.now
    (Some (record {
      whole = record { place = c.args.self.now.place; length = c.name-2.new.self.place - c.args.self.now.place };
      source = c.in_ok-source.source;
      credential = c.in_ok-credential.credential;
      destination = c.in_ok-destination.destination;
      single = flag;
    }))
    c.name-2.new.self
unfolding item_in
item c flag e =
    let r0 = c.args.self.now in
    let t1 = took _ _ _ _ _ _ c.in_ok-source.ensures in
    let t2 = took _ _ _ _ _ _ c.in_ok-expect.ensures in
    let t3 = took _ _ _ _ _ _ c.in_ok-credential.ensures in
    let t4 = took _ _ _ _ _ _ c.in_ok-expect-2.ensures in
    let t5 = took _ _ _ _ _ _ c.in_ok-destination.ensures in
    let o1 = ahead_start item_in c.args.self.now c.args.self.now refl refl in
    let o3 = on _ (on _ o1 t1) t2 in
    let o5 = on _ (on _ o3 t3) t4 in
    let o = on _ o5 t5 in
    let made : ItemText = record { source = t1.value; credential = t3.value; destination = t5.value } in
    let size : length t1.value + 1 + credential_size t3.value + 1 + length t5.value ≡ item_size made = simp length-append (omega arith) in
    let extent : c.name-2.new.self.place - r0.place ≡ item_size made = let p = o.place in omega arith in
    let short : flag ≡ item_one_letter made =
    e ∙ ap (λ b. b || c.in_ok-credential.single) c.contains-letter.ensures.value ∙ any_of_two (eqb c.in_ok-source.source.length 1) (eqb c.in_ok-destination.destination.length 1) c.in_ok-credential.single
    ∙ (λ j. eqb (t1.shown j).length 1 || ((t3.shown j).1 || eqb (t5.shown j).length 1)) in
    let source : c.in_ok-source.source ≡ name_part r0.place t1.value = t1.shown in
    let credential : c.in_ok-credential.credential ≡ record { place = r0.place + length t1.value + 1; length = credential_size t3.value } =
    ap (λ p. p.0) t3.shown ∙ ap (λ n. (credential_part n t3.value).0) (let p = o3.place in omega arith) in
    let destination : c.in_ok-destination.destination ≡ name_part (r0.place + length t1.value + 1 + credential_size t3.value + 1) t5.value = t5.shown ∙ ap (λ n. name_part n t5.value) (let p = o5.place in omega arith) in
    item_some r0 c.name-2.new.self _
    (end item_parts item_size o (λ j. record { whole = record { place = r0.place; length = extent j }; source = source j; credential = credential j; destination = destination j; single = short j }) (omega arith))

pub returns-then-letter : goal.returns-then-letter
returns-then-letter c = item (goal.at.returns-then-letter c).After-contains-letter c.contains-letter.result (grind arith)

pub returns-else-letter : goal.returns-else-letter
returns-else-letter c = item (goal.at.returns-else-letter c).After-contains-letter c.in_ok-credential.single (grind arith)
