use Rattle.std.proofs.Common.{◌≡◌, ◌-◌, Bool, ◌||◌, eqb, Some, ap, ◌∙◌, arith, length-append}
use Rattle.book.specs.Grammar.{Credential}
use Rattle.book.specs.Reading.{credential_in}
use Rattle.book.specs.Places.{left, Reads, credential_one_letter, credential_part, credential_size}
use Rattle.book.proofs.Singles.{any_of_three}
use Rattle.book.proofs.Steps.{took, missed, start, on, off, misfit, end}
use Rattle.book.proofs.reader.Reader.credential.Goals.{After-contains-letter}
use Rattle.book.proofs.reader.Reader.credential.Goals as goal

pub returns-in_err-issuer : goal.returns-in_err-issuer
unfolding credential_in
returns-in_err-issuer c =
    let o = start (credential_in (left c.args.self.now)) c.args.self.now in
    rw c.from_residual.ensures (misfit credential_part credential_size (off _ o (missed _ _ _ _ _ c.in_err-issuer.ensures)))

pub returns-in_err-expect : goal.returns-in_err-expect
unfolding credential_in
returns-in_err-expect c =
    let o = on _ (start (credential_in (left c.args.self.now)) c.args.self.now) (took _ _ _ _ _ _ c.in_ok-issuer.ensures) in
    rw c.from_residual-in_err-expect.ensures (misfit credential_part credential_size (off _ o (missed _ _ _ _ _ c.in_err-expect.ensures)))

pub returns-in_err-name : goal.returns-in_err-name
unfolding credential_in
returns-in_err-name c =
    let o0 = start (credential_in (left c.args.self.now)) c.args.self.now in
    let o1 = on _ o0 (took _ _ _ _ _ _ c.in_ok-issuer.ensures) in
    let o = on _ o1 (took _ _ _ _ _ _ c.in_ok-expect.ensures) in
    rw c.from_residual-in_err-name.ensures (misfit credential_part credential_size (off _ o (missed _ _ _ _ _ c.in_err-name.ensures)))

pub returns-in_err-expect-2 : goal.returns-in_err-expect-2
unfolding credential_in
returns-in_err-expect-2 c =
    let o0 = start (credential_in (left c.args.self.now)) c.args.self.now in
    let o1 = on _ o0 (took _ _ _ _ _ _ c.in_ok-issuer.ensures) in
    let o2 = on _ o1 (took _ _ _ _ _ _ c.in_ok-expect.ensures) in
    let o = on _ o2 (took _ _ _ _ _ _ c.in_ok-name.ensures) in
    rw c.from_residual-in_err-expect-2.ensures (misfit credential_part credential_size (off _ o (missed _ _ _ _ _ c.in_err-expect-2.ensures)))

pub returns-in_err-term : goal.returns-in_err-term
unfolding credential_in
returns-in_err-term c =
    let o0 = start (credential_in (left c.args.self.now)) c.args.self.now in
    let o1 = on _ o0 (took _ _ _ _ _ _ c.in_ok-issuer.ensures) in
    let o2 = on _ o1 (took _ _ _ _ _ _ c.in_ok-expect.ensures) in
    let o3 = on _ o2 (took _ _ _ _ _ _ c.in_ok-name.ensures) in
    let o = on _ o3 (took _ _ _ _ _ _ c.in_ok-expect-2.ensures) in
    rw c.from_residual-in_err-term.ensures (misfit credential_part credential_size (off _ o (missed _ _ _ _ _ c.in_err-term.ensures)))

pub returns-in_err-single : goal.returns-in_err-single
unfolding credential_in
returns-in_err-single c =
    let o0 = start (credential_in (left c.args.self.now)) c.args.self.now in
    let o1 = on _ o0 (took _ _ _ _ _ _ c.in_ok-issuer.ensures) in
    let o2 = on _ o1 (took _ _ _ _ _ _ c.in_ok-expect.ensures) in
    let o3 = on _ o2 (took _ _ _ _ _ _ c.in_ok-name.ensures) in
    let o4 = on _ o3 (took _ _ _ _ _ _ c.in_ok-expect-2.ensures) in
    let o = on _ o4 (took _ _ _ _ _ _ c.in_ok-term.ensures) in
    rw c.from_residual-in_err-single.ensures (misfit credential_part credential_size (off _ o (missed _ _ _ _ _ c.in_err-single.ensures)))

pub overflow_sub-part : goal.overflow_sub-part
overflow_sub-part c =
    let t1 = took _ _ _ _ _ _ c.in_ok-issuer.ensures in
    let t2 = took _ _ _ _ _ _ c.in_ok-expect.ensures in
    let t3 = took _ _ _ _ _ _ c.in_ok-name.ensures in
    let t4 = took _ _ _ _ _ _ c.in_ok-expect-2.ensures in
    let t5 = took _ _ _ _ _ _ c.in_ok-term.ensures in
    let t6 = took _ _ _ _ _ _ c.in_ok-single.ensures in
    omega arith

-- the whole credential, however the flag is made
whole : (c : After-contains-letter) (flag : Bool) → flag ≡ (c.contains-letter.result || c.in_ok-single.single) →
    Reads (credential_in (left c.args.self.now)) c.args.self.now credential_part credential_size
    (Some (record { place = c.args.self.now.place; length = c.terms.new.self.place - c.args.self.now.place }, flag)) c.terms.new.self
unfolding credential_in
whole c flag e =
    let t1 = took _ _ _ _ _ _ c.in_ok-issuer.ensures in
    let t2 = took _ _ _ _ _ _ c.in_ok-expect.ensures in
    let t3 = took _ _ _ _ _ _ c.in_ok-name.ensures in
    let t4 = took _ _ _ _ _ _ c.in_ok-expect-2.ensures in
    let t5 = took _ _ _ _ _ _ c.in_ok-term.ensures in
    let t6 = took _ _ _ _ _ _ c.in_ok-single.ensures in
    let o = on _ (on _ (on _ (on _ (on _ (on _ (start (credential_in (left c.args.self.now)) c.args.self.now) t1) t2) t3) t4) t5) t6 in
    let made : Credential = record { issuer = t1.value; name = t3.value; term = t5.value; terms = t6.value } in
    let extent : c.terms.new.self.place - c.args.self.now.place ≡ credential_size made = let p = o.place in simp length-append (omega arith) in
    let short : flag ≡ credential_one_letter made =
    e ∙ ap (λ b. b || c.in_ok-single.single) c.contains-letter.ensures.value ∙ any_of_three (eqb c.in_ok-issuer.issuer.length 1) (eqb c.in_ok-name.name.length 1) (eqb c.in_ok-term.term.length 1) c.in_ok-single.single
    ∙ (λ j. eqb (t1.shown j).length 1 || (eqb (t3.shown j).length 1 || (eqb (t5.shown j).length 1 || t6.shown j))) in
    end credential_part credential_size o (λ j. (record { place = c.args.self.now.place; length = extent j }, short j)) (simp length-append (omega arith))

pub returns-then-letter : goal.returns-then-letter
returns-then-letter c = whole (goal.at.returns-then-letter c).After-contains-letter c.contains-letter.result (grind arith)

pub returns-else-letter : goal.returns-else-letter
returns-else-letter c = whole (goal.at.returns-else-letter c).After-contains-letter c.in_ok-single.single (grind arith)
