use Rattle.std.proofs.Common.{◌≡◌, ℕ, Bool, ◌||◌, eqb, Some, ◌∙◌, refl, arith, length-append}
use Rattle.book.specs.Grammar.{more_terms}
use Rattle.book.specs.Reading.{terms_in}
use Rattle.book.specs.Places.{left, Reads, any_one_letter}
use Rattle.book.specs.Signs.{terms_size}
use Rattle.book.proofs.Steps.{took, missed, on, off, misfit, end, nothing}
use Rattle.book.proofs.Signs.{terms_start, terms_on, terms_full, terms_comma, terms_wrong}
use Rattle.book.proofs.reader.Reader.+terms.Goals.{In_ok-single-in-Comma}
use Rattle.book.proofs.reader.Reader.+terms.Goals as goal

pub returns-in_err-sign : goal.returns-in_err-sign
returns-in_err-sign t c = rw c.from_residual.ensures (misfit (λ _ ts. any_one_letter ts) terms_size (off _ (terms_start c.args.most c.args.self.now) (missed _ _ _ _ _ c.in_err-sign.ensures)))

pub returns-in-Close : goal.returns-in-Close
returns-in-Close t c = end (λ _ ts. any_one_letter ts) terms_size (terms_on c.args.most (took _ _ _ _ _ _ c.in_ok-sign.ensures) _ c.in-Close.is) refl refl

pub returns-in_default : goal.returns-in_default
returns-in_default t c = nothing (λ _ ts. any_one_letter ts) terms_size (terms_wrong c.args.most (took _ _ _ _ _ _ c.in_ok-sign.ensures) c.in_default.not-Close c.in_default.not-Comma)

pub returns-in_err-more-in-Comma : goal.returns-in_err-more-in-Comma
returns-in_err-more-in-Comma t c =
    let z = c.in_err-more-in-Comma.ensures in
    rw c.from_residual-in_err-more-in-Comma.ensures
    (nothing (λ _ ts. any_one_letter ts) terms_size (terms_full c.args.most (took _ _ _ _ _ _ c.in_ok-sign.ensures) c.in-Comma.is (omega (arith, z))))

pub returns-in_err-term-in-Comma : goal.returns-in_err-term-in-Comma
returns-in_err-term-in-Comma t c =
    let o = terms_comma c.args.most (took _ _ _ _ _ _ c.in_ok-sign.ensures) c.in-Comma.is c.in_ok-more-in-Comma.more (omega (arith, c.in_ok-more-in-Comma.ensures)) in
    rw c.from_residual-in_err-term-in-Comma.ensures (misfit (λ _ ts. any_one_letter ts) terms_size (off _ o (missed _ _ _ _ _ c.in_err-term-in-Comma.ensures)))

pub returns-in_err-single-in-Comma : goal.returns-in_err-single-in-Comma
returns-in_err-single-in-Comma t c =
    let o = terms_comma c.args.most (took _ _ _ _ _ _ c.in_ok-sign.ensures) c.in-Comma.is c.in_ok-more-in-Comma.more (omega (arith, c.in_ok-more-in-Comma.ensures)) in
    rw c.from_residual-in_err-single-in-Comma.ensures
    (misfit (λ _ ts. any_one_letter ts) terms_size (off _ (on _ o (took _ _ _ _ _ _ c.in_ok-term-in-Comma.ensures)) (missed _ _ _ _ _ c.in_err-single-in-Comma.ensures)))

-- all terms, however the flag is made
all : (t : ℕ) (c : In_ok-single-in-Comma t) (flag : Bool) → flag ≡ (eqb c.in_ok-term-in-Comma.term.length 1 || c.in_ok-single-in-Comma.single) →
    Reads (terms_in c.args.most (left c.args.self.now)) c.args.self.now (λ _ ts. any_one_letter ts) terms_size (Some flag) c.terms.new.self
all t c flag e =
    let o = terms_comma c.args.most (took _ _ _ _ _ _ c.in_ok-sign.ensures) c.in-Comma.is c.in_ok-more-in-Comma.more (omega (arith, c.in_ok-more-in-Comma.ensures)) in
    let n = took _ _ _ _ _ _ c.in_ok-term-in-Comma.ensures in
    let m = took _ _ _ _ _ _ c.in_ok-single-in-Comma.ensures in
    end (λ _ ts. any_one_letter ts) terms_size (on _ (on _ o n) m) (e ∙ (λ j. eqb (n.shown j).length 1 || m.shown j)) (omega (arith, length-append n.value (more_terms m.value)))

pub returns-then-term-eq1 : goal.returns-then-term-eq1
returns-then-term-eq1 t c = all t (goal.at.returns-then-term-eq1 t c).In_ok-single-in-Comma _ (grind arith)

pub returns-else-term-eq1 : goal.returns-else-term-eq1
returns-else-term-eq1 t c = all t (goal.at.returns-else-term-eq1 t c).In_ok-single-in-Comma _ (grind arith)
