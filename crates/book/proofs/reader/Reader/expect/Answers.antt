use Rattle.std.proofs.Common.{sym, ◌∙◌, rules}
use denote.Enum.Bare.{same_true, same_false}
use Rattle.book.specs.contracts.reader.items.Sign.{the_type}
use Rattle.book.proofs.Steps.{took, missed, off, misfit}
use Rattle.book.proofs.Signs.{expect_start, expect_ends}
use Rattle.book.proofs.reader.Reader.expect.Goals as goal

pub returns-in_err-sign : goal.returns-in_err-sign
returns-in_err-sign c = rw c.from_residual.ensures (misfit (λ _ u. u) (λ _. 1) (off _ (expect_start c.args.sign c.args.self.now) (missed _ _ _ _ _ c.in_err-sign.ensures)))

pub returns : goal.returns
returns c =
    let t = took _ _ _ _ _ _ c.in_ok-sign.ensures in
    expect_ends c.args.sign t c.eq.result (λ e. same_true the_type (search rules) _ _ (sym c.eq.ensures ∙ e)) (λ e. same_false the_type _ _ (sym c.eq.ensures ∙ e)) c.then_some.result c.then_some.ensures
