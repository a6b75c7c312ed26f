use Rattle.std.proofs.Common.{Some, None, sym, refl, ◌∙◌}
use Rattle.std.proofs.lemmas.Slice.Eq.{strip_prefix_is}
use Rattle.std.proofs.lemmas.Bool.Decides.{Decides-eqb}
use Rattle.book.proofs.Steps.{word_moves, word_stays}
use Rattle.book.proofs.reader.Reader.keyword.Goals as goal

pub returns-clause-answer : goal.returns-clause-answer
returns-clause-answer c =
    let e = strip_prefix_is Decides-eqb c.rest.result.now c.args.word.now (Some c.in_ok-strip_prefix.field-0) c.in_ok-strip_prefix.ensures.cases in
    word_moves c.args.word.now c.args.self.now _ c.in_ok-strip_prefix.field-0.now (sym c.rest.ensures ∙ e) refl refl

pub returns-in_err-strip_prefix-clause-answer : goal.returns-in_err-strip_prefix-clause-answer
returns-in_err-strip_prefix-clause-answer c =
    let n = strip_prefix_is Decides-eqb c.rest.result.now c.args.word.now None c.in_err-strip_prefix.ensures.cases in
    rw c.from_residual.ensures (word_stays c.args.word.now c.args.self.now c.args.self.now (λ rest e. n rest (c.rest.ensures ∙ e)) refl)
