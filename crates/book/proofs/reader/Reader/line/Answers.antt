use Rattle.std.proofs.Common.{refl, arith}
use Rattle.std.proofs.lemmas.Result.{err_from_is_err_and}
use Rattle.book.specs.Lines.{line_parts, line_size}
use Rattle.book.proofs.Answered.{line_none, line_some}
use Rattle.book.proofs.Forms.{line_start, line_sizes}
use Rattle.book.proofs.Steps.{took, missed, on, off, end}
use Rattle.book.proofs.reader.Reader.line.Goals as goal

pub returns-in_err-line : goal.returns-in_err-line
returns-in_err-line c =
    let o = line_start c.args.self.now c.args.self.now refl refl in
    let p = err_from_is_err_and c.from_residual.result c.from_residual.ensures.1 in
    rw (p.1, p.2) (line_none c.args.self.now _ (off _ o (missed _ _ _ _ _ c.in_err-line.ensures.1)).parsed c.in_err-line.ensures.0)

pub returns-in_default : goal.returns-in_default
returns-in_default c =
    let o = on _ (line_start c.args.self.now c.args.self.now refl refl) (took _ _ _ _ _ _ c.in_ok-line.ensures) in
    line_none c.args.self.now _ (off _ o (missed _ _ _ _ _ c.in_default.ensures.answer)).parsed refl

pub returns : goal.returns
returns c =
    let t = took _ _ _ _ _ _ c.in_ok-line.ensures in
    let o = on _ (on _ (line_start c.args.self.now c.args.self.now refl refl) t) (took _ _ _ _ _ _ c.in-Some.ensures.answer) in
    line_some c.args.self.now _ _ (end line_parts line_size o t.shown (let z = line_sizes t.value in omega arith))
