use Rattle.book.proofs.Lines.{inverse_law}
use Rattle.book.proofs.theorems.inverse_law.Goals as goal

pub returns : goal.returns
returns c = inverse_law
