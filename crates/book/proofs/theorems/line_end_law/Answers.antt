use Rattle.book.proofs.Laws.{line_end_law}
use Rattle.book.proofs.theorems.line_end_law.Goals as goal

pub returns : goal.returns
returns c = line_end_law
