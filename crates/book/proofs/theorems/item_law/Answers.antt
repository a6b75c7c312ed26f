use Rattle.book.proofs.Laws.{item_law}
use Rattle.book.proofs.theorems.item_law.Goals as goal

pub returns : goal.returns
returns c = item_law
