use Rattle.house.proofs.BookLaw.{book_law}
use Rattle.house.proofs.theorems.book_law.Goals as goal

pub returns : goal.returns
returns c = book_law
