use Rattle.house.proofs.Worked.{worked}
use Rattle.house.proofs.theorems.worked_books.Goals as goal

pub returns : goal.returns
returns c = worked
