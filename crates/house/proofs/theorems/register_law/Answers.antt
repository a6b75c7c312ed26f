use Rattle.house.proofs.BookLaw.{register_law}
use Rattle.house.proofs.theorems.register_law.Goals as goal

pub returns : goal.returns
returns c = register_law
