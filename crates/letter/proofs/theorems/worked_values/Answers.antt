use Rattle.letter.proofs.Worked.{worked}
use Rattle.letter.proofs.theorems.worked_values.Goals as goal

pub returns : goal.returns
returns c = worked
