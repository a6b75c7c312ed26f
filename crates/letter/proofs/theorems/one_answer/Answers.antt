use Rattle.letter.proofs.Unique.{one_answer}
use Rattle.letter.proofs.theorems.one_answer.Goals as goal

pub returns : goal.returns
returns c = one_answer
