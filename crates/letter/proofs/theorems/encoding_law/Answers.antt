use Rattle.letter.proofs.Groups.{encoding_law}
use Rattle.letter.proofs.theorems.encoding_law.Goals as goal

pub returns : goal.returns
returns c = encoding_law
