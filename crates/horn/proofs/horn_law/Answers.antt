use Rattle.horn.proofs.Law.{horn_law}
use Rattle.horn.proofs.horn_law.Goals as goal

pub returns : goal.returns
returns c = horn_law
