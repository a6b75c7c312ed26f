use Rattle.meaning.proofs.Laws.{meaning_law}
use Rattle.meaning.proofs.meaning_law.Goals as goal

pub returns : goal.returns
returns c = meaning_law
