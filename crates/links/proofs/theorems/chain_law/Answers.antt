use Rattle.links.proofs.Latest.{chain_law}
use Rattle.links.proofs.theorems.chain_law.Goals as goal

pub returns : goal.returns
returns c = chain_law
