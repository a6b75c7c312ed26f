use Rattle.book_check.proofs.Prefix.{prefix_law}
use Rattle.book_check.proofs.report.prefix_law.Goals as goal

pub returns : goal.returns
returns c = prefix_law
