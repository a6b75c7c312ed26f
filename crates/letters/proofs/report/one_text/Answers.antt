use Rattle.letters.proofs.OneText.{one_text}
use Rattle.letters.proofs.report.one_text.Goals as goal

pub returns : goal.returns
returns c = one_text
