use Rattle.std.proofs.Common.{ap, ◌∙◌}
use Rattle.letter.specs.Bytes.{write_answer}
use Rattle.letter.proofs.Writes.{write_refusals}
use Rattle.letter.proofs.bytes.write_numbers.Goals as goal

pub returns-clause-refusals : goal.returns-clause-refusals
returns-clause-refusals c =
    rw (c.write.ensures.answered ∙ ap (λ l. write_answer l c.args.out.now) c.in_ok-from_numbers.ensures)
    (write_refusals c.args.kind c.args.item c.args.out.now)
