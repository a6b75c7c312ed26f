use Rattle.std.proofs.Common.{rules, ◌≡◌, ◌∙◌, reverse, arith}
use Rattle.std.specs.List.{fold}
use Rattle.letter.proofs.Reading.{with_group, folded}
use Rattle.letter.proofs.number.spelled.Goals as goal

pub returns : goal.returns
returns c =
    let f : c.fold.result ≡ fold with_group 0 (reverse c.args.groups.now) = search rules in
    f ∙ folded c.args.groups.now (omega arith)
