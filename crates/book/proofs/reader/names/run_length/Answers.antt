use Rattle.std.proofs.Common.{rules, tests}
use Rattle.std.proofs.lemmas.Iterator.{YieldsList-from_slice}
use Rattle.std.proofs.lemmas.Iterator.Search.{position_from_yields_List}
use Rattle.book.proofs.Runs.{ends_name, run_position}
use Rattle.book.proofs.reader.names.run_length.Goals as goal

pub returns : goal.returns
returns c =
    let p = position_from_yields_List ends_name _ _ c.position.result c.position.ensures.ran (YieldsList-from_slice c.args.bytes.now cc) (λ x b q k. search (rules, tests)) in
    run_position c.args.bytes.now c.position.result c.unwrap_or.result p c.unwrap_or.ensures
