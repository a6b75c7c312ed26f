use Rattle.std.proofs.Common.{arith}
use Rattle.book.proofs.Runs.{name_size_lem}
use Rattle.book.proofs.reader.names.name_length.Goals as goal

pub returns : goal.returns
returns c = let e = name_size_lem c.args.bytes.now in grind arith
