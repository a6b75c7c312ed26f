use Rattle.std.proofs.Common.{arith}
use Rattle.links.specs.Keys.{keys}
use Rattle.index.proofs.Adding.{put_next}
use Rattle.index.proofs.tables.methods.chain.Goals as goal

pub unwrap-requires : goal.unwrap-requires
unwrap-requires g c =
    (put_next g.T.Keyed.key_of c.args.entries.now c.loop-entry.entry-index c.entry-item.result g.row.N c.key.result (keys c.loop-entry.links) (keys c.push.new.self) c.push.result
    c.loop-entry.invariant c.loop-entry-test.true c.entry-item.is c.key.ensures c.requires.room (omega arith) c.push.ensures.keys).0

pub loop-entry-preserved : goal.loop-entry-preserved
loop-entry-preserved g c =
    (put_next g.T.Keyed.key_of c.args.entries.now c.loop-entry.entry-index c.entry-item.result g.row.N c.key.result (keys c.loop-entry.links) (keys c.push.new.self) c.push.result
    c.loop-entry.invariant c.loop-entry-test.true c.entry-item.is c.key.ensures c.requires.room (omega arith) c.push.ensures.keys).1
