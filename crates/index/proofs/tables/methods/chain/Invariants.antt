use Rattle.std.proofs.Common.{◌≡◌, map, take}
use Rattle.links.specs.Keys.{keys}
use Rattle.index.proofs.tables.methods.chain.Given as goal

abbrev pub invariant-loop-entry : goal.invariant-loop-entry
invariant-loop-entry g l = keys l.links ≡ map g.T.Keyed.key_of (take l.entry-index l.entries)
