use Rattle.std.proofs.Common.{◌∙◌, arith}
use Rattle.item_set.proofs.Words.{united}
use Rattle.item_set.proofs.set.ItemSet.unite.Goals as goal

pub returns : goal.returns
returns c = united _ _ _ _ (omega arith) (omega arith) c.loop-place.invariant.united

pub invariant_of-self : goal.invariant_of-self
invariant_of-self c = record { whole = c.loop-place.invariant.size ∙ c.args.self.now.whole }
