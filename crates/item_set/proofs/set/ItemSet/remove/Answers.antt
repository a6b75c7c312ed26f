use Rattle.std.proofs.Common.{arith}
use Rattle.item_set.proofs.Words.{removed}
use Rattle.item_set.proofs.set.ItemSet.remove.Goals as goal

pub returns : goal.returns
returns c = let h = c.ranges.item in rw (c.place_of-place.ensures.place, c.place_of-place.ensures.bit) (removed _ _ (omega arith))
