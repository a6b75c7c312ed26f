use Rattle.std.proofs.Common.{get_or, ◌/◌, ◌%◌, arith}
use Rattle.item_set.proofs.Words.{looked}
use Rattle.item_set.proofs.set.ItemSet.contains.Goals as goal

pub returns : goal.returns
returns c =
    let item = c.args.item in
    let place = c.place_of-place.ensures.place in
    let bit = c.place_of-place.ensures.bit in
    let here = looked (get_or c.args.self.now.words (item / 64) 0) (item % 64) in
    grind arith
