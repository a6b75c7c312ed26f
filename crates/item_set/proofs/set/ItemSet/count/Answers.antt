use Rattle.std.proofs.Common.{◌*◌, ◌<◌, ◌^◌, get_or, refl, arith, rules}
use Rattle.std.proofs.lemmas.Nat.{ones-le}
use Rattle.item_set.specs.Members.{count_to}
use Rattle.item_set.proofs.Words.{inside}
use Rattle.item_set.proofs.Counts.{count_le, count_more}
use Rattle.item_set.proofs.set.ItemSet.count.Goals as goal

pub loop-word-init : goal.loop-word-init
unfolding count_to
loop-word-init c = refl

pub overflow_add-count : goal.overflow_add-count
overflow_add-count c =
    let ws = c.args.self.now.words in
    let i = c.loop-word.word-index in
    let fits : get_or ws i 0 < 2 ^ 64 = search rules in
    let few = ones-le 64 (get_or ws i 0) fits in
    let small = count_le (64 * i) (inside ws) in
    omega arith

pub loop-word-preserved : goal.loop-word-preserved
loop-word-preserved c =
    let ws = c.args.self.now.words in
    let i = c.loop-word.word-index in
    let fits : get_or ws i 0 < 2 ^ 64 = search rules in
    omega (arith, count_more ws i fits)
