use Rattle.std.proofs.Common.{◌≡◌, ◌*◌}
use Rattle.item_set.specs.Members.{count_to}
use Rattle.item_set.proofs.Words.{inside}
use Rattle.item_set.proofs.set.ItemSet.count.Given as goal

abbrev pub invariant-loop-word : goal.invariant-loop-word
invariant-loop-word l = l.count ≡ count_to (64 * l.word-index) (inside l.self.words)
