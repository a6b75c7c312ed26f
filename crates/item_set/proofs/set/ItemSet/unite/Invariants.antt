use Rattle.std.proofs.Common.{◌≡◌, length}
use Rattle.item_set.proofs.Words.{United}
use Rattle.item_set.proofs.set.ItemSet.unite.Given as goal

abbrev pub invariant-loop-place : goal.invariant-loop-place
invariant-loop-place l = record {
  united : United l.initial.word-items l.other.words l.place l.word-items;
  size : length l.word-items ≡ length l.initial.word-items;
}
