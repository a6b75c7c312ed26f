use Rattle.letter.proofs.Places.{Writing}
use Rattle.letter.proofs.number.write_number.Given as goal

abbrev pub invariant-loop-place : goal.invariant-loop-place
invariant-loop-place l = Writing l.initial.out l.fn.number l.out l.place l.left
