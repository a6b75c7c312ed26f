use Rattle.std.proofs.Common.{◌%◌, ap, ◌∙◌, arith}
use lib.Bits.{bit_or}
use Rattle.std.proofs.lemmas.Nat.{and_mask, or_shifted}
use Rattle.letter.proofs.Places.{behind, step, leb_some, leb_short}
use Rattle.letter.proofs.number.write_number.Goals as goal

pub loop-place-preserved : goal.loop-place-preserved
loop-place-preserved c =
    step c.loop-place.invariant (omega arith) _ (omega arith)
    (ap (bit_or 128) (and_mask c.loop-place.left 7) ∙ or_shifted 1 7 (c.loop-place.left % 128) (omega arith))

pub unreachable-requires : goal.unreachable-requires
unreachable-requires c =
    omega (arith, behind c.loop-place.invariant (omega arith), leb_some c.loop-place.left, leb_short c.args.number (omega arith))
