use Rattle.std.proofs.Common.{◌≡◌, ◌+◌, ◌++◌, length, drop, ap, ◌∙◌, arith, length-append}
use Rattle.letter.specs.Letters.{kind_number}
use Rattle.letter.specs.Numbers.{leb}
use Rattle.letter.specs.Bytes.{letter_bytes}
use Rattle.letter.proofs.Writes.{both_pieces, long_enough}
use Rattle.letter.proofs.letter.Letter.write.Goals as goal

pub returns : goal.returns
returns c =
    let l = c.args.self in
    let first = rw (c.from-2.ensures, c.from.ensures) at c.write_number-behind.ensures in
    let second = rw c.from-3.ensures at c.write_number.ensures in
    let n = c.write_number-behind.result + c.write_number.result in
    let size : n ≡ length (letter_bytes l) = omega (arith, length-append (leb (kind_number l.kind)) (leb l.item)) in
    let copied : c.copy_from_slice.new.self ≡ letter_bytes l =
    c.copy_from_slice.ensures.after ∙ both_pieces _ _ _ _ _ first.end.0 second.end.0 first.bytes second.bytes in
    long_enough l c.args.out.now n size (omega arith) (omega arith) _ (ap (λ b. b ++ drop n c.args.out.now) copied)
