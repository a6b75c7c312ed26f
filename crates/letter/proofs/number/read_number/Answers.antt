use Rattle.std.proofs.Common.{rules, ◌≡◌, ◌<◌, length, get_or, refl, arith}
use Rattle.std.proofs.lemmas.List.{take_rest, take_more}
use Rattle.letter.proofs.Reading.{at_end, at_third, at_padding, at_last}
use Rattle.letter.proofs.number.read_number.Goals as goal

pub returns-in-len1-up : goal.returns-in-len1-up
returns-in-len1-up c =
    at_last c.args.bytes.now c.type_inv.bytes 0 (omega arith) (λ k h. absurd (omega arith)) (omega arith) (omega arith) (omega arith) (λ h. absurd (omega arith))
    _ (omega arith) _ (search take_rest)

pub returns-in-0 : goal.returns-in-0
returns-in-0 c =
    let within : 1 < length c.args.bytes.now = search rules in
    let padding : get_or c.args.bytes.now 1 0 ≡ 0 = search rules in
    at_padding c.args.bytes.now c.type_inv.bytes 1 (omega arith) (λ k h. grind arith) within (omega arith) padding

pub returns-in-len2-up : goal.returns-in-len2-up
returns-in-len2-up c =
    let within : 1 < length c.args.bytes.now = search rules in
    let some : 0 < get_or c.args.bytes.now 1 0 = grind arith in
    let first = take_more c.args.bytes.now 0 0 (omega arith) in
    at_last c.args.bytes.now c.type_inv.bytes 1 (omega arith) (λ k h. grind arith) within (omega arith) (omega arith) (λ h. some)
    _ (rw first c.spelled.ensures) _ (search take_rest)

pub returns-in-0-2 : goal.returns-in-0-2
returns-in-0-2 c = at_padding c.args.bytes.now c.type_inv.bytes 2 (omega arith) (λ k h. grind arith) (omega arith) (omega arith) (omega arith)

pub returns-in-len3-up : goal.returns-in-len3-up
returns-in-len3-up c =
    let first = take_more c.args.bytes.now 0 0 (omega arith) in
    let second = take_more c.args.bytes.now 1 0 (omega arith) in
    at_last c.args.bytes.now c.type_inv.bytes 2 (omega arith) (λ k h. grind arith) (omega arith) (omega arith) (omega arith) (λ h. omega arith)
    _ (rw (second, first) c.spelled-in-len3-up.ensures) _ (search take_rest)

pub returns-in-len3-up-2 : goal.returns-in-len3-up-2
returns-in-len3-up-2 c = at_third c.args.bytes.now c.type_inv.bytes 3 (omega arith) (λ k h. grind arith) refl

pub returns-in_default : goal.returns-in_default
returns-in_default c =
    let few : length c.args.bytes.now < 3 = search rules in
    at_end c.args.bytes.now c.type_inv.bytes (length c.args.bytes.now) (omega arith) (λ k h. grind arith) (omega arith) few
