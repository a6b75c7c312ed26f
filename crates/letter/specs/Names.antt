-- A letter in words: the name of its kind, a space, its item in decimal; and a refusal by its number.
use Rattle.std.specs.Prelude.{ℕ, List, ◌++◌, codes, decimal}
use Rattle.letter.specs.declared.letter.Kind.{Kind}
use Rattle.letter.specs.declared.letter.Kind.TheVariants.{Request, Disclosure, RequestAck, DisclosureAck}
use Rattle.letter.specs.declared.letter.Letter.{Letter}
use Rattle.letter.specs.declared.refusal.Refusal.{Refusal}
use Rattle.letter.specs.Refusals.{refusal_number}

abbrev pub kind_name : Kind → List ℕ
kind_name Request = codes "request"
kind_name Disclosure = codes "disclosure"
kind_name RequestAck = codes "request-ack"
kind_name DisclosureAck = codes "disclosure-ack"

abbrev pub letter_name : Letter → List ℕ
letter_name l = kind_name l.kind ++ (codes " " ++ decimal l.item)

abbrev pub refusal_name : Refusal → List ℕ
refusal_name e = codes "refusal " ++ decimal (refusal_number e)
