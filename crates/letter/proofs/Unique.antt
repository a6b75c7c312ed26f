-- No bytes have two answers.
use Rattle.std.proofs.Common.{◌≡◌, ℕ, List, Ok, Err, sym, refl, ap, ◌∙◌, inl, inr, arith}
use Rattle.letter.specs.declared.refusal.Refusal.TheVariants.{CutShort, Malformed, NoSuchKind, ItemTooLarge, BufferTooShort}
use Rattle.letter.specs.Numbers.{NumberAnswer, NumberRead}
use Rattle.letter.specs.Bytes.{LetterAnswer, LetterRead}
use Rattle.letter.specs.Unique.{OneAnswer}
use Rattle.letter.proofs.Refused.{refused}
use Rattle.letter.proofs.Chained.{no_ok, none, err_cases}

number_once : (bytes : List ℕ) (a b : NumberAnswer) → NumberRead bytes a → NumberRead bytes b → a ≡ b
number_once bytes a (Ok p) r s = (r.read p.0 p.1).1 ((s.read p.0 p.1).0 refl)
number_once bytes a (Err e) r s =
    elim (err_cases e s) [
      | inl p ↦ refused a CutShort (r.cut.1 p.1) ∙ ap Err (sym p.0)
      | inr p ↦ refused a Malformed (r.malformed (none s) p.1) ∙ ap Err (sym p.0)
    ]

letter_once : (bytes : List ℕ) (a b : LetterAnswer) → LetterRead bytes a → LetterRead bytes b → a ≡ b
letter_once bytes a (Ok p) r s = (r.read p.0 p.1).1 ((s.read p.0 p.1).0 refl)
letter_once bytes a (Err CutShort) r s = refused a CutShort (r.cut.1 (s.cut.0 refl))
letter_once bytes a (Err NoSuchKind) r s = refused a NoSuchKind (r.other_kind.1 (s.other_kind.0 refl))
letter_once bytes a (Err ItemTooLarge) r s = refused a ItemTooLarge (r.large_item.1 (s.large_item.0 refl))
letter_once bytes a (Err Malformed) r s =
    refused a Malformed
    (r.malformed (λ l rest t. no_ok Malformed (l, rest) ((s.read l rest).1 t)) (λ u. omega (arith, s.cut.1 u)) (λ u. omega (arith, s.other_kind.1 u)) (λ u. omega (arith, s.large_item.1 u)))
letter_once bytes a (Err BufferTooShort) r s =
    absurd
    (omega (arith, s.malformed (λ l rest t. no_ok BufferTooShort (l, rest) ((s.read l rest).1 t)) (λ u. omega (arith, s.cut.1 u)) (λ u. omega (arith, s.other_kind.1 u)) (λ u. omega (arith, s.large_item.1 u))))

pub one_answer : OneAnswer
one_answer = record { number = number_once; letter = letter_once }
