-- A book of more than 32,768 bytes is too long, whatever it says.
use Rattle.std.proofs.Common.{◌≡◌, ℕ, ◌<◌, cond, List, length, take, Ok, Err, sym, ap, ◌∙◌, inl, inr, arith}
use Rattle.std.proofs.lemmas.List.{take_all, length-take-le}
use Rattle.std.proofs.lemmas.Bool.{cases_lt, lt-ltb}
use Rattle.book.specs.declared.fault.Fault.TheVariants.{TooLong}
use Rattle.house.specs.Policies.{nothing}
use Rattle.house.specs.Books.{lines_from, book_read}
use Rattle.book_check.specs.Report.{listing, refusal_line, printed, PrefixLaw}

too_long : (book : List ℕ) → 32768 < length book → book_read book ≡ Err (record { fault = TooLong; line = 0 })
too_long book h = ap (λ c. cond c (Err (record { fault = TooLong; line = 0 })) (lines_from (length book) book 0 1 nothing)) (lt-ltb 32768 (length book) h)

pub prefix_law : PrefixLaw
prefix_law book =
    elim (cases_lt 32769 (length book)) [
      | inl l ↦
          let k : length (take 32769 book) ≡ 32769 = length-take-le 32769 book (omega arith) in
          ap (λ r. (elim r [ Ok v ↦ listing v | Err e ↦ refusal_line e ])) (too_long (take 32769 book) (omega arith) ∙ sym (too_long book (omega arith)))
      | inr l ↦ ap printed (take_all 32769 book l)
    ]
