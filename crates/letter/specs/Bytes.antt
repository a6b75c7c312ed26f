-- Letters as bytes: the kind, then the item.
use Rattle.std.specs.Prelude.{◌≡◌, ℕ, ◌<◌, cond, ◌⊎◌, ◌↔◌, List, ◌++◌, length, drop, Some, None, Ok, Err, Result, nat_lt}
use Rattle.letter.specs.declared.letter.Kind.{Kind}
use Rattle.letter.specs.declared.letter.Letter.{Letter}
use Rattle.letter.specs.declared.refusal.Refusal.{Refusal}
use Rattle.letter.specs.declared.refusal.Refusal.TheVariants.{BufferTooShort}
use Rattle.letter.specs.Refusals.{Refuses}
use Rattle.letter.specs.Letters.{kind_number, kind_of}
use Rattle.letter.specs.Numbers.{leb, NumberThen, Cut}

abbrev pub letter_bytes : Letter → List ℕ
letter_bytes l = leb (kind_number l.kind) ++ leb l.item

-- the bytes are a letter's, and then the rest
pub record LetterThen (bytes : List ℕ) (l : Letter) (rest : List ℕ) : Type 0 where
  pub small : l.item < 256
  pub bytes_are : bytes ≡ letter_bytes l ++ rest

-- the bytes begin with a kind, and end inside the item
pub record CutItem (bytes : List ℕ) : Type 0 where
  pub kind : Kind
  pub behind : List ℕ
  pub first : NumberThen bytes (kind_number kind) behind
  pub second : Cut behind

-- the bytes begin with a number that is no kind's
pub record OtherKind (bytes : List ℕ) : Type 0 where
  pub kind : ℕ
  pub behind : List ℕ
  pub first : NumberThen bytes kind behind
  pub none : kind_of kind ≡ None

-- the bytes begin with a kind, and then a number above 255
pub record LargeItem (bytes : List ℕ) : Type 0 where
  pub kind : Kind
  pub behind : List ℕ
  pub item : ℕ
  pub rest : List ℕ
  pub first : NumberThen bytes (kind_number kind) behind
  pub second : NumberThen behind item rest
  pub large : 255 < item

abbrev pub LetterAnswer : Type 0
LetterAnswer = Result (Letter × List ℕ) Refusal

-- what reading a letter answers; there is only one such answer
pub record LetterRead (bytes : List ℕ) (answer : LetterAnswer) : Type 0 where
  pub read : (l : Letter) (rest : List ℕ) → (answer ≡ Ok (l, rest)) ↔ LetterThen bytes l rest
  pub cut : Refuses answer 41 ↔ (Cut bytes ⊎ CutItem bytes)
  pub other_kind : Refuses answer 43 ↔ OtherKind bytes
  pub large_item : Refuses answer 44 ↔ LargeItem bytes
  pub malformed :
      ((l : Letter) (rest : List ℕ) → ¬ LetterThen bytes l rest) → ¬ (Cut bytes ⊎ CutItem bytes) → ¬ OtherKind bytes → ¬ LargeItem bytes →
      Refuses answer 42

-- what writing a letter answers: its length, or why nothing is written
abbrev pub write_answer : Result Letter Refusal → List ℕ → Result ℕ Refusal
write_answer (Err e) buffer = Err e
write_answer (Ok l) buffer = cond (nat_lt (length buffer) (length (letter_bytes l))) (Err BufferTooShort) (Ok (length (letter_bytes l)))

-- what the buffer holds then
abbrev pub write_bytes : Result Letter Refusal → List ℕ → List ℕ
write_bytes (Err e) buffer = buffer
write_bytes (Ok l) buffer = cond (nat_lt (length buffer) (length (letter_bytes l))) buffer (letter_bytes l ++ drop (length (letter_bytes l)) buffer)

-- what writing leaves; a letter that was written reads back, with the bytes behind it
pub record Written (wanted : Result Letter Refusal) (before : List ℕ) (answer : Result ℕ Refusal) (after : List ℕ) : Type 0 where
  pub answered : answer ≡ write_answer wanted before
  pub bytes_are : after ≡ write_bytes wanted before
  pub read_back : (l : Letter) (n : ℕ) → wanted ≡ Ok l → answer ≡ Ok n → LetterRead after (Ok (l, drop n before))

-- when writing the letter that two numbers name is refused
pub record WriteRefusals (kind item : ℕ) (buffer : List ℕ) (answer : Result ℕ Refusal) : Type 0 where
  pub other_kind : Refuses answer 43 ↔ (kind_of kind ≡ None)
  pub large_item : Refuses answer 44 ↔ ((k : Kind) × (kind_of kind ≡ Some k) × (255 < item))
  pub short : Refuses answer 45 ↔ ((k : Kind) × (kind_of kind ≡ Some k) × (item < 256) × (length buffer < length (leb kind ++ leb item)))

-- a letter that was read, written over the bytes that it was read from, leaves them as they are
pub record WrittenBack (bytes : List ℕ) (answer : LetterAnswer) : Type 0 where
  pub answered : (l : Letter) (rest : List ℕ) → answer ≡ Ok (l, rest) → write_answer (Ok l) bytes ≡ Ok (length (letter_bytes l))
  pub same : (l : Letter) (rest : List ℕ) → answer ≡ Ok (l, rest) → write_bytes (Ok l) bytes ≡ bytes
