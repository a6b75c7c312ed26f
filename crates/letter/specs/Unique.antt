-- What reading answers is settled: no bytes have two answers.
use Rattle.std.specs.Prelude.{◌≡◌, ℕ, List}
use Rattle.letter.specs.Numbers.{NumberAnswer, NumberRead}
use Rattle.letter.specs.Bytes.{LetterAnswer, LetterRead}

pub record OneAnswer : Type 0 where
  pub number : (bytes : List ℕ) (a b : NumberAnswer) → NumberRead bytes a → NumberRead bytes b → a ≡ b
  pub letter : (bytes : List ℕ) (a b : LetterAnswer) → LetterRead bytes a → LetterRead bytes b → a ≡ b
