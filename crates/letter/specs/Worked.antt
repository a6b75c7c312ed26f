-- Worked values of the letter format.
use Rattle.std.specs.Prelude.{◌≡◌, ℕ, List, [], ◌∷◌, ◌++◌, Ok, Err}
use Rattle.std.specs.List.{AllByRecursion}
use Rattle.letter.specs.declared.letter.Kind.TheVariants.{Request}
use Rattle.letter.specs.declared.letter.Letter.{Letter}
use Rattle.letter.specs.declared.refusal.Refusal.{Refusal}
use Rattle.letter.specs.Refusals.{refusal_number}
use Rattle.letter.specs.Bytes.{letter_bytes, LetterRead}

pub data Case : Type 0 where
  -- a letter and its bytes
  letter : Letter → List ℕ → Case
  -- bytes, and the number with which they are turned down
  refuses : List ℕ → ℕ → Case

-- the letter has these bytes and is read from them; the bytes are turned down with this number
abbrev pub Holds : Case → Type 0
Holds (Case.letter l bytes) = (letter_bytes l ≡ bytes) × ((rest : List ℕ) → LetterRead (bytes ++ rest) (Ok (l, rest)))
Holds (Case.refuses bytes number) = (e : Refusal) × LetterRead bytes (Err e) × (refusal_number e ≡ number)

abbrev pub cases : List Case
cases =
    Case.letter (record { kind = Request; item = 127 }) (0x01 ∷ 0x7F ∷ [])
    ∷ Case.letter (record { kind = Request; item = 200 }) (0x01 ∷ 0xC8 ∷ 0x01 ∷ [])
    ∷ Case.refuses (0x80 ∷ 0x80 ∷ []) 41
    ∷ Case.refuses (0x81 ∷ 0x00 ∷ []) 42
    ∷ Case.refuses (0x05 ∷ 0x00 ∷ []) 43
    ∷ Case.refuses (0x01 ∷ 0x80 ∷ 0x02 ∷ []) 44
    ∷ []

abbrev pub Worked : Type 0
Worked = AllByRecursion Holds cases
