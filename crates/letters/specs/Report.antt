-- What is printed for a capture, which is the bytes read from standard input: letters one behind the other.
use Rattle.std.specs.Prelude.{◌≡◌, ℕ, ◌<◌, ◌⊎◌, List, [], ◌++◌, length, Err, codes, decimal}
use Rattle.std.specs.List.{flat_map, AllByRecursion}
use Rattle.letter.specs.declared.letter.Letter.{Letter}
use Rattle.letter.specs.declared.refusal.Refusal.{Refusal}
use Rattle.letter.specs.Names.{letter_name, refusal_name}
use Rattle.letter.specs.Bytes.{letter_bytes, LetterRead}

-- a line for each letter
abbrev pub letter_line : Letter → List ℕ
letter_line l = letter_name l ++ codes "\n"

-- a line for bytes that are no letter, with their offset in the capture
abbrev pub refusal_line : Refusal → ℕ → List ℕ
refusal_line e offset = refusal_name e ++ (codes " at " ++ (decimal offset ++ codes "\n"))

-- the last line
abbrev pub count_line : ℕ → List ℕ
count_line n = decimal n ++ codes " letters\n"

-- the line between the letters and the count, where `rest` follows the letters at this offset:
-- none at the end of the capture, else the refusal with which the next letter cannot be read
abbrev pub StopLine : List ℕ → ℕ → List ℕ → Type 0
StopLine rest offset line =
    ((rest ≡ []) × (line ≡ [])) ⊎ ((e : Refusal) × (0 < length rest) × LetterRead rest (Err e) × (line ≡ refusal_line e offset))

-- the text that is printed for a capture: its letters, up to its end or to the first bytes that are no letter,
-- where `flat_map` puts the bytes of each one behind the other with nothing between
pub record Reported (capture text : List ℕ) : Type 0 where
  pub letters : List Letter
  pub rest : List ℕ
  pub stop : List ℕ
  pub small : AllByRecursion (λ l. l.item < 256) letters
  pub captured : capture ≡ flat_map letter_bytes letters ++ rest
  pub stops : StopLine rest (length (flat_map letter_bytes letters)) stop
  pub printed : text ≡ flat_map letter_line letters ++ (stop ++ count_line (length letters))

-- no capture has two texts
abbrev pub OneText : Type 0
OneText = (capture a b : List ℕ) → Reported capture a → Reported capture b → a ≡ b
