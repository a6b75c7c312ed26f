-- What the readers of lines and items answer: first in the words of the grammar, then by the executable reading.
use Rattle.std.specs.Prelude.{◌≡◌, ℕ, ◌+◌, List, [], ◌∷◌, ◌++◌, length, Some, None, Ok, Err, codes, Option, Result}
use Rattle.book.specs.declared.fault.Fault.{Fault}
use Rattle.book.specs.declared.fault.Fault.TheVariants.{NoForm}
use Rattle.book.specs.declared.parts.ItemParts.{ItemParts}
use Rattle.book.specs.declared.parts.Line.{Line}
use Rattle.book.specs.declared.parts.Line.TheVariants.{Party, Hold, Rule, Ask}
use Rattle.book.specs.declared.reader.Reader.{Reader}
use Rattle.book.specs.Grammar.{NameEnds, ItemText, GoodItem, item_bytes, LineText, GoodLine, line_bytes, more_items}
use Rattle.book.specs.Reading.{Parsed, then, name_in, word_in, item_in, more_in, behind}
use Rattle.book.specs.Places.{left, Reads, name_part, item_parts, item_size}

-- a line by the places of its names and items, where its keyword ends at a place
abbrev pub form_parts : ℕ → LineText → Line
form_parts place (LineText.party n) = Party (name_part place n)
form_parts place (LineText.hold i) = Hold (item_parts place i)
form_parts place (LineText.rule h b bs) = Rule (item_parts place h) (place + item_size h + 4) (1 + length bs)
form_parts place (LineText.ask i) = Ask (item_parts place i)

abbrev pub keyword_size : LineText → ℕ
keyword_size (LineText.party n) = 6
keyword_size (LineText.hold i) = 5
keyword_size (LineText.rule h b bs) = 5
keyword_size (LineText.ask i) = 4

-- a line that begins at a place
abbrev pub line_parts : ℕ → LineText → Line
line_parts place l = form_parts (place + keyword_size l) l

abbrev pub line_size : LineText → ℕ
line_size l = length (line_bytes l)

-- a good line stands at the place: it is answered by its places, and the reader is behind the byte that ends it;
-- no good line stands there: the answer is that there is no form, and the reader stays
pub record LineRead (before : Reader) (answer : Result Line Fault) (after : Reader) : Type 0 where
  pub text : after.text ≡ before.text
  pub read : (l : LineText) (rest : List ℕ) → left before ≡ line_bytes l ++ rest → GoodLine l →
      (answer ≡ Ok (line_parts before.place l)) × (after.place ≡ before.place + line_size l)
  pub none : ((l : LineText) (rest : List ℕ) → left before ≡ line_bytes l ++ rest → ¬ GoodLine l) → (answer ≡ Err NoForm) × (after.place ≡ before.place)

-- the same for an item, which ends where its last name does
pub record ItemRead (before : Reader) (answer : Option ItemParts) (after : Reader) : Type 0 where
  pub text : after.text ≡ before.text
  pub read : (i : ItemText) (rest : List ℕ) → left before ≡ item_bytes i ++ rest → GoodItem i → NameEnds rest →
      (answer ≡ Some (item_parts before.place i)) × (after.place ≡ before.place + item_size i)
  pub none : ((i : ItemText) (rest : List ℕ) → left before ≡ item_bytes i ++ rest → GoodItem i → ¬ NameEnds rest) → (answer ≡ None) × (after.place ≡ before.place)

-- For the inner contracts of the reader: the same by the executable reading.
-- A reader of lines answers what it parsed by its places, or that there is no form
abbrev pub LineAnswer : {A : Type 0} → Parsed A → Reader → (ℕ → A → Line) → (A → ℕ) → Result Line Fault → Reader → Type 0
LineAnswer P before show size (Ok l) after = Reads P before show size (Some l) after
LineAnswer P before show size (Err f) after = (f ≡ NoForm) × Reads P before show size None after

-- the other body items with the words between
abbrev pub more_size : List ItemText → ℕ
more_size is = length (more_items is)

-- a head, the first body item and the others
abbrev pub RuleText : Type 0
RuleText = ItemText × ItemText × List ItemText

unfoldable pub rule_form : List ℕ → Parsed RuleText
rule_form bytes =
    then (item_in bytes) λ h b1.
    then (word_in (codes " if ") b1) λ _ b2.
    then (item_in b2) λ i b3.
    then (more_in (length b3) b3) λ is rest.
    Some ((h, i, is), rest)

abbrev pub rule_parts : ℕ → RuleText → Line
rule_parts place r = Rule (item_parts place r.0) (place + item_size r.0 + 4) (1 + length r.2)

abbrev pub rule_size : RuleText → ℕ
rule_size r = item_size r.0 + 4 + item_size r.1 + more_size r.2

-- the form of a line behind each word, up to the byte that ends it
abbrev pub forms : List (List ℕ × (List ℕ → Parsed LineText))
forms =
    (codes "party ", λ b. then (name_in b) λ n rest. Some (LineText.party n, rest))
    ∷ (codes "hold ", λ b. then (item_in b) λ i rest. Some (LineText.hold i, rest))
    ∷ (codes "rule ", λ b. then (rule_form b) λ r rest. Some (LineText.rule r.0 r.1 r.2, rest))
    ∷ (codes "ask ", λ b. then (item_in b) λ i rest. Some (LineText.ask i, rest))
    ∷ []

-- the form behind the first of the words that stands at the front
abbrev pub first_form : List (List ℕ × (List ℕ → Parsed LineText)) → List ℕ → Parsed LineText
first_form [] bytes = None
first_form (f ∷ fs) bytes = behind f.0 bytes f.1 (first_form fs bytes)

-- a line up to the byte that ends it
unfoldable pub form_in : List ℕ → Parsed LineText
form_in bytes = first_form forms bytes

abbrev pub form_size : LineText → ℕ
form_size (LineText.party n) = 6 + length n
form_size (LineText.hold i) = 5 + item_size i
form_size (LineText.rule h b bs) = 5 + rule_size (h, b, bs)
form_size (LineText.ask i) = 4 + item_size i
