-- Reading a book: the fault of a line is the smallest that it has, and a text is read line after line.
use Rattle.std.specs.Prelude.{◌≡◌, ℕ, ◌+◌, ◌<◌, ◌≤◌, Bool, true, false, ◌≢◌, ◌⊎◌, ◌↔◌, List, [], ◌∷◌, ◌++◌, length, Some, None, Ok, Err, Option, Result}
use Rattle.std.specs.List.{AllByRecursion}
use Rattle.book.specs.declared.fault.Fault.{Fault}
use Rattle.book.specs.declared.fault.Fault.TheVariants.{TooLong, NoForm}
use Rattle.book.specs.Faults.{fault_number}
use Rattle.book.specs.Grammar.{item_bytes, LineText, line_bytes, GoodLine}
use Rattle.book.specs.Laws.{cut_out}
use Rattle.book.specs.Lines.{line_size}
use Rattle.house.specs.declared.refusal.Refusal.{Refusal}
use Rattle.house.specs.Policies.{Policies, nothing, with, has, fault_of}
use Rattle.house.specs.Books.{book_read, party_part, item_part}

-- of the faults that pass the test, the one with the smallest number
abbrev pub Smallest : (Fault → Bool) → Option Fault → Type 0
Smallest t None = (g : Fault) → t g ≡ false
Smallest t (Some f) = (t f ≡ true) × ((g : Fault) → t g ≡ true → fault_number f ≤ fault_number g)

abbrev pub lines_bytes : List LineText → List ℕ
lines_bytes [] = []
lines_bytes (l ∷ ls) = line_bytes l ++ lines_bytes ls

-- none of the lines, the first at a place, has a fault after those before it, and together they make `after` of `before`
abbrev pub Says : Policies → ℕ → List LineText → Policies → Type 0
Says before place [] after = before ≡ after
Says before place (l ∷ ls) after = (fault_of before l ≡ None) × Says (with before place l) (place + line_size l) ls after

-- bytes that are good lines without fault, and others behind them
pub record Front (bytes : List ℕ) (before : Policies) (place : ℕ) (lines : List LineText) (after : Policies) (rest : List ℕ) : Type 0 where
  pub writing : bytes ≡ lines_bytes lines ++ rest
  pub good : AllByRecursion GoodLine lines
  pub says : Says before place lines after

-- no good line stands at the front of the bytes
abbrev pub NoLine : List ℕ → Type 0
NoLine bytes = (bytes ≢ []) × ((l : LineText) (rest : List ℕ) → bytes ≡ line_bytes l ++ rest → ¬ GoodLine l)

-- a good line stands there, and this is its smallest fault
abbrev pub LineWith : Policies → List ℕ → Fault → Type 0
LineWith v bytes f = (l : LineText) × (rest : List ℕ) × (bytes ≡ line_bytes l ++ rest) × GoodLine l × (fault_of v l ≡ Some f)

-- what is wrong at the front of the bytes
abbrev pub Faulty : Policies → List ℕ → Fault → Type 0
Faulty v bytes f = ((f ≡ NoForm) × NoLine bytes) ⊎ LineWith v bytes f

-- all bytes are lines without fault; or those before the first faulty line are, and it is the line with that number
abbrev pub Told : List ℕ → Policies → ℕ → ℕ → Result Policies Refusal → Type 0
Told bytes before place line (Ok after) = (ls : List LineText) × Front bytes before place ls after []
Told bytes before place line (Err e) =
    (ls : List LineText) × (after : Policies) × (rest : List ℕ) × Front bytes before place ls after rest × Faulty after rest e.fault × (e.line ≡ line + length ls)

-- the register's items and the parties' names stand in the text at their places
pub record Stand (text : List ℕ) (v : Policies) : Type 0 where
  pub parties : AllByRecursion (λ e. cut_out text (party_part e) ≡ e.name) v.parties
  pub items : AllByRecursion (λ w. cut_out text (item_part w) ≡ item_bytes w.item) v.items

pub record BookLaw : Type 0 where
  pub smallest : (v : Policies) (l : LineText) → Smallest (has v l) (fault_of v l)
  pub long : (text : List ℕ) → 32768 < length text → book_read text ≡ Err (record { fault = TooLong; line = 0 })
  pub short : (text : List ℕ) (answer : Result Policies Refusal) → length text ≤ 32768 → (book_read text ≡ answer) ↔ Told text nothing 0 1 answer
  pub places : (text : List ℕ) (v : Policies) → book_read text ≡ Ok v → Stand text v
