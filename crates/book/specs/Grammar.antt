-- The lines of a book as they are written: names, items and the four forms, when they are good, and their bytes.
use Rattle.std.specs.Prelude.{◌≡◌, ℕ, ◌≤◌, Bool, false, ◌&&◌, ◌||◌, T, List, [], ◌∷◌, ◌++◌, length, codes, nat_le}
use Rattle.std.specs.List.{AllByRecursion}

-- A to Z, a to z
abbrev pub letter : ℕ → Bool
letter b = (nat_le 65 b && nat_le b 90) || (nat_le 97 b && nat_le b 122)

-- a letter, or 0 to 9
abbrev pub name_byte : ℕ → Bool
name_byte b = letter b || (nat_le 48 b && nat_le b 57)

abbrev pub Name : Type 0
Name = List ℕ

-- a well-formed name: a letter first, then letters and digits, 1 to 16 bytes
abbrev pub GoodName : Name → Type 0
GoodName [] = ⊥
GoodName (b ∷ bs) = T (letter b) × AllByRecursion (λ c. T (name_byte c)) bs × (length bs ≤ 15)

-- bytes that do not go on with a name
abbrev pub NameEnds : List ℕ → Type 0
NameEnds [] = Unit {0}
NameEnds (b ∷ bs) = name_byte b ≡ false

-- what an issuer states: a credential name with one to four terms, the first and up to three others
pub record Credential : Type 0 where
  pub issuer : Name
  pub name : Name
  pub term : Name
  pub terms : List Name

pub record GoodCredential (c : Credential) : Type 0 where
  pub issuer : GoodName c.issuer
  pub name : GoodName c.name
  pub term : GoodName c.term
  pub terms : AllByRecursion GoodName c.terms
  pub few : length c.terms ≤ 3

-- one ground disclosure: the source discloses the credential to the destination
pub record ItemText : Type 0 where
  pub source : Name
  pub credential : Credential
  pub destination : Name

pub record GoodItem (i : ItemText) : Type 0 where
  pub source : GoodName i.source
  pub credential : GoodCredential i.credential
  pub destination : GoodName i.destination

-- the terms behind the first, each behind a comma
abbrev pub more_terms : List Name → List ℕ
more_terms [] = []
more_terms (t ∷ ts) = codes "," ++ (t ++ more_terms ts)

-- issuer.name(term,term)
abbrev pub credential_bytes : Credential → List ℕ
credential_bytes c = c.issuer ++ (codes "." ++ (c.name ++ (codes "(" ++ (c.term ++ (more_terms c.terms ++ codes ")")))))

-- source^credential>destination
abbrev pub item_bytes : ItemText → List ℕ
item_bytes i = i.source ++ (codes "^" ++ (credential_bytes i.credential ++ (codes ">" ++ i.destination)))

pub data LineText : Type 0 where
  party : Name → LineText
  hold : ItemText → LineText
  -- head, first body item, the other body items
  rule : ItemText → ItemText → List ItemText → LineText
  ask : ItemText → LineText

-- the body items behind the first, each behind the word `and`
abbrev pub more_items : List ItemText → List ℕ
more_items [] = []
more_items (i ∷ is) = codes " and " ++ (item_bytes i ++ more_items is)

-- a line with the byte that ends it
abbrev pub line_bytes : LineText → List ℕ
line_bytes (LineText.party n) = codes "party " ++ (n ++ codes "\n")
line_bytes (LineText.hold i) = codes "hold " ++ (item_bytes i ++ codes "\n")
line_bytes (LineText.rule h b bs) = codes "rule " ++ (item_bytes h ++ (codes " if " ++ (item_bytes b ++ (more_items bs ++ codes "\n"))))
line_bytes (LineText.ask i) = codes "ask " ++ (item_bytes i ++ codes "\n")

abbrev pub GoodLine : LineText → Type 0
GoodLine (LineText.party n) = GoodName n
GoodLine (LineText.hold i) = GoodItem i
GoodLine (LineText.rule h b bs) = GoodItem h × GoodItem b × AllByRecursion GoodItem bs
GoodLine (LineText.ask i) = GoodItem i
