-- Laws of the grammar: reading an item is the inverse of writing it, places cut the names and items out of the text, and
-- the byte that ends a line stands nowhere else in it.
use Rattle.std.specs.Prelude.{◌≡◌, ℕ, ◌+◌, ◌≢◌, ◌↔◌, List, [], ◌∷◌, ◌++◌, length, take, drop, Some, codes}
use Rattle.std.specs.List.{AllByRecursion}
use Rattle.book.specs.declared.parts.Part.{Part}
use Rattle.book.specs.declared.parts.ItemParts.{ItemParts}
use Rattle.book.specs.declared.parts.Line.{Line}
use Rattle.book.specs.declared.parts.Line.TheVariants.{Party, Hold, Rule, Ask}
use Rattle.book.specs.Grammar.{Name, NameEnds, credential_bytes, ItemText, GoodItem, item_bytes, more_items, LineText, GoodLine, line_bytes}
use Rattle.book.specs.Reading.{item_in}
use Rattle.book.specs.Places.{name_part, item_parts}
use Rattle.book.specs.Lines.{line_parts}

abbrev pub ItemLaw : Type 0
ItemLaw = (bytes : List ℕ) (i : ItemText) (rest : List ℕ) → (item_in bytes ≡ Some (i, rest)) ↔ ((bytes ≡ item_bytes i ++ rest) × GoodItem i × NameEnds rest)

-- what stands in the text at a part
abbrev pub cut_out : List ℕ → Part → List ℕ
cut_out text p = take p.length (drop p.place text)

pub record ItemCut (text : List ℕ) (p : ItemParts) (i : ItemText) : Type 0 where
  pub whole : cut_out text p.whole ≡ item_bytes i
  pub source : cut_out text p.source ≡ i.source
  pub credential : cut_out text p.credential ≡ credential_bytes i.credential
  pub destination : cut_out text p.destination ≡ i.destination

-- the body that begins at a place
abbrev pub BodyCut : List ℕ → ℕ → ItemText → List ItemText → Type 0
BodyCut text place i is = (behind : List ℕ) × (drop place text ≡ item_bytes i ++ (more_items is ++ behind))

-- the parts of a line cut its name or its items out of the text
abbrev pub LineCut : List ℕ → Line → LineText → Type 0
LineCut text (Party p) (LineText.party n) = cut_out text p ≡ n
LineCut text (Party p) (LineText.hold i) = ⊥
LineCut text (Party p) (LineText.rule h c cs) = ⊥
LineCut text (Party p) (LineText.ask i) = ⊥
LineCut text (Hold p) (LineText.party n) = ⊥
LineCut text (Hold p) (LineText.hold i) = ItemCut text p i
LineCut text (Hold p) (LineText.rule h c cs) = ⊥
LineCut text (Hold p) (LineText.ask i) = ⊥
LineCut text (Rule p b k) (LineText.party n) = ⊥
LineCut text (Rule p b k) (LineText.hold i) = ⊥
LineCut text (Rule p b k) (LineText.rule h c cs) = ItemCut text p h × BodyCut text b c cs × (k ≡ 1 + length cs)
LineCut text (Rule p b k) (LineText.ask i) = ⊥
LineCut text (Ask p) (LineText.party n) = ⊥
LineCut text (Ask p) (LineText.hold i) = ⊥
LineCut text (Ask p) (LineText.rule h c cs) = ⊥
LineCut text (Ask p) (LineText.ask i) = ItemCut text p i

-- of a line that stands behind `before`
abbrev pub LinePlacesLaw : Type 0
LinePlacesLaw = (before : List ℕ) (l : LineText) (after : List ℕ) → LineCut (before ++ (line_bytes l ++ after)) (line_parts (length before) l) l

-- the parts of a line that stands behind `before`, with the keyword's bytes counted
pub record PlacesLaw : Type 0 where
  pub name : (before : List ℕ) (n : Name) (after : List ℕ) → cut_out (before ++ (n ++ after)) (name_part (length before) n) ≡ n
  pub item : (before : List ℕ) (i : ItemText) (after : List ℕ) → ItemCut (before ++ (item_bytes i ++ after)) (item_parts (length before) i) i
  pub body : (before : List ℕ) (h b : ItemText) (bs : List ItemText) (after : List ℕ) →
      drop (length before + length (item_bytes h) + 4) (before ++ (item_bytes h ++ (codes " if " ++ (item_bytes b ++ (more_items bs ++ after))))) ≡ item_bytes b ++ (more_items bs ++ after)

-- the bytes of a good line are bytes other than 10, and then 10
abbrev pub LineEndLaw : Type 0
LineEndLaw = (l : LineText) → GoodLine l → (front : List ℕ) × (line_bytes l ≡ front ++ 10 ∷ []) × AllByRecursion (λ b. b ≢ 10) front
