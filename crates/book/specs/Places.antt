-- What the reader answers, by places in the text.
use Rattle.std.specs.Prelude.{◌≡◌, ℕ, ◌+◌, Bool, false, ◌||◌, List, [], ◌∷◌, length, drop, Some, None, Option, ◌==◌}
use Rattle.book.specs.declared.parts.Part.{Part}
use Rattle.book.specs.declared.parts.ItemParts.{ItemParts}
use Rattle.book.specs.declared.reader.Reader.{Reader}
use Rattle.book.specs.Grammar.{Name, letter, Credential, credential_bytes, ItemText, item_bytes}
use Rattle.book.specs.Reading.{Parsed}

-- the bytes from the reader's place on
abbrev pub left : Reader → List ℕ
left r = drop r.place r.text.now

-- a reader that parsed what stands at its place answers that by its places in the text, and moved behind it;
-- where nothing could be parsed, it answers none
abbrev pub Reads : {A B : Type 0} → Parsed A → Reader → (ℕ → A → B) → (A → ℕ) → Option B → Reader → Type 0
Reads None before show size answer after = (answer ≡ None) × (after.text ≡ before.text)
Reads (Some p) before show size answer after =
    (answer ≡ Some (show before.place p.0)) × (after.text ≡ before.text) × (after.place ≡ before.place + size p.0) × (left after ≡ p.1)

abbrev pub letter_first : List ℕ → Bool
letter_first [] = false
letter_first (b ∷ bs) = letter b

-- how long a parsed name is
abbrev pub name_size : Parsed Name → Option ℕ
name_size None = None
name_size (Some p) = Some (length p.0)

-- where a name is written
abbrev pub name_part : ℕ → Name → Part
name_part place n = record { place = place; length = length n }

-- a name of one letter has the form of a name, and is a fault of its own
abbrev pub one_letter : Name → Bool
one_letter n = length n == 1

abbrev pub any_one_letter : List Name → Bool
any_one_letter [] = false
any_one_letter (n ∷ ns) = let r = any_one_letter ns in one_letter n || r

abbrev pub credential_one_letter : Credential → Bool
credential_one_letter c = one_letter c.issuer || (one_letter c.name || (one_letter c.term || any_one_letter c.terms))

abbrev pub item_one_letter : ItemText → Bool
item_one_letter i = one_letter i.source || (credential_one_letter i.credential || one_letter i.destination)

abbrev pub credential_size : Credential → ℕ
credential_size c = length (credential_bytes c)

abbrev pub credential_part : ℕ → Credential → Part × Bool
credential_part place c = (record { place = place; length = credential_size c }, credential_one_letter c)

abbrev pub item_size : ItemText → ℕ
item_size i = length (item_bytes i)

-- where an item is written, and its parts
abbrev pub item_parts : ℕ → ItemText → ItemParts
item_parts place i =
    record {
      whole = record { place = place; length = item_size i };
      source = record { place = place; length = length i.source };
      credential = record { place = place + length i.source + 1; length = credential_size i.credential };
      destination = record { place = place + length i.source + 1 + credential_size i.credential + 1; length = length i.destination };
      single = item_one_letter i;
    }
