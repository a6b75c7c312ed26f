-- What is true of the parties, the register and the bodies of rules of a book that is read.
use Rattle.std.specs.Prelude.{◌≡◌, ℕ, ◌<◌, ◌≢◌, ◌↔◌, List, length, Ok, slice_index_or}
use Rattle.std.specs.List.{AllByRecursion}
use Rattle.book.specs.Grammar.{credential_bytes, ItemText}
use Rattle.house.specs.declared.entries.Item.{Item}
use Rattle.house.specs.Policies.{Enrolled, Written, Policies}
use Rattle.house.specs.Books.{book_read, entry}

-- one ground disclosure, written twice
pub record SameItem (i j : ItemText) : Type 0 where
  pub source : i.source ≡ j.source
  pub credential : credential_bytes i.credential ≡ credential_bytes j.credential
  pub destination : i.destination ≡ j.destination

-- no number stands twice in the list
abbrev pub Once : List ℕ → Type 0
Once xs = (i j d : ℕ) → i < j → j < length xs → slice_index_or xs i d ≢ slice_index_or xs j d

-- the same source, destination and credential, by their numbers
pub record SameEntry (i j : Item) : Type 0 where
  pub source : i.source ≡ j.source
  pub destination : i.destination ≡ j.destination
  pub credential : i.credential ≡ j.credential

pub record Orderly (v : Policies) : Type 0 where
  -- no party is enrolled twice, no item registered twice, and no item stands twice in a body
  pub parties : (i j : ℕ) (d : Enrolled) → i < j → j < length v.parties → (slice_index_or v.parties i d).name ≢ (slice_index_or v.parties j d).name
  pub items : (i j : ℕ) (d : Written) → i < j → j < length v.items → ¬ SameItem (slice_index_or v.items i d).item (slice_index_or v.items j d).item
  pub bodies : AllByRecursion (λ r. Once r.body) v.rules
  -- the entry of an item has the numbers of its source and its destination
  pub sources : (d : Enrolled) → AllByRecursion (λ w. (slice_index_or v.parties (entry v w).source d).name ≡ w.item.source) v.items
  pub destinations : (d : Enrolled) → AllByRecursion (λ w. (slice_index_or v.parties (entry v w).destination d).name ≡ w.item.destination) v.items
  -- two entries have one credential number exactly if their credentials are the same, byte by byte
  pub credentials : (j k : ℕ) (d : Written) → j < length v.items → k < length v.items →
      ((entry v (slice_index_or v.items j d)).credential ≡ (entry v (slice_index_or v.items k d)).credential)
      ↔ (credential_bytes (slice_index_or v.items j d).item.credential ≡ credential_bytes (slice_index_or v.items k d).item.credential)
  -- so the three numbers of an entry tell its item from every other
  pub apart : (j k : ℕ) (d : Written) → j < k → k < length v.items → ¬ SameEntry (entry v (slice_index_or v.items j d)) (entry v (slice_index_or v.items k d))

abbrev pub RegisterLaw : Type 0
RegisterLaw = (text : List ℕ) (v : Policies) → book_read text ≡ Ok v → Orderly v
