-- What is true of every house: numbers in range, parts within the text, owners concerned by the items of their bodies.
use Rattle.std.specs.Prelude.{◌≡◌, ℕ, ◌+◌, ◌<◌, ◌≤◌, ◌⊎◌, length, Some, slice_index_or}
use Rattle.std.specs.List.{AllByRecursion}
use Rattle.book.specs.declared.parts.Part.{Part}
use Rattle.house.specs.declared.entries.Item.{Item}
use Rattle.house.specs.View.{RuleView, View}
use Rattle.house.specs.Soundness.{nowhere, no_item}

abbrev pub Within : View → Part → Type 0
Within v p = p.place + p.length ≤ v.size

-- the length of a party's name
abbrev pub name_length : View → ℕ → ℕ
name_length v party = (slice_index_or v.parties party nowhere).length

-- an entry whose numbers are those of enrolled parties and registered items, and whose writing lies in the text
pub record GoodEntry (v : View) (i : Item) : Type 0 where
  pub source : i.source < length v.parties
  pub destination : i.destination < length v.parties
  pub credential : i.credential < length v.items
  pub part : Within v i.part
  -- the two names, `^` and `>` have room in it
  pub room : name_length v i.source + name_length v i.destination + 2 ≤ i.part.length

-- a registered item of which the owner is the source or the destination
pub record Concerns (v : View) (owner b : ℕ) : Type 0 where
  pub registered : b < length v.items
  pub party : ((slice_index_or v.items b no_item).source ≡ owner) ⊎ ((slice_index_or v.items b no_item).destination ≡ owner)

-- a rule of registered items, none strange to its owner
pub record GoodRule (v : View) (r : RuleView) : Type 0 where
  pub head : r.head < length v.items
  pub body : AllByRecursion (Concerns v (slice_index_or v.items r.head no_item).source) r.body

-- what is true of every house
pub record Sound (v : View) : Type 0 where
  pub parties : AllByRecursion (Within v) v.parties
  pub items : AllByRecursion (GoodEntry v) v.items
  pub rules : AllByRecursion (GoodRule v) v.rules
  pub asked : (d : ℕ) → v.asked ≡ Some d → d < length v.items

-- and its limits
pub record Limits (v : View) : Type 0 where
  pub few_parties : length v.parties ≤ 16
  pub few_items : length v.items ≤ 256
  pub few_rules : length v.rules ≤ 512
  pub short_text : v.size ≤ 32768
  pub short_bodies : AllByRecursion (λ r. length r.body ≤ 8) v.rules
