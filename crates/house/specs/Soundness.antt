-- The test that the type of a house carries; the law of every house says in relations what follows from it.
use Rattle.std.specs.Prelude.{ℕ, ◌+◌, Bool, true, ◌&&◌, ◌||◌, List, [], ◌∷◌, length, Some, None, Option, ◌==◌, nat_le, nat_lt, slice_index_or}
use Rattle.book.specs.declared.parts.Part.{Part}
use Rattle.house.specs.declared.entries.Item.{Item}
use Rattle.house.specs.View.{RuleView}

-- all of a list pass
abbrev pub every : {X : Type 0} → (X → Bool) → List X → Bool
every p [] = true
every p (x ∷ xs) = let r = every p xs in p x && r

-- what stands for a part or an item past the end of a list
abbrev pub nowhere : Part
nowhere = record { place = 0; length = 0 }

abbrev pub no_item : Item
no_item = record { source = 0; destination = 0; credential = 0; part = nowhere }

-- a part of the text
abbrev pub within : ℕ → Part → Bool
within size p = nat_le (p.place + p.length) size

-- source and destination are enrolled, the credential is that of a registered item, and the writing has room for
-- the two names and two signs
abbrev pub item_sound : List Part → ℕ → ℕ → Item → Bool
item_sound parties count size i =
    nat_lt i.source (length parties) && (nat_lt i.destination (length parties) && (nat_lt i.credential count && (within size i.part &&
    nat_le ((slice_index_or parties i.source nowhere).length + (slice_index_or parties i.destination nowhere).length + 2) i.part.length)))

-- a registered item of which the owner is the source or the destination
abbrev pub body_sound : List Item → ℕ → ℕ → Bool
body_sound items owner b =
    nat_lt b (length items) && ((slice_index_or items b no_item).source == owner || (slice_index_or items b no_item).destination == owner)

abbrev pub rule_sound : List Item → RuleView → Bool
rule_sound items r = nat_lt r.head (length items) && every (body_sound items (slice_index_or items r.head no_item).source) r.body

abbrev pub asked_sound : ℕ → Option ℕ → Bool
asked_sound count None = true
asked_sound count (Some d) = nat_lt d count

-- the whole test
abbrev pub sound : List Part → List Item → List RuleView → Option ℕ → ℕ → Bool
sound parties items rules asked size =
    every (within size) parties && (every (item_sound parties (length items) size) items && (every (rule_sound items) rules && asked_sound (length items) asked))
