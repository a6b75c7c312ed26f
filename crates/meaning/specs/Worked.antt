-- Small registers with rules, and what these mean.
use Rattle.std.specs.Prelude.{◌≡◌, ℕ, true, false, List, [], ◌∷◌, None}
use Rattle.house.specs.declared.entries.Item.{Item}
use Rattle.house.specs.View.{RuleView, View}
use Rattle.meaning.specs.Meaning.{unlocked, relevant, derivable, reached}

-- an item by its source, destination and credential
abbrev pub from : ℕ → ℕ → ℕ → Item
from s d c = record { source = s; destination = d; credential = c; part = record { place = 0; length = 0 } }

abbrev pub rule : ℕ → List ℕ → RuleView
rule h b = record { head = h; body = b }

abbrev pub book : List Item → List RuleView → View
book items rules = record { parties = []; items = items; rules = rules; asked = None; size = 0 }

-- the port's berth to the shipper, the shipper's consent to the seal, the seal's opening to the port
abbrev pub chain : View
chain = book (from 2 1 0 ∷ from 1 0 1 ∷ from 0 2 2 ∷ []) (rule 0 [] ∷ rule 1 (0 ∷ []) ∷ rule 2 (1 ∷ []) ∷ [])

-- two parties that each wait for the other
abbrev pub deadlock : View
deadlock = book (from 0 1 0 ∷ from 1 0 1 ∷ []) (rule 0 (1 ∷ []) ∷ rule 1 (0 ∷ []) ∷ [])

-- party 0 tells party 1 what party 1 then knows
abbrev pub told : View
told = book (from 0 1 0 ∷ from 1 1 0 ∷ []) (rule 0 [] ∷ [])

-- the first item needs one of party 0 itself, and that one needs an item of party 1
abbrev pub deep : View
deep = book (from 0 1 0 ∷ from 0 0 1 ∷ from 1 0 2 ∷ []) (rule 0 (1 ∷ []) ∷ rule 1 (2 ∷ []) ∷ [])

pub record Worked : Type 0 where
  pub chain_derived : derivable chain 2 ≡ true
  pub chain_needs : unlocked chain 0 [] 2 ≡ false
  pub chain_unlocks : unlocked chain 0 (1 ∷ []) 2 ≡ true
  pub chain_reached : reached chain 2 0 ≡ true
  pub deadlocked : derivable deadlock 0 ≡ false
  pub known : unlocked told 1 (0 ∷ []) 1 ≡ true
  pub not_known : unlocked told 1 [] 1 ≡ false
  pub known_derived : derivable told 1 ≡ true
  pub told_relevant : relevant told 1 0 ≡ true
  pub chain_not_reached : reached chain 0 2 ≡ false
  pub deep_relevant : relevant deep 0 2 ≡ true
  pub deep_own : relevant deep 0 1 ≡ false
  -- a rule of another party unlocks nothing
  pub others_rule : unlocked chain 1 [] 0 ≡ false
