-- What a house says: its tables without unused slots.
use Rattle.std.specs.Prelude.{ℕ, List, [], map, None, Option}
use Rattle.table.specs.Held.{held}
use Rattle.book.specs.declared.parts.Part.{Part}
use Rattle.house.specs.declared.entries.Item.{Item}
use Rattle.house.specs.declared.entries.Rule.{Rule}

-- a rule by the numbers of its items
pub record RuleView : Type 0 where
  pub head : ℕ
  pub body : List ℕ

abbrev pub rule_view : Rule → RuleView
rule_view r = record { head = r.head; body = held r.body }

-- the rules of a table
abbrev pub rule_views : List Rule → List RuleView
rule_views rs = map rule_view rs

-- the parties in the order of enrolment, by the places of their names; the items in the order of first writing; the rules in
-- the order of their lines; the asked item; the length of the text
pub record View : Type 0 where
  pub parties : List Part
  pub items : List Item
  pub rules : List RuleView
  pub asked : Option ℕ
  pub size : ℕ

abbrev pub empty_view : View
empty_view = record { parties = []; items = []; rules = []; asked = None; size = 0 }
