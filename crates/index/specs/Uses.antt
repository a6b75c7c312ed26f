-- What the chains of a house go through.
use Rattle.std.specs.Prelude.{◌≡◌, ℕ, suc, List, [], ◌∷◌, ◌++◌, map, length, replicate}
use Rattle.std.specs.List.{flat_map}
use Rattle.links.specs.Keys.{keys, values}
use Rattle.house.specs.View.{RuleView, View}
use Rattle.index.specs.declared.tables.Index.{Index}

-- for each body item the number of its rule, rules being numbered from a number on
abbrev pub rules_from : ℕ → List RuleView → List ℕ
rules_from n [] = []
rules_from n (r ∷ rs) = replicate (length r.body) n ++ rules_from (suc n) rs

pub record Indexes (v : View) (x : Index) : Type 0 where
  pub uses : keys x.uses ≡ flat_map (λ r. r.body) v.rules
  pub rules : values x.uses ≡ rules_from 0 v.rules
  pub heads : keys x.heads ≡ map (λ r. r.head) v.rules
  pub credentials : keys x.credentials ≡ map (λ i. i.credential) v.items
