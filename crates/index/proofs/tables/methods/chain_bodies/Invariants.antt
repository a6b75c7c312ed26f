use Rattle.std.proofs.Common.{◌≡◌, ◌++◌, take, replicate}
use Rattle.std.specs.List.{flat_map}
use Rattle.links.specs.Keys.{keys, values}
use Rattle.house.specs.View.{rule_views}
use Rattle.index.specs.Uses.{rules_from}
use Rattle.index.proofs.tables.methods.chain_bodies.Given as goal

abbrev pub invariant-loop-number : goal.invariant-loop-number
invariant-loop-number l = record {
  items : keys l.uses ≡ flat_map (λ v. v.body) (rule_views (take l.number l.rules));
  numbers : values l.uses ≡ rules_from 0 (rule_views (take l.number l.rules));
}

abbrev pub invariant-loop-item : goal.invariant-loop-item
invariant-loop-item l = record {
  items : keys l.uses ≡ keys l.initial.uses ++ take l.item-index l.item-items;
  numbers : values l.uses ≡ values l.initial.uses ++ replicate l.item-index l.number;
}
