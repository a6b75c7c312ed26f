use Rattle.std.proofs.Common.{length, map, ap, ◌∙◌, arith}
use Rattle.std.specs.List.{flat_map}
use Rattle.house.proofs.Views.{length_views}
use Rattle.index.specs.Uses.{rules_from}
use Rattle.index.proofs.Adding.{heads_of}
use Rattle.index.proofs.tables.Index.of.Goals as goal

pub chain_bodies-requires : goal.chain_bodies-requires
chain_bodies-requires c =
    let n = length_views c.rules.result.now in
    let e = ap length c.rules.ensures in
    let m = c.soundness_law.ensures.limits.few_rules in
    record { no_items = c.none.ensures.keys; no_rules = c.none.ensures.values; few = omega arith }

pub chain-requires : goal.chain-requires
chain-requires c =
    let n = length_views c.rules-2.result.now in
    let e = ap length c.rules-2.ensures in
    let m = c.soundness_law.ensures.limits.few_rules in
    (omega arith, (c.none-2.ensures.keys, (omega arith, omega arith)))

pub returns : goal.returns
returns c =
    record {
      uses = c.chain_bodies.ensures.items ∙ ap (flat_map (λ v. v.body)) c.rules.ensures;
      rules = c.chain_bodies.ensures.rules ∙ ap (rules_from 0) c.rules.ensures;
      heads = c.chain.ensures ∙ heads_of c.rules-2.result.now ∙ ap (map (λ r. r.head)) c.rules-2.ensures;
      credentials = c.chain-2.ensures ∙ ap (map (λ i. i.credential)) c.items.ensures;
    }
