use Rattle.std.proofs.Common.{sym, ◌∙◌, arith, rules}
use Rattle.std.proofs.lemmas.Iterator.{YieldsList-from_slice}
use Rattle.std.proofs.lemmas.Iterator.Search.{position_from_yields_List}
use Rattle.table.specs.Held.{held}
use Rattle.house.specs.Filling.{like_credential}
use Rattle.house.proofs.Firsts.{position_found}
use Rattle.house.proofs.Lookups.{number_found}
use Rattle.house.proofs.reading.Draft.credential_like.Goals as goal

pub returns-in_err-place : goal.returns-in_err-place
returns-in_err-place c =
    let entries = held c.args.self.now.tables.items in
    let test = like_credential c.args.self.now.text.now c.args.credential in
    c.from_residual.ensures ∙ sym c.in_err-place.was
    ∙ position_from_yields_List test _ _ c.position.result c.position.ensures.ran (YieldsList-from_slice entries (cc)) (λ x b q k. search rules)
    ∙ position_found test entries

pub returns : goal.returns
returns c =
    let table = c.args.self.now.tables.items in
    let test = like_credential c.args.self.now.text.now c.args.credential in
    number_found table (omega arith) test c.in_ok-place.place c.try_from.result c.ok.result
    (sym c.in_ok-place.was ∙ position_from_yields_List test _ _ c.position.result c.position.ensures.ran (YieldsList-from_slice (held table) (cc)) (λ x b q k. search rules))
    c.try_from.ensures c.ok.ensures.value
