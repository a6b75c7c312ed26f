-- A line is added by its form.
use Rattle.std.proofs.Common.{◌≡◌, ℕ, ◌+◌, List, [], ◌∷◌, length, Result, sym, refl, ap, subst, arith}
use Rattle.std.specs.List.{AllByRecursion}
use Rattle.book.specs.declared.fault.Fault.{Fault}
use Rattle.book.specs.declared.parts.ItemParts.{ItemParts}
use Rattle.book.specs.declared.parts.Line.TheVariants.{Hold, Rule}
use Rattle.book.specs.Grammar.{LineText}
use Rattle.book.specs.Places.{item_size}
use Rattle.book.specs.Lines.{line_parts}
use Rattle.house.specs.declared.tables.Tables.{Tables}
use Rattle.house.specs.declared.reading.body.Body.{Body}
use Rattle.house.specs.Policies.{Policies, written_from}
use Rattle.house.specs.Filling.{ItemAt, LineAt, Filled, Adds, AddsRule}
use Rattle.house.proofs.Spots.{line_body}

module _ (text : List ℕ) (t : Tables) (v : Policies) (place : ℕ) (f : Filled text t v) (answer : Result (Unit {0}) Fault) (after : Tables) where
  pub by_hold : (head : ItemParts) (body : Body) → body.text.now ≡ text → body.count ≡ 0 → AddsRule text t head body answer after → (l : LineText) → LineAt text place l → Hold head ≡ line_parts place l → Adds text v place l answer after
  by_hold head body x n r (LineText.party p) a e = cc e
  by_hold head body x n r (LineText.hold i) a e = r v place i [] f a (cc e) (record { text_is = x; stand = tt; counted = n }) refl
  by_hold head body x n r (LineText.rule h b bs) a e = cc e
  by_hold head body x n r (LineText.ask i) a e = cc e

  pub by_rule : (head : ItemParts) (body : Body) → body.text.now ≡ text → AddsRule text t head body answer after → (l : LineText) → LineAt text place l → Rule head body.place body.count ≡ line_parts place l → Adds text v place l answer after
  by_rule head body x r (LineText.party n) a e = cc e
  by_rule head body x r (LineText.hold i) a e = cc e
  by_rule head body x r (LineText.rule h b bs) a e =
      let p : body.place ≡ place + 5 + item_size h + 4 = cc e in
      let c : body.count ≡ 1 + length bs = cc e in
      r v place h (b ∷ bs) f a (cc e)
      (record { text_is = x; stand = subst (λ k. AllByRecursion (ItemAt text) (written_from k (b ∷ bs))) (sym p) (line_body text place h (b ∷ bs) a); counted = let z = c in omega arith })
      (ap (λ k. written_from k (b ∷ bs)) p)
  by_rule head body x r (LineText.ask i) a e = cc e
