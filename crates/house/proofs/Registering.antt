-- An item is put into the register, or has its number there already.
use Rattle.std.proofs.Common.{◌≡◌, ℕ, ◌<◌, ◌≤◌, Bool, true, false, cond, List, [], ◌∷◌, ◌++◌, map, length, Some, None, Ok, unwrap_or, sym, refl, ap, ◌∙◌, subst, arith, length-append}
use lib.ListN.{length-map}
use Rattle.table.specs.Held.{held}
use Rattle.book.specs.declared.fault.Fault.{Fault}
use Rattle.book.specs.declared.fault.Fault.TheVariants.{TooMany}
use Rattle.book.specs.declared.parts.ItemParts.{ItemParts}
use Rattle.book.specs.Places.{item_parts}
use Rattle.house.specs.declared.tables.Tables.{Tables}
use Rattle.house.specs.View.{rule_views}
use Rattle.house.specs.Policies.{Written, Policies, any, first_of, named, same_item, number, register, enrolled}
use Rattle.house.specs.Books.{entry}
use Rattle.house.specs.Filling.{found_in, alike, like_item, like_credential, ItemAt, Filled, with_items, Registered}
use Rattle.house.proofs.Firsts.{first-append, first_new, found_some, found_nothing}
use Rattle.house.proofs.Registers.{credential_of, self_credential, entries_item, number_new}
use Rattle.house.proofs.Keeping.{kept_item}
use Rattle.house.proofs.Lookups.{found_source, found_destination, found_item, found_credential}

-- the first with the credential, where the item itself comes last
first-credential : (items : List Written) (w : Written) → unwrap_or (found_in (credential_of w.item) items) (length items) ≡ first_of (credential_of w.item) (items ++ w ∷ [])
first-credential items w = go (any (credential_of w.item) items) refl
  where
    go : (b : Bool) → any (credential_of w.item) items ≡ b → unwrap_or (cond b (Some (first_of (credential_of w.item) items)) None) (length items) ≡ first_of (credential_of w.item) (items ++ w ∷ [])
    go true h = sym (first-append (credential_of w.item) items (w ∷ []) h)
    go false h = sym (first_new (credential_of w.item) items w h (self_credential w))

module _ (text : List ℕ) (t : Tables) (v : Policies) (w : Written) (item : ItemParts) (f : Filled text t v) (e : item ≡ item_parts w.place w.item) (a : ItemAt text w)
    (s : enrolled v w.item.source ≡ true) (d : enrolled v w.item.destination ≡ true) where
  at_item : found_in (like_item text item) (held t.items) ≡ found_in (same_item w.item) v.items
  at_item = ap (λ i. found_in (like_item text i) (held t.items)) e ∙ found_item text t v f w a

  at_source : found_in (λ q. alike text q item.source) (held t.parties) ≡ found_in (named w.item.source) v.parties
  at_source = rw e (found_source text t v f w a)

  at_destination : found_in (λ q. alike text q item.destination) (held t.parties) ≡ found_in (named w.item.destination) v.parties
  at_destination = rw e (found_destination text t v f w a)

  pub known : (n : ℕ) → Some n ≡ found_in (like_item text item) (held t.items) → Registered text v w (Ok n) t
  known n h =
      let k = found_some (same_item w.item) v.items n (h ∙ at_item) in
      let r : v.items ≡ register v.items w = ap (λ b. cond b v.items (v.items ++ w ∷ [])) (sym k.0) in
      (k.1 ∙ ap (λ l. number l w.item) r, subst (λ l. Filled text t (with_items v l)) r f)

  pub no_source : {P : Type 0} → None ≡ found_in (λ q. alike text q item.source) (held t.parties) → P
  no_source h = cc (sym (found_nothing (named w.item.source) v.parties (h ∙ at_source)) ∙ s)

  pub no_destination : {P : Type 0} → None ≡ found_in (λ q. alike text q item.destination) (held t.parties) → P
  no_destination h = cc (sym (found_nothing (named w.item.destination) v.parties (h ∙ at_destination)) ∙ d)

  module _ (n : None ≡ found_in (like_item text item) (held t.items)) where
    unknown : any (same_item w.item) v.items ≡ false
    unknown = found_nothing (same_item w.item) v.items (n ∙ at_item)

    grown : register v.items w ≡ v.items ++ w ∷ []
    grown = ap (λ b. cond b v.items (v.items ++ w ∷ [])) unknown

    counted : length (held t.items) ≡ length v.items
    counted = ap length f.items ∙ length-map v.items (entry v)

    pub no_room : (g : Fault) → g ≡ TooMany → 256 ≤ length (held t.items) → (g ≡ TooMany) × (256 < length (register v.items w))
    no_room g h l = (h, (let x = ap length grown ∙ length-append v.items (w ∷ []) in let y = counted in omega arith))

    pub added : (after : Tables) (source destination credential num : ℕ) → Some source ≡ found_in (λ q. alike text q item.source) (held t.parties) →
        Some destination ≡ found_in (λ q. alike text q item.destination) (held t.parties) → num ≡ length (held t.items) →
        credential ≡ unwrap_or (found_in (like_credential text item.credential) (held t.items)) num → after.parties ≡ t.parties → after.rules ≡ t.rules → after.asked ≡ t.asked →
        held after.items ≡ held t.items ++ record { source = source; destination = destination; credential = credential; part = item.whole } ∷ [] → Registered text v w (Ok num) after
    added after source destination credential num hs hd hn hc p r q i =
        let v' = with_items v (v.items ++ w ∷ []) in
        let es = (found_some (named w.item.source) v.parties source (hs ∙ at_source)).1 in
        let ed = (found_some (named w.item.destination) v.parties destination (hd ∙ at_destination)).1 in
        let en = hn ∙ counted in
        let ec : credential ≡ first_of (credential_of w.item) (v.items ++ w ∷ []) =
        hc ∙ ap (λ x. unwrap_or (found_in (like_credential text x.credential) (held t.items)) num) e ∙ ap (λ o. unwrap_or o num) (found_credential text t v f w a)
        ∙ ap (unwrap_or (found_in (credential_of w.item) v.items)) en ∙ first-credential v.items w in
        let whole = ap (λ x. x.whole) e in
        let ee : record { source = source; destination = destination; credential = credential; part = item.whole } ≡ entry v' w = cc in (
          en ∙ sym (number_new v.items w unknown) ∙ ap (λ l. number l w.item) (sym grown),
          subst (λ l. Filled text after (with_items v l)) (sym grown)
              (record {
                parties = ap held p ∙ f.parties;
                items = i ∙ ap (λ l. l ++ record { source = source; destination = destination; credential = credential; part = item.whole } ∷ []) f.items ∙ ap (λ x. map (entry v) v.items ++ x ∷ []) ee ∙ sym (entries_item v w);
                rules = ap (λ x. rule_views (held x)) r ∙ f.rules;
                asked = q ∙ f.asked;
                kept = kept_item text v f.kept w a (s, d);
              }),
        )
