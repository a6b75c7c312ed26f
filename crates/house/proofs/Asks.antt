-- A line that asks for an item.
use Rattle.std.proofs.Common.{◌≡◌, ℕ, ◌+◌, Bool, true, false, ◌&&◌, List, [], is_some, Some, Ok, Err, Result, sym, refl, ap, ◌∙◌, subst, arith}
use Rattle.std.proofs.lemmas.Bool.{and_parts}
use Rattle.table.specs.Held.{held}
use Rattle.book.specs.declared.fault.Fault.{Fault}
use Rattle.book.specs.declared.fault.Fault.TheVariants.{NotEnrolled, TooMany, SecondAsk}
use Rattle.book.specs.declared.parts.ItemParts.{ItemParts}
use Rattle.book.specs.Grammar.{ItemText, LineText}
use Rattle.book.specs.Places.{item_parts}
use Rattle.house.specs.declared.tables.Tables.{Tables}
use Rattle.house.specs.View.{rule_views}
use Rattle.house.specs.Policies.{Written, Policies, enrolled, same_item, number, register, has_one_letter, not_enrolled, too_many}
use Rattle.house.specs.Filling.{ends_enrolled, ItemAt, LineAt, Filled, with_items, Registers, Registered, Adds}
use Rattle.house.proofs.Firsts.{first_less}
use Rattle.house.proofs.Spots.{line_ask}
use Rattle.house.proofs.Registers.{registered}
use Rattle.house.proofs.Keeping.{kept_asked}
use Rattle.house.proofs.Lookups.{enrolled_ends}
use Rattle.house.proofs.Judged.{at_unknown, at_many, at_second, at_none, adds_fault, adds_line, many_items, not_many, few_parties, few_items, few_rules}
use Rattle.house.proofs.Counts.{same_count}

module _ (text : List ℕ) (t : Tables) (v : Policies) (place : ℕ) (i : ItemText) (item : ItemParts) (f : Filled text t v) (a : LineAt text place (LineText.ask i)) (e : item ≡ item_parts (place + 4) i)
    (single : item.single ≡ false) (ends : Bool) (is : ends ≡ ends_enrolled text (held t.parties) item) where
  abbrev line : LineText
  line = LineText.ask i

  abbrev asked : Written
  asked = record { item = i; place = place + 4 }

  there : ItemAt text asked
  there = line_ask text place i a

  ends_are : ends ≡ (enrolled v i.source && enrolled v i.destination)
  ends_are = is ∙ ap (ends_enrolled text (held t.parties)) e ∙ enrolled_ends text t v f asked there

  letters : has_one_letter line ≡ false
  letters = let k = sym (ap (λ p. p.single) e) ∙ single in grind arith

  pub ask_unknown : (after : Tables) → ends ≡ false → Adds text v place line (Err NotEnrolled) after
  ask_unknown after h = let k = sym ends_are ∙ h in adds_fault v line text place after NotEnrolled (at_unknown v line letters refl (grind arith))

  module _ (h : ends ≡ true) where
    known : not_enrolled v line ≡ false
    known = let k = sym ends_are ∙ h in grind arith

    registering : (answer : Result ℕ Fault) (t1 : Tables) → Registers text t item answer t1 → Registered text v asked answer t1
    registering answer t1 r = let k = and_parts _ _ (sym ends_are ∙ h) in r v asked f e there k.0 k.1

    pub ask_many : (after t1 : Tables) (g : Fault) → Registers text t item (Err g) t1 → Adds text v place line (Err g) after
    ask_many after t1 g r =
        let k = registering (Err g) t1 r in
        let n = same_count v.items i [] (0 + 4) 0 (place + 4) 0 in
        let m = k.1 in
        subst (λ x. Adds text v place line (Err x) after) (sym k.0) (adds_fault v line text place after TooMany (at_many v line letters refl known refl (many_items v line (omega arith))))

    module _ (n : ℕ) (t1 : Tables) (r : Registers text t item (Ok n) t1) where
      filled : Filled text t1 (with_items v (register v.items asked))
      filled = (registering (Ok n) t1 r).1

      few : too_many v line ≡ false
      few =
          let x = few_parties text t v f in
          let y = few_items text t1 _ filled in
          let z = few_rules text t v f in
          let k = same_count v.items i [] (0 + 4) 0 (place + 4) 0 in
          not_many v line (omega arith) (omega arith) (omega arith) (omega arith)

      pub ask_second : (after : Tables) → is_some t1.asked ≡ true → Adds text v place line (Err SecondAsk) after
      ask_second after q = let k = sym (ap is_some filled.asked) ∙ q in adds_fault v line text place after SecondAsk (at_second v line letters refl known refl few (grind arith))

      pub ask_added : (after : Tables) → is_some t1.asked ≡ false → after.parties ≡ t1.parties → after.items ≡ t1.items → after.rules ≡ t1.rules → after.asked ≡ Some n → Adds text v place line (Ok tt) after
      ask_added after q p i2 r2 s =
          let k = sym (ap is_some filled.asked) ∙ q in
          let items = register v.items asked in
          let num = (registering (Ok n) t1 r).0 in
          let less = first_less (same_item i) items (registered v.items asked) in
          adds_line v line text place after (at_none v line letters refl known refl few (grind arith))
          (record {
            parties = ap held p ∙ filled.parties;
            items = ap held i2 ∙ filled.items;
            rules = ap (λ x. rule_views (held x)) r2 ∙ filled.rules;
            asked = s ∙ ap Some num;
            kept = kept_asked text (with_items v items) filled.kept (number items i) less;
          })
