-- A line that enrols a party.
use Rattle.std.proofs.Common.{◌≡◌, ℕ, ◌+◌, Bool, true, false, cond, eqb, List, [], ◌∷◌, ◌++◌, map, length, is_some, Some, None, Ok, Err, Option, sym, refl, ap, ◌∙◌, arith, length-append}
use lib.ListN.{length-map}
use Rattle.std.proofs.lemmas.List.{map_push}
use Rattle.table.specs.Held.{held}
use Rattle.book.specs.declared.fault.Fault.TheVariants.{EnrolledBefore, TooMany}
use Rattle.book.specs.declared.parts.Part.{Part}
use Rattle.book.specs.Grammar.{Name, LineText}
use Rattle.book.specs.Places.{name_part}
use Rattle.house.specs.declared.tables.Tables.{Tables}
use Rattle.house.specs.View.{rule_views}
use Rattle.house.specs.Policies.{Enrolled, Policies, any, first_of, named, enrolled, enrolled_before, has_one_letter, with}
use Rattle.house.specs.Books.{party_part}
use Rattle.house.specs.Filling.{found_in, alike, LineAt, Filled, Adds}
use Rattle.house.proofs.Spots.{name_cut, line_name}
use Rattle.house.proofs.Registers.{entries_party}
use Rattle.house.proofs.Keeping.{kept_party}
use Rattle.house.proofs.Lookups.{found_party}
use Rattle.house.proofs.Judged.{at_twice, at_many, at_none, adds_fault, adds_line, many_parties, not_many, few_parties, few_items, few_rules}

found_any : {X : Type 0} (p : X → Bool) (xs : List X) → is_some (found_in p xs) ≡ any p xs
found_any p xs = go (any p xs)
  where
    go : (b : Bool) → is_some (cond b (Some (first_of p xs)) None) ≡ b
    go true = refl
    go false = refl

module _ (text : List ℕ) (t : Tables) (v : Policies) (place : ℕ) (n : Name) (name : Part) (f : Filled text t v) (a : LineAt text place (LineText.party n)) (e : name ≡ name_part (place + 6) n)
    (single : eqb name.length 1 ≡ false) (found : Option ℕ) (is : found ≡ found_in (λ q. alike text q name) (held t.parties)) where
  abbrev line : LineText
  line = LineText.party n

  abbrev enrolling : Enrolled
  enrolling = record { name = n; place = place + 6 }

  before : is_some found ≡ enrolled v n
  before =
      let at = line_name text place n a in
      ap is_some (is ∙ ap (λ p. found_in (λ q. alike text q p) (held t.parties)) e ∙ found_party text t v f (name_part (place + 6) n) n (name_cut text enrolling at)) ∙ found_any (named n) v.parties

  letters : has_one_letter line ≡ false
  letters = let k = sym (ap (λ p. eqb p.length 1) e) ∙ single in grind arith

  pub party_twice : (after : Tables) → is_some found ≡ true → Adds text v place line (Err EnrolledBefore) after
  party_twice after h = let k = sym before ∙ h in adds_fault v line text place after EnrolledBefore (at_twice v line letters (grind arith))

  module _ (h : is_some found ≡ false) where
    fresh : enrolled_before v line ≡ false
    fresh = let k = sym before ∙ h in grind arith

    pub party_many : (after : Tables) → length (held t.parties) ≡ 16 → Adds text v place line (Err TooMany) after
    party_many after k =
        let m = ap length f.parties ∙ length-map v.parties party_part in
        let u = length-append v.parties (record { name = n; place = 0 + 6 } ∷ []) in
        adds_fault v line text place after TooMany (at_many v line letters fresh refl refl (many_parties v line (omega arith)))

    pub party_added : (after : Tables) → after.items ≡ t.items → after.rules ≡ t.rules → after.asked ≡ t.asked → held after.parties ≡ held t.parties ++ name ∷ [] → Adds text v place line (Ok tt) after
    party_added after i r q p =
        let filled : Filled text after (with v place line) =
        record {
          parties = p ∙ ap (λ l. l ++ name ∷ []) f.parties ∙ ap (λ x. map party_part v.parties ++ x ∷ []) e ∙ sym (map_push party_part v.parties enrolling);
          items = ap held i ∙ f.items ∙ entries_party v enrolling f.kept.ends;
          rules = ap (λ x. rule_views (held x)) r ∙ f.rules;
          asked = q ∙ f.asked;
          kept = kept_party text v f.kept enrolling (line_name text place n a);
        } in
        let x = few_parties text after (with v place line) filled in
        let y = few_items text t v f in
        let z = few_rules text t v f in
        let u = length-append v.parties (record { name = n; place = 0 + 6 } ∷ []) in
        let w = length-append v.parties (enrolling ∷ []) in
        adds_line v line text place after (at_none v line letters fresh refl refl (not_many v line (omega arith) (omega arith) (omega arith) (omega arith)) refl) filled
