-- Parts of a text and the item at a place.
use Rattle.std.proofs.Common.{◌≡◌, ℕ, min, true, eqb, List, [], ◌∷◌, length, drop, Some, None, Decides, Option, sym, refl, ap, ◌∙◌, inl, inr, arith, drop_of_length-le}
use Rattle.std.proofs.lemmas.Bool.{cases_lt, and_parts}
use Rattle.book.specs.declared.parts.ItemParts.{ItemParts}
use Rattle.book.specs.declared.reader.Reader.{Reader}
use Rattle.book.specs.Grammar.{ItemText}
use Rattle.book.specs.Reading.{Parsed, name_in, item_in}
use Rattle.book.specs.Places.{left, Reads, item_parts, item_size}
use Rattle.std.proofs.lemmas.List.{drop_min}
use Rattle.house.specs.Filling.{item_at}
use Rattle.house.specs.Policies.{same}

pub same_refl : (xs : List ℕ) → same xs xs ≡ true
same_refl [] = refl
same_refl (x ∷ xs) = let r = same_refl xs in grind arith

pub same_is : (xs ys : List ℕ) → same xs ys ≡ true → xs ≡ ys
same_is [] [] h = refl
same_is [] (y ∷ ys) h = cc
same_is (x ∷ xs) [] h = cc
same_is (x ∷ xs) (y ∷ ys) h =
    let s = and_parts (eqb x y) (same xs ys) h in
    let a : x ≡ y = grind arith in
    let b = same_is xs ys s.1 in
    cc

pub same-Decides : (xs ys : List ℕ) → Decides (same xs ys) (xs ≡ ys)
same-Decides xs ys = (same_is xs ys, λ e. ap (same xs) (sym e) ∙ same_refl xs)

-- nothing stands behind the end
no_item : item_in [] ≡ None
unfolding item_in name_in
no_item = refl

-- the answer of a reader that was put at a place
pub item_there : (text : List ℕ) (place : ℕ) (r : Reader) (answer : Option ItemParts) (after : Reader) → r.text.now ≡ text → r.place ≡ min place (length text) →
    Reads (item_in (left r)) r item_parts item_size answer after → answer ≡ item_at text place
item_there text place r answer after t p a = go (item_in (left r)) refl a
  where
    same_left : left r ≡ drop place text
    same_left = ap (λ x. drop r.place x) t ∙ ap (λ k. drop k text) p ∙ drop_min place text

    shown : (o : Parsed ItemText) → item_in (drop place text) ≡ o → item_at text place ≡ (elim o [ None ↦ None | Some q ↦ Some (item_parts place q.0) ])
    shown o e = ap (λ x. (elim x [ None ↦ None | Some q ↦ Some (item_parts place q.0) ])) e

    go : (o : Parsed ItemText) → item_in (left r) ≡ o → Reads o r item_parts item_size answer after → answer ≡ item_at text place
    go None e a = a.0 ∙ sym (shown None (sym (ap item_in same_left) ∙ e))
    go (Some q) e a =
        a.0
        ∙ elim (cases_lt place (length text)) [
          | inl l ↦ let z : r.place ≡ place = omega arith in ap (λ k. Some (item_parts k q.0)) z
          | inr l ↦ cc (sym e ∙ ap item_in (same_left ∙ drop_of_length-le text l) ∙ no_item)
        ]
        ∙ sym (shown (Some q) (sym (ap item_in same_left) ∙ e))
