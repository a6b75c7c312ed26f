-- The test of the type's invariant decides what is promised of every house.
use Rattle.std.proofs.Common.{◌≡◌, ℕ, ◌<◌, Bool, true, eqb, ◌⊎◌, List, [], ◌∷◌, length, get_or, Some, None, Option, inl, inr, arith}
use Rattle.std.specs.List.{AllByRecursion}
use Rattle.std.proofs.lemmas.Bool.{ltb-true, eqb-true, and_parts, or_cases}
use Rattle.book.specs.declared.parts.Part.{Part}
use Rattle.house.specs.declared.entries.Item.{Item}
use Rattle.house.specs.View.{RuleView, View}
use Rattle.house.specs.Soundness.{every, within, item_sound, body_sound, rule_sound, asked_sound, sound, no_item}
use Rattle.house.specs.Law.{Within, GoodEntry, Concerns, GoodRule, Sound}

all_of : {X : Type 0} {P : X → Type 0} (p : X → Bool) → ((x : X) → p x ≡ true → P x) → (xs : List X) → every p xs ≡ true → AllByRecursion P xs
all_of p f [] h = tt
all_of p f (x ∷ xs) h = let s = and_parts (p x) (every p xs) h in (f x s.0, all_of p f xs s.1)

module _ (v : View) where
  part_within : (p : Part) → within v.size p ≡ true → Within v p
  part_within p h = grind arith

  good_entry : (i : Item) → item_sound v.parties (length v.items) v.size i ≡ true → GoodEntry v i
  good_entry i h =
      let a = and_parts _ _ h in
      let b = and_parts _ _ a.1 in
      let c = and_parts _ _ b.1 in
      let d = and_parts _ _ c.1 in
      record { source = ltb-true _ _ a.0; destination = ltb-true _ _ b.0; credential = ltb-true _ _ c.0; part = part_within i.part d.0; room = grind arith }

  concerns : (owner b : ℕ) → body_sound v.items owner b ≡ true → Concerns v owner b
  concerns owner b h =
      let s = and_parts _ _ h in
      record { registered = ltb-true _ _ s.0; party = ends (or_cases _ _ s.1) }
    where
      ends : (eqb (get_or v.items b no_item).source owner ≡ true) ⊎ (eqb (get_or v.items b no_item).destination owner ≡ true) →
          ((get_or v.items b no_item).source ≡ owner) ⊎ ((get_or v.items b no_item).destination ≡ owner)
      ends (inl e) = inl (eqb-true _ _ e)
      ends (inr e) = inr (eqb-true _ _ e)

  good_rule : (r : RuleView) → rule_sound v.items r ≡ true → GoodRule v r
  good_rule r h =
      let s = and_parts _ _ h in
      let owner = (get_or v.items r.head no_item).source in
      record { head = ltb-true _ _ s.0; body = all_of (body_sound v.items owner) (concerns owner) r.body s.1 }

  asked_within : (asked : Option ℕ) → asked_sound (length v.items) asked ≡ true → (d : ℕ) → asked ≡ Some d → d < length v.items
  asked_within None h d e = grind arith
  asked_within (Some a) h d e = grind arith

  pub sound_view : sound v.parties v.items v.rules v.asked v.size ≡ true → Sound v
  sound_view h =
      let a = and_parts _ _ h in
      let b = and_parts _ _ a.1 in
      let c = and_parts _ _ b.1 in
      record {
        parties = all_of (within v.size) part_within v.parties a.0;
        items = all_of (item_sound v.parties (length v.items) v.size) good_entry v.items b.0;
        rules = all_of (rule_sound v.items) good_rule v.rules c.0;
        asked = asked_within v.asked c.1;
      }
