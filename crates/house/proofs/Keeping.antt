-- Policies that are read without a fault stay so, and the view of their house is sound.
use Rattle.std.proofs.Common.{◌≡◌, ℕ, ◌+◌, ◌<◌, ◌≤◌, Bool, true, false, cond, not, ◌&&◌, ◌||◌, eqb, ltb, leb, List, [], ◌∷◌, ◌++◌, map, length, get_or, Some, None, codes, Option, sym, refl, ap, ◌∙◌, subst, inl, inr, arith, length-append}
use lib.ListN.{length-map}
use Rattle.std.specs.List.{AllByRecursion}
use Rattle.std.proofs.lemmas.Bool.{ltb-true, lt-ltb, le-leb, and_parts, and_from, or_cases}
use Rattle.std.proofs.lemmas.List.{get_or-map, get_or_append_left}
use Rattle.std.proofs.lemmas.List.Recursion.{and_push}
use Rattle.std.proofs.ByRecursion.{All-push}
use Rattle.book.specs.Grammar.{Name, credential_bytes, ItemText}
use Rattle.book.specs.Places.{item_size}
use Rattle.house.specs.declared.entries.Item.{Item}
use Rattle.house.specs.View.{RuleView}
use Rattle.house.specs.Soundness.{every, nowhere, no_item, within, item_sound, body_sound, rule_sound, asked_sound, sound}
use Rattle.house.specs.Policies.{same, Enrolled, Written, Policies, any, first_of, named, same_item, number, numbers, once, enrolled}
use Rattle.house.specs.Books.{party_part, entry}
use Rattle.house.specs.Filling.{NameAt, ItemAt, Kept, with_items}
use Rattle.house.proofs.Firsts.{first_passes, first_less}
use Rattle.house.proofs.Cuts.{same_is}
use Rattle.house.proofs.Spots.{stands_within}
use Rattle.house.proofs.Registers.{with_party, Ends, all_of, ends_party, entries_party, entries_item, credential_of, credentials}

-- tests over lists
every_of : {X : Type 0} (p q : X → Bool) → ((x : X) → p x ≡ true → q x ≡ true) → (xs : List X) → every p xs ≡ true → every q xs ≡ true
every_of p q f [] h = refl
every_of p q f (x ∷ xs) h =
    let s = and_parts (p x) (every p xs) h in
    let a = f x s.0 in
    let b = every_of p q f xs s.1 in
    grind arith

every_push : {X : Type 0} (p : X → Bool) (xs : List X) (x : X) → every p xs ≡ true → p x ≡ true → every p (xs ++ x ∷ []) ≡ true
every_push p xs x h e = and_push (every p) p refl (λ y ys. refl) xs x ∙ and_from _ _ h e

every_map : {X Y : Type 0} (f : X → Y) (p : Y → Bool) (xs : List X) → AllByRecursion (λ x. p (f x) ≡ true) xs → every p (map f xs) ≡ true
every_map f p [] a = refl
every_map f p (x ∷ xs) a = let h = a.0 in let r = every_map f p xs a.1 in grind arith

-- rules stay sound in a longer register
module _ (xs ys : List Item) where
  longer : (n : ℕ) → ltb n (length xs) ≡ true → ltb n (length (xs ++ ys)) ≡ true
  longer n h = let k = length-append xs ys in grind arith

  still : (n : ℕ) → ltb n (length xs) ≡ true → get_or (xs ++ ys) n no_item ≡ get_or xs n no_item
  still n h = get_or_append_left xs ys no_item n (ltb-true n (length xs) h)

  body_more : (owner b : ℕ) → body_sound xs owner b ≡ true → body_sound (xs ++ ys) owner b ≡ true
  body_more owner b h =
      let s = and_parts _ _ h in
      let a = longer b s.0 in
      let e = sym (still b s.0) in
      subst (λ i. (ltb b (length (xs ++ ys)) && (eqb i.source owner || eqb i.destination owner)) ≡ true) e (let t = s.1 in grind arith)

  rule-more : (r : RuleView) → rule_sound xs r ≡ true → rule_sound (xs ++ ys) r ≡ true
  rule-more r h =
      let s = and_parts _ _ h in
      let a = longer r.head s.0 in
      let e = sym (still r.head s.0) in
      let owner = (get_or xs r.head no_item).source in
      let m = every_of (body_sound xs owner) (body_sound (xs ++ ys) owner) (body_more owner) r.body s.1 in
      subst (λ i. (ltb r.head (length (xs ++ ys)) && every (body_sound (xs ++ ys) i.source) r.body) ≡ true) e (grind arith)

  rules_more : (rs : List RuleView) → every (rule_sound xs) rs ≡ true → every (rule_sound (xs ++ ys)) rs ≡ true
  rules_more rs h = every_of (rule_sound xs) (rule_sound (xs ++ ys)) rule-more rs h

asked-more : (m n : ℕ) (asked : Option ℕ) → m ≤ n → asked_sound m asked ≡ true → asked_sound n asked ≡ true
asked-more m n None l h = refl
asked-more m n (Some d) l h = grind arith

module _ (text : List ℕ) (v : Policies) (k : Kept text v) where
  pub kept_party : (e : Enrolled) → NameAt text e → Kept text (with_party v e)
  kept_party e a =
      record {
        names = All-push (NameAt text) v.parties e k.names a;
        items = k.items;
        ends = ends_party v e k.ends;
        rules = subst (λ l. every (rule_sound l) v.rules ≡ true) (entries_party v e k.ends) k.rules;
        asked = k.asked;
      }

  pub kept_item : (w : Written) → ItemAt text w → Ends v w → Kept text (with_items v (v.items ++ w ∷ []))
  kept_item w a d =
      let n = length-append v.items (w ∷ []) in
      record {
        names = k.names;
        items = All-push (ItemAt text) v.items w k.items a;
        ends = All-push (Ends v) v.items w k.ends d;
        rules = subst (λ l. every (rule_sound l) v.rules ≡ true) (sym (entries_item v w)) (rules_more (map (entry v) v.items) (entry (with_items v (v.items ++ w ∷ [])) w ∷ []) v.rules k.rules);
        asked = asked-more (length v.items) (length (v.items ++ w ∷ [])) v.asked (omega arith) k.asked;
      }

  pub kept_rule : (r : RuleView) → rule_sound (map (entry v) v.items) r ≡ true → Kept text (record { parties = v.parties; items = v.items; rules = v.rules ++ r ∷ []; asked = v.asked })
  kept_rule r h = record { names = k.names; items = k.items; ends = k.ends; rules = every_push (rule_sound (map (entry v) v.items)) v.rules r k.rules h; asked = k.asked }

  pub kept_asked : (n : ℕ) → n < length v.items → Kept text (record { parties = v.parties; items = v.items; rules = v.rules; asked = Some n })
  kept_asked n h = record { names = k.names; items = k.items; ends = k.ends; rules = k.rules; asked = grind arith }

-- the same item has the same source and destination
same_ends : (i : ItemText) (w : Written) → same_item i w ≡ true → (w.item.source ≡ i.source) × (w.item.destination ≡ i.destination)
same_ends i w h = let s = and_parts _ _ h in let t = and_parts _ _ s.1 in (same_is _ _ s.0, same_is _ _ t.1)

module _ (v : Policies) where
  -- the entry of a registered item
  found_ends : (i : ItemText) → any (same_item i) v.items ≡ true →
      ((get_or (map (entry v) v.items) (number v.items i) no_item).source ≡ first_of (named i.source) v.parties)
      × ((get_or (map (entry v) v.items) (number v.items i) no_item).destination ≡ first_of (named i.destination) v.parties)
  found_ends i h =
      let d : Written = record { item = i; place = 0 } in
      let n = number v.items i in
      let u = get_or v.items n d in
      let e : get_or (map (entry v) v.items) n no_item ≡ entry v u = get_or-map (entry v) v.items n d no_item (first_less (same_item i) v.items h) in
      let s = same_ends i u (first_passes (same_item i) v.items d h) in
      (ap (λ x. x.source) e ∙ ap (λ x. first_of (named x) v.parties) s.0, ap (λ x. x.destination) e ∙ ap (λ x. first_of (named x) v.parties) s.1)

  number_below : (i : ItemText) → any (same_item i) v.items ≡ true → ltb (number v.items i) (length (map (entry v) v.items)) ≡ true
  number_below i h = let l = first_less (same_item i) v.items h in let m = length-map v.items (entry v) in grind arith

  module _ (h : ItemText) (hh : any (same_item h) v.items ≡ true) where
    abbrev owner : ℕ
    owner = (get_or (map (entry v) v.items) (number v.items h) no_item).source

    body_ok : (b : ItemText) → any (same_item b) v.items ≡ true → (same b.source h.source || same b.destination h.source) ≡ true → body_sound (map (entry v) v.items) owner (number v.items b) ≡ true
    body_ok b a c =
        let f = found_ends b a in
        let o = (found_ends h hh).0 in
        let l = number_below b a in
        elim (or_cases _ _ c) [
          | inl e ↦ let s = f.0 ∙ ap (λ x. first_of (named x) v.parties) (same_is _ _ e) ∙ sym o in grind arith
          | inr e ↦ let s = f.1 ∙ ap (λ x. first_of (named x) v.parties) (same_is _ _ e) ∙ sym o in grind arith
        ]

    bodies_ok : (bs : List ItemText) → AllByRecursion (λ b. any (same_item b) v.items ≡ true) bs → any (λ i. not (same i.source h.source || same i.destination h.source)) bs ≡ false →
        every (body_sound (map (entry v) v.items) owner) (numbers v.items bs) ≡ true
    bodies_ok [] a c = refl
    bodies_ok (b ∷ bs) a c =
        let x = body_ok b a.0 (grind arith) in
        let y = bodies_ok bs a.1 (grind arith) in
        grind arith

    once-every : (p : ℕ → Bool) (seen ns : List ℕ) → every p seen ≡ true → every p ns ≡ true → every p (once seen ns) ≡ true
    once-every p seen [] s h = s
    once-every p seen (n ∷ ns) s e = let t = and_parts _ _ e in go (any (eqb n) seen) (once-every p seen ns s t.1) (once-every p (seen ++ n ∷ []) ns (every_push p seen n s t.0) t.1)
      where
        go : (b : Bool) → every p (once seen ns) ≡ true → every p (once (seen ++ n ∷ []) ns) ≡ true → every p (cond b (once seen ns) (once (seen ++ n ∷ []) ns)) ≡ true
        go true x y = x
        go false x y = y

    pub rule_ok : (bs : List ItemText) → AllByRecursion (λ b. any (same_item b) v.items ≡ true) bs → any (λ i. not (same i.source h.source || same i.destination h.source)) bs ≡ false →
        rule_sound (map (entry v) v.items) (record { head = number v.items h; body = once [] (numbers v.items bs) }) ≡ true
    rule_ok bs a c =
        let l = number_below h hh in
        let m = once-every (body_sound (map (entry v) v.items) owner) [] (numbers v.items bs) refl (bodies_ok bs a c) in
        grind arith

  name_length_lem : (n : Name) → enrolled v n ≡ true → (get_or (map party_part v.parties) (first_of (named n) v.parties) nowhere).length ≡ length n
  name_length_lem n h =
      let d : Enrolled = record { name = n; place = 0 } in
      let e = get_or-map party_part v.parties (first_of (named n) v.parties) d nowhere (first_less (named n) v.parties h) in
      ap (λ p. p.length) e ∙ ap length (same_is _ _ (first_passes (named n) v.parties d h))

item_room : (i : ItemText) → length i.source + length i.destination + 2 ≤ item_size i
item_room i =
    let a = length-append i.source (codes "^" ++ (credential_bytes i.credential ++ (codes ">" ++ i.destination))) in
    let b = length-append (credential_bytes i.credential) (codes ">" ++ i.destination) in
    omega arith

all_both : {X : Type 0} (P Q : X → Type 0) (xs : List X) → AllByRecursion P xs → AllByRecursion Q xs → AllByRecursion (λ x. P x × Q x) xs
all_both P Q [] a b = tt
all_both P Q (x ∷ xs) a b = ((a.0, b.0), all_both P Q xs a.1 b.1)

module _ (text : List ℕ) (v : Policies) (k : Kept text v) where
  party_within : (e : Enrolled) → NameAt text e → within (length text) (party_part e) ≡ true
  party_within e a = let w = stands_within text _ _ _ a.stands in grind arith

  entry-sound : (w : Written) → (ItemAt text w × Ends v w) × (any (credential_of w.item) v.items ≡ true) →
      item_sound (map party_part v.parties) (length (map (entry v) v.items)) (length text) (entry v w) ≡ true
  entry-sound w h =
      let s = first_less (named w.item.source) v.parties h.0.1.0 in
      let d = first_less (named w.item.destination) v.parties h.0.1.1 in
      let c = first_less (credential_of w.item) v.items h.1 in
      let p = length-map v.parties party_part in
      let m = length-map v.items (entry v) in
      let place = stands_within text _ _ _ h.0.0.stands in
      let x = name_length_lem v w.item.source h.0.1.0 in
      let y = name_length_lem v w.item.destination h.0.1.1 in
      let r = item_room w.item in
      let parties = map party_part v.parties in
      let i1 = entry v w in
      let t1 : ltb i1.source (length parties) ≡ true = lt-ltb i1.source (length parties) (omega arith) in
      let t2 : ltb i1.destination (length parties) ≡ true = lt-ltb i1.destination (length parties) (omega arith) in
      let t3 : ltb i1.credential (length (map (entry v) v.items)) ≡ true = lt-ltb i1.credential (length (map (entry v) v.items)) (omega arith) in
      let t4 : within (length text) i1.part ≡ true = le-leb (i1.part.place + i1.part.length) (length text) (omega arith) in
      let names = (get_or parties i1.source nowhere).length + (get_or parties i1.destination nowhere).length + 2 in
      let t5 : leb names i1.part.length ≡ true = le-leb names i1.part.length (omega arith) in
      and_from _ _ t1 (and_from _ _ t2 (and_from _ _ t3 (and_from _ _ t4 t5)))

  pub kept_sound : sound (map party_part v.parties) (map (entry v) v.items) v.rules v.asked (length text) ≡ true
  kept_sound =
      let a = every_map party_part (within (length text)) v.parties (all_of party_within v.parties k.names) in
      let b = every_map (entry v) (item_sound (map party_part v.parties) (length (map (entry v) v.items)) (length text)) v.items
      (all_of entry-sound v.items (all_both (λ w. ItemAt text w × Ends v w) (λ w. any (credential_of w.item) v.items ≡ true) v.items (all_both (ItemAt text) (Ends v) v.items k.items k.ends) (credentials v.items))) in
      let c = k.rules in
      let d = ap (λ n. asked_sound n v.asked) (length-map v.items (entry v)) ∙ k.asked in
      grind arith
