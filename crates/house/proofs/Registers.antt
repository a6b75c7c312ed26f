-- The entries of the register as parties and items are added.
use Rattle.std.proofs.Common.{◌≡◌, ◌≤◌, Bool, true, false, cond, List, [], ◌∷◌, ◌++◌, map, length, sym, refl, ap, ◌∙◌, subst, append_assoc, append-nil, arith, length-append}
use Rattle.std.specs.List.{AllByRecursion}
use Rattle.std.proofs.lemmas.List.{map_push}
use Rattle.book.specs.Grammar.{credential_bytes, ItemText}
use Rattle.house.specs.Policies.{Enrolled, Written, Policies, any, named, same_credential, same_item, number, register, register_all, enrolled}
use Rattle.house.specs.Books.{entry}
use Rattle.house.specs.Filling.{with_items}
use Rattle.house.proofs.Firsts.{any-more, first-append, first_new}
use Rattle.house.proofs.Cuts.{same_refl}

-- two functions that agree on a list
pub map_agree : {X Y : Type 0} (f g : X → Y) (xs : List X) → AllByRecursion (λ x. f x ≡ g x) xs → map f xs ≡ map g xs
map_agree f g [] a = refl
map_agree f g (x ∷ xs) a = ap (λ y. y ∷ map f xs) a.0 ∙ ap (λ ys. g x ∷ ys) (map_agree f g xs a.1)

pub all_of : {X : Type 0} {P Q : X → Type 0} → ((x : X) → P x → Q x) → (xs : List X) → AllByRecursion P xs → AllByRecursion Q xs
all_of f [] a = tt
all_of f (x ∷ xs) a = (f x a.0, all_of f xs a.1)

abbrev pub with_party : Policies → Enrolled → Policies
with_party v e = record { parties = v.parties ++ e ∷ []; items = v.items; rules = v.rules; asked = v.asked }

abbrev pub Ends : Policies → Written → Type 0
Ends v w = (enrolled v w.item.source ≡ true) × (enrolled v w.item.destination ≡ true)

-- whose credential is written, whose first entry is
abbrev pub credential_of : ItemText → Written → Bool
credential_of i u = same_credential u.item.credential i.credential

module _ (v : Policies) (e : Enrolled) where
  still_ends : (w : Written) → Ends v w → Ends (with_party v e) w
  still_ends w h = (any-more _ v.parties (e ∷ []) h.0, any-more _ v.parties (e ∷ []) h.1)

  pub ends_party : AllByRecursion (Ends v) v.items → AllByRecursion (Ends (with_party v e)) v.items
  ends_party a = all_of still_ends v.items a

  entry_party : (w : Written) → Ends v w → entry v w ≡ entry (with_party v e) w
  entry_party w h =
      let s = first-append (named w.item.source) v.parties (e ∷ []) h.0 in
      let d = first-append (named w.item.destination) v.parties (e ∷ []) h.1 in
      cc

  -- a new party changes no entry
  pub entries_party : AllByRecursion (Ends v) v.items → map (entry v) v.items ≡ map (entry (with_party v e)) v.items
  entries_party a = map_agree (entry v) (entry (with_party v e)) v.items (all_of entry_party v.items a)

-- each item's credential is that of a registered item
pub self_credential : (w : Written) → credential_of w.item w ≡ true
self_credential w = same_refl (credential_bytes w.item.credential)

has-credential : (front items : List Written) → AllByRecursion (λ w. any (credential_of w.item) (front ++ items) ≡ true) items
has-credential front [] = tt
has-credential front (w ∷ ws) = (here front, subst (λ l. AllByRecursion (λ u. any (credential_of u.item) l ≡ true) ws) (append_assoc front (w ∷ []) ws) (has-credential (front ++ w ∷ []) ws))
  where
    here : (xs : List Written) → any (credential_of w.item) (xs ++ w ∷ ws) ≡ true
    here [] = let s = self_credential w in grind arith
    here (x ∷ xs) = let r = here xs in grind arith

pub credentials : (items : List Written) → AllByRecursion (λ w. any (credential_of w.item) items ≡ true) items
credentials items = has-credential [] items

module _ (v : Policies) (w : Written) where
  entry_item : (u : Written) → any (credential_of u.item) v.items ≡ true → entry v u ≡ entry (with_items v (v.items ++ w ∷ [])) u
  entry_item u h = let c = first-append (credential_of u.item) v.items (w ∷ []) h in cc

  -- a new item changes no entry before it
  pub entries_item : map (entry (with_items v (v.items ++ w ∷ []))) (v.items ++ w ∷ []) ≡ map (entry v) v.items ++ entry (with_items v (v.items ++ w ∷ [])) w ∷ []
  entries_item =
      map_push (entry (with_items v (v.items ++ w ∷ []))) v.items w
      ∙ ap (λ l. l ++ entry (with_items v (v.items ++ w ∷ [])) w ∷ []) (sym (map_agree (entry v) (entry (with_items v (v.items ++ w ∷ []))) v.items (all_of entry_item v.items (credentials v.items))))

-- the register grows at its end
register_grows : (items : List Written) (w : Written) → (more : List Written) × (register items w ≡ items ++ more)
register_grows items w = go (any (same_item w.item) items) refl
  where
    go : (b : Bool) → any (same_item w.item) items ≡ b → (more : List Written) × (cond b items (items ++ w ∷ []) ≡ items ++ more)
    go true e = ([], sym (append-nil items))
    go false e = (w ∷ [], refl)

pub registers_grow : (items ws : List Written) → (more : List Written) × (register_all items ws ≡ items ++ more)
registers_grow items [] = ([], sym (append-nil items))
registers_grow items (w ∷ ws) =
    let a = register_grows items w in
    let b = registers_grow (register items w) ws in
    (a.0 ++ b.0, b.1 ∙ ap (λ l. l ++ b.0) a.1 ∙ append_assoc items a.0 b.0)

same_item_refl : (w : Written) → same_item w.item w ≡ true
same_item_refl w =
    let a = same_refl w.item.source in
    let b = same_refl (credential_bytes w.item.credential) in
    let c = same_refl w.item.destination in
    grind arith

-- a registered item is in the register
pub registered : (items : List Written) (w : Written) → any (same_item w.item) (register items w) ≡ true
registered items w = go (any (same_item w.item) items) refl
  where
    new : (xs : List Written) → any (same_item w.item) (xs ++ w ∷ []) ≡ true
    new [] = let s = same_item_refl w in grind arith
    new (x ∷ xs) = let r = new xs in grind arith

    go : (b : Bool) → any (same_item w.item) items ≡ b → any (same_item w.item) (cond b items (items ++ w ∷ [])) ≡ true
    go true e = e
    go false e = new items

-- and keeps its number
pub number_stays : (items ws : List Written) (i : ItemText) → any (same_item i) items ≡ true → (number (register_all items ws) i ≡ number items i) × (any (same_item i) (register_all items ws) ≡ true)
number_stays items ws i h =
    let g = registers_grow items ws in
    (ap (λ l. number l i) g.1 ∙ first-append (same_item i) items g.0 h, ap (any (same_item i)) g.1 ∙ any-more (same_item i) items g.0 h)

pub number_new : (items : List Written) (w : Written) → any (same_item w.item) items ≡ false → number (items ++ w ∷ []) w.item ≡ length items
number_new items w h = first_new (same_item w.item) items w h (same_item_refl w)

pub registers_length : (items ws : List Written) → length items ≤ length (register_all items ws)
registers_length items ws = let g = registers_grow items ws in let e = ap length g.1 ∙ length-append items g.0 in omega arith
