-- How long the register gets does not hang on the places of the writings.
use Rattle.std.proofs.Common.{◌≡◌, ℕ, ◌+◌, Bool, true, false, cond, List, [], ◌∷◌, ◌++◌, map, length, sym, refl, ap, ◌∙◌}
use lib.ListN.{length-map}
use Rattle.std.specs.List.{AllByRecursion}
use Rattle.std.proofs.lemmas.List.{map_push}
use Rattle.book.specs.Grammar.{ItemText}
use Rattle.book.specs.Places.{item_size}
use Rattle.house.specs.Policies.{Written, any, same_item, register, register_all, written_from}
use Rattle.house.proofs.Firsts.{any-map}

abbrev item_of : Written → ItemText
item_of w = w.item

abbrev same_text : ItemText → ItemText → Bool
same_text i j = same_item i (record { item = j; place = 0 })

abbrev put : List ItemText → ItemText → List ItemText
put is i = cond (any (same_text i) is) is (is ++ i ∷ [])

abbrev put_all : List ItemText → List ItemText → List ItemText
put_all is [] = is
put_all is (j ∷ js) = put_all (put is j) js

all_refl : (i : ItemText) (xs : List Written) → AllByRecursion (λ x. same_text i (item_of x) ≡ same_item i x) xs
all_refl i [] = tt
all_refl i (x ∷ xs) = (refl, all_refl i xs)

register_items : (xs : List Written) (w : Written) → map item_of (register xs w) ≡ put (map item_of xs) w.item
register_items xs w =
    go (any (same_item w.item) xs) ∙ ap (λ b. cond b (map item_of xs) (map item_of xs ++ w.item ∷ [])) (sym (any-map item_of (same_text w.item) (same_item w.item) xs (all_refl w.item xs)))
  where
    go : (b : Bool) → map item_of (cond b xs (xs ++ w ∷ [])) ≡ cond b (map item_of xs) (map item_of xs ++ w.item ∷ [])
    go true = refl
    go false = map_push item_of xs w

registers_items : (xs ws : List Written) → map item_of (register_all xs ws) ≡ put_all (map item_of xs) (map item_of ws)
registers_items xs [] = refl
registers_items xs (w ∷ ws) = registers_items (register xs w) ws ∙ ap (λ l. put_all l (map item_of ws)) (register_items xs w)

written_items : (place : ℕ) (is : List ItemText) → map item_of (written_from place is) ≡ is
written_items place [] = refl
written_items place (i ∷ is) = ap (λ l. i ∷ l) (written_items (place + item_size i + 5) is)

module _ (xs : List Written) (h : ItemText) (body : List ItemText) where
  count_of : (p q : ℕ) → length (register_all xs (record { item = h; place = p } ∷ written_from q body)) ≡ length (put_all (map item_of xs) (h ∷ body))
  count_of p q =
      let ws = record { item = h; place = p } ∷ written_from q body in
      sym (length-map (register_all xs ws) item_of) ∙ ap length (registers_items xs ws ∙ ap (λ l. put_all (map item_of xs) (h ∷ l)) (written_items q body))

  pub same_count : (p q p' q' : ℕ) → length (register_all xs (record { item = h; place = p } ∷ written_from q body)) ≡ length (register_all xs (record { item = h; place = p' } ∷ written_from q' body))
  same_count p q p' q' = count_of p q ∙ sym (count_of p' q')
