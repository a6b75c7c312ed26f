-- The first element that passes a test.
use Rattle.std.proofs.Common.{◌≡◌, ℕ, suc, ◌<◌, Bool, true, false, cond, ◌||◌, ltb, List, [], ◌∷◌, ◌++◌, map, length, get_or, Some, None, sym, refl, ap, ◌∙◌, arith}
use Rattle.std.specs.List.{AllByRecursion, position}
use Rattle.std.proofs.lemmas.List.Recursion.{is_position_or_len}
use Rattle.house.specs.Policies.{any, first_of}
use Rattle.house.specs.Filling.{found_in}

module _ {X : Type 0} (p : X → Bool) where
  pub any_append : (xs ys : List X) → any p (xs ++ ys) ≡ (any p xs || any p ys)
  any_append [] ys = refl
  any_append (x ∷ xs) ys = let h = any_append xs ys in grind arith

  pub any-more : (xs ys : List X) → any p xs ≡ true → any p (xs ++ ys) ≡ true
  any-more xs ys h = let e = any_append xs ys in grind arith

  pub first-append : (xs ys : List X) → any p xs ≡ true → first_of p (xs ++ ys) ≡ first_of p xs
  first-append [] ys h = cc h
  first-append (x ∷ xs) ys h = let r = first-append xs ys in grind arith

  pub first_less : (xs : List X) → any p xs ≡ true → first_of p xs < length xs
  first_less [] h = cc h
  first_less (x ∷ xs) h = let r = first_less xs in grind arith

  pub first_new : (xs : List X) (x : X) → any p xs ≡ false → p x ≡ true → first_of p (xs ++ x ∷ []) ≡ length xs
  first_new [] x h e = grind arith
  first_new (y ∷ ys) x h e = let r = first_new ys x in grind arith

  pub first_passes : (xs : List X) (d : X) → any p xs ≡ true → p (get_or xs (first_of p xs) d) ≡ true
  first_passes [] d h = cc h
  first_passes (x ∷ xs) d h = at (p x) refl (first_passes xs d)
    where
      at : (b : Bool) → p x ≡ b → (any p xs ≡ true → p (get_or xs (first_of p xs) d) ≡ true) → p (get_or (x ∷ xs) (cond b 0 (suc (first_of p xs))) d) ≡ true
      at true e r = e
      at false e r = r (grind arith)

  first_within : (xs : List X) → ltb (first_of p xs) (length xs) ≡ any p xs
  first_within [] = refl
  first_within (x ∷ xs) = let r = first_within xs in grind arith

  -- `position` gives the number of the first that passes
  pub position_found : (xs : List X) → position p xs ≡ found_in p xs
  position_found xs =
      ap (λ n. cond (ltb n (length xs)) (Some n) None) (sym (is_position_or_len (first_of p) p refl (λ x ys. grind arith) xs)) ∙ ap (λ b. cond b (Some (first_of p xs)) None) (first_within xs)

  pub found_some : (xs : List X) (n : ℕ) → Some n ≡ found_in p xs → (any p xs ≡ true) × (n ≡ first_of p xs)
  found_some xs n e = go (any p xs) refl e
    where
      go : (b : Bool) → any p xs ≡ b → Some n ≡ cond b (Some (first_of p xs)) None → (any p xs ≡ true) × (n ≡ first_of p xs)
      go true h e = (h, cc e)
      go false h e = cc e

  pub found_nothing : (xs : List X) → None ≡ found_in p xs → any p xs ≡ false
  found_nothing xs e = go (any p xs) refl e
    where
      go : (b : Bool) → any p xs ≡ b → None ≡ cond b (Some (first_of p xs)) None → any p xs ≡ false
      go true h e = cc (sym e)
      go false h e = h

module _ {X Y : Type 0} (f : X → Y) (p : Y → Bool) (q : X → Bool) where
  pub any-map : (xs : List X) → AllByRecursion (λ x. p (f x) ≡ q x) xs → any p (map f xs) ≡ any q xs
  any-map [] a = refl
  any-map (x ∷ xs) a = let r = any-map xs a.1 in let e = a.0 in grind arith

  pub first-map : (xs : List X) → AllByRecursion (λ x. p (f x) ≡ q x) xs → first_of p (map f xs) ≡ first_of q xs
  first-map [] a = refl
  first-map (x ∷ xs) a = let r = first-map xs a.1 in let e = a.0 in grind arith

  pub found_map : (xs : List X) → AllByRecursion (λ x. p (f x) ≡ q x) xs → found_in p (map f xs) ≡ found_in q xs
  found_map xs a = let r = any-map xs a in let s = first-map xs a in grind arith
