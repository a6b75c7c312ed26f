-- What is in the lists of clauses.
use Rattle.std.proofs.Common.{◌≡◌, ℕ, zero, suc, ◌+◌, ◌<◌, ◌≤◌, Bool, true, false, cond, eqb, ◌⊎◌, List, [], ◌∷◌, ◌++◌, map, length, get_or, filter, sym, refl, ap, ◌∙◌, subst, inl, inr, arith}
use Rattle.std.specs.List.{ContainsAt as Has, flat_map}
use Rattle.std.proofs.ByRecursion.{has_append_left, has_append_right}
use Rattle.meaning.specs.Meaning.{numbers_from}

module _ {X : Type 0} where
  pub has_first : (x : X) (xs : List X) → Has (x ∷ xs) x
  has_first x xs = (0, omega arith, λ d. refl)

  pub has-behind : (y : X) (ys : List X) (x : X) → Has ys x → Has (y ∷ ys) x
  has-behind y ys x h = (suc h.0, omega arith, h.2)

  pub has_none : (x : X) → Has [] x → ⊥
  has_none x h = let k = h.1 in omega arith

  pub has_cases : (y : X) (ys : List X) (x : X) → Has (y ∷ ys) x → (y ≡ x) ⊎ Has ys x
  has_cases y ys x h = go h.0 h.1 h.2
    where
      go : (k : ℕ) → k < length (y ∷ ys) → ((d : X) → get_or (y ∷ ys) k d ≡ x) → (y ≡ x) ⊎ Has ys x
      go zero l e = inl (e y)
      go (suc k) l e = inr (k, omega arith, e)

  pub has_parts : (xs ys : List X) (x : X) → Has (xs ++ ys) x → Has xs x ⊎ Has ys x
  has_parts [] ys x h = inr h
  has_parts (z ∷ zs) ys x h =
      elim (has_cases z (zs ++ ys) x h) [
        | inl e ↦ inl (subst (Has (z ∷ zs)) e (has_first z zs))
        | inr k ↦ elim (has_parts zs ys x k) [ inl a ↦ inl (has-behind z zs x a) | inr b ↦ inr b ]
      ]

  pub has_kept : (p : X → Bool) (xs : List X) (x : X) → Has (filter p xs) x → Has xs x × (p x ≡ true)
  has_kept p [] x h = absurd (has_none x h)
  has_kept p (y ∷ ys) x h = go (has_kept p ys x) (p y) refl h
    where
      go : (Has (filter p ys) x → Has ys x × (p x ≡ true)) → (b : Bool) → p y ≡ b → Has (cond b (y ∷ filter p ys) (filter p ys)) x → Has (y ∷ ys) x × (p x ≡ true)
      go more true e k = elim (has_cases y (filter p ys) x k) [
        | inl q ↦ (subst (Has (y ∷ ys)) q (has_first y ys), ap p (sym q) ∙ e)
        | inr m ↦ let r = more m in (has-behind y ys x r.0, r.1)
      ]
      go more false e k = let r = more k in (has-behind y ys x r.0, r.1)

  pub keeps : (p : X → Bool) (xs : List X) (x : X) → Has xs x → p x ≡ true → Has (filter p xs) x
  keeps p [] x h e = absurd (has_none x h)
  keeps p (y ∷ ys) x h e = go (λ m. keeps p ys x m e) (p y) refl (has_cases y ys x h)
    where
      go : (Has ys x → Has (filter p ys) x) → (b : Bool) → p y ≡ b → (y ≡ x) ⊎ Has ys x → Has (cond b (y ∷ filter p ys) (filter p ys)) x
      go more true f (inl q) = subst (Has (y ∷ filter p ys)) q (has_first y (filter p ys))
      go more true f (inr m) = has-behind y (filter p ys) x (more m)
      go more false f (inl q) = absurd (let z : false ≡ true = sym f ∙ ap p q ∙ e in let w : ⊥ = grind arith in w)
      go more false f (inr m) = more m

module _ {X Y : Type 0} where
  pub has-map : (f : X → Y) (xs : List X) (y : Y) → Has (map f xs) y → (x : X) × Has xs x × (f x ≡ y)
  has-map f [] y h = absurd (has_none y h)
  has-map f (x ∷ xs) y h =
      elim (has_cases (f x) (map f xs) y h) [
        | inl e ↦ (x, has_first x xs, e)
        | inr k ↦ let r = has-map f xs y k in (r.0, has-behind x xs r.0 r.1, r.2)
      ]

  pub maps : (f : X → Y) (xs : List X) (x : X) → Has xs x → Has (map f xs) (f x)
  maps f [] x h = absurd (has_none x h)
  maps f (z ∷ zs) x h =
      elim (has_cases z zs x h) [
        | inl e ↦ subst (λ u. Has (map f (z ∷ zs)) (f u)) e (has_first (f z) (map f zs))
        | inr k ↦ has-behind (f z) (map f zs) (f x) (maps f zs x k)
      ]

  pub has_joined : (f : X → List Y) (xs : List X) (y : Y) → Has (flat_map f xs) y → (x : X) × Has xs x × Has (f x) y
  has_joined f [] y h = absurd (has_none y h)
  has_joined f (x ∷ xs) y h =
      elim (has_parts (f x) (flat_map f xs) y h) [
        | inl a ↦ (x, has_first x xs, a)
        | inr k ↦ let r = has_joined f xs y k in (r.0, has-behind x xs r.0 r.1, r.2)
      ]

  pub joins : (f : X → List Y) (xs : List X) (x : X) (y : Y) → Has xs x → Has (f x) y → Has (flat_map f xs) y
  joins f [] x y h k = absurd (has_none x h)
  joins f (z ∷ zs) x y h k =
      elim (has_cases z zs x h) [
        | inl e ↦ has_append_left (f z) (flat_map f zs) y (subst (λ u. Has (f u) y) (sym e) k)
        | inr m ↦ has_append_right (f z) (flat_map f zs) y (joins f zs x y m k)
      ]

pub has-number : (first count x : ℕ) → Has (numbers_from first count) x → (first ≤ x) × (x < first + count)
has-number first zero x h = absurd (has_none x h)
has-number first (suc count) x h =
    elim (has_cases first (numbers_from (suc first) count) x h) [
      | inl e ↦ (omega arith, omega arith)
      | inr k ↦ let r = has-number (suc first) count x k in let a = r.0 in let b = r.1 in (omega arith, omega arith)
    ]

pub numbered : (first count x : ℕ) → first ≤ x → x < first + count → Has (numbers_from first count) x
numbered first zero x a b = absurd (omega arith)
numbered first (suc count) x a b = go (λ z. numbered (suc first) count x z (omega arith)) (eqb first x) refl
  where
    go : (suc first ≤ x → Has (numbers_from (suc first) count) x) → (t : Bool) → eqb first x ≡ t → Has (numbers_from first (suc count)) x
    go more true e = let z : first ≡ x = grind arith in subst (Has (numbers_from first (suc count))) z (has_first first (numbers_from (suc first) count))
    go more false e = let z : suc first ≤ x = grind arith in has-behind first (numbers_from (suc first) count) x (more z)
