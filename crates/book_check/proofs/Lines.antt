-- Lines put one behind the other.
use Rattle.std.proofs.Common.{◌≡◌, ℕ, ◌+◌, ◌<◌, ◌≤◌, List, [], ◌∷◌, ◌++◌, length, get_or, take, codes, decimal, sym, ap, ◌∙◌, append_assoc, append-nil, arith}
use Rattle.std.specs.List.{flat_map}
use Rattle.std.proofs.lemmas.Grind.{flat_map-append}
use Rattle.std.proofs.lemmas.List.{take_all, take_more, length-take-le}
use Rattle.book_check.specs.Report.{numbered, spaced, body_line}

module _ {X : Type 0} (line : ℕ → X → List ℕ) where
  numbered_push : (n : ℕ) (xs : List X) (x : X) (m : ℕ) → m ≡ n + length xs → numbered line n (xs ++ x ∷ []) ≡ numbered line n xs ++ line m x
  numbered_push n [] x m e = let z : n ≡ m = omega arith in append-nil (line n x) ∙ ap (λ k. line k x) z
  numbered_push n (y ∷ ys) x m e =
      let z : m ≡ n + 1 + length ys = omega arith in
      ap (λ l. line n y ++ l) (numbered_push (n + 1) ys x m z) ∙ sym (append_assoc (line n y) (numbered line (n + 1) ys) (line m x))

  -- one line more in a loop over the list
  pub numbered_more : (xs : List X) (i : ℕ) (d : X) (before so_far after : List ℕ) → i < length xs → so_far ≡ before ++ numbered line 0 (take i xs) → after ≡ so_far ++ line i (get_or xs i d) → after ≡ before ++ numbered line 0 (take (i + 1) xs)
  numbered_more xs i d before so_far after l e f =
      let m = length-take-le i xs (omega arith) in
      let x = get_or xs i d in
      f ∙ ap (λ b. b ++ line i x) e ∙ append_assoc before (numbered line 0 (take i xs)) (line i x) ∙ ap (λ b. before ++ b)
      (sym (numbered_push 0 (take i xs) x i (omega arith)) ∙ ap (numbered line 0) (sym (take_more xs i d l)))

-- the same for lines without numbers
module _ {X : Type 0} (line : X → List ℕ) where
  joined_push : (xs : List X) (x : X) → flat_map line (xs ++ x ∷ []) ≡ flat_map line xs ++ line x
  joined_push xs x = flat_map-append line xs (x ∷ []) ∙ ap (λ l. flat_map line xs ++ l) (append-nil (line x))

  pub joined_more_of : (xs : List X) (i : ℕ) (d : X) (before so_far after : List ℕ) → i < length xs → so_far ≡ before ++ flat_map line (take i xs) → after ≡ so_far ++ line (get_or xs i d) → after ≡ before ++ flat_map line (take (i + 1) xs)
  joined_more_of xs i d before so_far after l e f =
      let x = get_or xs i d in
      f ∙ ap (λ b. b ++ line x) e ∙ append_assoc before (flat_map line (take i xs)) (line x) ∙ ap (λ b. before ++ b) (sym (joined_push (take i xs) x) ∙ ap (flat_map line) (sym (take_more xs i d l)))

  pub joined_all : (xs : List X) (i : ℕ) (before after : List ℕ) → length xs ≤ i → after ≡ before ++ flat_map line (take i xs) → after ≡ before ++ flat_map line xs
  joined_all xs i before after l e = e ∙ ap (λ x. before ++ flat_map line x) (take_all i xs l)

-- a rule with a body that is not empty
pub body_line_lem : (head : ℕ) (body : List ℕ) (before out1 out2 out3 front : List ℕ) → 0 < length body → front ≡ codes "rule " ++ (decimal head ++ codes " if") → out1 ≡ before ++ front → out2 ≡ out1 ++ flat_map spaced body → out3 ≡ out2 ++ codes "\n" →
    out3 ≡ before ++ body_line head body
body_line_lem head [] before out1 out2 out3 front l e a b c = absurd (omega arith)
body_line_lem head (n ∷ ns) before out1 out2 out3 front l e a b c =
    c ∙ ap (λ x. x ++ codes "\n") (b ∙ ap (λ x. x ++ flat_map spaced (n ∷ ns)) (a ∙ ap (λ x. before ++ x) e)) ∙ simp append_assoc
