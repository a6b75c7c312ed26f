-- What the answer of a push says.
use Rattle.std.proofs.Common.{◌≡◌, ℕ, ◌<◌, Bool, true, false, cond, eqb, List, [], ◌∷◌, ◌++◌, length, Ok, Err, Result, ◌⊎◌, inl, inr, sym, refl, ap, ◌∙◌, arith}
use Rattle.std.specs.List.{IsAnyAnswer}
use Rattle.std.specs.Result.{MatchResult, IsErrAnd}
use Rattle.std.proofs.lemmas.Result.{err_from_is_err_and}
use Rattle.std.proofs.lemmas.List.Recursion.{or_is}
use Rattle.table.specs.declared.store.Full.{Full}
use Rattle.table.specs.Held.{push_answer, pushed}
use Rattle.book.specs.declared.fault.Fault.{Fault}
use Rattle.house.specs.Policies.{any}

pub err_ok : {A B P : Type 0} (a : A) (b : B) → ◌≡◌ {A = Result A B} (Ok a) (Err b) → P
err_ok a b e = cc

pub err_is : {A B : Type 0} {b c : B} → ◌≡◌ {A = Result A B} (Err b) (Err c) → b ≡ c
err_is e = cc

module _ {X : Type 0} (n : ℕ) (xs : List X) where
  pub push_room : (x : X) → length xs < n → pushed n xs x ≡ xs ++ x ∷ []
  push_room x l = let h : eqb (length xs) n ≡ false = grind arith in ap (λ b. cond b xs (xs ++ x ∷ [])) h

  pub push_full : (g : Full) → Err g ≡ push_answer n xs → length xs ≡ n
  push_full g e = go (eqb (length xs) n) refl e
    where
      go : (b : Bool) → eqb (length xs) n ≡ b → ◌≡◌ {A = Result (Unit {0}) Full} (Err g) (cond b (Err (record {})) (Ok tt)) → length xs ≡ n
      go true h e = grind arith
      go false h e = grind arith

-- an answer whose refusal becomes another
abbrev pub refused_by : {A B C : Type 0} → (B → C) → Result A B → Result A C
refused_by f (Ok x) = Ok x
refused_by f (Err b) = Err (f b)

module _ {A B C : Type 0} (f : B → C) where
  pub mapped : {P : B → C → Type 0} (answer : Result A B) (r : Result A C) → MatchResult answer (λ x. r ≡ Ok x) (λ b. IsErrAnd r (P b)) → ((b : B) (d : C) → P b d → d ≡ f b) → r ≡ refused_by f answer
  mapped (Ok x) r e k = e
  mapped (Err b) r e k = let p = err_from_is_err_and r e in p.1 ∙ ap Err (k b p.0 p.2)

  pub mapped_ok : (answer : Result A B) (r : Result A C) (x : A) → r ≡ refused_by f answer → r ≡ Ok x → answer ≡ Ok x
  mapped_ok (Ok y) r x m e = cc
  mapped_ok (Err b) r x m e = cc (sym e ∙ m)

  pub mapped_err : (answer : Result A B) (r : Result A C) (d : C) → r ≡ refused_by f answer → r ≡ Err d → (b : B) × (answer ≡ Err b) × (d ≡ f b)
  mapped_err (Ok x) r d m e = cc (sym m ∙ e)
  mapped_err (Err b) r d m e = (b, refl, cc (sym e ∙ m))

-- a push into a table that is full is a fault, and else puts the value behind the others
pub push_cases : {X : Type 0} (n : ℕ) (xs : List X) (x : X) (g : Fault) (answer : Result (Unit {0}) Full) (r : Result (Unit {0}) Fault) → answer ≡ push_answer n xs → r ≡ refused_by (λ b. g) answer →
    ((r ≡ Ok tt) × (pushed n xs x ≡ xs ++ x ∷ [])) ⊎ ((r ≡ Err g) × (length xs ≡ n))
push_cases n xs x g answer r e m = go (eqb (length xs) n) refl (m ∙ ap (refused_by (λ b. g)) e)
  where
    go : (b : Bool) → eqb (length xs) n ≡ b → r ≡ refused_by {A = Unit {0}} {B = Full} (λ q. g) (cond b (Err (record {})) (Ok tt)) → ((r ≡ Ok tt) × (cond b xs (xs ++ x ∷ []) ≡ xs ++ x ∷ [])) ⊎ ((r ≡ Err g) × (length xs ≡ n))
    go true h k = inr (k, grind arith)
    go false h k = inl (k, refl)

-- whether a list contains a number
pub contains_any : (xs : List ℕ) (n : ℕ) (r : Bool) → IsAnyAnswer (λ y t. eqb y n ≡ t) xs r → r ≡ any (eqb n) xs
contains_any xs n true s = or_is (any (eqb n)) (eqb n) refl (λ x ys. refl) xs 0 true (λ e. (s.0, s.1, (let h = s.2 0 in grind arith))) (λ e. cc e)
contains_any xs n false s = or_is (any (eqb n)) (eqb n) refl (λ x ys. refl) xs 0 false (λ e. cc e) (λ e i l. let h = s i 0 (omega arith) l in grind arith)
