-- Names and words are read as they are written.
use Rattle.std.proofs.Common.{◌≡◌, ℕ, Bool, true, false, cond, T, List, [], ◌∷◌, ◌++◌, Some, None, Option, refl, ap, subst, arith}
use Rattle.std.specs.List.{AllByRecursion}
use Rattle.book.specs.Grammar.{name_byte, NameEnds, Name, GoodName}
use Rattle.book.specs.Reading.{Parsed, then, run, name_start, name_in, word_in}

-- what follows a name does not go on with it
abbrev pub Stop : List ℕ → Type 0
Stop bytes = NameEnds bytes

pub then_some : {A B : Type 0} (p : Parsed A) (f : A → List ℕ → Parsed B) (q : B × List ℕ) → then p f ≡ Some q → (a : A) × (rest : List ℕ) × (p ≡ Some (a, rest)) × (f a rest ≡ Some q)
then_some None f q e = absurd cc
then_some (Some p) f q e = (p.0, p.1, refl, e)

pub then_at : {A B : Type 0} {a : A} {rest : List ℕ} (p : Parsed A) (f : A → List ℕ → Parsed B) → p ≡ Some (a, rest) → then p f ≡ f a rest
then_at {a = a} {rest = rest} p f e = ap (λ o. then o f) e

pub some_same : {A : Type 0} {x y : A} → ◌≡◌ {A = Option A} (Some x) (Some y) → x ≡ y
some_same e = cc

pub run_at : (n rest : List ℕ) → AllByRecursion (λ c. T (name_byte c)) n → Stop rest → run (n ++ rest) ≡ (n, rest)
run_at [] [] h s = refl
run_at [] (b ∷ bs) h s = rw s refl
run_at (c ∷ cs) rest h s = let ih = run_at cs rest h.1 s in let t : name_byte c ≡ true = grind arith in rw (t, ih) refl

pub run_whole : (bytes : List ℕ) → bytes ≡ (run bytes).0 ++ (run bytes).1
run_whole [] = refl
run_whole (b ∷ bs) = let ih = run_whole bs in grind arith

run_good : (bytes : List ℕ) → AllByRecursion (λ c. T (name_byte c)) (run bytes).0
run_good [] = tt
run_good (b ∷ bs) = let ih = run_good bs in grind arith

run_stop : (bytes : List ℕ) → Stop (run bytes).1
run_stop [] = tt
run_stop (b ∷ bs) = let ih = run_stop bs in grind arith

good_is : (n : Name) → AllByRecursion (λ c. T (name_byte c)) n → name_start n ≡ true → GoodName n
good_is [] h e = absurd cc
good_is (b ∷ bs) h e = ((grind arith), h.1, (grind arith))

is_good : (n : Name) → GoodName n → name_start n ≡ true
is_good [] g = absurd g
is_good (b ∷ bs) g = let l = g.0 in let k = g.2 in grind arith

good_bytes : (n : Name) → GoodName n → AllByRecursion (λ c. T (name_byte c)) n
good_bytes [] g = absurd g
good_bytes (b ∷ bs) g = ((grind arith), g.1)

pub name_at : (n rest : List ℕ) → GoodName n → Stop rest → name_in (n ++ rest) ≡ Some (n, rest)
unfolding name_in
name_at n rest g s = let e = run_at n rest (good_bytes n g) s in rw (e, is_good n g) refl

pub name_of : (bytes n rest : List ℕ) → name_in bytes ≡ Some (n, rest) → (bytes ≡ n ++ rest) × GoodName n × Stop rest
unfolding name_in
name_of bytes n rest e = go (name_start (run bytes).0) refl e
  where
    go : (t : Bool) → name_start (run bytes).0 ≡ t → cond {A = Parsed Name} t (Some (run bytes)) None ≡ Some (n, rest) → (bytes ≡ n ++ rest) × GoodName n × Stop rest
    go true g f = subst (λ q. (bytes ≡ q.0 ++ q.1) × GoodName q.0 × Stop q.1) (some_same f) (run_whole bytes, good_is (run bytes).0 (run_good bytes) g, run_stop bytes)
    go false g f = absurd cc

pub word_at : (w rest : List ℕ) → word_in w (w ++ rest) ≡ Some (tt, rest)
unfolding word_in
word_at [] rest = refl
word_at (w ∷ ws) rest = let ih = word_at ws rest in grind arith

pub word_of : (w bytes rest : List ℕ) → word_in w bytes ≡ Some (tt, rest) → bytes ≡ w ++ rest
unfolding word_in
word_of [] bytes rest e = ap (λ q. q.1) (some_same e)
word_of (w ∷ ws) [] rest e = absurd cc
word_of (w ∷ ws) (b ∷ bs) rest e = let ih = word_of ws bs rest in grind arith
