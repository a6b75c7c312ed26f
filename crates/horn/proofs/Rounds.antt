-- What is computed is closed and stays inside every closed set; and derivations, latest first.
use Rattle.std.proofs.Common.{◌≡◌, ℕ, zero, suc, ◌+◌, ◌<◌, ◌≤◌, Bool, true, false, cond, ◌&&◌, ◌||◌, T, eqb, ◌⊎◌, ◌↔◌, List, [], ◌∷◌, length, refl, inl, inr, arith}
use Rattle.std.specs.List.{AllByRecursion}
use Rattle.horn.specs.Horn.{Clause, has, all_in, add, pass, rounds, follow}

-- the head of each clause has the property if the whole body has it
abbrev pub Closes : List Clause → (ℕ → Type 0) → Type 0
Closes cs P = AllByRecursion (λ c. AllByRecursion P c.body → P c.head) cs

abbrev pub Least : List Clause → List ℕ → ℕ → Type 0
Least cs facts d = (S : ℕ → Bool) → AllByRecursion (λ x. T (S x)) facts → Closes cs (λ x. T (S x)) → T (S d)

-- x is the head of a clause whose body stands in the list
abbrev pub justified : List Clause → List ℕ → ℕ → Bool
justified [] xs x = false
justified (c ∷ cs) xs x =
    let r = justified cs xs x in
    let b = all_in xs c.body in
    (eqb c.head x && b) || r

-- a derivation, latest first
abbrev pub derives : List Clause → List ℕ → Bool
derives cs [] = true
derives cs (x ∷ xs) = let r = derives cs xs in justified cs xs x && r

abbrev In : List ℕ → ℕ → Type 0
In s x = T (has s x)

pub has_of_all : (P : ℕ → Type 0) (s : List ℕ) → AllByRecursion P s → (x : ℕ) → T (has s x) → P x
has_of_all P [] a x t = absurd t
has_of_all P (y ∷ ys) a x t = let ih = has_of_all P ys a.1 x in grind arith

all_of_has : (P : ℕ → Type 0) (s : List ℕ) → ((x : ℕ) → T (has s x) → P x) → AllByRecursion P s
all_of_has P [] f = tt
all_of_has P (y ∷ ys) f = (f y (grind arith), all_of_has P ys (λ x t. f x (grind arith)))

body_inside : (P : ℕ → Type 0) (s xs : List ℕ) → AllByRecursion P s → T (all_in s xs) → AllByRecursion P xs
body_inside P s [] a t = tt
body_inside P s (x ∷ xs) a t = (has_of_all P s a x (grind arith), body_inside P s xs a (grind arith))

all_in_of_all : (s xs : List ℕ) → AllByRecursion (In s) xs → T (all_in s xs)
all_in_of_all s [] a = tt
all_in_of_all s (x ∷ xs) a = let ih = all_in_of_all s xs a.1 in grind arith

-- a pass only adds
grow : (cs : List Clause) (s : List ℕ) (x : ℕ) → T (has s x) → T (has (pass cs s) x)
grow [] s x t = t
grow (c ∷ cs) s x t = grow cs (add c s) x (grind arith)

longer : (cs : List Clause) (s : List ℕ) → length s ≤ length (pass cs s)
longer [] s = omega arith
longer (c ∷ cs) s = let ih = longer cs (add c s) in grind arith

grow_rounds : (k : ℕ) (cs : List Clause) (s : List ℕ) (x : ℕ) → T (has s x) → T (has (rounds k cs s) x)
grow_rounds zero cs s x t = t
grow_rounds (suc k) cs s x t = let ih = grow_rounds k cs (pass cs s) x (grow cs s x t) in grind arith

-- a pass stays inside each closed set
inside : (cs : List Clause) (P : ℕ → Type 0) (s : List ℕ) → Closes cs P → AllByRecursion P s → AllByRecursion P (pass cs s)
inside [] P s f a = a
inside (c ∷ cs) P s f a = inside cs P (add c s) f.1 (let b = body_inside P s c.body a in grind arith)

pub inside-rounds : (k : ℕ) (cs : List Clause) (P : ℕ → Type 0) (s : List ℕ) → Closes cs P → AllByRecursion P s → AllByRecursion P (rounds k cs s)
inside-rounds zero cs P s f a = a
inside-rounds (suc k) cs P s f a = let ih = inside-rounds k cs P (pass cs s) f (inside cs P s f a) in grind arith

-- the clauses whose head is missing, counted
abbrev missing : List Clause → List ℕ → ℕ
missing [] s = 0
missing (c ∷ cs) s = cond (has s c.head) 0 1 + missing cs s

missing_mono : (cs : List Clause) (s t : List ℕ) → ((x : ℕ) → T (has s x) → T (has t x)) → missing cs t ≤ missing cs s
missing_mono [] s t f = omega arith
missing_mono (c ∷ cs) s t f = let ih = missing_mono cs s t f in let h = f c.head in grind arith

missing_at_most : (cs : List Clause) (s : List ℕ) → missing cs s ≤ length cs
missing_at_most [] s = omega arith
missing_at_most (c ∷ cs) s = let ih = missing_at_most cs s in grind arith

none_missing : (cs : List Clause) (s : List ℕ) → missing cs s ≤ 0 → Closes cs (In s)
none_missing [] s h = tt
none_missing (c ∷ cs) s h = ((λ _. grind arith), none_missing cs s (omega arith))

-- a pass finds the set closed, and leaves it, or fewer heads are missing after it
abbrev Progress : List Clause → List ℕ → Type 0
Progress cs s = ((pass cs s ≡ s) × Closes cs (In s)) ⊎ ((missing cs (pass cs s) < missing cs s) × (length s < length (pass cs s)))

progress : (cs : List Clause) (s : List ℕ) → Progress cs s
progress [] s = inl (refl, tt)
progress (c ∷ cs) s =
    let h = c.head in
    let ih = progress cs s in
    let g = grow cs s h in
    let a = all_in_of_all s c.body in
    let l = longer cs (h ∷ s) in
    let new : T (has (pass cs (h ∷ s)) h) = grow cs (h ∷ s) h (grind arith) in
    let m = missing_mono cs s (pass cs (h ∷ s)) (λ x t. grow cs (h ∷ s) x (grind arith)) in
    grind arith

rounds_same : (k : ℕ) (cs : List Clause) (s : List ℕ) → pass cs s ≡ s → rounds (suc k) cs s ≡ s
rounds_same k cs s e = grind arith

rounds_more : (k : ℕ) (cs : List Clause) (s : List ℕ) → length s < length (pass cs s) → rounds (suc k) cs s ≡ rounds k cs (pass cs s)
rounds_more k cs s l = grind arith

closed_after : (k : ℕ) (cs : List Clause) (s : List ℕ) → missing cs s ≤ k → Closes cs (In (rounds k cs s))
closed_after zero cs s h = none_missing cs s h
closed_after (suc k) cs s h =
    elim (progress cs s) [
      | inl p ↦ let e = rounds_same k cs s p.0 in rw e p.1
      | inr p ↦ let e = rounds_more k cs s p.1 in rw e (closed_after k cs (pass cs s) (omega arith))
    ]

pub decided : (cs : List Clause) (facts : List ℕ) (d : ℕ) → T (has (follow cs facts) d) ↔ Least cs facts d
decided cs facts d =
    let L = follow cs facts in (
      (λ t S a f. has_of_all (λ x. T (S x)) L (inside-rounds (length cs) cs (λ x. T (S x)) facts f a) d t),
      (λ l. l (has L) (all_of_has (In L) facts (grow_rounds (length cs) cs facts)) (closed_after (length cs) cs facts (missing_at_most cs facts))),
    )

-- derivations
abbrev Backs : List Clause → Clause → Type 0
Backs cs c = (xs : List ℕ) → T (all_in xs c.body) → T (justified cs xs c.head)

backs_more : (c : Clause) (cs ds : List Clause) → AllByRecursion (Backs cs) ds → AllByRecursion (Backs (c ∷ cs)) ds
backs_more c cs [] a = tt
backs_more c cs (d ∷ ds) a = ((λ xs t. let b = a.0 xs t in grind arith), backs_more c cs ds a.1)

backs : (cs : List Clause) → AllByRecursion (Backs cs) cs
backs [] = tt
backs (c ∷ cs) = ((λ xs t. grind arith), backs_more c cs cs (backs cs))

derives-pass : (cs ds : List Clause) (s : List ℕ) → AllByRecursion (Backs cs) ds → T (derives cs s) → T (derives cs (pass ds s))
derives-pass cs [] s a t = t
derives-pass cs (d ∷ ds) s a t = derives-pass cs ds (add d s) a.1 (let b = a.0 s in grind arith)

derives-rounds : (k : ℕ) (cs : List Clause) (s : List ℕ) → T (derives cs s) → T (derives cs (rounds k cs s))
derives-rounds zero cs s t = t
derives-rounds (suc k) cs s t = let ih = derives-rounds k cs (pass cs s) (derives-pass cs cs s (backs cs) t) in grind arith

cut : (cs : List Clause) (s : List ℕ) (d : ℕ) → T (derives cs s) → T (has s d) → (xs : List ℕ) × T (derives cs (d ∷ xs))
cut cs [] d t h = absurd h
cut cs (y ∷ ys) d t h =
    let e : (y ≡ d) ⊎ T (has ys d) = grind arith in
    elim e [ inl p ↦ (ys, rw (← p) t) | inr g ↦ cut cs ys d (grind arith) g ]

justified-inside : (cs : List Clause) (P : ℕ → Type 0) (xs : List ℕ) (x : ℕ) → Closes cs P → AllByRecursion P xs → T (justified cs xs x) → P x
justified-inside [] P xs x f a t = absurd t
justified-inside (c ∷ cs) P xs x f a t =
    let b = body_inside P xs c.body a in
    let ih = justified-inside cs P xs x f.1 a in
    grind arith

derives-inside : (cs : List Clause) (P : ℕ → Type 0) (s : List ℕ) → Closes cs P → T (derives cs s) → AllByRecursion P s
derives-inside cs P [] f t = tt
derives-inside cs P (x ∷ xs) f t =
    let a = derives-inside cs P xs f (grind arith) in
    (justified-inside cs P xs x f a (grind arith), a)

pub derivable : (cs : List Clause) (d : ℕ) → Least cs [] d ↔ ((xs : List ℕ) × T (derives cs (d ∷ xs)))
derivable cs d = (
  (λ l. cut cs (follow cs []) d (derives-rounds (length cs) cs [] tt) ((decided cs [] d).1 l)),
  (λ p S a f. (derives-inside cs (λ x. T (S x)) (d ∷ p.0) f p.1).0),
)
