-- The law, from what is computed.
use Rattle.std.proofs.Common.{◌≡◌, ℕ, zero, suc, ◌<◌, ◌≤◌, Bool, T, ◌⊎◌, ◌↔◌, List, [], ◌∷◌, ◌++◌, length, get_or, sym, refl, ◌∙◌, subst, inl, inr, arith, length-append, length-take, get_or-take}
use lib.Seq.{take-append_seam, take-append-le, get_or-append_seam}
use Rattle.std.specs.List.{ContainsAt as Has, AllByRecursion}
use Rattle.std.proofs.ByRecursion.{all-has, All-weaker, all_has_itself, has_push, has_append_left}
use Rattle.std.proofs.lemmas.List.{get_or_append_left}
use Rattle.std.proofs.lemmas.Bool.{cases_lt}
use Rattle.horn.specs.Horn.{Clause, Follows, Derivation, has, all_in, follow, HornLaw}
use Rattle.horn.proofs.Rounds.{Least, justified, derives, decided, derivable, has_of_all, inside-rounds}

all_from : {X : Type 0} (P : X → Type 0) (xs : List X) → ((x : X) → Has xs x → P x) → AllByRecursion P xs
all_from P xs f = All-weaker (Has xs) P f xs (all_has_itself xs)

plain : (cs : List Clause) (facts : List ℕ) (d : ℕ) → Least cs facts d ↔ Follows cs facts d
plain cs facts d = (
  (λ l S a f. l S (all_from (λ x. T (S x)) facts a) (all_from (Step S) cs (λ c h b. f c h (λ x m. all-has (λ y. T (S y)) c.body x b m)))),
  (λ l S a f. l S (λ x h. all-has (λ y. T (S y)) facts x a h) (λ c h g. all-has (Step S) cs c f h (all_from (λ x. T (S x)) c.body g))),
)
  where
    Step : (ℕ → Bool) → Clause → Type 0
    Step S c = AllByRecursion (λ x. T (S x)) c.body → T (S c.head)

follows_decided : (cs : List Clause) (facts : List ℕ) (d : ℕ) → T (has (follow cs facts) d) ↔ Follows cs facts d
follows_decided cs facts d =
    ((λ t. (plain cs facts d).0 ((decided cs facts d).0 t)), (λ l. (decided cs facts d).1 ((plain cs facts d).1 l)))

-- latest last
abbrev forward : List ℕ → List ℕ
forward [] = []
forward (x ∷ xs) = forward xs ++ x ∷ []

has-forward : (xs : List ℕ) (x : ℕ) → T (has xs x) → Has (forward xs) x
has-forward [] x t = absurd t
has-forward (y ∷ ys) x t =
    let e : (y ≡ x) ⊎ T (has ys x) = grind arith in
    elim e [ inl p ↦ rw (← p) (has_push (forward ys) y) | inr h ↦ has_append_left (forward ys) (y ∷ []) x (has-forward ys x h) ]

abbrev Stands : List Clause → List ℕ → ℕ → Type 0
Stands cs before x = (c : Clause) × Has cs c × (c.head ≡ x) × ((y : ℕ) → Has c.body y → Has before y)

body_forward : (xs ys : List ℕ) → T (all_in xs ys) → AllByRecursion (Has (forward xs)) ys
body_forward xs [] t = tt
body_forward xs (y ∷ ys) t = (has-forward xs y (grind arith), body_forward xs ys (grind arith))

has_more : {X : Type 0} (y : X) (ys : List X) (x : X) → Has ys x → Has (y ∷ ys) x
has_more y ys x h = (suc h.0, omega arith, h.2)

stands : (cs : List Clause) (xs : List ℕ) (x : ℕ) → T (justified cs xs x) → Stands cs (forward xs) x
stands [] xs x t = absurd t
stands (c ∷ cs) xs x t =
    let e : ((c.head ≡ x) × T (all_in xs c.body)) ⊎ T (justified cs xs x) = grind arith in
    elim e [
      | inl p ↦ (c, (0, omega arith, λ d. refl), p.0, λ y. all-has (Has (forward xs)) c.body y (body_forward xs c.body p.1))
      | inr b ↦ let r = stands cs xs x b in (r.0, has_more c cs r.0 r.1, r.2, r.3)
    ]

push : (cs : List Clause) (ds : List ℕ) (x : ℕ) → Derivation cs ds → Stands cs ds x → Derivation cs (ds ++ x ∷ [])
push cs ds x f s i h =
    elim (cases_lt i (length ds)) [
      | inl l ↦ let k : i ≤ length ds = omega arith in rw (get_or_append_left, take-append-le) (f i l)
      | inr g ↦ let e : i ≡ length ds = omega (arith, length-append ds (x ∷ [])) in rw (e, get_or-append_seam, take-append_seam) s
    ]

derivation : (cs : List Clause) (xs : List ℕ) → T (derives cs xs) → Derivation cs (forward xs)
derivation cs [] t = λ i h. absurd (omega arith)
derivation cs (x ∷ xs) t = push cs (forward xs) x (derivation cs xs (grind arith)) (stands cs xs x (grind arith))

below : (cs : List Clause) (ds : List ℕ) (S : ℕ → Bool) → Derivation cs ds →
    ((c : Clause) → Has cs c → ((x : ℕ) → Has c.body x → T (S x)) → T (S c.head)) →
    (n : ℕ) → n ≤ length ds → (i : ℕ) → i < n → T (S (get_or ds i 0))
below cs ds S f g zero h i l = absurd (omega arith)
below cs ds S f g (suc n) h i l =
    elim (cases_lt i n) [
      | inl k ↦ below cs ds S f g n (omega arith) i k
      | inr k ↦
          let e : i ≡ n = omega arith in
          let s = f n h in
          let at : (x : ℕ) → Has s.0.body x → T (S x) = λ x m.
          let q = s.3 x m in
          let lt : q.0 < n = omega (arith, simp length-take at q.1) in
          subst (λ (z : ℕ). T (S z)) (sym (get_or-take n ds q.0 0 lt) ∙ q.2 0) (below cs ds S f g n (omega arith) q.0 lt) in
          rw (e, ← s.2) (g s.0 s.1 at)
    ]

follows_derived : (cs : List Clause) (d : ℕ) → Follows cs [] d ↔ ((ds : List ℕ) × Derivation cs (ds ++ d ∷ []))
follows_derived cs d = (
  (λ l. let p = (derivable cs d).0 ((plain cs [] d).1 l) in (forward p.0, derivation cs (d ∷ p.0) p.1)),
  (λ p S a f. subst (λ (z : ℕ). T (S z)) (get_or-append_seam p.0 d [] 0) (below cs (p.0 ++ d ∷ []) S p.1 f (length (p.0 ++ d ∷ [])) (omega arith) (length p.0) (simp length-append (omega arith)))),
)

-- what holds of the facts and is handed on by each clause holds of all that follows
pub follows_all : (P : ℕ → Type 0) (cs : List Clause) (facts : List ℕ) → ((x : ℕ) → Has facts x → P x) → ((c : Clause) → Has cs c → ((x : ℕ) → Has c.body x → P x) → P c.head) → (d : ℕ) → Follows cs facts d → P d
follows_all P cs facts f g d l =
    has_of_all P (follow cs facts)
    (inside-rounds (length cs) cs P facts (all_from (λ c. AllByRecursion P c.body → P c.head) cs (λ c m b. g c m (λ x h. all-has P c.body x b h))) (all_from P facts f)) d ((follows_decided cs facts d).1 l)

pub horn_law : HornLaw
horn_law =
    record {
      decided = follows_decided;
      derived = follows_derived;
      grows = λ cs more facts others f g d l S a k. l S (λ x h. a x (g x h)) (λ c h b. k c (f c h) b);
      chained = λ cs facts others f d l S a k. l S (λ x h. f x h S a k) k;
    }
