-- Ground Horn clauses over numbered items: what follows from facts, the same computed, and derivations.
use Rattle.std.specs.Prelude.{◌≡◌, ℕ, zero, suc, ◌<◌, Bool, true, false, cond, not, ◌&&◌, ◌||◌, T, ◌↔◌, List, [], ◌∷◌, ◌++◌, length, take, ◌==◌, slice_index}
use Rattle.std.specs.List.{ContainsAt as Has}

-- the head follows from the whole body
pub record Clause : Type 0 where
  pub body : List ℕ
  pub head : ℕ

-- a set of items, by its test
abbrev pub Set : Type 0
Set = ℕ → Bool

abbrev pub Holds : Set → List ℕ → Type 0
Holds S xs = (x : ℕ) → Has xs x → T (S x)

-- the set holds the head of each clause whose whole body it holds
abbrev pub Closed : List Clause → Set → Type 0
Closed cs S = (c : Clause) → Has cs c → Holds S c.body → T (S c.head)

-- d is in the smallest set that holds the facts and is closed under the clauses: in every such set
abbrev pub Follows : List Clause → List ℕ → ℕ → Type 0
Follows cs facts d = (S : Set) → Holds S facts → Closed cs S → T (S d)

-- the item at each place is the head of a clause whose body stands before that place
abbrev pub Derivation : List Clause → List ℕ → Type 0
Derivation cs ds =
    (i : ℕ) → i < length ds → (c : Clause) × Has cs c × (c.head ≡ slice_index ds i) × ((x : ℕ) → Has c.body x → Has (take i ds) x)

-- The same computed.
abbrev pub has : List ℕ → Set
has [] x = false
has (y ∷ ys) x = let r = has ys x in (y == x) || r

abbrev pub all_in : List ℕ → List ℕ → Bool
all_in s [] = true
all_in s (x ∷ xs) = let r = all_in s xs in has s x && r

-- the head is added, if the whole body is in and the head is not
abbrev pub add : Clause → List ℕ → List ℕ
add c s =
    let new = not (has s c.head) in
    cond (all_in s c.body && new) (c.head ∷ s) s

abbrev pub pass : List Clause → List ℕ → List ℕ
pass [] s = s
pass (c ∷ cs) s = pass cs (add c s)

-- at most k passes, and none after one that adds nothing
abbrev pub rounds : ℕ → List Clause → List ℕ → List ℕ
rounds zero cs s = s
rounds (suc k) cs s =
    let t = pass cs s in
    let r = rounds k cs t in
    cond (length t == length s) s r

-- all that follows, latest first
abbrev pub follow : List Clause → List ℕ → List ℕ
follow cs facts = rounds (length cs) cs facts

pub record HornLaw : Type 0 where
  pub decided : (cs : List Clause) (facts : List ℕ) (d : ℕ) → T (has (follow cs facts) d) ↔ Follows cs facts d
  pub derived : (cs : List Clause) (d : ℕ) → Follows cs [] d ↔ ((ds : List ℕ) × Derivation cs (ds ++ d ∷ []))
  pub grows : (cs more : List Clause) (facts others : List ℕ) → ((c : Clause) → Has cs c → Has more c) → ((x : ℕ) → Has facts x → Has others x) → (d : ℕ) → Follows cs facts d → Follows more others d
  pub chained : (cs : List Clause) (facts others : List ℕ) → ((x : ℕ) → Has others x → Follows cs facts x) → (d : ℕ) → Follows cs others d → Follows cs facts d
