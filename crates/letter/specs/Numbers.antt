-- Numbers as bytes: unsigned LEB128, as in the DWARF standard.
use Rattle.std.specs.Prelude.{◌≡◌, ℕ, zero, suc, ◌+◌, ◌*◌, ◌/◌, ◌%◌, ◌^◌, ◌<◌, ◌≤◌, cond, ◌↔◌, List, [], ◌∷◌, ◌++◌, length, Ok, Err, Result, nat_lt}
use Rattle.std.specs.List.{AllByRecursion}
use Rattle.letter.specs.declared.refusal.Refusal.{Refusal}
use Rattle.letter.specs.Refusals.{Refuses}

-- n in groups of seven bits, lowest first, top bit set on all groups but the last; `more` bounds the groups behind the first
abbrev pub groups : ℕ → ℕ → List ℕ
groups zero n = n ∷ []
groups (suc more) n = let behind = groups more (n / 128) in cond (nat_lt n 128) (n ∷ []) ((128 + n % 128) ∷ behind)

-- the bytes of n: it never has more than n groups behind the first. `EncodingLaw` below says the same without that bound
unfoldable pub leb : ℕ → List ℕ
leb n = groups n n

-- the number that groups spell: seven bits of each, lowest first
abbrev pub value_of : List ℕ → ℕ
value_of [] = 0
value_of (g ∷ gs) = g % 128 + 128 * value_of gs

-- bytes with their top bit set
abbrev pub TopBitSet : List ℕ → Type 0
TopBitSet gs = AllByRecursion (λ g. (128 ≤ g) × (g < 256)) gs

-- groups with their top bit set, and a last one without, which is not 0 if any stands before it
pub record Whole (front : List ℕ) (last : ℕ) : Type 0 where
  pub continued : TopBitSet front
  pub ends : last < 128
  pub shortest : 0 < length front → 0 < last

-- the groups are whole and spell n
pub record Encodes (bytes : List ℕ) (n : ℕ) : Type 0 where
  pub front : List ℕ
  pub last : ℕ
  pub bytes_are : bytes ≡ front ++ last ∷ []
  pub whole : Whole front last
  pub value : value_of bytes ≡ n

-- `leb n` is the only list of groups that is whole and spells n
abbrev pub EncodingLaw : Type 0
EncodingLaw = (bytes : List ℕ) (n : ℕ) → (bytes ≡ leb n) ↔ Encodes bytes n

-- the bytes are those of n, of at most three groups of seven bits, and then the rest
pub record NumberThen (bytes : List ℕ) (n : ℕ) (rest : List ℕ) : Type 0 where
  pub small : n < 2 ^ 21
  pub bytes_are : bytes ≡ leb n ++ rest

-- the bytes are a proper front of the bytes of such a number
pub record Cut (bytes : List ℕ) : Type 0 where
  pub number : ℕ
  pub missing : List ℕ
  pub nonempty : 0 < length missing
  pub small : number < 2 ^ 21
  pub bytes_are : bytes ++ missing ≡ leb number

abbrev pub NumberAnswer : Type 0
NumberAnswer = Result (ℕ × List ℕ) Refusal

-- what reading a number answers; there is only one such answer
pub record NumberRead (bytes : List ℕ) (answer : NumberAnswer) : Type 0 where
  pub read : (n : ℕ) (rest : List ℕ) → (answer ≡ Ok (n, rest)) ↔ NumberThen bytes n rest
  pub cut : Refuses answer 41 ↔ Cut bytes
  pub malformed : ((n : ℕ) (rest : List ℕ) → ¬ NumberThen bytes n rest) → ¬ Cut bytes → Refuses answer 42

-- an answer with what its slice holds
abbrev pub with_contents : {A R : Type 0} → (R → List ℕ) → Result (A × R) Refusal → Result (A × List ℕ) Refusal
with_contents now (Ok p) = Ok (p.0, now p.1)
with_contents now (Err e) = Err e
