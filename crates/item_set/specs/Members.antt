-- Which items are in a set of four words.
use Rattle.std.specs.Prelude.{◌≡◌, ℕ, zero, suc, ◌+◌, ◌/◌, ◌%◌, ◌<◌, Bool, true, false, cond, Some, None, Option, ◌==◌, slice_index}
use Rattle.std.specs.Int.{bit_at}
use Rattle.item_set.specs.declared.set.ItemSet.{ItemSet}

-- a binary digit of a number, the lowest being digit 0
abbrev pub digit : ℕ → ℕ → Bool
digit w k = bit_at w k == 1

-- item n is digit n mod 64 of word n div 64; there is no item from 256 on
abbrev pub member : ItemSet → ℕ → Bool
member s n = digit (slice_index s.words (n / 64)) (n % 64)

-- how many numbers below n pass a test
unfoldable pub count_to : ℕ → (ℕ → Bool) → ℕ
count_to zero p = 0
count_to (suc n) p = cond (p 0) 1 0 + count_to n (λ k. p (suc k))

-- the lowest that passes, or none if none does
abbrev pub Lowest : (ℕ → Bool) → Option ℕ → Type 0
Lowest p None = (n : ℕ) → p n ≡ false
Lowest p (Some m) = (p m ≡ true) × ((n : ℕ) → n < m → p n ≡ false)
