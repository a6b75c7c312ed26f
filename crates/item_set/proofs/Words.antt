-- Sets of items, word by word.
use Rattle.std.proofs.Common.{◌≡◌, ◌≢◌, ℕ, ◌+◌, ◌-◌, ◌*◌, ◌/◌, ◌%◌, ◌^◌, ◌<◌, ◌≤◌, ltb, Bool, true, false, cond, not, ◌&&◌, ◌||◌, eqb, List, length, get_or, set, Some, arith}
use mir.Syntax.{w64}
use lib.Count.{count_trailing_zeros}
use Rattle.std.specs.Int.{bit_not}
use Rattle.std.specs.Int.RustNames.{bit_and, bit_or}
use Rattle.std.proofs.lemmas.List.{get_or-set_same, get_or-set_other, get_or_past}
use Rattle.std.proofs.lemmas.Nat.Bits.{bit_at-lt, bit_at_or, bit_at_and, bit_at_not, and_pow, bit_at-pow_same, bit_at-pow_other, bit_at-trailing_zeros}
use Rattle.std.proofs.lemmas.Nat.{pow_below}
use Rattle.item_set.specs.Members.{digit, Lowest}

-- the test for an item in a list of words
abbrev pub inside : List ℕ → ℕ → Bool
inside ws n = digit (get_or ws (n / 64) 0) (n % 64)

-- a word with one bit changed
changed : (ws : List ℕ) (item v : ℕ) (b : Bool) → item / 64 < length ws → digit v (item % 64) ≡ b → ((i : ℕ) → i < 64 → i ≢ item % 64 → digit v i ≡ digit (get_or ws (item / 64) 0) i) →
    (n : ℕ) → inside (set ws (item / 64) v) n ≡ cond (eqb n item) b (inside ws n)
changed ws item v b room here others n =
    let h : n % 64 < 64 = omega arith in
    let o = others (n % 64) h in
    grind (arith, get_or-set_same ws (item / 64) v 0 room, get_or-set_other ws (item / 64) (n / 64) v 0)

pub looked : (w k : ℕ) → not (eqb (bit_and w (2 ^ k)) 0) ≡ digit w k
looked w k = let a = and_pow w k in let b = bit_at-lt w k in grind arith

module _ (ws : List ℕ) (item : ℕ) (room : item / 64 < length ws) (n : ℕ) where
  abbrev word : ℕ
  word = get_or ws (item / 64) 0

  abbrev bit : ℕ
  bit = 2 ^ (item % 64)

  pub inserted : inside (set ws (item / 64) (bit_or word bit)) n ≡ (eqb n item || inside ws n)
  inserted =
      let k = item % 64 in
      let c =
      changed ws item (bit_or word bit) true room (let a = bit_at_or word bit k in let b = bit_at-pow_same k in let l = bit_at-lt word k in grind arith)
      (λ i h ne. let a = bit_at_or word bit i in let b = bit_at-pow_other k i ne in grind arith) n in
      grind arith

  pub removed : inside (set ws (item / 64) (bit_and word (18446744073709551615 - bit))) n ≡ (not (eqb n item) && inside ws n)
  removed =
      let k = item % 64 in
      let small : k < 64 = omega arith in
      let fits : bit < 2 ^ 64 = pow_below k 64 small in
      let c =
      changed ws item (bit_and word (18446744073709551615 - bit)) false room (let a = bit_at_and word (bit_not w64 bit) k in let b = bit_at-pow_same k in let d = bit_at_not w64 bit k fits small in grind arith)
      (λ i h ne. let a = bit_at_and word (bit_not w64 bit) i in let b = bit_at-pow_other k i ne in let d = bit_at_not w64 bit i fits h in let l = bit_at-lt word i in grind arith) n in
      grind arith

-- words united up to a place
abbrev pub United : List ℕ → List ℕ → ℕ → List ℕ → Type 0
United ws others place now = (q : ℕ) → get_or now q 0 ≡ cond (ltb q place) (bit_or (get_or ws q 0) (get_or others q 0)) (get_or ws q 0)

pub united : (ws others now : List ℕ) (place : ℕ) → length ws ≤ place → length others ≤ place → United ws others place now → (n : ℕ) → inside now n ≡ (inside ws n || inside others n)
united ws others now place a b u n =
    let q = n / 64 in
    let e = u q in
    let o = bit_at_or (get_or ws q 0) (get_or others q 0) (n % 64) in
    let k = bit_at-lt (get_or ws q 0) (n % 64) in
    let l = bit_at-lt (get_or others q 0) (n % 64) in
    grind (arith, get_or_past ws q 0, get_or_past others q 0)

-- the first word that is not 0
pub lowest_found : (ws : List ℕ) (i : ℕ) → get_or ws i 0 ≢ 0 → get_or ws i 0 < 2 ^ 64 → ((q : ℕ) → q < i → get_or ws q 0 ≡ 0) → Lowest (inside ws) (Some (64 * i + count_trailing_zeros 64 (get_or ws i 0)))
lowest_found ws i some fits none =
    let w = get_or ws i 0 in
    let t = bit_at-trailing_zeros w64 w (omega arith) fits in
    let k = count_trailing_zeros 64 w in
    let q : (64 * i + k) / 64 ≡ i = let l = t.0 in omega arith in
    let r : (64 * i + k) % 64 ≡ k = let l = t.0 in omega arith in (
      rw (q, r) (let s = t.1 in grind arith),
      (λ n l. let b = none (n / 64) in let z = t.2 (n % 64) in grind arith),
    )
