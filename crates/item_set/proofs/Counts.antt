-- How many items are in a list of words.
use Rattle.std.proofs.Common.{◌≡◌, ℕ, zero, suc, ◌+◌, ◌*◌, ◌/◌, ◌%◌, ◌^◌, ◌<◌, ◌≤◌, Bool, List, get_or, refl, ap, arith}
use lib.Count.{ones, ones_step}
use Rattle.std.proofs.lemmas.Nat.Bits.{bit_at-suc, bit_at-lt}
use Rattle.item_set.specs.Members.{digit, count_to}
use Rattle.item_set.proofs.Words.{inside}

count_agree : (n : ℕ) (p q : ℕ → Bool) → ((k : ℕ) → k < n → p k ≡ q k) → count_to n p ≡ count_to n q
unfolding count_to
count_agree zero p q h = refl
count_agree (suc n) p q h = let e = count_agree n (λ k. p (suc k)) (λ k. q (suc k)) (λ k l. h (suc k) (omega arith)) in let f = h 0 (omega arith) in grind arith

count_split : (m n : ℕ) (p : ℕ → Bool) → count_to (m + n) p ≡ count_to m p + count_to n (λ k. p (m + k))
unfolding count_to
count_split zero n p = let a = count_agree n p (λ k. p (0 + k)) (λ k l. let z : k ≡ 0 + k = omega arith in ap p z) in let z : 0 + n ≡ n = omega arith in rw z (omega (arith, a))
count_split (suc m) n p =
    let e = count_split m n (λ k. p (suc k)) in
    let a = count_agree n (λ k. p (suc (m + k))) (λ k. p (suc m + k)) (λ k l. let z : suc (m + k) ≡ suc m + k = omega arith in ap p z) in
    let z : suc m + n ≡ suc (m + n) = omega arith in
    rw z (omega (arith, e, a))

ones_count : (d w : ℕ) → w < 2 ^ d → ones w ≡ count_to d (digit w)
unfolding count_to ones
ones_count zero w h = let z : w ≡ 0 = omega arith in rw z refl
ones_count (suc d) w h =
    let half : w / 2 < 2 ^ d = grind arith in
    let e = ones_count d (w / 2) half in
    let f = ones_step w in
    let g = count_agree d (λ k. digit w (suc k)) (digit (w / 2)) (λ k l. rw (bit_at-suc w k) refl) in
    let b = bit_at-lt w 0 in
    grind arith

pub count_le : (n : ℕ) (p : ℕ → Bool) → count_to n p ≤ n
unfolding count_to
count_le zero p = omega arith
count_le (suc n) p = let e = count_le n (λ k. p (suc k)) in grind arith

pub count_more : (ws : List ℕ) (i : ℕ) → get_or ws i 0 < 2 ^ 64 → count_to (64 * (i + 1)) (inside ws) ≡ count_to (64 * i) (inside ws) + ones (get_or ws i 0)
count_more ws i h =
    let a = count_agree 64 (λ k. inside ws (64 * i + k)) (digit (get_or ws i 0)) (λ k l. let q : (64 * i + k) / 64 ≡ i = omega arith in let r : (64 * i + k) % 64 ≡ k = omega arith in rw (q, r) refl) in
    let z : 64 * (i + 1) ≡ 64 * i + 64 = omega arith in
    rw z (omega (arith, a, count_split (64 * i) 64 (inside ws), ones_count 64 (get_or ws i 0) h))
