-- Where a number ends among bytes, and which bytes are a number's.
use Rattle.std.proofs.Common.{◌≡◌, ℕ, zero, suc, ◌+◌, ◌*◌, ◌/◌, ◌%◌, ◌^◌, ◌<◌, ◌≤◌, List, [], ◌∷◌, ◌++◌, length, sym, refl, ap, ◌∙◌, inl, inr, ⊎_elim, arith}
use Rattle.std.proofs.lemmas.Bool.{cases_lt, lt-ltb, le-ltb}
use Rattle.letter.specs.Numbers.{groups, leb, value_of, TopBitSet, Whole, EncodingLaw}

-- enough groups are enough
groups_enough : (k m n : ℕ) → n ≤ k → n ≤ m → groups k n ≡ groups m n
groups_enough zero zero n h g = refl
groups_enough zero (suc m) n h g = let e : n < 128 = omega arith in rw (lt-ltb n 128 e)
groups_enough (suc k) zero n h g = let e : n < 128 = omega arith in rw (lt-ltb n 128 e)
groups_enough (suc k) (suc m) n h g =
    elim (cases_lt n 128) [
      | inl l ↦ rw (lt-ltb n 128 l)
      | inr l ↦ rw (le-ltb n 128 l) (ap (λ r. (128 + n % 128) ∷ r) (groups_enough k m (n / 128) (omega arith) (omega arith)))
    ]

pub leb_last : (n : ℕ) → n < 128 → leb n ≡ n ∷ []
unfolding leb
leb_last zero h = refl
leb_last (suc n) h = rw (lt-ltb (suc n) 128 h)

pub leb_more : (n : ℕ) → 128 ≤ n → leb n ≡ (128 + n % 128) ∷ leb (n / 128)
unfolding leb
leb_more zero h = absurd (omega arith)
leb_more (suc n) h = rw (le-ltb (suc n) 128 h) (ap (λ r. (128 + suc n % 128) ∷ r) (groups_enough n (suc n / 128) (suc n / 128) (omega arith) (omega arith)))

value_pos : (front : List ℕ) (last : ℕ) → 0 < last → last < 128 → 0 < value_of (front ++ last ∷ [])
value_pos [] last h l = omega arith
value_pos (g ∷ gs) last h l = let ih = value_pos gs last h l in omega arith

tail_whole : (g : ℕ) (gs : List ℕ) (last : ℕ) → Whole (g ∷ gs) last → Whole gs last
tail_whole g gs last w = record { continued = w.continued.1; ends = w.ends; shortest = λ h. w.shortest (omega arith) }

-- a whole number is the bytes of its value
pub leb_of : (front : List ℕ) (last : ℕ) → Whole front last → leb (value_of (front ++ last ∷ [])) ≡ front ++ last ∷ []
leb_of [] last w =
    let l = w.ends in
    let e : last % 128 + 128 * 0 ≡ last = omega arith in
    rw e (leb_last last l)
leb_of (g ∷ gs) last w =
    let l = w.ends in
    let p = value_pos gs last (w.shortest (omega arith)) l in
    let v = value_of (gs ++ last ∷ []) in
    let m = w.continued.0 in
    let n : ℕ = g % 128 + 128 * v in
    let big : 128 ≤ n = omega arith in
    let a : 128 + n % 128 ≡ g = omega arith in
    let b : n / 128 ≡ v = omega arith in
    leb_more n big ∙ rw (a, b) (ap (λ r. g ∷ r) (leb_of gs last (tail_whole g gs last w)))

-- the bytes of a number are a whole number of its value
pub record Shape (n : ℕ) : Type 0 where
  pub front : List ℕ
  pub last : ℕ
  pub spelled : leb n ≡ front ++ last ∷ []
  pub whole : Whole front last
  pub value : value_of (front ++ last ∷ []) ≡ n

one_group : (n : ℕ) → n < 128 → Shape n
one_group n l =
    record {
      front = [];
      last = n;
      spelled = leb_last n l;
      whole = record { continued = tt; ends = l; shortest = λ h. absurd (omega arith) };
      value = omega arith;
    }

more_groups : (n : ℕ) → 128 ≤ n → Shape (n / 128) → Shape n
more_groups n l s =
    let v = s.value in
    let w = s.whole in
    record {
      front = (128 + n % 128) ∷ s.front;
      last = s.last;
      spelled = leb_more n l ∙ ap (λ r. (128 + n % 128) ∷ r) s.spelled;
      whole = record { continued = (omega arith, w.continued); ends = w.ends; shortest = λ h. positive s.front s.last w (omega arith) };
      value = omega arith;
    }
  where
    positive : (front : List ℕ) (last : ℕ) → Whole front last → 0 < value_of (front ++ last ∷ []) → 0 < last
    positive [] last w h = let e = w.ends in omega arith
    positive (g ∷ gs) last w h = w.shortest (omega arith)

shape_by : (most n : ℕ) → n ≤ most → Shape n
shape_by zero n h = one_group n (omega arith)
shape_by (suc most) n h =
    elim (cases_lt n 128) [ inl l ↦ one_group n l | inr l ↦ more_groups n l (shape_by most (n / 128) (omega arith)) ]

pub leb_shape : (n : ℕ) → Shape n
leb_shape n = shape_by n n (omega arith)

pub encoding_law : EncodingLaw
encoding_law bytes n = (
  (λ e. let s = leb_shape n in record { front = s.front; last = s.last; bytes_are = e ∙ s.spelled; whole = s.whole; value = ap value_of (e ∙ s.spelled) ∙ s.value }),
  (λ s. s.bytes_are ∙ sym (leb_of s.front s.last s.whole) ∙ ap leb (ap value_of (sym s.bytes_are) ∙ s.value)),
)

-- three groups spell what is below 2 ^ 21, and more spell more
pub few_below : (front : List ℕ) (last : ℕ) → last < 128 → length front ≤ 2 → value_of (front ++ last ∷ []) < 2 ^ 21
few_below [] last h k = omega arith
few_below (a ∷ []) last h k = omega arith
few_below (a ∷ b ∷ []) last h k = omega arith
few_below (a ∷ b ∷ c ∷ cs) last h k = absurd (omega arith)

pub many_above : (front : List ℕ) (last : ℕ) → 0 < last → last < 128 → 3 ≤ length front → 2 ^ 21 ≤ value_of (front ++ last ∷ [])
many_above [] last p h k = absurd (omega arith)
many_above (a ∷ []) last p h k = absurd (omega arith)
many_above (a ∷ b ∷ []) last p h k = absurd (omega arith)
many_above (a ∷ b ∷ c ∷ cs) last p h k = let v = value_pos cs last p h in omega arith

pub few_groups : (n : ℕ) → n < 2 ^ 21 → length (leb_shape n).front ≤ 2
few_groups n small =
    let s = leb_shape n in
    let w = s.whole in
    let v = s.value in
    ⊎_elim (λ l. omega arith) (λ l. absurd (let m = many_above s.front s.last (w.shortest (omega arith)) w.ends l in omega arith)) (cases_lt (length s.front) 3)

-- the first group without a mark is where a number ends
pub same_end : (a b : List ℕ) (x y : ℕ) (r s : List ℕ) → TopBitSet a → TopBitSet b → x < 128 → y < 128 → a ++ x ∷ r ≡ b ++ y ∷ s → (a ≡ b) × (x ≡ y) × (r ≡ s)
same_end [] [] x y r s ma mb hx hy e = (refl, (cc), (cc))
same_end [] (b ∷ bs) x y r s ma mb hx hy e = let k : x ≡ b = cc in absurd (let m = mb.0 in omega arith)
same_end (a ∷ as') [] x y r s ma mb hx hy e = let k : a ≡ y = cc in absurd (let m = ma.0 in omega arith)
same_end (a ∷ as') (b ∷ bs) x y r s ma mb hx hy e =
    let k : a ≡ b = cc in
    let t : as' ++ x ∷ r ≡ bs ++ y ∷ s = cc in
    let ih = same_end as' bs x y r s ma.1 mb.1 hx hy t in
    let p = ih.0 in
    ((cc), ih.1, ih.2)

-- groups with their top bit set all stand before that end
pub longer_front : (a b : List ℕ) (x : ℕ) (r s : List ℕ) → TopBitSet a → x < 128 → a ++ s ≡ b ++ x ∷ r → length a ≤ length b
longer_front [] b x r s ma hx e = omega arith
longer_front (a ∷ as') [] x r s ma hx e = let k : a ≡ x = cc in absurd (let m = ma.0 in omega arith)
longer_front (a ∷ as') (b ∷ bs) x r s ma hx e =
    let t : as' ++ s ≡ bs ++ x ∷ r = cc in
    let ih = longer_front as' bs x r s ma.1 hx t in
    omega arith
