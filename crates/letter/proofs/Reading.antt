-- What reading a number answers, by where the number ends.
use Rattle.std.proofs.Common.{◌≡◌, ℕ, ◌+◌, ◌*◌, ◌%◌, ◌^◌, ◌<◌, ◌≤◌, zero, suc, List, [], ◌∷◌, ◌++◌, reverse, length, get_or, take, drop, bit_and, bit_or, Fits, w8, Ok, Err, Result, sym, refl, ap, ◌∙◌, subst, append_assoc, arith, length-append}
use Rattle.std.proofs.lemmas.List.{append-nil, length-take-le, take-append-drop, take_all, drop_more, reverse-append}
use Rattle.std.proofs.lemmas.List.Sums.{fold_push}
use Rattle.std.proofs.lemmas.Grind.{common_steps}
use Rattle.std.specs.List.{fold}
use Rattle.letter.specs.declared.refusal.Refusal.TheVariants.{CutShort, Malformed}
use Rattle.letter.specs.Numbers.{leb, value_of, TopBitSet, Whole, NumberThen, Cut, NumberRead}
use Rattle.letter.proofs.Groups.{leb_of, leb_shape, few_below, many_above, few_groups, same_end, longer_front}

-- what the bytes of a number and what follows them agree with
follows : (n : ℕ) (rest : List ℕ) → leb n ++ rest ≡ (leb_shape n).front ++ (leb_shape n).last ∷ rest
follows n rest = let s = leb_shape n in ap (λ b. b ++ rest) s.spelled ∙ append_assoc s.front (s.last ∷ []) rest

pub ok_parts : {A B E : Type 0} (a c : A) (b d : B) → ◌≡◌ {A = Result (A × B) E} (Ok (a, b)) (Ok (c, d)) → (a ≡ c) × (b ≡ d)
ok_parts {A} {B} a c b d e = let p : ◌≡◌ {A = A × B} (a, b) (c, d) = cc in (ap (λ q. q.0) p, ap (λ q. q.1) p)

-- a whole number of at most three groups
module _ (front : List ℕ) (last : ℕ) (rest : List ℕ) (whole : Whole front last) (few : length front ≤ 2) where
  same : (n : ℕ) (r more : List ℕ) → leb n ++ r ≡ (front ++ last ∷ rest) ++ more → (n ≡ value_of (front ++ last ∷ [])) × (r ≡ rest ++ more)
  same n r more e =
      let s = leb_shape n in
      let w = s.whole in
      let q = same_end s.front front s.last last r (rest ++ more) w.continued whole.continued w.ends whole.ends (sym (follows n r) ∙ e ∙ append_assoc front (last ∷ rest) more) in
      let a = q.0 in
      let b = q.1 in
      let v = s.value in
      ((cc), q.2)

  number : NumberThen (front ++ last ∷ rest) (value_of (front ++ last ∷ [])) rest
  number =
      record {
        small = few_below front last whole.ends few;
        bytes_are = sym (append_assoc front (last ∷ []) rest) ∙ ap (λ b. b ++ rest) (sym (leb_of front last whole));
      }

  pub reads_whole : NumberRead (front ++ last ∷ rest) (Ok (value_of (front ++ last ∷ []), rest))
  reads_whole =
      record {
        read = λ n r. (
          (λ e. let p = ok_parts (value_of (front ++ last ∷ [])) n rest r e in rw (← p.0, ← p.1) number),
          (λ q. let p = same n r [] (sym q.bytes_are ∙ sym (append-nil (front ++ last ∷ rest))) in let a = p.0 in let b = p.1 ∙ append-nil rest in cc),
        );
        cut = (
          (λ e. absurd e),
          (λ c. absurd (let p = same c.number [] c.missing (append-nil (leb c.number) ∙ sym c.bytes_are) in let k = c.nonempty in omega (arith, ap length p.1, length-append rest c.missing))),
        );
        malformed = λ f g. absurd (f _ _ number);
      }

-- the bytes of a number read as that number
pub reads_leb : (n : ℕ) (rest : List ℕ) → n < 2 ^ 21 → NumberRead (leb n ++ rest) (Ok (n, rest))
reads_leb n rest small =
    let s = leb_shape n in
    rw follows (subst (λ v. NumberRead (s.front ++ s.last ∷ rest) (Ok (v, rest))) s.value (reads_whole s.front s.last rest s.whole (few_groups n small)))

-- groups with their top bit set, fewer than three, and no more bytes
module _ (bytes : List ℕ) (continued : TopBitSet bytes) (few : length bytes ≤ 2) where
  one_more : Whole bytes 1
  one_more = record { continued = continued; ends = omega arith; shortest = λ h. omega arith }

  cut_here : Cut bytes
  cut_here =
      record {
        number = value_of (bytes ++ 1 ∷ []);
        missing = 1 ∷ [];
        nonempty = omega arith;
        small = few_below bytes 1 (omega arith) few;
        bytes_are = sym (leb_of bytes 1 one_more);
      }

  none_whole : (n : ℕ) (rest : List ℕ) → NumberThen bytes n rest → ⊥
  none_whole n rest q =
      let s = leb_shape n in
      let l = longer_front bytes s.front s.last rest [] continued s.whole.ends (append-nil bytes ∙ q.bytes_are ∙ follows n rest) in
      omega (arith, ap length (q.bytes_are ∙ follows n rest), length-append s.front (s.last ∷ rest))

  pub reads_cut : NumberRead bytes (Err CutShort)
  reads_cut =
      record {
        read = λ n r. ((λ e. cc), (λ q. absurd (none_whole n r q)));
        cut = ((λ e. cut_here), (λ c. refl));
        malformed = λ f g. absurd (g cut_here);
      }

-- bytes that neither begin with a number nor end inside one
pub reads_neither : (bytes : List ℕ) → ((n : ℕ) (rest more : List ℕ) → n < 2 ^ 21 → leb n ++ rest ≡ bytes ++ more → ⊥) → NumberRead bytes (Err Malformed)
reads_neither bytes never =
    record {
      read = λ n r. ((λ e. cc), (λ q. absurd (never n r [] q.small (sym q.bytes_are ∙ sym (append-nil bytes)))));
      cut = ((λ e. absurd (omega arith)), (λ c. absurd (never c.number [] c.missing c.small (append-nil (leb c.number) ∙ sym c.bytes_are))));
      malformed = λ f g. refl;
    }

pub reads_padded : (front rest : List ℕ) → TopBitSet front → 0 < length front → NumberRead (front ++ 0 ∷ rest) (Err Malformed)
reads_padded front rest continued some =
    reads_neither (front ++ 0 ∷ rest) λ n r more small e.
    let s = leb_shape n in
    let w = s.whole in
    let q = same_end s.front front s.last 0 r (rest ++ more) w.continued continued w.ends (omega arith) (sym (follows n r) ∙ e ∙ append_assoc front (0 ∷ rest) more) in
    let l = w.shortest in
    omega (arith, ap length q.0, q.1)

pub reads_long : (front rest : List ℕ) → TopBitSet front → length front ≡ 3 → NumberRead (front ++ rest) (Err Malformed)
reads_long front rest continued three =
    reads_neither (front ++ rest) λ n r more small e.
    let s = leb_shape n in
    let w = s.whole in
    let l = longer_front front s.front s.last r (rest ++ more) continued w.ends (sym (append_assoc front rest more) ∙ sym e ∙ follows n r) in
    let m = many_above s.front s.last (w.shortest (omega arith)) w.ends (omega arith) in
    let v = s.value in
    omega arith

-- the value is put together from the last group on
abbrev pub with_group : ℕ → ℕ → ℕ
with_group v g = bit_or (v * 2 ^ 7 % 2 ^ 32) (bit_and g 127)

one_more_group : (v g : ℕ) → v < 2 ^ 14 → with_group v g ≡ g % 128 + 128 * v
one_more_group v g h = grind (arith, common_steps)

value_few : (gs : List ℕ) → length gs ≤ 2 → value_of gs < 2 ^ 14
value_few [] h = omega arith
value_few (a ∷ []) h = omega arith
value_few (a ∷ b ∷ []) h = omega arith
value_few (a ∷ b ∷ c ∷ cs) h = absurd (omega arith)

pub folded : (gs : List ℕ) → length gs ≤ 3 → fold with_group 0 (reverse gs) ≡ value_of gs
folded [] h = refl
folded (g ∷ gs) h =
    ap (fold with_group 0) (reverse-append (g ∷ []) gs) ∙ fold_push with_group 0 (reverse gs) g
    ∙ ap (λ v. with_group v g) (folded gs (omega arith)) ∙ one_more_group (value_of gs) g (value_few gs (omega arith))

continued : (bytes : List ℕ) (p : ℕ) → p ≤ length bytes → ((k : ℕ) → Fits w8 (get_or bytes k 0)) → ((k : ℕ) → k < p → 128 ≤ get_or bytes k 0) → TopBitSet (take p bytes)
continued bytes zero within fit top_bit = tt
continued [] (suc p) within fit top_bit = absurd (omega arith)
continued (b ∷ bs) (suc p) within fit top_bit =
    ((top_bit 0 (omega arith), let f = fit 0 in omega arith), continued bs p (omega arith) (λ k. fit (suc k)) (λ k h. top_bit (suc k) (omega arith)))

-- the bytes before place p have their top bit set
module _ (bytes : List ℕ) (fit : (k : ℕ) → Fits w8 (get_or bytes k 0)) (p : ℕ) (within : p ≤ length bytes) (top_bit : (k : ℕ) → k < p → 128 ≤ get_or bytes k 0) where
  marked : TopBitSet (take p bytes)
  marked = continued bytes p within fit top_bit

  far : length (take p bytes) ≡ p
  far = length-take-le p bytes within

  pub at_end : length bytes ≤ p → p < 3 → NumberRead bytes (Err CutShort)
  at_end h few =
      let e = take_all p bytes h in
      reads_cut bytes (rw e at marked) (omega arith)

  pub at_third : p ≡ 3 → NumberRead bytes (Err Malformed)
  at_third e = subst (λ b. NumberRead b (Err Malformed)) (take-append-drop p bytes) (reads_long (take p bytes) (drop p bytes) marked (far ∙ e))

  -- at a byte
  module _ (h : p < length bytes) where
    here : take p bytes ++ get_or bytes p 0 ∷ drop (p + 1) bytes ≡ bytes
    here = ap (λ r. take p bytes ++ r) (sym (drop_more bytes p 0 h)) ∙ take-append-drop p bytes

    pub at_padding : 0 < p → get_or bytes p 0 ≡ 0 → NumberRead bytes (Err Malformed)
    at_padding some z =
        subst (λ b. NumberRead b (Err Malformed)) (ap (λ x. take p bytes ++ x ∷ drop (p + 1) bytes) (sym z) ∙ here)
        (reads_padded (take p bytes) (drop (p + 1) bytes) marked (omega (arith, far)))

    pub at_last :
        p < 3 → get_or bytes p 0 < 128 → (0 < p → 0 < get_or bytes p 0) → (n : ℕ) → n ≡ value_of (take p bytes ++ get_or bytes p 0 ∷ []) →
        (rest : List ℕ) → rest ≡ drop (p + 1) bytes → NumberRead bytes (Ok (n, rest))
    at_last few small shortest n v rest r =
        rw (v, r)
        (subst (λ b. NumberRead b (Ok (value_of (take p bytes ++ get_or bytes p 0 ∷ []), drop (p + 1) bytes))) here
        (reads_whole (take p bytes) (get_or bytes p 0) (drop (p + 1) bytes)
        (record { continued = marked; ends = small; shortest = λ k. shortest (omega (arith, far)) }) (omega (arith, far))))
