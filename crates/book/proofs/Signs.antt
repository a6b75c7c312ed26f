-- A sign is a word of one byte, and it decides how the terms of a credential go on.
use Rattle.std.proofs.Common.{◌≡◌, ℕ, zero, suc, ◌<◌, Bool, true, false, cond, eqb, List, [], ◌∷◌, Some, None, Option, sym, refl, ap, ◌∙◌, arith}
use Rattle.std.specs.Bool.{then_some}
use Rattle.book.specs.declared.reader.Reader.{Reader}
use Rattle.book.specs.declared.reader.items.Sign.{Sign}
use Rattle.book.specs.declared.reader.items.Sign.TheVariants.{Caret, Dot, Open, Comma, Close, Arrow}
use Rattle.book.specs.Grammar.{Name}
use Rattle.book.specs.Reading.{Parsed, then, name_in, word_in, terms_in}
use Rattle.book.specs.Places.{left, Reads}
use Rattle.book.specs.Signs.{sign_of, sign_code, sign_in}
use Rattle.book.proofs.Steps.{Took, On, start, turn, on, end, nothing}

sign_of_code : (s : Sign) → sign_of (sign_code s) ≡ Some s
sign_of_code Caret = refl
sign_of_code Dot = refl
sign_of_code Open = refl
sign_of_code Comma = refl
sign_of_code Close = refl
sign_of_code Arrow = refl

abbrev if_same : Sign → Sign → List ℕ → Parsed (Unit {0})
if_same s t rest = cond (eqb (sign_code t) (sign_code s)) (Some (tt, rest)) None

sign_word : (s : Sign) (bytes : List ℕ) → word_in (sign_code s ∷ []) bytes ≡ then (sign_in bytes) (if_same s)
unfolding word_in
sign_word s [] = refl
sign_word Caret (b ∷ bs) = grind arith
sign_word Dot (b ∷ bs) = grind arith
sign_word Open (b ∷ bs) = grind arith
sign_word Comma (b ∷ bs) = grind arith
sign_word Close (b ∷ bs) = grind arith
sign_word Arrow (b ∷ bs) = grind arith

same_sign : (s t : Sign) (rest : List ℕ) → t ≡ s → if_same s t rest ≡ Some (tt, rest)
same_sign s t rest e = let k = ap sign_code e in grind arith

other_sign : (s t : Sign) (rest : List ℕ) → (t ≡ s → ⊥) → if_same s t rest ≡ None
other_sign s t rest n =
    let k : sign_code t ≡ sign_code s → ⊥ = λ e. let f : Some t ≡ Some s = sym (sign_of_code t) ∙ ap sign_of e ∙ sign_of_code s in n (cc) in
    grind arith

pub expect_start : (s : Sign) (r : Reader) → On (word_in (sign_code s ∷ []) (left r)) r (then (sign_in (left r)) (if_same s)) r 0
expect_start s r = turn (start _ r) (sign_word s (left r))

pub expect_ends : (s : Sign) {t : Sign} {before after : Reader} → Took (sign_in (left before)) before (λ _ x. x) (λ _. 1) t after →
    (same : Bool) → (same ≡ true → t ≡ s) → (same ≡ false → t ≡ s → ⊥) → (answer : Option (Unit {0})) → answer ≡ then_some same tt →
    Reads (word_in (sign_code s ∷ []) (left before)) before (λ _ u. u) (λ _. 1) answer after
expect_ends s {before = before} {after = after} k true y n answer a = rw a (end (λ _ u. u) (λ _. 1) (turn (on _ (expect_start s before) k) (same_sign s k.value (left after) (sym k.shown ∙ y refl))) refl refl)
expect_ends s {before = before} {after = after} k false y n answer a = rw a (nothing (λ _ u. u) (λ _. 1) (turn (on _ (expect_start s before) k) (other_sign s k.value (left after) (λ e. n refl (k.shown ∙ e)))))

-- the terms behind the first, from their first sign on
abbrev pub then_terms : ℕ → Sign → List ℕ → Parsed (List Name)
then_terms most Close rest = Some ([], rest)
then_terms zero Comma rest = None
then_terms (suc more) Comma rest = then (name_in rest) λ t r. then (terms_in more r) λ ts b. Some (t ∷ ts, b)
then_terms most Caret rest = None
then_terms most Dot rest = None
then_terms most Open rest = None
then_terms most Arrow rest = None

terms_by_sign : (most : ℕ) (bytes : List ℕ) → terms_in most bytes ≡ then (sign_in bytes) (then_terms most)
unfolding terms_in
terms_by_sign most [] = refl
terms_by_sign zero (b ∷ bs) = grind arith
terms_by_sign (suc more) (b ∷ bs) = grind arith

pub terms_start : (most : ℕ) (r : Reader) → On (terms_in most (left r)) r (then (sign_in (left r)) (then_terms most)) r 0
terms_start most r = turn (start _ r) (terms_by_sign most (left r))

module _ (most : ℕ) {before after : Reader} {t : Sign} (k : Took (sign_in (left before)) before (λ _ s. s) (λ _. 1) t after) where
  pub terms_on : (s : Sign) → t ≡ s → On (terms_in most (left before)) before (then_terms most s (left after)) after 1
  terms_on s e = turn (on _ (terms_start most before) k) (ap (λ x. then_terms most x (left after)) (sym k.shown ∙ e))

  pub terms_full : t ≡ Comma → most < 1 → On (terms_in most (left before)) before None after 1
  terms_full e l = turn (terms_on Comma e) (let z : most ≡ 0 = omega arith in ap (λ m. then_terms m Comma (left after)) z)

  pub terms_comma : t ≡ Comma → (more : ℕ) → most ≡ suc more → On (terms_in most (left before)) before (then (name_in (left after)) λ n r. then (terms_in more r) λ ns b. Some (n ∷ ns, b)) after 1
  terms_comma e more m = turn (terms_on Comma e) (ap (λ m. then_terms m Comma (left after)) m)

  pub terms_wrong : (t ≡ Close → ⊥) → (t ≡ Comma → ⊥) → On (terms_in most (left before)) before None after 1
  terms_wrong n m = turn (terms_on t refl) (grind arith)
