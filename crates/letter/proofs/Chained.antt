-- What reading a letter answers, by what reading its two numbers answers.
use Rattle.std.proofs.Common.{◌≡◌, ℕ, ◌+◌, ◌^◌, ◌<◌, false, ltb, ◌⊎◌, List, ◌++◌, length, drop, Some, None, Ok, Err, Option, Result, sym, refl, ap, ◌∙◌, subst, inl, inr, ⊎_elim, append_assoc, arith, length-append}
use Rattle.std.specs.Option.{ok_or}
use Rattle.std.proofs.lemmas.List.{drop_at}
use Rattle.std.proofs.lemmas.Bool.{le-ltb}
use Rattle.letter.specs.declared.letter.Kind.{Kind}
use Rattle.letter.specs.declared.letter.Kind.TheVariants.{Request, Disclosure, RequestAck, DisclosureAck}
use Rattle.letter.specs.declared.letter.Letter.{Letter}
use Rattle.letter.specs.declared.refusal.Refusal.{Refusal}
use Rattle.letter.specs.declared.refusal.Refusal.TheVariants.{CutShort, Malformed, NoSuchKind, ItemTooLarge, BufferTooShort}
use Rattle.letter.specs.Letters.{kind_number, kind_of, kind_answer}
use Rattle.letter.specs.Numbers.{leb, NumberThen, Cut, NumberRead}
use Rattle.letter.specs.Bytes.{letter_bytes, LetterThen, CutItem, OtherKind, LargeItem, LetterAnswer, LetterRead, WrittenBack, write_answer, write_bytes}
use Rattle.letter.proofs.Refused.{same_refusal, refused, refuses}
use Rattle.letter.proofs.Reading.{ok_parts, reads_leb}

pub no_ok : {X E : Type 0} (e : E) (x : X) → ◌≡◌ {A = Result X E} (Err e) (Ok x) → ⊥
no_ok e x p = cc

kind_small : (k : Kind) → kind_number k < 2 ^ 21
kind_small Request = omega arith
kind_small Disclosure = omega arith
kind_small RequestAck = omega arith
kind_small DisclosureAck = omega arith

kind_of_number : (k : Kind) → kind_of (kind_number k) ≡ Some k
kind_of_number Request = refl
kind_of_number Disclosure = refl
kind_of_number RequestAck = refl
kind_of_number DisclosureAck = refl

pub number_of_kind : (n : ℕ) (k : Kind) → kind_of n ≡ Some k → n ≡ kind_number k
number_of_kind n Request e = grind arith
number_of_kind n Disclosure e = grind arith
number_of_kind n RequestAck e = grind arith
number_of_kind n DisclosureAck e = grind arith

-- what a kind's number tells of it
kind_told : (o : Option Kind) (k : Kind) → Ok k ≡ ok_or o NoSuchKind → o ≡ Some k
kind_told None k e = absurd (no_ok NoSuchKind k (sym e))
kind_told (Some j) k e = cc

none_told : (o : Option Kind) (f : Refusal) → Err f ≡ ok_or o NoSuchKind → (o ≡ None) × (f ≡ NoSuchKind)
none_told None f e = (refl, (cc))
none_told (Some j) f e = absurd (no_ok f j e)

pub is_kind : (n : ℕ) {k : Kind} → Ok k ≡ kind_answer n → kind_of n ≡ Some k
is_kind n {k} e = kind_told (kind_of n) k e

pub no_kind : (n : ℕ) {f : Refusal} → Err f ≡ kind_answer n → (kind_of n ≡ None) × (f ≡ NoSuchKind)
no_kind n {f} e = none_told (kind_of n) f e

-- the two numbers of a letter
first_of : {bytes : List ℕ} {l : Letter} {rest : List ℕ} → LetterThen bytes l rest → NumberThen bytes (kind_number l.kind) (leb l.item ++ rest)
first_of {bytes} {l} {rest} s =
    record { small = kind_small l.kind; bytes_are = s.bytes_are ∙ append_assoc (leb (kind_number l.kind)) (leb l.item) rest }

second_of : {bytes : List ℕ} {l : Letter} {rest : List ℕ} → LetterThen bytes l rest → NumberThen (leb l.item ++ rest) l.item rest
second_of {bytes} {l} {rest} s = let h = s.small in record { small = omega arith; bytes_are = refl }

-- none of the reasons for another answer
pub record Neither (bytes : List ℕ) : Type 0 where
  pub letter : (l : Letter) (rest : List ℕ) → LetterThen bytes l rest → ⊥
  pub cut : (Cut bytes ⊎ CutItem bytes) → ⊥
  pub kind : OtherKind bytes → ⊥
  pub item : LargeItem bytes → ⊥

-- the reason for an answer
abbrev pub Why : List ℕ → LetterAnswer → Type 0
Why bytes (Ok p) = LetterThen bytes p.0 p.1
Why bytes (Err CutShort) = Cut bytes ⊎ CutItem bytes
Why bytes (Err Malformed) = Neither bytes
Why bytes (Err NoSuchKind) = OtherKind bytes
Why bytes (Err ItemTooLarge) = LargeItem bytes
Why bytes (Err BufferTooShort) = ⊥

-- an answer that has the only reason is what reading answers
from_why : (bytes : List ℕ) (answer : LetterAnswer) → Why bytes answer → ((b : LetterAnswer) → Why bytes b → answer ≡ b) → LetterRead bytes answer
from_why bytes answer why once =
    record {
      read = λ l rest. ((λ e. subst (Why bytes) e why), (λ s. once (Ok (l, rest)) s));
      cut = ((λ e. subst (Why bytes) (refused answer CutShort e) why), (λ s. refuses answer CutShort (once (Err CutShort) s)));
      other_kind = ((λ e. subst (Why bytes) (refused answer NoSuchKind e) why), (λ s. refuses answer NoSuchKind (once (Err NoSuchKind) s)));
      large_item = ((λ e. subst (Why bytes) (refused answer ItemTooLarge e) why), (λ s. refuses answer ItemTooLarge (once (Err ItemTooLarge) s)));
      malformed = λ a b c d. refuses answer Malformed (once (Err Malformed) (record { letter = a; cut = b; kind = c; item = d }));
    }

-- no number stands first
module _ {bytes : List ℕ} {e : Refusal} (first : NumberRead bytes (Err e)) where
  pub none : (n : ℕ) (rest : List ℕ) → NumberThen bytes n rest → ⊥
  none n rest q = no_ok e (n, rest) ((first.read n rest).1 q)

  neither : (Cut bytes → ⊥) → Neither bytes
  neither uncut =
      record {
        letter = λ l rest s. none _ _ (first_of s);
        cut = ⊎_elim uncut (λ p. none _ _ p.first);
        kind = λ o. none _ _ o.first;
        item = λ o. none _ _ o.first;
      }

  once_none : (a : LetterAnswer) → Why bytes a → ◌≡◌ {A = LetterAnswer} (Err e) a
  once_none (Ok p) s = absurd (none _ _ (first_of s))
  once_none (Err CutShort) (inl s) = ap Err (same_refusal e CutShort (first.cut.1 s))
  once_none (Err CutShort) (inr p) = absurd (none _ _ p.first)
  once_none (Err Malformed) s = ap Err (same_refusal e Malformed (first.malformed none (λ u. s.cut (inl u))))
  once_none (Err NoSuchKind) s = absurd (none _ _ s.first)
  once_none (Err ItemTooLarge) s = absurd (none _ _ s.first)
  once_none (Err BufferTooShort) s = absurd s

-- a number that cannot be read is cut short or malformed
pub err_cases : {bytes : List ℕ} (e : Refusal) → NumberRead bytes (Err e) → ((e ≡ CutShort) × Cut bytes) ⊎ ((e ≡ Malformed) × (Cut bytes → ⊥))
err_cases CutShort r = inl (refl, r.cut.0 refl)
err_cases Malformed r = inr (refl, λ u. omega (arith, r.cut.1 u))
err_cases NoSuchKind r = absurd (omega (arith, r.malformed (none r) (λ u. omega (arith, r.cut.1 u))))
err_cases ItemTooLarge r = absurd (omega (arith, r.malformed (none r) (λ u. omega (arith, r.cut.1 u))))
err_cases BufferTooShort r = absurd (omega (arith, r.malformed (none r) (λ u. omega (arith, r.cut.1 u))))

pub no_first : {bytes : List ℕ} {e : Refusal} → NumberRead bytes (Err e) → LetterRead bytes (Err e)
no_first {bytes} {e} first =
    elim (err_cases e first) [
      | inl p ↦ from_why bytes (Err e) (rw p.0 (inl p.1)) (once_none first)
      | inr p ↦ from_why bytes (Err e) (rw p.0 (neither first p.1)) (once_none first)
    ]

-- a number stands first
module _ {bytes behind : List ℕ} {n : ℕ} (first : NumberRead bytes (Ok (n, behind))) where
  number : NumberThen bytes n behind
  number = (first.read n behind).0 refl

  same : (m : ℕ) (rest : List ℕ) → NumberThen bytes m rest → (n ≡ m) × (behind ≡ rest)
  same m rest q = ok_parts n m behind rest ((first.read m rest).1 q)

  whole : Cut bytes → ⊥
  whole u = first.cut.1 u

  -- and it is no kind's
  module _ (strange : kind_of n ≡ None) where
    clash : (k : Kind) (rest : List ℕ) → NumberThen bytes (kind_number k) rest → ⊥
    clash k rest q =
        let e = (same (kind_number k) rest q).0 in
        let f : kind_of n ≡ Some k = ap kind_of e ∙ kind_of_number k in
        cc

    other : OtherKind bytes
    other = record { kind = n; behind = behind; first = number; none = strange }

    once_other : (a : LetterAnswer) → Why bytes a → ◌≡◌ {A = LetterAnswer} (Err NoSuchKind) a
    once_other (Ok p) s = absurd (clash _ _ (first_of s))
    once_other (Err CutShort) (inl s) = absurd (whole s)
    once_other (Err CutShort) (inr p) = absurd (clash _ _ p.first)
    once_other (Err Malformed) s = absurd (s.kind other)
    once_other (Err NoSuchKind) s = refl
    once_other (Err ItemTooLarge) s = absurd (clash _ _ s.first)
    once_other (Err BufferTooShort) s = absurd s

    pub strange_kind : LetterRead bytes (Err NoSuchKind)
    strange_kind = from_why bytes (Err NoSuchKind) other once_other

  -- or it is a kind's: all hangs on the second number
  module _ {k : Kind} (known : kind_of n ≡ Some k) where
    first_kind : NumberThen bytes (kind_number k) behind
    first_kind = subst (λ m. NumberThen bytes m behind) (number_of_kind n k known) number

    same_kind : (j : Kind) (rest : List ℕ) → NumberThen bytes (kind_number j) rest → (k ≡ j) × (behind ≡ rest)
    same_kind j rest q =
        let e = same (kind_number j) rest q in
        let f : kind_of n ≡ Some j = ap kind_of e.0 ∙ kind_of_number j in
        ((cc), e.1)

    not-other : OtherKind bytes → ⊥
    not-other o =
        let e = (same o.kind o.behind o.first).0 in
        let f : kind_of n ≡ None = ap kind_of e ∙ o.none in
        cc

    from_letter : (l : Letter) (rest : List ℕ) → LetterThen bytes l rest → (k ≡ l.kind) × NumberThen behind l.item rest
    from_letter l rest s =
        let e = same_kind l.kind (leb l.item ++ rest) (first_of s) in
        (e.0, subst (λ b. NumberThen b l.item rest) (sym e.1) (second_of s))

    from_large : (o : LargeItem bytes) → NumberThen behind o.item o.rest
    from_large o = let e = same_kind o.kind o.behind o.first in subst (λ b. NumberThen b o.item o.rest) (sym e.1) o.second

    from_cut : (Cut bytes ⊎ CutItem bytes) → Cut behind
    from_cut (inl u) = absurd (whole u)
    from_cut (inr p) = let e = same_kind p.kind p.behind p.first in subst Cut (sym e.1) p.second

    cut_item : Cut behind → CutItem bytes
    cut_item u = record { kind = k; behind = behind; first = first_kind; second = u }

    -- no second number
    module _ {e : Refusal} (second : NumberRead behind (Err e)) where
      none_second : (i : ℕ) (rest : List ℕ) → NumberThen behind i rest → ⊥
      none_second = none second

      neither_second : (Cut behind → ⊥) → Neither bytes
      neither_second uncut =
          record {
            letter = λ l rest s. none_second _ _ (from_letter l rest s).1;
            cut = λ u. uncut (from_cut u);
            kind = not-other;
            item = λ o. none_second _ _ (from_large o);
          }

      once_cut : (a : LetterAnswer) → Why bytes a → ◌≡◌ {A = LetterAnswer} (Err e) a
      once_cut (Ok p) s = absurd (none_second _ _ (from_letter p.0 p.1 s).1)
      once_cut (Err CutShort) s = ap Err (same_refusal e CutShort (second.cut.1 (from_cut s)))
      once_cut (Err Malformed) s = ap Err (same_refusal e Malformed (second.malformed none_second (λ u. s.cut (inr (cut_item u)))))
      once_cut (Err NoSuchKind) s = absurd (not-other s)
      once_cut (Err ItemTooLarge) s = absurd (none_second _ _ (from_large s))
      once_cut (Err BufferTooShort) s = absurd s

      pub no_second : LetterRead bytes (Err e)
      no_second =
          elim (err_cases e second) [
            | inl p ↦ from_why bytes (Err e) (rw p.0 (inr (cut_item p.1))) once_cut
            | inr p ↦ from_why bytes (Err e) (rw p.0 (neither_second p.1)) once_cut
          ]

    -- a second number
    module _ {i : ℕ} {rest : List ℕ} (second : NumberRead behind (Ok (i, rest))) where
      item : NumberThen behind i rest
      item = (second.read i rest).0 refl

      same_item : (j : ℕ) (r : List ℕ) → NumberThen behind j r → (i ≡ j) × (rest ≡ r)
      same_item j r q = ok_parts i j rest r ((second.read j r).1 q)

      uncut : (Cut bytes ⊎ CutItem bytes) → ⊥
      uncut u = second.cut.1 (from_cut u)

      pub large_item_lem : 255 < i → LetterRead bytes (Err ItemTooLarge)
      large_item_lem large = from_why bytes (Err ItemTooLarge) why once_large
        where
          why : LargeItem bytes
          why = record { kind = k; behind = behind; item = i; rest = rest; first = first_kind; second = item; large = large }

          once_large : (a : LetterAnswer) → Why bytes a → ◌≡◌ {A = LetterAnswer} (Err ItemTooLarge) a
          once_large (Ok p) s = absurd (let f = (same_item _ _ (from_letter p.0 p.1 s).1).0 in let h = s.small in omega arith)
          once_large (Err CutShort) s = absurd (uncut s)
          once_large (Err Malformed) s = absurd (s.item why)
          once_large (Err NoSuchKind) s = absurd (not-other s)
          once_large (Err ItemTooLarge) s = refl
          once_large (Err BufferTooShort) s = absurd s

      pub good_letter : i < 256 → LetterRead bytes (Ok (record { kind = k; item = i }, rest))
      good_letter small = from_why bytes (Ok (record { kind = k; item = i }, rest)) why once_good
        where
          why : LetterThen bytes (record { kind = k; item = i }) rest
          why = record {
            small = small;
            bytes_are = first_kind.bytes_are ∙ ap (λ b. leb (kind_number k) ++ b) item.bytes_are ∙ sym (append_assoc (leb (kind_number k)) (leb i) rest);
          }

          once_good : (a : LetterAnswer) → Why bytes a → ◌≡◌ {A = LetterAnswer} (Ok (record { kind = k; item = i }, rest)) a
          once_good (Ok p) s =
              let f = from_letter p.0 p.1 s in
              let g = same_item _ _ f.1 in
              λ j. Ok (record { kind = f.0 j; item = g.0 j }, g.1 j)
          once_good (Err CutShort) s = absurd (uncut s)
          once_good (Err Malformed) s = absurd (s.letter (record { kind = k; item = i }) rest why)
          once_good (Err NoSuchKind) s = absurd (not-other s)
          once_good (Err ItemTooLarge) s = absurd (let f = (same_item _ _ (from_large s)).0 in let h = s.large in omega arith)
          once_good (Err BufferTooShort) s = absurd s

-- the bytes of a letter read as that letter
pub reads_letter : (l : Letter) (rest : List ℕ) → l.item < 256 → LetterRead (letter_bytes l ++ rest) (Ok (l, rest))
reads_letter l rest h =
    let b = leb l.item ++ rest in
    let e = append_assoc (leb (kind_number l.kind)) (leb l.item) rest in
    rw e (good_letter (reads_leb (kind_number l.kind) b (kind_small l.kind)) (kind_of_number l.kind) (reads_leb l.item rest (omega arith)) h)

-- what was read, written over itself
module _ (bytes : List ℕ) (l : Letter) (rest : List ℕ) (s : LetterThen bytes l rest) where
  long : length bytes ≡ length (letter_bytes l) + length rest
  long = ap length s.bytes_are ∙ length-append (letter_bytes l) rest

  fits : ltb (length bytes) (length (letter_bytes l)) ≡ false
  fits = le-ltb (length bytes) (length (letter_bytes l)) (omega (arith, long))

  answered : write_answer (Ok l) bytes ≡ Ok (length (letter_bytes l))
  answered = rw fits refl

  same_bytes : write_bytes (Ok l) bytes ≡ bytes
  same_bytes =
      let d : drop (length (letter_bytes l)) bytes ≡ rest = ap (drop (length (letter_bytes l))) s.bytes_are ∙ drop_at (letter_bytes l) rest (length (letter_bytes l)) refl in
      rw fits (ap (λ x. letter_bytes l ++ x) d ∙ sym s.bytes_are)

pub written_back : (bytes : List ℕ) (answer : LetterAnswer) → LetterRead bytes answer → WrittenBack bytes answer
written_back bytes answer r =
    record { answered = λ l rest e. answered bytes l rest ((r.read l rest).0 e); same = λ l rest e. same_bytes bytes l rest ((r.read l rest).0 e) }
