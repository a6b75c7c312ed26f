-- What writing a letter leaves in the buffer.
use Rattle.std.proofs.Common.{rules, ◌≡◌, ℕ, ◌+◌, ◌<◌, ◌≤◌, List, ◌++◌, length, take, drop, Some, None, Ok, Option, sym, refl, ap, ◌∙◌, inl, inr, append_assoc, arith, length-append}
use Rattle.std.proofs.lemmas.List.{take_at}
use borrow.Rule.Slice.PartMut.{put_mid, post_of}
use Rattle.std.proofs.lemmas.Bool.{cases_lt, lt-ltb, le-ltb}
use Rattle.letter.specs.declared.letter.Kind.{Kind}
use Rattle.letter.specs.declared.letter.Letter.{Letter}
use Rattle.letter.specs.Letters.{kind_of, named, letter_of}
use Rattle.letter.specs.Numbers.{leb}
use Rattle.letter.specs.Bytes.{letter_bytes, write_answer, Written, WriteRefusals}
use Rattle.letter.proofs.Chained.{number_of_kind, reads_letter}

-- two pieces written one behind the other stand at the front
pub both_pieces : (x y rest more : List ℕ) {front back : List ℕ} {p n : ℕ} (k : ℕ) → p ≡ length x → n ≡ length y → front ≡ x ++ rest → back ≡ y ++ more → take (p + n) (put_mid p k front back) ≡ x ++ y
both_pieces x y rest more {front} {back} {p} {n} k d e f g =
    let is : put_mid p k front back ≡ (x ++ y) ++ (more ++ post_of p k front) =
    ap (λ t. t ++ (back ++ post_of p k front)) (ap (take p) f ∙ take_at x rest p (sym d)) ∙ ap (λ t. x ++ (t ++ post_of p k front)) g ∙ simp append_assoc in
    ap (take (p + n)) is ∙ take_at (x ++ y) (more ++ post_of p k front) (p + n) (omega (arith, length-append x y))

module _ (l : Letter) (out : List ℕ) (n : ℕ) (size : n ≡ length (letter_bytes l)) where
  pub long_enough : n ≤ length out → l.item < 256 → (after : List ℕ) → after ≡ letter_bytes l ++ drop n out → Written (Ok l) out (Ok n) after
  long_enough fits small after is =
      let tells = le-ltb (length out) (length (letter_bytes l)) (omega arith) in
      record {
        answered = rw tells (ap Ok size);
        bytes_are = is ∙ rw tells (ap (λ m. letter_bytes l ++ drop m out) size);
        read_back = λ k m w e.
            let p : n ≡ m = cc in
            let q : l ≡ k = cc in
            rw (is, p, ← q) (reads_letter l (drop m out) small);
      }

-- when writing the letter that two numbers name is refused
module _ (kind item : ℕ) (buffer : List ℕ) where
  good : (k : Kind) → kind_of kind ≡ Some k → item < 256 → WriteRefusals kind item buffer (write_answer (Ok (record { kind = k; item = item })) buffer)
  good k e h =
      let b = leb kind ++ leb item in
      let same : letter_bytes (record { kind = k; item = item }) ≡ b = ap (λ m. leb m ++ leb item) (sym (number_of_kind kind k e)) in
      rw same
      (elim (cases_lt (length buffer) (length b)) [
        | inl s ↦ rw (lt-ltb (length buffer) (length b) s) (search rules)
        | inr s ↦ rw (le-ltb (length buffer) (length b) s) (search rules)
      ])

  by_kind : (o : Option Kind) → kind_of kind ≡ o → WriteRefusals kind item buffer (write_answer (named o item) buffer)
  by_kind None e = search rules
  by_kind (Some k) e =
      elim (cases_lt item 256) [
        | inl h ↦ rw (lt-ltb item 256 h) (good k e h)
        | inr h ↦ rw (le-ltb item 256 h) (search rules)
      ]

  pub write_refusals : WriteRefusals kind item buffer (write_answer (letter_of kind item) buffer)
  write_refusals = by_kind (kind_of kind) refl
