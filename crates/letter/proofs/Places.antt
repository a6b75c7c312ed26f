-- A number written group by group at a place of a buffer.
use Rattle.std.proofs.Common.{◌≡◌, ℕ, suc, ◌+◌, ◌/◌, ◌%◌, ◌^◌, ◌<◌, ◌≤◌, List, [], ◌∷◌, ◌++◌, length, take, drop, set, sym, ap, ◌∙◌, append_assoc, arith, length-append}
use Rattle.std.proofs.lemmas.List.{take_more_set, drop-set-lt, drop-drop, set_split, length-take-le}
use Rattle.letter.specs.Numbers.{leb}
use Rattle.letter.proofs.Groups.{leb_last, leb_more, leb_shape, few_groups}

pub leb_some : (n : ℕ) → 1 ≤ length (leb n)
leb_some n = let s = leb_shape n in rw s.spelled (simp length-append (omega arith))

pub leb_short : (n : ℕ) → n < 2 ^ 21 → length (leb n) ≤ 3
leb_short n small =
    let s = leb_shape n in
    let f = few_groups n small in
    rw s.spelled (simp length-append (omega arith))

-- the buffer `out` holds the groups before `place`, and `left` is still to be written
pub record Writing (entry : List ℕ) (number : ℕ) (out : List ℕ) (place left : ℕ) : Type 0 where
  pub done : take place out ++ leb left ≡ leb number
  pub rest : drop place out ≡ drop place entry

module _ {entry : List ℕ} {number : ℕ} {out : List ℕ} {place left : ℕ} (w : Writing entry number out place left) where
  pub behind : place ≤ length out → place + length (leb left) ≡ length (leb number)
  behind h = omega (arith, ap length w.done, length-append (take place out) (leb left), length-take-le place out h)

  -- at a byte of the buffer
  module _ (inside : place < length out) where
    after : drop (place + 1) out ≡ drop (place + 1) entry
    after = sym (drop-drop 1 place out) ∙ ap (drop 1) w.rest ∙ drop-drop 1 place entry

    pub step : (x : ℕ) → 128 ≤ left → x ≡ 128 + left % 128 → Writing entry number (set out place x) (place + 1) (left / 128)
    step x more is =
        record {
          done =
              ap (λ t. t ++ leb (left / 128)) (take_more_set out place x inside) ∙ append_assoc (take place out) (x ∷ []) (leb (left / 128))
              ∙ ap (λ y. take place out ++ y ∷ leb (left / 128)) is ∙ ap (λ b. take place out ++ b) (sym (leb_more left more)) ∙ w.done;
          rest = drop-set-lt (place + 1) out place x (omega arith) ∙ after;
        }

    module _ (small : left < 128) where
      pub ends : place + 1 ≡ length (leb number)
      ends = let b = behind (omega arith) in omega (arith, ap length (leb_last left small))

      pub last : set out place left ≡ leb number ++ drop (length (leb number)) entry
      last =
          let p : suc place ≡ place + 1 = omega arith in
          set_split out place left inside
          ∙ ap (λ n. take place out ++ left ∷ drop n out) p
          ∙ ap (λ r. take place out ++ left ∷ r) after
          ∙ sym (append_assoc (take place out) (left ∷ []) (drop (place + 1) entry))
          ∙ ap (λ b. (take place out ++ b) ++ drop (place + 1) entry) (sym (leb_last left small))
          ∙ ap (λ b. b ++ drop (place + 1) entry) w.done
          ∙ ap (λ n. leb number ++ drop n entry) ends
