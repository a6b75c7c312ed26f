-- The worked values hold.
use Rattle.std.proofs.Common.{◌≡◌, ℕ, ◌^◌, ◌<◌, ◌≤◌, List, [], ◌∷◌, ◌++◌, Ok, refl, subst, arith}
use Rattle.letter.specs.declared.letter.Kind.TheVariants.{Request}
use Rattle.letter.specs.declared.letter.Letter.{Letter}
use Rattle.letter.specs.declared.refusal.Refusal.TheVariants.{CutShort, Malformed, NoSuchKind, ItemTooLarge}
use Rattle.letter.specs.Numbers.{leb, TopBitSet, NumberRead}
use Rattle.letter.specs.Bytes.{letter_bytes, LetterRead}
use Rattle.letter.specs.Worked.{Worked}
use Rattle.letter.proofs.Reading.{reads_cut, reads_padded, reads_leb}
use Rattle.letter.proofs.Chained.{no_first, strange_kind, large_item_lem, reads_letter}

abbrev request : ℕ → Letter
request i = record { kind = Request; item = i }

bytes_127 : letter_bytes (request 127) ≡ 0x01 ∷ 0x7F ∷ []
unfolding leb
bytes_127 = refl

bytes_200 : letter_bytes (request 200) ≡ 0x01 ∷ 0xC8 ∷ 0x01 ∷ []
unfolding leb
bytes_200 = refl

bytes_1 : leb 1 ≡ 0x01 ∷ []
unfolding leb
bytes_1 = refl

bytes_5 : leb 5 ≡ 0x05 ∷ []
unfolding leb
bytes_5 = refl

bytes_256 : leb 256 ≡ 0x80 ∷ 0x02 ∷ []
unfolding leb
bytes_256 = refl

read_from : (l : Letter) (bytes : List ℕ) → letter_bytes l ≡ bytes → l.item < 256 → (rest : List ℕ) → LetterRead (bytes ++ rest) (Ok (l, rest))
read_from l bytes e h rest = subst (λ b. LetterRead (b ++ rest) (Ok (l, rest))) e (reads_letter l rest h)

number_from : (n : ℕ) (bytes rest : List ℕ) → leb n ≡ bytes → n < 2 ^ 21 → NumberRead (bytes ++ rest) (Ok (n, rest))
number_from n bytes rest e h = subst (λ b. NumberRead (b ++ rest) (Ok (n, rest))) e (reads_leb n rest h)

continued : (g : ℕ) → 128 ≤ g → g < 256 → TopBitSet (g ∷ [])
continued g h k = ((h, k), tt)

pub worked : Worked
worked = (
  (bytes_127, read_from (request 127) (0x01 ∷ 0x7F ∷ []) bytes_127 (omega arith)),
  (
    (bytes_200, read_from (request 200) (0x01 ∷ 0xC8 ∷ 0x01 ∷ []) bytes_200 (omega arith)),
    (
      (CutShort, no_first (reads_cut (0x80 ∷ 0x80 ∷ []) ((omega arith, omega arith), ((omega arith, omega arith), tt)) (omega arith)), refl),
      (
        (Malformed, no_first (reads_padded (0x81 ∷ []) [] (continued 0x81 (omega arith) (omega arith)) (omega arith)), refl),
        (
          (NoSuchKind, strange_kind (number_from 5 (0x05 ∷ []) (0x00 ∷ []) bytes_5 (omega arith)) refl, refl),
          (
            (ItemTooLarge, large_item_lem (number_from 1 (0x01 ∷ []) (0x80 ∷ 0x02 ∷ []) bytes_1 (omega arith)) {k = Request} refl (number_from 256 (0x80 ∷ 0x02 ∷ []) [] bytes_256 (omega arith)) (omega arith), refl),
            tt,
          ),
        ),
      ),
    ),
  ),
)
