-- The letters of a capture that are printed so far.
use Rattle.std.proofs.Common.{◌≡◌, ℕ, ◌+◌, ◌-◌, ◌<◌, ◌≤◌, List, [], ◌∷◌, ◌++◌, length, Err, sym, refl, ap, ◌∙◌, inl, inr, append_assoc, arith, length-append}
use Rattle.std.specs.List.{flat_map, AllByRecursion}
use Rattle.std.proofs.ByRecursion.{All-push}
use Rattle.std.proofs.lemmas.List.{flat_map_more}
use Rattle.letter.specs.declared.letter.Letter.{Letter}
use Rattle.letter.specs.declared.refusal.Refusal.{Refusal}
use Rattle.letter.specs.Letters.{kind_number}
use Rattle.letter.specs.Bytes.{letter_bytes, LetterThen, LetterRead}
use Rattle.letter.proofs.Places.{leb_some}
use Rattle.letters.specs.Report.{letter_line, refusal_line, count_line, Reported}

pub record SoFar (capture rest text : List ℕ) (count : ℕ) : Type 0 where
  pub letters : List Letter
  pub small : AllByRecursion (λ l. l.item < 256) letters
  pub captured : capture ≡ flat_map letter_bytes letters ++ rest
  pub printed : text ≡ flat_map letter_line letters
  pub counted : count ≡ length letters

pub some_bytes : (l : Letter) → 1 ≤ length (letter_bytes l)
some_bytes l = simp length-append (omega (arith, leb_some (kind_number l.kind)))

letters_fit : (ls : List Letter) → length ls ≤ length (flat_map letter_bytes ls)
letters_fit [] = omega arith
letters_fit (l ∷ ls) = let ih = letters_fit ls in omega (arith, some_bytes l, length-append (letter_bytes l) (flat_map letter_bytes ls))

pub shorter : {rest : List ℕ} {l : Letter} {behind : List ℕ} → LetterThen rest l behind → length behind < length rest
shorter {rest} {l} {behind} s = omega (arith, ap length s.bytes_are, length-append (letter_bytes l) behind, some_bytes l)

module _ {capture rest text : List ℕ} {count : ℕ} (s : SoFar capture rest text count) where
  sizes : length capture ≡ length (flat_map letter_bytes s.letters) + length rest
  sizes = ap length s.captured ∙ length-append (flat_map letter_bytes s.letters) rest

  pub offset : length capture - length rest ≡ length (flat_map letter_bytes s.letters)
  offset = omega (arith, sizes)

  pub within : count + length rest ≤ length capture
  within = let c = s.counted in omega (arith, sizes, letters_fit s.letters)

  pub next : {l : Letter} {behind text' : List ℕ} → LetterThen rest l behind → text' ≡ text ++ letter_line l → SoFar capture behind text' (count + 1)
  next {l} {behind} {text'} q e =
      record {
        letters = s.letters ++ l ∷ [];
        small = All-push (λ m. m.item < 256) s.letters l s.small q.small;
        captured =
            s.captured ∙ ap (λ r. flat_map letter_bytes s.letters ++ r) q.bytes_are ∙ sym (append_assoc (flat_map letter_bytes s.letters) (letter_bytes l) behind)
            ∙ ap (λ b. b ++ behind) (flat_map_more letter_bytes [] s.letters l);
        printed = e ∙ ap (λ t. t ++ letter_line l) s.printed ∙ flat_map_more letter_line [] s.letters l;
        counted = let c = s.counted in omega (arith, length-append s.letters (l ∷ []));
      }

  pub all_read : rest ≡ [] → {text' : List ℕ} → text' ≡ text ++ count_line count → Reported capture text'
  all_read z {text'} e =
      record {
        letters = s.letters;
        rest = rest;
        stop = [];
        small = s.small;
        captured = s.captured;
        stops = inl (z, refl);
        printed = e ∙ ap (λ t. t ++ count_line count) s.printed ∙ ap (λ n. flat_map letter_line s.letters ++ count_line n) s.counted;
      }

  pub stopped : {e : Refusal} {text' text'' : List ℕ} → 0 < length rest → LetterRead rest (Err e) →
      text' ≡ text ++ refusal_line e (length capture - length rest) → text'' ≡ text' ++ count_line count → Reported capture text''
  stopped {e} {text'} {text''} some why f g =
      let stop = refusal_line e (length capture - length rest) in
      record {
        letters = s.letters;
        rest = rest;
        stop = stop;
        small = s.small;
        captured = s.captured;
        stops = inr (e, some, why, ap (refusal_line e) offset);
        printed =
            g ∙ ap (λ t. t ++ count_line count) (f ∙ ap (λ t. t ++ stop) s.printed) ∙ append_assoc (flat_map letter_line s.letters) stop (count_line count)
            ∙ ap (λ n. flat_map letter_line s.letters ++ (stop ++ count_line n)) s.counted;
      }
