-- The longest front of name bytes, and the length of a name.
use Rattle.std.proofs.Common.{◌≡◌, ℕ, ◌+◌, ◌≤◌, Bool, cond, not, ◌&&◌, leb, ltb, List, [], ◌∷◌, length, Some, None, Option, refl, ap, ◌∙◌, arith, length-append, length-drop}
use Rattle.std.specs.Option.{unwrap_or}
use Rattle.std.specs.Char.{is_ascii_alphanumeric}
use Rattle.std.specs.List.{position_or_len}
use Rattle.std.proofs.lemmas.List.Recursion.{is_position_or_len}
use Rattle.book.specs.declared.reader.Reader.{Reader}
use Rattle.book.specs.Reading.{run, name_start, name_in}
use Rattle.book.specs.Places.{left, letter_first, name_size}
use Rattle.book.proofs.Names.{run_whole}

abbrev pub ends_name : ℕ → Bool
ends_name b = not (is_ascii_alphanumeric b)

run_ends : (bytes : List ℕ) → length (run bytes).0 ≡ position_or_len ends_name bytes
run_ends bytes = is_position_or_len (λ b. length (run b).0) ends_name refl (λ x xs. grind arith) bytes

pub run_position : (bytes : List ℕ) (o : Option ℕ) (n : ℕ) → o ≡ cond (ltb (position_or_len ends_name bytes) (length bytes)) (Some (position_or_len ends_name bytes)) None → n ≡ unwrap_or o (length bytes) → n ≡ length (run bytes).0
run_position bytes o n e f =
    let r = run_ends bytes in
    let w = ap length (run_whole bytes) ∙ length-append (run bytes).0 (run bytes).1 in
    grind arith

good_front : (bytes : List ℕ) → name_start (run bytes).0 ≡ (letter_first bytes && leb (length (run bytes).0) 16)
good_front [] = refl
good_front (b ∷ bs) = grind arith

-- the length of a name, from the longest front of name bytes
pub name_size_lem : (bytes : List ℕ) → name_size (name_in bytes) ≡ cond (letter_first bytes && leb (length (run bytes).0) 16) (Some (length (run bytes).0)) None
unfolding name_in
name_size_lem bytes = let e = good_front bytes in grind arith

-- a name ends within the text
pub name_within : (r : Reader) (bytes : List ℕ) (n : ℕ) → bytes ≡ left r → Some n ≡ name_size (name_in bytes) → r.place + n ≤ length r.text.now
unfolding name_in
name_within r bytes n b e =
    let w = ap length (run_whole bytes) ∙ length-append (run bytes).0 (run bytes).1 in
    let k : n ≤ length bytes = grind arith in
    let p = r.within in
    omega (arith, ap length b ∙ length-drop r.place r.text.now)
