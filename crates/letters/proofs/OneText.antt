-- No capture has two texts.
use Rattle.std.proofs.Common.{◌≡◌, ℕ, ◌<◌, List, [], ◌∷◌, ◌++◌, length, Ok, Err, sym, refl, ap, ◌∙◌, subst, inl, inr, append_assoc, arith, length-append}
use Rattle.std.specs.List.{flat_map, AllByRecursion}
use Rattle.letter.specs.declared.letter.Letter.{Letter}
use Rattle.letter.specs.Bytes.{letter_bytes, LetterRead}
use Rattle.letter.proofs.Chained.{no_ok, reads_letter}
use Rattle.letter.proofs.Reading.{ok_parts}
use Rattle.letter.proofs.Unique.{one_answer}
use Rattle.letters.specs.Report.{letter_line, refusal_line, count_line, StopLine, OneText}
use Rattle.letters.proofs.SoFar.{some_bytes}

-- no letter stands where the letters stop
no_letter : (rest : List ℕ) (offset : ℕ) (line : List ℕ) → StopLine rest offset line → (l : Letter) (behind : List ℕ) → l.item < 256 → rest ≡ letter_bytes l ++ behind → ⊥
no_letter rest offset line (inl p) l behind h e = omega (arith, ap length (sym p.0 ∙ e), length-append (letter_bytes l) behind, some_bytes l)
no_letter rest offset line (inr p) l behind h e = no_ok p.0 (l, behind) ((p.2.read l behind).1 (record { small = h; bytes_are = e }))

-- the letters of a capture are settled
same_letters : (a b : List Letter) (r s : List ℕ) → AllByRecursion (λ l. l.item < 256) a → AllByRecursion (λ l. l.item < 256) b →
    ((l : Letter) (behind : List ℕ) → l.item < 256 → r ≡ letter_bytes l ++ behind → ⊥) → ((l : Letter) (behind : List ℕ) → l.item < 256 → s ≡ letter_bytes l ++ behind → ⊥) →
    flat_map letter_bytes a ++ r ≡ flat_map letter_bytes b ++ s → (a ≡ b) × (r ≡ s)
same_letters [] [] r s ha hb nr ns e = (refl, e)
same_letters [] (m ∷ ms) r s ha hb nr ns e = absurd (nr m (flat_map letter_bytes ms ++ s) hb.0 (e ∙ append_assoc (letter_bytes m) (flat_map letter_bytes ms) s))
same_letters (l ∷ ls) [] r s ha hb nr ns e = absurd (ns l (flat_map letter_bytes ls ++ r) ha.0 (sym e ∙ append_assoc (letter_bytes l) (flat_map letter_bytes ls) r))
same_letters (l ∷ ls) (m ∷ ms) r s ha hb nr ns e =
    let f = sym (append_assoc (letter_bytes l) (flat_map letter_bytes ls) r) ∙ e ∙ append_assoc (letter_bytes m) (flat_map letter_bytes ms) s in
    let first = reads_letter l (flat_map letter_bytes ls ++ r) ha.0 in
    let second = reads_letter m (flat_map letter_bytes ms ++ s) hb.0 in
    let p = ok_parts l m (flat_map letter_bytes ls ++ r) (flat_map letter_bytes ms ++ s) (one_answer.letter _ _ _ first (subst (λ b. LetterRead b (Ok (m, flat_map letter_bytes ms ++ s))) (sym f) second)) in
    let q = same_letters ls ms r s ha.1 hb.1 nr ns p.1 in
    ((λ i. p.0 i ∷ q.0 i), q.1)

same_stop : (rest : List ℕ) (offset : ℕ) (a b : List ℕ) → StopLine rest offset a → StopLine rest offset b → a ≡ b
same_stop rest offset a b (inl p) (inl q) = p.1 ∙ sym q.1
same_stop rest offset a b (inl p) (inr q) = absurd (let k = q.1 in omega (arith, ap length p.0))
same_stop rest offset a b (inr p) (inl q) = absurd (let k = p.1 in omega (arith, ap length q.0))
same_stop rest offset a b (inr p) (inr q) =
    let e = one_answer.letter rest (Err p.0) (Err q.0) p.2 q.2 in
    let f : p.0 ≡ q.0 = cc in
    p.3 ∙ ap (λ x. refusal_line x offset) f ∙ sym q.3

pub one_text : OneText
one_text capture a b r s =
    let q =
    same_letters r.letters s.letters r.rest s.rest r.small s.small (no_letter _ _ _ r.stops) (no_letter _ _ _ s.stops)
    (sym r.captured ∙ s.captured) in
    let stops : StopLine r.rest (length (flat_map letter_bytes r.letters)) s.stop =
    subst (λ ls. StopLine r.rest (length (flat_map letter_bytes ls)) s.stop) (sym q.0)
    (subst (λ t. StopLine t (length (flat_map letter_bytes s.letters)) s.stop) (sym q.1) s.stops) in
    let e = same_stop _ _ r.stop s.stop r.stops stops in
    r.printed ∙ ap (λ t. flat_map letter_line r.letters ++ (t ++ count_line (length r.letters))) e
    ∙ ap (λ ls. flat_map letter_line ls ++ (s.stop ++ count_line (length ls))) q.0 ∙ sym s.printed
