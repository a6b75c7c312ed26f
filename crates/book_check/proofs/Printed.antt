-- What is printed from the view of a house is what its book says.
use Rattle.std.proofs.Common.{◌≡◌, ℕ, ◌+◌, List, [], ◌∷◌, ◌++◌, map, length, Ok, Err, codes, Result, sym, refl, ap, ◌∙◌, subst}
use Rattle.std.specs.List.{AllByRecursion, flat_map}
use Rattle.house.specs.declared.refusal.Refusal.{Refusal}
use Rattle.house.specs.View.{View}
use Rattle.house.specs.Answer.{Answers}
use Rattle.house.specs.Policies.{Policies}
use Rattle.house.specs.Books.{book_read, house_read, view_of, party_part, entry}
use Rattle.house.proofs.BookLaw.{book_law}
use Rattle.house.proofs.Registers.{all_of}
use Rattle.house.proofs.Pushes.{err_ok, err_is}
use Rattle.book_check.specs.Report.{numbered_line, numbered, party_line, item_line, party_part_line, item_part_line, rule_line, ask_line, listing, view_listing, refusal_line, printed}

numbered-map : {X Y : Type 0} (h : X → Y) (f : ℕ → Y → List ℕ) (g : ℕ → X → List ℕ) (n : ℕ) (xs : List X) → AllByRecursion (λ x. (k : ℕ) → f k (h x) ≡ g k x) xs → numbered f n (map h xs) ≡ numbered g n xs
numbered-map h f g n [] a = refl
numbered-map h f g n (x ∷ xs) a = ap (λ l. l ++ numbered f (n + 1) (map h xs)) (a.0 n) ∙ ap (λ l. g n x ++ l) (numbered-map h f g (n + 1) xs a.1)

module _ (book : List ℕ) where
  -- names and items stand at their places
  same_listing : (v : Policies) → book_read book ≡ Ok v → view_listing book (view_of (length book) v) ≡ listing v
  same_listing v e =
      let s = book_law.places book v e in
      let rest = flat_map rule_line v.rules ++ ask_line v.asked in
      let parties = numbered-map party_part (party_part_line book) party_line 0 v.parties (all_of (λ x c k. ap (numbered_line (codes "party") k) c) v.parties s.parties) in
      let items = numbered-map (entry v) (item_part_line book) item_line 0 v.items (all_of (λ x c k. ap (numbered_line (codes "item") k) c) v.items s.items) in
      ap (λ l. l ++ (numbered (item_part_line book) 0 (map (entry v) v.items) ++ rest)) parties ∙ ap (λ l. numbered party_line 0 v.parties ++ (l ++ rest)) items

  shown : (r : Result Policies Refusal) → book_read book ≡ r → printed book ≡ (elim r [ Ok v ↦ listing v | Err e ↦ refusal_line e ])
  shown r e = ap (λ x. (elim x [ Ok v ↦ listing v | Err f ↦ refusal_line f ])) e

  answered : (r : Result Policies Refusal) → book_read book ≡ r → house_read book ≡ (elim r [ Ok v ↦ Ok (view_of (length book) v) | Err e ↦ Err e ])
  answered r e = ap (λ x. (elim x [ Ok v ↦ Ok (view_of (length book) v) | Err f ↦ Err f ])) e

  module _ (answer : Result (Unit {0}) Refusal) (after : View) (a : Answers (house_read book) answer after) (out0 out : List ℕ) (z : out0 ≡ []) where
    pub printed_house : (u : Unit {0}) → answer ≡ Ok u → out ≡ out0 ++ view_listing book after → out ≡ printed book
    printed_house u is o = go (book_read book) refl
      where
        go : (r : Result Policies Refusal) → book_read book ≡ r → out ≡ printed book
        go (Ok v) e =
            let b = subst (λ h. Answers h answer after) (answered (Ok v) e) a in
            o ∙ ap (λ x. x ++ view_listing book after) z ∙ ap (view_listing book) b.1 ∙ same_listing v e ∙ sym (shown (Ok v) e)
        go (Err f) e = let b = subst (λ h. Answers h answer after) (answered (Err f) e) a in err_ok u f (sym is ∙ b.0)

    pub printed_refusal : (g : Refusal) → answer ≡ Err g → out ≡ out0 ++ refusal_line g → out ≡ printed book
    printed_refusal g is o = go (book_read book) refl
      where
        go : (r : Result Policies Refusal) → book_read book ≡ r → out ≡ printed book
        go (Ok v) e = let b = subst (λ h. Answers h answer after) (answered (Ok v) e) a in err_ok tt g (sym b.0 ∙ is)
        go (Err f) e =
            let b = subst (λ h. Answers h answer after) (answered (Err f) e) a in
            o ∙ ap (λ x. x ++ refusal_line g) z ∙ ap refusal_line (err_is (sym is ∙ b.0)) ∙ sym (shown (Err f) e)
