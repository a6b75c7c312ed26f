-- Texts put behind one another.
use Rattle.std.proofs.Common.{◌≡◌, ℕ, ◌+◌, ◌<◌, List, [], ◌∷◌, ◌++◌, length, get_or, take, Ok, Err, Option, Result, is_ok, if◌then◌else◌, OnOk, refl, ap, ◌∙◌, subst, append_assoc}
use Rattle.std.specs.List.{flat_map}
use Rattle.book.specs.declared.parts.Part.{Part}
use Rattle.house.specs.declared.entries.Item.{Item}
use Rattle.house.specs.declared.entries.Rule.{Rule}
use Rattle.house.specs.declared.store.House.{House}
use Rattle.house.specs.View.{rule_view, rule_views}
use Rattle.house.specs.House.{view}
use Rattle.book_check.specs.declared.listing.Listing.{Listing}
use Rattle.book_check.specs.Report.{numbered, party_part_line, item_part_line, rule_line, ask_line, view_listing}
use Rattle.book_check.specs.Listing.{Puts}
use Rattle.book_check.proofs.Lines.{numbered_more, joined_more_of}

pub puts_then : (a b c : Listing) (s t : List ℕ) → Puts a b s → Puts b c t → Puts a c (s ++ t)
puts_then a b c s t p q = record { out = q.out ∙ ap (λ x. x ++ t) p.out ∙ append_assoc a.out.items s t; book = q.book ∙ p.book }

-- one line more in a loop over a list
pub puts_numbered : {X : Type 0} (line : ℕ → X → List ℕ) (xs : List X) (i : ℕ) (d : X) (a b c : Listing) → i < length xs → Puts a b (numbered line 0 (take i xs)) → Puts b c (line i (get_or xs i d)) → Puts a c (numbered line 0 (take (i + 1) xs))
puts_numbered line xs i d a b c l p q = record { out = numbered_more line xs i d a.out.items b.out.items c.out.items l p.out q.out; book = q.book ∙ p.book }

pub puts_joined : {X : Type 0} (line : X → List ℕ) (xs : List X) (i : ℕ) (d : X) (a b c : Listing) → i < length xs → Puts a b (flat_map line (take i xs)) → Puts b c (line (get_or xs i d)) → Puts a c (flat_map line (take (i + 1) xs))
puts_joined line xs i d a b c l p q = record { out = joined_more_of line xs i d a.out.items b.out.items c.out.items l p.out q.out; book = q.book ∙ p.book }

-- what a call that grows a list leaves where it succeeds
pub when_ok : {T E : Type 0} (r : Result T E) (xs ys zs : List ℕ) → xs ≡ (if is_ok r then ys else zs) → OnOk r (xs ≡ ys)
when_ok (Ok t) xs ys zs e = e
when_ok (Err f) xs ys zs e = tt

-- the rules' lines are those of their views
views_lines : (rs : List Rule) → flat_map (λ r. rule_line (rule_view r)) rs ≡ flat_map rule_line (rule_views rs)
views_lines [] = refl
views_lines (r ∷ rs) = ap (λ l. rule_line (rule_view r) ++ l) (views_lines rs)

-- the four lists of a house, put one behind the other
pub puts_four : (a b c d e : Listing) (h : House) (ps : List Part) (is : List Item) (rs : List Rule) (asked : Option ℕ) → ps ≡ (view h).parties → is ≡ (view h).items → rule_views rs ≡ (view h).rules → asked ≡ (view h).asked →
    Puts a b (numbered (party_part_line a.book.now) 0 ps) → Puts b c (numbered (item_part_line b.book.now) 0 is) → Puts c d (flat_map (λ r. rule_line (rule_view r)) rs) → Puts d e (ask_line asked) →
    Puts a e (view_listing a.book.now (view h))
puts_four a b c d e h ps is rs asked ep ei er ea p q r s =
    let book = ap (λ x. x.now) p.book in
    let p1 = subst (λ l. Puts a b (numbered (party_part_line a.book.now) 0 l)) ep p in
    let q1 = subst (λ l. Puts b c (numbered (item_part_line a.book.now) 0 l)) ei (subst (λ x. Puts b c (numbered (item_part_line x) 0 is)) book q) in
    let r1 = subst (λ l. Puts c d (flat_map rule_line l)) er (subst (Puts c d) (views_lines rs) r) in
    let s1 = subst (λ o. Puts d e (ask_line o)) ea s in
    puts_then a b e _ _ p1 (puts_then b c e _ _ q1 (puts_then c d e _ _ r1 s1))
