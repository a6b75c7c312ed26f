-- Lines are read as they are written.
use Rattle.std.proofs.Common.{◌≡◌, ℕ, zero, suc, ◌≤◌, List, [], ◌∷◌, ◌++◌, length, Some, None, codes, sym, refl, ap, ◌∙◌, subst, append_assoc, arith, length-append}
use Rattle.std.specs.List.{AllByRecursion}
use Rattle.book.specs.Grammar.{ItemText, GoodItem, item_bytes, more_items, LineText, GoodLine, line_bytes}
use Rattle.book.specs.Reading.{Parsed, then, name_in, word_in, item_in, more_in, party_in, hold_in, rule_in, ask_in, behind, line_in, InverseLaw}
use Rattle.book.proofs.Names.{Stop, then_some, some_same, name_at, name_of, word_of}
use Rattle.book.proofs.Items.{item_at_lem, item_of}

items_stop : (is : List ItemText) (rest : List ℕ) → Stop (more_items is ++ 10 ∷ rest)
items_stop [] rest = refl
items_stop (i ∷ is) rest = refl

more_at : (most : ℕ) (is : List ItemText) (rest : List ℕ) → AllByRecursion GoodItem is → length is ≤ most → more_in most (more_items is ++ 10 ∷ rest) ≡ Some (is, 10 ∷ rest)
unfolding more_in word_in
more_at zero [] rest g h = refl
more_at zero (i ∷ is) rest g h = absurd (omega arith)
more_at (suc most) [] rest g h = refl
more_at (suc most) (i ∷ is) rest g h =
    let ih = more_at most is rest g.1 (omega arith) in
    rw (append_assoc (item_bytes i) (more_items is) (10 ∷ rest), item_at_lem i (more_items is ++ 10 ∷ rest) g.0 (items_stop is rest), ih) refl

abbrev MoreOf : List ℕ → List ItemText → List ℕ → Type 0
MoreOf bytes is rest = (bytes ≡ more_items is ++ rest) × AllByRecursion GoodItem is

more_of : (most : ℕ) (bytes : List ℕ) (is : List ItemText) (rest : List ℕ) → more_in most bytes ≡ Some (is, rest) → MoreOf bytes is rest
unfolding more_in
more_of zero bytes is rest e = subst (λ q. MoreOf bytes q.0 q.1) (some_same e) (refl, tt)
more_of (suc most) bytes is rest e = go (word_in (codes " and ") bytes) refl e (more_of most)
  where
    go : (o : Parsed (Unit {0})) → word_in (codes " and ") bytes ≡ o →
        elim o as (λ _. Parsed (List ItemText)) [ None ↦ Some ([], bytes) | Some p ↦ then (item_in p.1) λ i r. then (more_in most r) λ js b. Some (i ∷ js, b) ] ≡ Some (is, rest) →
        ((bytes : List ℕ) (is : List ItemText) (rest : List ℕ) → more_in most bytes ≡ Some (is, rest) → MoreOf bytes is rest) →
        MoreOf bytes is rest
    go None w f ih = subst (λ q. MoreOf bytes q.0 q.1) (some_same f) (refl, tt)
    go (Some p) w f ih =
        let q = then_some (item_in p.1) _ _ f in
        let q2 = then_some (more_in most q.1) _ _ q.3 in
        let a = word_of (codes " and ") bytes p.1 w in
        let b = item_of p.1 q.0 q.1 q.2 in
        let d = ih q.1 q2.0 q2.1 q2.2 in
        subst (λ x. MoreOf bytes x.0 x.1) (some_same q2.3)
        (a ∙ ap (λ x. codes " and " ++ x) (b.0 ∙ ap (λ x. item_bytes q.0 ++ x) d.0 ∙ sym (append_assoc (item_bytes q.0) (more_items q2.0) q2.1)), (b.1, d.1))

pub items_long : (is : List ItemText) → length is ≤ length (more_items is)
items_long [] = omega arith
items_long (i ∷ is) = let ih = items_long is in omega (arith, length-append (item_bytes i) (more_items is))

line_at : (l : LineText) (rest : List ℕ) → GoodLine l → line_in (line_bytes l ++ rest) ≡ Some (l, rest)
unfolding line_in party_in hold_in rule_in ask_in word_in
line_at (LineText.party n) rest g = rw (append_assoc n (10 ∷ []) rest, name_at n (10 ∷ rest) g refl) refl
line_at (LineText.hold i) rest g = rw (append_assoc (item_bytes i) (10 ∷ []) rest, item_at_lem i (10 ∷ rest) g refl) refl
line_at (LineText.rule h b bs) rest g =
    let b3 = more_items bs ++ 10 ∷ rest in
    let b2 = item_bytes b ++ b3 in
    let e : (item_bytes h ++ (codes " if " ++ (item_bytes b ++ (more_items bs ++ codes "\n")))) ++ rest ≡ item_bytes h ++ (codes " if " ++ b2) = simp append_assoc in
    let few : length bs ≤ length b3 = omega (arith, items_long bs, length-append (more_items bs) (10 ∷ rest)) in
    rw (
      e,
      item_at_lem h (codes " if " ++ b2) g.0 refl,
      item_at_lem b b3 g.1 (items_stop bs rest),
      more_at (length b3) bs rest g.2 few,
    ) refl
line_at (LineText.ask i) rest g = rw (append_assoc (item_bytes i) (10 ∷ []) rest, item_at_lem i (10 ∷ rest) g refl) refl

LineOf : List ℕ → LineText → List ℕ → Type 0
LineOf bytes l rest = (bytes ≡ line_bytes l ++ rest) × GoodLine l

-- a form of one part, and the line's end
one_of : {A : Type 0} (P : Parsed A) (bytes word : List ℕ) (make : A → LineText) (write : A → List ℕ) (l : LineText) (rest : List ℕ) → ((a : A) → line_bytes (make a) ≡ word ++ (write a ++ codes "\n")) →
    ((a : A) (b : List ℕ) → P ≡ Some (a, b) → (bytes ≡ write a ++ b) × GoodLine (make a)) → then P (λ a b. then (word_in (codes "\n") b) λ _ r. Some (make a, r)) ≡ Some (l, rest) → LineOf (word ++ bytes) l rest
unfolding LineOf
one_of P bytes word make write l rest w f e =
    let p = then_some P _ _ e in
    let q = then_some (word_in (codes "\n") p.1) _ _ p.3 in
    let n = f p.0 p.1 p.2 in
    let all : line_bytes (make p.0) ++ q.1 ≡ word ++ (write p.0 ++ (codes "\n" ++ q.1)) = ap (λ x. x ++ q.1) (w p.0) ∙ simp append_assoc in
    subst (λ x. LineOf (word ++ bytes) x.0 x.1) (some_same q.3) (ap (λ x. word ++ x) (n.0 ∙ ap (λ x. write p.0 ++ x) (word_of (codes "\n") p.1 q.1 q.2)) ∙ sym all, n.1)

party_of : (bytes : List ℕ) (l : LineText) (rest : List ℕ) → party_in bytes ≡ Some (l, rest) → LineOf (codes "party " ++ bytes) l rest
unfolding party_in
party_of bytes l rest e = one_of (name_in bytes) bytes (codes "party ") LineText.party (λ n. n) l rest (λ n. refl) (λ n b h. let g = name_of bytes n b h in (g.0, g.1)) e

hold_of : (bytes : List ℕ) (l : LineText) (rest : List ℕ) → hold_in bytes ≡ Some (l, rest) → LineOf (codes "hold " ++ bytes) l rest
unfolding hold_in
hold_of bytes l rest e = one_of (item_in bytes) bytes (codes "hold ") LineText.hold item_bytes l rest (λ i. refl) (λ i b h. let g = item_of bytes i b h in (g.0, g.1)) e

ask_of : (bytes : List ℕ) (l : LineText) (rest : List ℕ) → ask_in bytes ≡ Some (l, rest) → LineOf (codes "ask " ++ bytes) l rest
unfolding ask_in
ask_of bytes l rest e = one_of (item_in bytes) bytes (codes "ask ") LineText.ask item_bytes l rest (λ i. refl) (λ i b h. let g = item_of bytes i b h in (g.0, g.1)) e

rule_joined : (bytes b1 b2 b3 b4 rest : List ℕ) (h b : ItemText) (bs : List ItemText) → bytes ≡ item_bytes h ++ b1 → b1 ≡ codes " if " ++ b2 → b2 ≡ item_bytes b ++ b3 → b3 ≡ more_items bs ++ b4 → b4 ≡ codes "\n" ++ rest → codes "rule " ++ bytes ≡ line_bytes (LineText.rule h b bs) ++ rest
rule_joined bytes b1 b2 b3 b4 rest h b bs e1 e2 e3 e4 e5 = rw (e1, e2, e3, e4, e5) (simp append_assoc)

rule_of : (bytes : List ℕ) (l : LineText) (rest : List ℕ) → rule_in bytes ≡ Some (l, rest) → LineOf (codes "rule " ++ bytes) l rest
unfolding rule_in LineOf
rule_of bytes l rest e =
    let p1 = then_some (item_in bytes) _ _ e in
    let p2 = then_some (word_in (codes " if ") p1.1) _ _ p1.3 in
    let p3 = then_some (item_in p2.1) _ _ p2.3 in
    let p4 = then_some (more_in (length p3.1) p3.1) _ _ p3.3 in
    let p5 = then_some (word_in (codes "\n") p4.1) _ _ p4.3 in
    let i1 = item_of bytes p1.0 p1.1 p1.2 in
    let i3 = item_of p2.1 p3.0 p3.1 p3.2 in
    let m4 = more_of (length p3.1) p3.1 p4.0 p4.1 p4.2 in
    let whole =
    rule_joined bytes p1.1 p2.1 p3.1 p4.1 p5.1 p1.0 p3.0 p4.0 i1.0 (word_of (codes " if ") p1.1 p2.1 p2.2) i3.0 m4.0
    (word_of (codes "\n") p4.1 p5.1 p5.2) in
    subst (λ x. LineOf (codes "rule " ++ bytes) x.0 x.1) (some_same p5.3) (whole, (i1.1, i3.1, m4.1))

behind_of : (word bytes : List ℕ) (form : List ℕ → Parsed LineText) (other : Parsed LineText) (l : LineText) (rest : List ℕ) →
    ((b : List ℕ) → form b ≡ Some (l, rest) → LineOf (word ++ b) l rest) → (other ≡ Some (l, rest) → LineOf bytes l rest) → behind word bytes form other ≡ Some (l, rest) → LineOf bytes l rest
behind_of word bytes form other l rest f g e = go (word_in word bytes) refl e
  where
    go : (o : Parsed (Unit {0})) → word_in word bytes ≡ o → elim o as (λ _. Parsed LineText) [ None ↦ other | Some p ↦ form p.1 ] ≡ Some (l, rest) → LineOf bytes l rest
    go None w h = g h
    go (Some p) w h = subst (λ b. LineOf b l rest) (sym (word_of word bytes p.1 w)) (f p.1 h)

line_of : (bytes : List ℕ) (l : LineText) (rest : List ℕ) → line_in bytes ≡ Some (l, rest) → LineOf bytes l rest
unfolding line_in
line_of bytes l rest e =
    behind_of (codes "party ") bytes party_in _ l rest (λ b. party_of b l rest)
    (behind_of (codes "hold ") bytes hold_in _ l rest (λ b. hold_of b l rest)
    (behind_of (codes "rule ") bytes rule_in _ l rest (λ b. rule_of b l rest)
    (behind_of (codes "ask ") bytes ask_in None l rest (λ b. ask_of b l rest) (λ n. absurd cc))))
    e

pub inverse_law : InverseLaw
unfolding LineOf
inverse_law bytes l rest = ((λ e. line_of bytes l rest e), (λ p. ap line_in p.0 ∙ line_at l rest p.1))
