-- The laws of the grammar.
use Rattle.std.proofs.Common.{◌≡◌, ℕ, ◌+◌, Bool, true, not, ◌&&◌, T, eqb, ◌≢◌, List, [], ◌∷◌, ◌++◌, length, take, drop, codes, sym, refl, ap, ◌∙◌, subst, append_assoc, arith, length-append}
use Rattle.std.specs.List.{AllByRecursion}
use Rattle.std.proofs.lemmas.List.{take_at, drop_at}
use Rattle.book.specs.Grammar.{letter, name_byte, Name, GoodName, more_terms, Credential, GoodCredential, credential_bytes, ItemText, GoodItem, item_bytes, more_items, LineText, line_bytes}
use Rattle.book.specs.Reading.{item_in}
use Rattle.book.specs.Places.{item_parts, item_size, credential_size}
use Rattle.book.specs.Laws.{ItemLaw, cut_out, ItemCut, LineCut, LinePlacesLaw, PlacesLaw, LineEndLaw}
use Rattle.book.specs.Lines.{line_parts}
use Rattle.book.proofs.Items.{item_at_lem, item_of}

pub item_law : ItemLaw
item_law bytes i rest = ((λ e. item_of bytes i rest e), (λ p. ap item_in p.0 ∙ item_at_lem i rest p.1 p.2))

-- what stands between two pieces
cut_between : (text a b c : List ℕ) (place size : ℕ) → text ≡ a ++ (b ++ c) → place ≡ length a → size ≡ length b → cut_out text (record { place = place; length = size }) ≡ b
cut_between text a b c place size e p s =
    ap (λ t. take size (drop place t)) e ∙ ap (take size) (drop_at a (b ++ c) place (sym p)) ∙ take_at b c size (sym s)

cut_item : (before : List ℕ) (i : ItemText) (after : List ℕ) → ItemCut (before ++ (item_bytes i ++ after)) (item_parts (length before) i) i
cut_item before i after =
    let text = before ++ (item_bytes i ++ after) in
    let s = i.source in
    let c = credential_bytes i.credential in
    let d = i.destination in
    record {
      whole = cut_between text before (item_bytes i) after (length before) (item_size i) refl refl refl;
      source = cut_between text before s (94 ∷ (c ++ 62 ∷ (d ++ after))) (length before) (length s) (ap (λ b. before ++ b) (simp append_assoc)) refl refl;
      credential =
          cut_between text (before ++ (s ++ 94 ∷ [])) c (62 ∷ (d ++ after)) (length before + length s + 1) (credential_size i.credential) (simp append_assoc)
          (simp length-append (omega arith)) refl;
      destination =
          cut_between text (before ++ (s ++ 94 ∷ (c ++ 62 ∷ []))) d after (length before + length s + 1 + credential_size i.credential + 1) (length d) (simp append_assoc)
          (simp length-append (omega arith)) refl;
    }

cut_body : (before : List ℕ) (h b : ItemText) (bs : List ItemText) (after : List ℕ) →
    drop (length before + length (item_bytes h) + 4) (before ++ (item_bytes h ++ (codes " if " ++ (item_bytes b ++ (more_items bs ++ after))))) ≡ item_bytes b ++ (more_items bs ++ after)
cut_body before h b bs after =
    let rest = item_bytes b ++ (more_items bs ++ after) in
    let e : before ++ (item_bytes h ++ (codes " if " ++ rest)) ≡ (before ++ (item_bytes h ++ codes " if ")) ++ rest = simp append_assoc in
    ap (drop (length before + length (item_bytes h) + 4)) e
    ∙ drop_at (before ++ (item_bytes h ++ codes " if ")) rest (length before + length (item_bytes h) + 4)
    (simp length-append (omega arith))

-- an item behind a keyword
behind_word : (before word : List ℕ) (i : ItemText) (rest text : List ℕ) (place : ℕ) → text ≡ (before ++ word) ++ (item_bytes i ++ rest) → place ≡ length (before ++ word) → ItemCut text (item_parts place i) i
behind_word before word i rest text place e p = rw (e, p) (cut_item (before ++ word) i rest)

cut_line : (before : List ℕ) (l : LineText) (after : List ℕ) → LineCut (before ++ (line_bytes l ++ after)) (line_parts (length before) l) l
cut_line before (LineText.party n) after =
    cut_between (before ++ (line_bytes (LineText.party n) ++ after)) (before ++ codes "party ") n (codes "\n" ++ after) (length before + 6) (length n) (simp append_assoc) (simp length-append (omega arith)) refl
cut_line before (LineText.hold i) after = behind_word before (codes "hold ") i (codes "\n" ++ after) _ (length before + 5) (simp append_assoc) (simp length-append (omega arith))
cut_line before (LineText.ask i) after = behind_word before (codes "ask ") i (codes "\n" ++ after) _ (length before + 4) (simp append_assoc) (simp length-append (omega arith))
cut_line before (LineText.rule h b bs) after =
    let text = before ++ (line_bytes (LineText.rule h b bs) ++ after) in
    let front = before ++ codes "rule " in
    let rest = item_bytes b ++ (more_items bs ++ (codes "\n" ++ after)) in
    let e : text ≡ front ++ (item_bytes h ++ (codes " if " ++ rest)) = simp append_assoc in
    let p : length before + 5 ≡ length front = simp length-append (omega arith) in (
      behind_word before (codes "rule ") h (codes " if " ++ rest) text (length before + 5) e p,
      (codes "\n" ++ after, ap (drop (length before + 5 + item_size h + 4)) e ∙ ap (λ k. drop (k + item_size h + 4) (front ++ (item_bytes h ++ (codes " if " ++ rest)))) p ∙ cut_body front h b bs (codes "\n" ++ after)),
      refl,
    )

pub line_places_law : LinePlacesLaw
line_places_law = cut_line

pub places_law : PlacesLaw
places_law =
    record {
      name = λ before n after. cut_between (before ++ (n ++ after)) before n after (length before) (length n) refl refl refl;
      item = cut_item;
      body = cut_body;
    }

-- bytes other than 10
abbrev Unended : List ℕ → Type 0
Unended bs = AllByRecursion (λ b. b ≢ 10) bs

both : (xs ys : List ℕ) → Unended xs → Unended ys → Unended (xs ++ ys)
both [] ys h k = k
both (x ∷ xs) ys h k = (h.0, both xs ys h.1 k)

run_unended : (n : List ℕ) → AllByRecursion (λ c. T (name_byte c)) n → Unended n
run_unended [] h = tt
run_unended (b ∷ bs) h = ((λ e. subst (λ x. T (name_byte x)) e h.0), run_unended bs h.1)

name_unended : (n : Name) → GoodName n → Unended n
name_unended [] g = absurd g
name_unended (b ∷ bs) g = ((λ e. subst (λ x. T (letter x)) e g.0), run_unended bs g.1)

abbrev no_end : List ℕ → Bool
no_end [] = true
no_end (b ∷ bs) = let r = no_end bs in not (eqb b 10) && r

word_unended : (bs : List ℕ) → T (no_end bs) → Unended bs
word_unended [] t = tt
word_unended (b ∷ bs) t = ((λ e. grind arith), word_unended bs (grind arith))

terms_unended : (ts : List Name) → AllByRecursion GoodName ts → Unended (more_terms ts)
terms_unended [] g = tt
terms_unended (t ∷ ts) g = both (codes ",") (t ++ more_terms ts) (word_unended (codes ",") tt) (both t (more_terms ts) (name_unended t g.0) (terms_unended ts g.1))

credential_unended : (c : Credential) → GoodCredential c → Unended (credential_bytes c)
credential_unended c g =
    both c.issuer _ (name_unended c.issuer g.issuer)
    (both (codes ".") _ (word_unended (codes ".") tt)
    (both c.name _ (name_unended c.name g.name)
    (both (codes "(") _ (word_unended (codes "(") tt)
    (both c.term _ (name_unended c.term g.term)
    (both (more_terms c.terms) (codes ")") (terms_unended c.terms g.terms) (word_unended (codes ")") tt))))))

item_unended : (i : ItemText) → GoodItem i → Unended (item_bytes i)
item_unended i g =
    both i.source _ (name_unended i.source g.source)
    (both (codes "^") _ (word_unended (codes "^") tt)
    (both (credential_bytes i.credential) _ (credential_unended i.credential g.credential)
    (both (codes ">") i.destination (word_unended (codes ">") tt) (name_unended i.destination g.destination))))

items_unended : (is : List ItemText) → AllByRecursion GoodItem is → Unended (more_items is)
items_unended [] g = tt
items_unended (i ∷ is) g = both (codes " and ") _ (word_unended (codes " and ") tt) (both (item_bytes i) (more_items is) (item_unended i g.0) (items_unended is g.1))

pub line_end_law : LineEndLaw
line_end_law (LineText.party n) g = (codes "party " ++ n, refl, both (codes "party ") n (word_unended (codes "party ") tt) (name_unended n g))
line_end_law (LineText.hold i) g = (codes "hold " ++ item_bytes i, refl, both (codes "hold ") (item_bytes i) (word_unended (codes "hold ") tt) (item_unended i g))
line_end_law (LineText.rule h b bs) g = (
  codes "rule " ++ (item_bytes h ++ (codes " if " ++ (item_bytes b ++ more_items bs))),
  simp append_assoc,
  both (codes "rule ") _ (word_unended (codes "rule ") tt)
      (both (item_bytes h) _ (item_unended h g.0)
      (both (codes " if ") _ (word_unended (codes " if ") tt) (both (item_bytes b) (more_items bs) (item_unended b g.1) (items_unended bs g.2)))),
)
line_end_law (LineText.ask i) g = (codes "ask " ++ item_bytes i, refl, both (codes "ask ") (item_bytes i) (word_unended (codes "ask ") tt) (item_unended i g))
