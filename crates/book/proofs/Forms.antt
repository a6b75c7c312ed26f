-- The four forms of a line.
use Rattle.std.proofs.Common.{◌≡◌, ℕ, ◌+◌, List, ◌∷◌, length, is_some, true, false, Some, None, Option, Ok, Err, codes, Result, sym, refl, ap, ◌∙◌, arith, length-append}
use Rattle.book.specs.declared.fault.Fault.{Fault}
use Rattle.book.specs.declared.parts.Line.{Line}
use Rattle.book.specs.declared.reader.Reader.{Reader}
use Rattle.book.specs.Grammar.{LineText}
use Rattle.book.specs.Reading.{Parsed, then, name_in, word_in, item_in, more_in, party_in, hold_in, rule_in, ask_in, behind, line_in}
use Rattle.book.specs.Places.{left, Reads}
use Rattle.book.specs.Lines.{LineAnswer, RuleText, form_in, form_size, first_form, forms, line_parts, line_size, rule_form, rule_parts, rule_size}
use Rattle.book.proofs.Steps.{took, missed, word_took, word_missed, On, start, ahead_start, turn, on, off, misfit, end}

pub line_sizes : (l : LineText) → form_size l + 1 ≡ line_size l
line_sizes (LineText.party n) = simp length-append (omega arith)
line_sizes (LineText.hold i) = simp length-append (omega arith)
line_sizes (LineText.rule h b bs) = simp length-append (omega arith)
line_sizes (LineText.ask i) = simp length-append (omega arith)

-- a line and the byte that ends it
abbrev ended : LineText → List ℕ → Parsed LineText
ended l bytes = then (word_in (codes "\n") bytes) λ _ rest. Some (l, rest)

within : {A B C : Type 0} (close : Parsed B → Parsed C) → None ≡ close None → (P : Parsed A) (f : A → List ℕ → Parsed C) (g : A → List ℕ → Parsed B) → ((a : A) (b : List ℕ) → f a b ≡ close (g a b)) → then P f ≡ close (then P g)
within close n None f g h = n
within close n (Some p) f g h = h p.0 p.1

abbrev end_line : Parsed LineText → Parsed LineText
end_line o = then o ended

abbrev end_rule : Parsed RuleText → Parsed LineText
end_rule o = end_line (then o λ r rest. Some (LineText.rule r.0 r.1 r.2, rest))

party_ends : (b : List ℕ) → party_in b ≡ end_line (then (name_in b) λ n rest. Some (LineText.party n, rest))
unfolding party_in
party_ends b = within end_line refl (name_in b) _ _ (λ n rest. refl)

hold_ends : (b : List ℕ) → hold_in b ≡ end_line (then (item_in b) λ i rest. Some (LineText.hold i, rest))
unfolding hold_in
hold_ends b = within end_line refl (item_in b) _ _ (λ i rest. refl)

rule_ends : (b : List ℕ) → rule_in b ≡ end_rule (rule_form b)
unfolding rule_in rule_form
rule_ends b =
    within end_rule refl (item_in b) _ _ (λ h b1.
    within end_rule refl (word_in (codes " if ") b1) _ _ (λ _ b2. within end_rule refl (item_in b2) _ _ (λ i b3. within end_rule refl (more_in (length b3) b3) _ _ (λ is rest. refl))))

ask_ends : (b : List ℕ) → ask_in b ≡ end_line (then (item_in b) λ i rest. Some (LineText.ask i, rest))
unfolding ask_in
ask_ends b = within end_line refl (item_in b) _ _ (λ i rest. refl)

behind_ends : (w bytes : List ℕ) (f g : List ℕ → Parsed LineText) (other rest : Parsed LineText) → ((b : List ℕ) → f b ≡ end_line (g b)) → other ≡ end_line rest → behind w bytes f other ≡ end_line (behind w bytes g rest)
behind_ends w bytes f g other rest h e = go (word_in w bytes)
  where
    go : (o : Parsed (Unit {0})) → elim o as (λ _. Parsed LineText) [ None ↦ other | Some p ↦ f p.1 ] ≡ end_line (elim o as (λ _. Parsed LineText) [ None ↦ rest | Some p ↦ g p.1 ])
    go None = e
    go (Some p) = h p.1

line_ends : (bytes : List ℕ) → line_in bytes ≡ then (form_in bytes) ended
unfolding line_in form_in
line_ends bytes =
    behind_ends (codes "party ") bytes party_in _ _ _ party_ends
    (behind_ends (codes "hold ") bytes hold_in _ _ _ hold_ends (behind_ends (codes "rule ") bytes rule_in _ _ _ rule_ends (behind_ends (codes "ask ") bytes ask_in _ None None ask_ends refl)))

pub line_start : (begin ahead : Reader) → ahead.text ≡ begin.text → ahead.place ≡ begin.place → On (line_in (left begin)) begin (then (form_in (left ahead)) ended) ahead 0
line_start begin ahead t p = turn (ahead_start line_in begin ahead t p) (line_ends (left ahead))

-- the word at the front decides the form, of those that are still open
pub record Open (begin at : Reader) (fs : List (List ℕ × (List ℕ → Parsed LineText))) : Type 0 where
  pub way : On (form_in (left begin)) begin (first_form fs (left at)) at 0

pub all_open : (r : Reader) → Open r r forms
unfolding form_in
all_open r = record { way = start (form_in (left r)) r }

module _ {begin at : Reader} {w : List ℕ} {f : List ℕ → Parsed LineText} {fs : List (List ℕ × (List ℕ → Parsed LineText))} (o : Open begin at ((w, f) ∷ fs)) (after : Reader) (answer : Option (Unit {0}))
    (r : Reads (word_in w (left at)) at (λ _ u. u) (λ _. length w) answer after) where
  by_word : Parsed (Unit {0}) → Parsed LineText
  by_word x = elim x as (λ _. Parsed LineText) [ None ↦ first_form fs (left at) | Some p ↦ f p.1 ]

  pub this_form : is_some answer ≡ true → On (form_in (left begin)) begin (f (left after)) after (length w)
  unfolding by_word
  this_form e =
      let t = word_took w at after answer r e in
      let p = o.way.place in
      let q = t.place in
      record { is = o.way.is ∙ ap by_word t.parsed; text = t.text ∙ o.way.text; place = omega arith }

  pub other_form : (answer ≡ None → after ≡ at) → is_some answer ≡ false → Open begin after fs
  unfolding by_word
  other_form s e =
      let m = word_missed w at after answer r s e in
      record { way = record { is = o.way.is ∙ ap by_word m.0.parsed ∙ sym (ap (λ r. first_form fs (left r)) m.1); text = m.0.text ∙ o.way.text; place = ap (λ r. r.place) m.1 ∙ o.way.place } }

pub rule_line : (begin at after : Reader) (answer : Result Line Fault) → On (form_in (left begin)) begin (then (rule_form (left at)) λ r rest. Some (LineText.rule r.0 r.1 r.2, rest)) at 5 →
    LineAnswer (rule_form (left at)) at rule_parts rule_size answer after → LineAnswer (form_in (left begin)) begin line_parts form_size answer after
rule_line begin at after (Ok l) o r =
    let t = took (rule_form (left at)) at rule_parts rule_size l after r in
    end line_parts form_size (on _ o t) (t.shown ∙ ap (λ n. rule_parts n t.value) o.place) refl
rule_line begin at after (Err f) o r = (r.0, misfit line_parts form_size (off _ o (missed (rule_form (left at)) at rule_parts rule_size after r.1)))
