-- One step of a reader: what it parsed, what it answers and where it is then.
use Rattle.std.proofs.Common.{◌≡◌, ℕ, ◌+◌, true, false, List, ◌++◌, length, drop, is_some, Some, None, Option, sym, refl, ap, ◌∙◌, subst, arith, length-drop}
use Rattle.std.proofs.lemmas.List.{drop_at, drop-drop}
use Rattle.book.specs.declared.reader.Reader.{Reader}
use Rattle.book.specs.Grammar.{Name}
use Rattle.book.specs.Reading.{Parsed, then, name_in, word_in}
use Rattle.book.specs.Places.{left, Reads, name_size, name_part}
use Rattle.book.proofs.Names.{name_of, word_at, word_of}

-- behind what stands at the place
pub moved : (before after : Reader) (x rest : List ℕ) → after.text ≡ before.text → after.place ≡ before.place + length x → left before ≡ x ++ rest → left after ≡ rest
moved before after x rest t p e =
    (λ j. drop (p j) (t j).now) ∙ sym (drop-drop (length x) before.place before.text.now) ∙ ap (drop (length x)) e ∙ drop_at x rest (length x) refl

module _ {A B : Type 0} (show : ℕ → A → B) (size : A → ℕ) {P : Parsed A} (before after : Reader) where
  pub reads : (a : A) {b : B} → P ≡ Some (a, left after) → b ≡ show before.place a → after.text ≡ before.text → after.place ≡ before.place + size a → Reads P before show size (Some b) after
  reads a {b = b} e s t p = subst (λ o. Reads o before show size (Some b) after) (sym e) (ap Some s, t, p, refl)

  pub reads_none : P ≡ None → after.text ≡ before.text → Reads P before show size None after
  reads_none e t = subst (λ o. Reads o before show size None after) (sym e) (refl, t)

-- what is known where a step answered something
pub record Took {A B : Type 0} (P : Parsed A) (before : Reader) (show : ℕ → A → B) (size : A → ℕ) (b : B) (after : Reader) : Type 0 where
  pub value : A
  pub parsed : P ≡ Some (value, left after)
  pub shown : b ≡ show before.place value
  pub text : after.text ≡ before.text
  pub place : after.place ≡ before.place + size value

pub took : {A B : Type 0} (P : Parsed A) (before : Reader) (show : ℕ → A → B) (size : A → ℕ) (b : B) (after : Reader) → Reads P before show size (Some b) after → Took P before show size b after
took None before show size b after r = absurd (let k = r.0 in cc)
took (Some p) before show size b after r =
    let k = r.0 in
    record { value = p.0; parsed = ap (λ x. Some (p.0, x)) (sym r.3); shown = (cc); text = r.1; place = r.2 }

-- and where it answered none
pub record Missed {A : Type 0} (P : Parsed A) (before after : Reader) : Type 0 where
  pub parsed : P ≡ None
  pub text : after.text ≡ before.text

pub missed : {A B : Type 0} (P : Parsed A) (before : Reader) (show : ℕ → A → B) (size : A → ℕ) (after : Reader) → Reads P before show size None after → Missed P before after
missed None before show size after r = record { parsed = refl; text = r.1 }
missed (Some p) before show size after r = absurd (let k = r.0 in cc)

-- on the way through `whole`: `goes` is still to be read, `k` bytes behind the beginning
pub record On {C : Type 0} (whole : Parsed C) (begin : Reader) (goes : Parsed C) (at : Reader) (k : ℕ) : Type 0 where
  pub is : whole ≡ goes
  pub text : at.text ≡ begin.text
  pub place : at.place ≡ begin.place + k

pub start : {C : Type 0} (whole : Parsed C) (r : Reader) → On whole r whole r 0
start whole r = record { is = refl; text = refl; place = omega arith }

-- the same with what is still to be read in other words
pub turn : {C : Type 0} {whole goes other : Parsed C} {begin at : Reader} {k : ℕ} → On whole begin goes at k → goes ≡ other → On whole begin other at k
turn o e = record { is = o.is ∙ e; text = o.text; place = o.place }

pub on : {A B C : Type 0} {whole : Parsed C} {begin at after : Reader} {k : ℕ} {P : Parsed A} {show : ℕ → A → B} {size : A → ℕ} {b : B} (f : A → List ℕ → Parsed C) →
    On whole begin (then P f) at k → (t : Took P at show size b after) → On whole begin (f t.value (left after)) after (k + size t.value)
on {k = k} {size = size} f o t =
    let p = o.place in
    let q = t.place in
    record { is = o.is ∙ ap (λ x. then x f) t.parsed; text = t.text ∙ o.text; place = omega arith }

pub off : {A C : Type 0} {whole : Parsed C} {begin at after : Reader} {k : ℕ} {P : Parsed A} (f : A → List ℕ → Parsed C) → On whole begin (then P f) at k → Missed P at after → Missed whole begin after
off f o m = record { parsed = o.is ∙ ap (λ x. then x f) m.parsed; text = m.text ∙ o.text }

module _ {C D : Type 0} (show : ℕ → C → D) (size : C → ℕ) {whole : Parsed C} {begin at : Reader} where
  pub misfit : Missed whole begin at → Reads whole begin show size None at
  misfit m = reads_none show size begin at m.parsed m.text

  pub end : {k : ℕ} {c : C} {d : D} → On whole begin (Some (c, left at)) at k → d ≡ show begin.place c → k ≡ size c → Reads whole begin show size (Some d) at
  end {c = c} o s z = reads show size begin at c o.is s o.text (o.place ∙ ap (λ n. begin.place + n) z)

  pub nothing : {k : ℕ} → On whole begin None at k → Reads whole begin show size None at
  nothing o = reads_none show size begin at o.is o.text

-- a reader of the same place that goes ahead
pub ahead_start : {C : Type 0} (read : List ℕ → Parsed C) (begin ahead : Reader) → ahead.text ≡ begin.text → ahead.place ≡ begin.place → On (read (left begin)) begin (read (left ahead)) ahead 0
ahead_start read begin ahead t p = record { is = λ j. read (drop (sym p j) (sym t j).now); text = t; place = omega arith }

-- bytes that were read are no longer left
pub less_left : (before after : Reader) (k : ℕ) → after.text ≡ before.text → after.place ≡ before.place + k → length (left after) + k ≡ length (left before)
less_left before after k t p =
    let w = after.within in
    let s = ap (λ x. length x.now) t in
    omega (arith, length-drop before.place before.text.now, length-drop after.place after.text.now)

pub name_moves : (before after : Reader) (n : ℕ) → Some n ≡ name_size (name_in (left before)) → after.text ≡ before.text → after.place ≡ before.place + n →
    Reads (name_in (left before)) before name_part length (Some (record { place = before.place; length = n })) after
name_moves before after n e t p = go (name_in (left before)) refl e
  where
    go : (o : Parsed Name) → name_in (left before) ≡ o → Some n ≡ name_size o → Reads o before name_part length (Some (record { place = before.place; length = n })) after
    go None f s = absurd cc
    go (Some q) f s =
        let k : n ≡ length q.0 = cc in
        let m = name_of (left before) q.0 q.1 f in
        (ap (λ l. Some (record { place = before.place; length = l })) k, t, p ∙ ap (λ x. before.place + x) k, moved before after q.0 q.1 t (p ∙ ap (λ x. before.place + x) k) m.0)

-- a word that the text goes on with
module _ (w : List ℕ) (before after : Reader) where
  pub word_moves : (rest : List ℕ) → left before ≡ w ++ rest → after.text ≡ before.text → after.place ≡ before.place + length w → Reads (word_in w (left before)) before (λ _ u. u) (λ _. length w) (Some tt) after
  word_moves rest e t p =
      let l = moved before after w rest t p e in
      reads (λ _ u. u) (λ _. length w) before after tt (ap (word_in w) e ∙ word_at w rest ∙ ap (λ b. Some (tt, b)) (sym l)) refl t p

  pub word_stays : ((rest : List ℕ) → left before ≡ w ++ rest → ⊥) → after.text ≡ before.text → Reads (word_in w (left before)) before (λ _ u. u) (λ _. length w) None after
  word_stays n t = reads_none (λ _ u. u) (λ _. length w) before after (go (word_in w (left before)) refl) t
    where
      go : (o : Parsed (Unit {0})) → word_in w (left before) ≡ o → o ≡ None
      go None e = refl
      go (Some p) e = absurd (n p.1 (word_of w (left before) p.1 e))

-- the same where its answer was only tested
module _ (w : List ℕ) (before after : Reader) where
  pub word_took : (answer : Option (Unit {0})) → Reads (word_in w (left before)) before (λ _ u. u) (λ _. length w) answer after → is_some answer ≡ true → Took (word_in w (left before)) before (λ _ u. u) (λ _. length w) tt after
  word_took None r e = absurd cc
  word_took (Some u) r e = took (word_in w (left before)) before (λ _ u. u) (λ _. length w) u after r

  pub word_missed : (answer : Option (Unit {0})) → Reads (word_in w (left before)) before (λ _ u. u) (λ _. length w) answer after → (answer ≡ None → after ≡ before) → is_some answer ≡ false →
      Missed (word_in w (left before)) before after × (after ≡ before)
  word_missed None r s e = (missed (word_in w (left before)) before (λ _ u. u) (λ _. length w) after r, s refl)
  word_missed (Some u) r s e = absurd cc
