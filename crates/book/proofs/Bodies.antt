-- The body items of a rule, counted from left to right.
use Rattle.std.proofs.Common.{◌≡◌, ℕ, zero, suc, ◌+◌, ◌-◌, ◌≤◌, List, [], ◌∷◌, ◌++◌, length, Some, None, codes, sym, refl, ap, ◌∙◌, append_assoc, append-nil, arith, length-append}
use Rattle.book.specs.declared.parts.ItemParts.{ItemParts}
use Rattle.book.specs.declared.reader.Reader.{Reader}
use Rattle.book.specs.Grammar.{ItemText, item_bytes, more_items}
use Rattle.book.specs.Reading.{Parsed, then, word_in, item_in, more_in}
use Rattle.book.specs.Places.{left, Reads, item_parts, item_size}
use Rattle.book.specs.Lines.{more_size}
use Rattle.book.proofs.Lines.{items_long}
use Rattle.book.proofs.Steps.{Took, Missed, On, start, turn, on, off, misfit, end, less_left}

then_same : {A : Type 0} (P : Parsed A) → P ≡ then P (λ a b. Some (a, b))
then_same None = refl
then_same (Some p) = refl

then_then : {A B C : Type 0} (P : Parsed A) (f : A → List ℕ → Parsed B) (g : B → List ℕ → Parsed C) → then (then P f) g ≡ then P (λ a b. then (f a b) g)
then_then None f g = refl
then_then (Some p) f g = refl

abbrev one_more : ℕ → ItemText → List ℕ → Parsed (List ItemText)
one_more most i rest = then (more_in most rest) λ is b. Some (i ∷ is, b)

no_more : (most : ℕ) (bytes : List ℕ) → word_in (codes " and ") bytes ≡ None → more_in most bytes ≡ Some ([], bytes)
unfolding more_in
no_more zero bytes e = refl
no_more (suc most) bytes e = ap (λ o. elim o as (λ _. Parsed (List ItemText)) [ None ↦ Some ([], bytes) | Some p ↦ then (item_in p.1) (one_more most) ]) e

some_more : (most : ℕ) (bytes rest : List ℕ) → word_in (codes " and ") bytes ≡ Some (tt, rest) → more_in (suc most) bytes ≡ then (item_in rest) (one_more most)
unfolding more_in
some_more most bytes rest e = ap (λ o. elim o as (λ _. Parsed (List ItemText)) [ None ↦ Some ([], bytes) | Some p ↦ then (item_in p.1) (one_more most) ]) e

abbrev put_before : List ItemText → List ItemText → List ℕ → Parsed (List ItemText)
put_before done is b = Some (done ++ is, b)

more_push : (is : List ItemText) (i : ItemText) → more_size (is ++ i ∷ []) ≡ more_size is + 5 + item_size i
more_push [] i = omega (arith, length-append (item_bytes i) [])
more_push (j ∷ js) i = omega (arith, more_push js i, length-append (item_bytes j) (more_items (js ++ i ∷ [])), length-append (item_bytes j) (more_items js))

-- what was read so far, and what is still to be read
pub record BodySoFar (begin at : Reader) (count : ℕ) : Type 0 where
  pub done : List ItemText
  pub most : ℕ
  pub way : On (more_in (length (left begin)) (left begin)) begin (then (more_in most (left at)) (put_before done)) at (more_size done)
  pub enough : length (left at) ≤ most
  pub counted : count ≡ length done

pub body_start : (r : Reader) → BodySoFar r r 0
body_start r = record { done = []; most = length (left r); way = turn (start (more_in (length (left r)) (left r)) r) (then_same _); enough = omega arith; counted = refl }

-- no more items than bytes
pub body_few : (begin at : Reader) (count : ℕ) → BodySoFar begin at count → count ≤ at.place
body_few begin at count s = let p = s.way.place in let c = s.counted in omega (arith, items_long s.done)

module _ (begin at : Reader) (count : ℕ) (s : BodySoFar begin at count) where
  pub body_end : word_in (codes " and ") (left at) ≡ None → Reads (more_in (length (left begin)) (left begin)) begin (λ _ is. length is) more_size (Some count) at
  body_end n =
      let o = turn s.way (ap (λ o. then o (put_before s.done)) (no_more s.most (left at) n) ∙ ap (λ is. Some (is, left at)) (append-nil s.done)) in
      end (λ _ is. length is) more_size o s.counted refl

  -- behind the word `and`
  module _ (r1 : Reader) (w : Took (word_in (codes " and ") (left at)) at (λ _ u. u) (λ _. 5) tt r1) where
    fewer : ℕ
    fewer = s.most - 1

    most_is : s.most ≡ suc fewer
    unfolding fewer
    most_is = let e = s.enough in let q = less_left at r1 5 w.text w.place in omega arith

    behind_and : On (more_in (length (left begin)) (left begin)) begin (then (item_in (left r1)) (λ i rest. then (one_more fewer i rest) (put_before s.done))) r1 (more_size s.done + 5)
    behind_and =
        let f = ap (λ m. more_in m (left at)) most_is ∙ some_more fewer (left at) (left r1) w.parsed in
        let o = turn s.way (ap (λ o. then o (put_before s.done)) f ∙ then_then (item_in (left r1)) (one_more fewer) (put_before s.done)) in
        let p = o.place in
        let q = w.place in
        record { is = o.is; text = w.text ∙ o.text; place = omega arith }

    pub body_fails : (r2 : Reader) → Missed (item_in (left r1)) r1 r2 → Reads (more_in (length (left begin)) (left begin)) begin (λ _ is. length is) more_size None r2
    body_fails r2 m = misfit (λ _ is. length is) more_size (off _ behind_and m)

    pub body_next : (p : ItemParts) (r2 : Reader) → Took (item_in (left r1)) r1 item_parts item_size p r2 → BodySoFar begin r2 (count + 1)
    body_next p r2 t =
        let i = t.value in
        let o = on _ behind_and t in
        let q = less_left r1 r2 (item_size i) t.text t.place in
        let l = less_left at r1 5 w.text w.place in
        let e = s.enough in
        let m = most_is in
        let c = s.counted in
        let z : more_size (s.done ++ i ∷ []) ≡ more_size s.done + 5 + item_size i = more_push s.done i in
        let d = turn o (then_then (more_in fewer (left r2)) (λ is b. Some (i ∷ is, b)) (put_before s.done) ∙ (λ j. then (more_in fewer (left r2)) (λ is b. Some (sym (append_assoc s.done (i ∷ []) is) j, b)))) in
        record {
          done = s.done ++ i ∷ [];
          most = fewer;
          way = record { is = d.is; text = d.text; place = d.place ∙ ap (λ n. begin.place + n) (sym z) };
          enough = omega arith;
          counted = omega (arith, length-append s.done (i ∷ []));
        }
