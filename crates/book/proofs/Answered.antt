-- What the readers answer, in the words of the grammar.
use Rattle.std.proofs.Common.{◌≡◌, ℕ, ◌+◌, List, Some, None, Ok, Err, Option, sym, refl, ap, ◌∙◌}
use Rattle.book.specs.declared.fault.Fault.{Fault}
use Rattle.book.specs.declared.fault.Fault.TheVariants.{NoForm}
use Rattle.book.specs.declared.parts.ItemParts.{ItemParts}
use Rattle.book.specs.declared.parts.Line.{Line}
use Rattle.book.specs.declared.reader.Reader.{Reader}
use Rattle.book.specs.Reading.{Parsed, item_in, line_in}
use Rattle.book.specs.Places.{left, Reads, item_parts, item_size}
use Rattle.book.specs.Lines.{LineRead, ItemRead, line_parts, line_size}
use Rattle.book.proofs.Names.{some_same}
use Rattle.book.proofs.Lines.{inverse_law}
use Rattle.book.proofs.Laws.{item_law}
use Rattle.book.proofs.Steps.{Took, took}

-- nothing else is read there
only : {A B : Type 0} {P : Parsed A} {before after : Reader} {show : ℕ → A → B} {size : A → ℕ} {b : B} → Took P before show size b after → (a : A) (rest : List ℕ) → P ≡ Some (a, rest) →
    (b ≡ show before.place a) × (after.place ≡ before.place + size a)
only {before = before} {after = after} {show = show} {size = size} t a rest e =
    let p = ap (λ q. q.0) (some_same (sym t.parsed ∙ e)) in
    (t.shown ∙ ap (show before.place) p, t.place ∙ ap (λ x. before.place + size x) p)

not_both : {A P : Type 0} {o : Parsed A} {x : A × List ℕ} → o ≡ None → o ≡ Some x → P
not_both n s = absurd cc

abbrev pub ItemAnswered : Reader → Option ItemParts → Reader → Type 0
ItemAnswered before answer after = record { read : ItemRead before answer after; answer : Reads (item_in (left before)) before item_parts item_size answer after }

-- nothing is read, and the reader is where it was
pub item_still : (r r2 : Reader) (answer : Option ItemParts) → r2.text ≡ r.text → r2.place ≡ r.place → item_in (left r) ≡ None → answer ≡ None → ItemAnswered r answer r2
item_still r r2 answer same stays n a =
    rw a record {
      read = record { text = same; read = λ i rest e g s. not_both n ((item_law (left r) i rest).1 (e, g, s)); none = λ _. (refl, stays) };
      answer = rw n (refl, same);
    }

pub item_none : (r : Reader) (answer : Option ItemParts) → item_in (left r) ≡ None → answer ≡ None → ItemAnswered r answer r
item_none r answer n a = item_still r r answer refl refl n a

pub item_some : (before after : Reader) (p : ItemParts) → Reads (item_in (left before)) before item_parts item_size (Some p) after → ItemAnswered before (Some p) after
item_some before after p r =
    let t = took (item_in (left before)) before item_parts item_size p after r in
    record {
      read = record {
        text = t.text;
        read = λ i rest e g s. let q = only t i rest ((item_law (left before) i rest).1 (e, g, s)) in (ap Some q.0, q.1);
        none = λ n. absurd (let q = (item_law (left before) t.value (left after)).0 t.parsed in n t.value (left after) q.0 q.1 q.2);
      };
      answer = r;
    }

pub line_none : (r : Reader) (f : Fault) → line_in (left r) ≡ None → f ≡ NoForm → LineRead r (Err f) r
line_none r f n a = record { text = refl; read = λ l rest e g. not_both n ((inverse_law (left r) l rest).1 (e, g)); none = λ _. (ap Err a, refl) }

pub line_some : (before after : Reader) (l : Line) → Reads (line_in (left before)) before line_parts line_size (Some l) after → LineRead before (Ok l) after
line_some before after l r =
    let t = took (line_in (left before)) before line_parts line_size l after r in
    record {
      text = t.text;
      read = λ m rest e g. let q = only t m rest ((inverse_law (left before) m rest).1 (e, g)) in (ap Ok q.0, q.1);
      none = λ n. absurd (let q = (inverse_law (left before) t.value (left after)).0 t.parsed in n t.value (left after) q.0 q.1);
    }
