-- A whole text is read line after line.
use Rattle.std.proofs.Common.{◌≡◌, ℕ, zero, suc, ◌+◌, ◌<◌, ◌≤◌, min, true, List, [], ◌∷◌, ◌++◌, length, take, drop, Some, None, Ok, Err, Option, Result, sym, refl, ap, ◌∙◌, subst, arith, length-append, take-append-drop}
use Rattle.std.proofs.lemmas.List.{drop_at, drop-drop, length-take-le}
use Rattle.table.specs.Held.{held}
use Rattle.book.specs.declared.fault.Fault.{Fault}
use Rattle.book.specs.declared.fault.Fault.TheVariants.{NoForm}
use Rattle.book.specs.declared.parts.Line.{Line}
use Rattle.book.specs.declared.reader.Reader.{Reader}
use Rattle.book.specs.Grammar.{LineText, line_bytes}
use Rattle.book.specs.Reading.{Parsed, line_in}
use Rattle.book.specs.Places.{left}
use Rattle.book.specs.Lines.{LineRead, line_parts, line_size}
use Rattle.book.proofs.Lines.{inverse_law}
use Rattle.house.specs.declared.refusal.Refusal.{Refusal}
use Rattle.house.specs.declared.tables.Tables.{Tables}
use Rattle.house.specs.View.{View, rule_views, empty_view}
use Rattle.house.specs.Soundness.{sound}
use Rattle.house.specs.Tables.{tables_view}
use Rattle.house.specs.declared.refusal.Refusal.{Refusal}
use Rattle.house.specs.Policies.{Policies, nothing, with, fault_of}
use Rattle.house.specs.Books.{unless, line_then, lines_from, book_read, house_read, view_of}
use Rattle.house.specs.Filling.{LineAt, Filled, Added, AddsLine, TakenLine, TakesLine, TablesRead}
use Rattle.house.proofs.Pushes.{refused_by, mapped_ok, mapped_err}
use Rattle.house.proofs.Keeping.{kept_sound}
use Rattle.house.proofs.BookLaw.{line_size_lem, at_end, short_read}

abbrev LineHere : Parsed LineText → List ℕ → Reader → Result Line Fault → Reader → Type 0
LineHere None text before answer after = answer ≡ Err NoForm
LineHere (Some p) text before answer after = (answer ≡ Ok (line_parts before.place p.0)) × LineAt text before.place p.0 × (after.place ≡ before.place + line_size p.0) × (left after ≡ p.1)

-- the line at a reader's place
pub line_here : (text : List ℕ) (before after : Reader) (answer : Result Line Fault) → LineRead before answer after → before.text.now ≡ text → (p : Parsed LineText) → line_in (left before) ≡ p → LineHere p text before answer after
line_here text before after answer r t None e = (r.none (λ l rest w g. cc (sym ((inverse_law (left before) l rest).1 (w, g)) ∙ e))).0
line_here text before after answer r t (Some p) e =
    let l = p.0 in
    let rest = p.1 in
    let w = (inverse_law (left before) l rest).0 e in
    let k = r.read l rest w.0 w.1 in
    let inside = before.within in
    let there : length (take before.place before.text.now) ≡ before.place = length-take-le before.place before.text.now inside in
    let whole : text ≡ take before.place before.text.now ++ (line_bytes l ++ rest) = sym t ∙ sym (take-append-drop before.place before.text.now) ∙ ap (λ x. take before.place before.text.now ++ x) w.0 in
    let behind : left after ≡ rest =
    ap (λ x. drop after.place x.now) r.text ∙ ap (λ x. drop x before.text.now) k.1 ∙ sym (drop-drop (line_size l) before.place before.text.now) ∙ ap (drop (line_size l)) w.0 ∙ drop_at (line_bytes l) rest (line_size l) refl in
    (k.0, record { behind = rest; stands = record { front = take before.place before.text.now; writing = whole; there = sym there }; good = w.1 }, k.1, behind)

-- and what is done with it
module _ (text : List ℕ) (t : Tables) (before behind : Reader) (read : Result Line Fault) (r : LineRead before read behind) where
  pub taken_none : (g : Fault) (after : Tables) → read ≡ Err g → TakesLine text t before (Err g) after behind
  taken_none g after is v f e = (go (line_in (left before)) refl, ap (λ x. x.now) r.text ∙ e)
    where
      go : (p : Parsed LineText) → line_in (left before) ≡ p → TakenLine p text v before (Err g) after behind
      go None q = cc (sym is ∙ line_here text before behind read r e None q)
      go (Some p) q = cc (sym (line_here text before behind read r e (Some p) q).0 ∙ is)

  pub taken_line : (line : Line) (answer : Result (Unit {0}) Fault) (after : Tables) → read ≡ Ok line → AddsLine text t line answer after → TakesLine text t before answer after behind
  taken_line line answer after is adds v f e = (go (line_in (left before)) refl, ap (λ x. x.now) r.text ∙ e)
    where
      go : (p : Parsed LineText) → line_in (left before) ≡ p → TakenLine p text v before answer after behind
      go None q = cc (sym is ∙ line_here text before behind read r e None q)
      go (Some p) q =
          let k = line_here text before behind read r e (Some p) q in
          (adds v before.place p.0 f k.1 (cc (sym is ∙ k.0)), k.2, k.3)

-- where the loop over the lines stands
pub record ReadSoFar (text : List ℕ) (t : Tables) (reader : Reader) (line : ℕ) : Type 0 where
  pub so_far : Policies
  pub most : ℕ
  pub text_is : reader.text.now ≡ text
  pub filled : Filled text t so_far
  pub enough : length (left reader) ≤ most
  pub to_come : lines_from most (left reader) reader.place line so_far ≡ lines_from (length text) text 0 1 nothing
  pub counted : line ≤ reader.place + 1

pub begun : (text : List ℕ) (t : Tables) (reader : Reader) → tables_view 0 t ≡ empty_view → reader.text.now ≡ text → reader.place ≡ min 0 (length text) → ReadSoFar text t reader 1
begun text t reader e b p =
    let z : reader.place ≡ 0 = omega arith in
    let l : left reader ≡ text = ap (λ n. drop n reader.text.now) z ∙ b in
    let m = ap length l in
    record {
      so_far = nothing;
      most = length text;
      text_is = b;
      filled =
          record {
            parties = ap (λ v. v.parties) e;
            items = ap (λ v. v.items) e;
            rules = ap (λ v. v.rules) e;
            asked = ap (λ v. v.asked) e;
            kept = record { names = tt; items = tt; ends = tt; rules = refl; asked = refl };
          };
      enough = omega arith;
      to_come = ap (λ x. lines_from (length text) x reader.place 1 nothing) l ∙ ap (λ n. lines_from (length text) text n 1 nothing) z;
      counted = omega arith;
    }

-- tables that hold policies show their view
module _ (text : List ℕ) (t : Tables) (v : Policies) (f : Filled text t v) where
  abbrev read : View
  read = view_of (length text) v

  view_is : read ≡ tables_view (length text) t
  view_is = cc (f.parties, f.items, f.rules, f.asked)

  tables_sound : sound (held t.parties) (held t.items) (rule_views (held t.rules)) t.asked (length text) ≡ true
  tables_sound = rw (f.parties, f.items, f.rules, f.asked) (kept_sound text v f.kept)

-- one line and those behind it
unfold_line : (most : ℕ) (bytes : List ℕ) (place line : ℕ) (v : Policies) → length bytes ≤ most → 0 < length bytes →
    (less : ℕ) × (most ≡ suc less) × (lines_from most bytes place line v ≡ line_then (line_in bytes) place line v (λ rest next w. lines_from less rest next (line + 1) w))
unfold_line zero bytes place line v l n = absurd (omega arith)
unfold_line (suc m) [] place line v l n = absurd (omega arith)
unfold_line (suc m) (b ∷ bs) place line v l n = (m, refl, refl)

shown : (text : List ℕ) (answer : Result Policies Refusal) → book_read text ≡ answer → house_read text ≡ (elim answer [ Ok v ↦ Ok (view_of (length text) v) | Err f ↦ Err f ])
shown text answer e = ap (λ x. (elim x [ Ok v ↦ Ok (view_of (length text) v) | Err f ↦ Err f ])) e

module _ (text : List ℕ) (short : length text ≤ 32768) (t : Tables) (reader : Reader) (line : ℕ) (s : ReadSoFar text t reader line) where
  module _ (n : 0 < length (left reader)) (behind : Reader) (after : Tables) where
    abbrev opened : (less : ℕ) × (s.most ≡ suc less) × (lines_from s.most (left reader) reader.place line s.so_far ≡ line_then (line_in (left reader)) reader.place line s.so_far (λ rest next w. lines_from less rest next (line + 1) w))
    opened = unfold_line s.most (left reader) reader.place line s.so_far s.enough n

    abbrev more : List ℕ → ℕ → Policies → Result Policies Refusal
    more rest next w = lines_from opened.0 rest next (line + 1) w

    -- a line at fault ends the reading
    stopped : (g : Fault) → TakesLine text t reader (Err g) after behind → TablesRead text (Err (record { fault = g; line = line }))
    stopped g takes = shown text (Err (record { fault = g; line = line })) (short_read text short ∙ sym s.to_come ∙ opened.2 ∙ go (line_in (left reader)) (takes s.so_far s.filled s.text_is).0)
      where
        judged : (l : LineText) (rest : List ℕ) (f : Option Fault) → Added text s.so_far reader.place l f (Err g) after → unless f line (more rest (reader.place + line_size l) (with s.so_far reader.place l)) ≡ Err (record { fault = g; line = line })
        judged l rest None a = cc (sym a.0)
        judged l rest (Some f) a = cc a

        go : (p : Parsed LineText) → TakenLine p text s.so_far reader (Err g) after behind → line_then p reader.place line s.so_far more ≡ Err (record { fault = g; line = line })
        go None a = cc a
        go (Some p) a = judged p.0 p.1 (fault_of s.so_far p.0) a.0

    -- a line without fault is passed
    passed : TakesLine text t reader (Ok tt) after behind → ReadSoFar text after behind (line + 1) × (length (left behind) < length (left reader))
    passed takes = go (line_in (left reader)) refl (takes s.so_far s.filled s.text_is).0
      where
        judged : (l : LineText) (rest : List ℕ) (f : Option Fault) → fault_of s.so_far l ≡ f → Added text s.so_far reader.place l f (Ok tt) after → (fault_of s.so_far l ≡ None) × Filled text after (with s.so_far reader.place l)
        judged l rest None q a = (q, a.1)
        judged l rest (Some f) q a = cc a

        go : (p : Parsed LineText) → line_in (left reader) ≡ p → TakenLine p text s.so_far reader (Ok tt) after behind → ReadSoFar text after behind (line + 1) × (length (left behind) < length (left reader))
        go None e a = cc a
        go (Some p) e a =
            let l = p.0 in
            let rest = p.1 in
            let w = (inverse_law (left reader) l rest).0 e in
            let j = judged l rest (fault_of s.so_far l) refl a.0 in
            let v2 = with s.so_far reader.place l in
            let z = line_size_lem l in
            let size = ap length w.0 ∙ length-append (line_bytes l) rest in
            let here = ap length a.2 in
            let c = s.counted in
            let moved = a.1 in
            let most-is = opened.1 in
            let fits = s.enough in (
              record {
                so_far = v2;
                most = opened.0;
                text_is = (takes s.so_far s.filled s.text_is).1;
                filled = j.1;
                enough = omega arith;
                to_come =
                    ap (λ x. lines_from opened.0 x behind.place (line + 1) v2) a.2 ∙ ap (λ x. lines_from opened.0 rest x (line + 1) v2) a.1
                    ∙ sym (ap (λ o. unless o line (more rest (reader.place + line_size l) v2)) j.0) ∙ sym (ap (λ x. line_then x reader.place line s.so_far more) e) ∙ sym opened.2 ∙ s.to_come;
                counted = omega arith;
              },
              omega arith,
            )

    -- and so the refusals of the whole text
    module _ (answer : Result (Unit {0}) Fault) (told : Result (Unit {0}) Refusal) (m : told ≡ refused_by (λ g. record { fault = g; line = line }) answer) (takes : TakesLine text t reader answer after behind) where
      pub ended : (d : Refusal) → told ≡ Err d → TablesRead text (Err d)
      ended d e =
          let k = mapped_err (λ g. record { fault = g; line = line }) answer told d m e in
          subst (λ x. TablesRead text (Err x)) (sym k.2) (stopped k.0 (subst (λ x. TakesLine text t reader x after behind) k.1 takes))

      pub went_on : (x : Unit {0}) → told ≡ Ok x → ReadSoFar text after behind (line + 1) × (length (left behind) < length (left reader))
      went_on x e = passed (subst (λ y. TakesLine text t reader y after behind) (mapped_ok (λ g. record { fault = g; line = line }) answer told x m e) takes)

  -- all lines are read
  pub all_read : length (left reader) ≡ 0 → TablesRead text (Ok t)
  all_read z =
      let v = s.so_far in
      let none : left reader ≡ [] = no_bytes (left reader) z in
      let read_is : book_read text ≡ Ok v = short_read text short ∙ sym s.to_come ∙ ap (λ x. lines_from s.most x reader.place line v) none ∙ at_end s.most reader.place line v in
      (shown text (Ok v) read_is ∙ ap Ok (view_is text t v s.filled), tables_sound text t v s.filled, short)
    where
      no_bytes : (xs : List ℕ) → length xs ≡ 0 → xs ≡ []
      no_bytes [] e = refl
      no_bytes (x ∷ xs) e = absurd (omega arith)
