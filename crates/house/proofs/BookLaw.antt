-- Reading a book answers what its lines say.
use Rattle.std.proofs.Common.{◌≡◌, ℕ, zero, suc, ◌+◌, ◌<◌, ◌≤◌, false, ltb, List, [], ◌∷◌, ◌++◌, length, Some, None, Ok, Err, Option, Result, sym, refl, ap, ◌∙◌, subst, inl, inr, append_assoc, append-nil, arith, length-append}
use Rattle.std.proofs.lemmas.Bool.{ltb-false, lt-ltb, le-ltb, cond-true, cond-false}
use Rattle.book.specs.declared.fault.Fault.{Fault}
use Rattle.book.specs.Grammar.{LineText, line_bytes, GoodLine}
use Rattle.book.specs.Reading.{Parsed, line_in}
use Rattle.book.specs.Lines.{line_size}
use Rattle.book.proofs.Lines.{inverse_law}
use Rattle.house.specs.declared.refusal.Refusal.{Refusal}
use Rattle.house.specs.Policies.{Policies, nothing, with, fault_of}
use Rattle.house.specs.Books.{unless, line_then, lines_from, book_read}
use Rattle.house.specs.RegisterLaw.{RegisterLaw}
use Rattle.house.proofs.Stand.{lines_stand}
use Rattle.house.proofs.Orderly.{lines_sorted, none_sorted, orderly}
use Rattle.house.proofs.Smallest.{smallest_fault}
use Rattle.house.specs.BookLaw.{lines_bytes, Front, NoLine, Faulty, Told, Stand, BookLaw}

-- no line is empty
pub line_size_lem : (l : LineText) → 0 < line_size l
line_size_lem (LineText.party n) = omega arith
line_size_lem (LineText.hold i) = omega arith
line_size_lem (LineText.rule h b bs) = omega arith
line_size_lem (LineText.ask i) = omega arith

here : (bytes : List ℕ) (v : Policies) (place : ℕ) → Front bytes v place [] v bytes
here bytes v place = record { writing = refl; good = tt; says = refl }

module _ (bytes : List ℕ) (v : Policies) (place line : ℕ) (l : LineText) (rest : List ℕ) (e : bytes ≡ line_bytes l ++ rest) (g : GoodLine l) (n : fault_of v l ≡ None) where
  front : (ls : List LineText) (after : Policies) (behind : List ℕ) → Front rest (with v place l) (place + line_size l) ls after behind → Front bytes v place (l ∷ ls) after behind
  front ls after behind f =
      record { writing = e ∙ ap (λ x. line_bytes l ++ x) f.writing ∙ sym (append_assoc (line_bytes l) (lines_bytes ls) behind); good = (g, f.good); says = (n, f.says) }

  -- what is told of the bytes behind a line without fault is told of the line and them
  later : (r : Result Policies Refusal) → Told rest (with v place l) (place + line_size l) (line + 1) r → Told bytes v place line r
  later (Ok after) t = (l ∷ t.0, front t.0 after [] t.1)
  later (Err f) t = let k = t.5 in (l ∷ t.0, t.1, t.2, front t.0 t.1 t.2 t.3, t.4, omega arith)

pub shorter : (bytes : List ℕ) (l : LineText) (rest : List ℕ) (most : ℕ) → bytes ≡ line_bytes l ++ rest → length bytes ≤ suc most → length rest ≤ most
shorter bytes l rest most e h = let k = ap length e ∙ length-append (line_bytes l) rest in let z = line_size_lem l in omega arith

-- one line and the lines behind it, of which it is known what is told
module _
    (most : ℕ)
    (b : ℕ)
    (bs : List ℕ)
    (place line : ℕ)
    (v : Policies)
    (h : length (b ∷ bs) ≤ suc most)
    (again : (rest : List ℕ) (next : ℕ) (w : Policies) → length rest ≤ most → Told rest w next (line + 1) (lines_from most rest next (line + 1) w))
  where
    abbrev bytes : List ℕ
    bytes = b ∷ bs

    abbrev more : List ℕ → ℕ → Policies → Result Policies Refusal
    more rest next w = lines_from most rest next (line + 1) w

    judged : (l : LineText) (rest : List ℕ) → bytes ≡ line_bytes l ++ rest → GoodLine l → (f : Option Fault) → fault_of v l ≡ f →
        Told bytes v place line (unless f line (more rest (place + line_size l) (with v place l)))
    judged l rest e g None n = later bytes v place line l rest e g n _ (again rest (place + line_size l) (with v place l) (shorter bytes l rest most e h))
    judged l rest e g (Some f) n = ([], v, bytes, here bytes v place, inr (l, rest, e, g, n), omega arith)

    parsed : (r : Parsed LineText) → line_in bytes ≡ r → Told bytes v place line (line_then r place line v more)
    parsed None e = ([], v, bytes, here bytes v place, inl (refl, ((λ e. cc e), (λ l rest w g. cc (sym ((inverse_law bytes l rest).1 (w, g)) ∙ e)))), omega arith)
    parsed (Some p) e = let q = (inverse_law bytes p.0 p.1).0 e in judged p.0 p.1 q.0 q.1 (fault_of v p.0) refl

outcome : (most : ℕ) (bytes : List ℕ) (place line : ℕ) (v : Policies) → length bytes ≤ most → Told bytes v place line (lines_from most bytes place line v)
outcome zero [] place line v h = ([], here [] v place)
outcome zero (b ∷ bs) place line v h = absurd (omega arith)
outcome (suc most) [] place line v h = ([], here [] v place)
outcome (suc most) (b ∷ bs) place line v h = parsed most b bs place line v h (λ rest next w k. outcome most rest next (line + 1) w k) (line_in (b ∷ bs)) refl

-- a line without fault is passed
step : (most : ℕ) (bytes : List ℕ) (place line : ℕ) (v : Policies) (l : LineText) (rest : List ℕ) → bytes ≡ line_bytes l ++ rest → GoodLine l → (f : Option Fault) → fault_of v l ≡ f →
    lines_from (suc most) bytes place line v ≡ unless f line (lines_from most rest (place + line_size l) (line + 1) (with v place l))
step most [] place line v l rest e g f n = absurd (let k = ap length e ∙ length-append (line_bytes l) rest in let z = line_size_lem l in omega arith)
step most (b ∷ bs) place line v l rest e g f n =
    ap (λ r. line_then r place line v (λ rest next w. lines_from most rest next (line + 1) w)) ((inverse_law (b ∷ bs) l rest).1 (e, g))
    ∙ ap (λ o. unless o line (lines_from most rest (place + line_size l) (line + 1) (with v place l))) n

-- lines without fault are passed
pass : (ls : List LineText) (most : ℕ) (bytes : List ℕ) (place line : ℕ) (v w : Policies) (rest : List ℕ) → length bytes ≤ most → Front bytes v place ls w rest →
    (left : ℕ) × (next : ℕ) × (length rest ≤ left) × (lines_from most bytes place line v ≡ lines_from left rest next (line + length ls) w)
pass [] most bytes place line v w rest h f =
    let z : line ≡ line + 0 = omega arith in (
      most,
      place,
      subst (λ x. length x ≤ most) f.writing h,
      ap (λ x. lines_from most x place line v) f.writing ∙ ap (λ x. lines_from most rest place line x) f.says ∙ ap (λ x. lines_from most rest place x w) z,
    )
pass (l ∷ ls) zero bytes place line v w rest h f =
    absurd (let k = ap length (f.writing ∙ append_assoc (line_bytes l) (lines_bytes ls) rest) ∙ length-append (line_bytes l) (lines_bytes ls ++ rest) in let z = line_size_lem l in omega arith)
pass (l ∷ ls) (suc most) bytes place line v w rest h f =
    let e = f.writing ∙ append_assoc (line_bytes l) (lines_bytes ls) rest in
    let behind = lines_bytes ls ++ rest in
    let p = pass ls most behind (place + line_size l) (line + 1) (with v place l) w rest (shorter bytes l behind most e h) (record { writing = refl; good = f.good.1; says = f.says.1 }) in
    let z : line + 1 + length ls ≡ line + suc (length ls) = omega arith in
    (p.0, p.1, p.2, step most bytes place line v l behind e f.good.0 None f.says.0 ∙ p.3 ∙ ap (λ x. lines_from p.0 rest p.1 x w) z)

pub at_end : (most place line : ℕ) (v : Policies) → lines_from most [] place line v ≡ Ok v
at_end zero place line v = refl
at_end (suc most) place line v = refl

unread : (text : List ℕ) (r : Parsed LineText) → line_in text ≡ r → NoLine text → line_in text ≡ None
unread text None e n = e
unread text (Some p) e n = absurd (let q = (inverse_law text p.0 p.1).0 e in n.1 p.0 p.1 q.0 q.1)

at_fault : (most : ℕ) (rest : List ℕ) (place line : ℕ) (v : Policies) (f : Fault) → length rest ≤ most → Faulty v rest f → lines_from most rest place line v ≡ Err (record { fault = f; line = line })
at_fault most [] place line v f h (inl y) = absurd (y.1.0 refl)
at_fault zero (b ∷ bs) place line v f h (inl y) = absurd (omega arith)
at_fault (suc most) (b ∷ bs) place line v f h (inl y) =
    ap (λ r. line_then r place line v (λ rest next w. lines_from most rest next (line + 1) w)) (unread (b ∷ bs) (line_in (b ∷ bs)) refl y.1)
    ∙ ap (λ x. Err (record { fault = x; line = line })) (sym y.0)
at_fault zero rest place line v f h (inr y) = absurd (let k = ap length y.2 ∙ length-append (line_bytes y.0) y.1 in let z = line_size_lem y.0 in omega arith)
at_fault (suc most) rest place line v f h (inr y) = step most rest place line v y.0 y.1 y.2 y.3 (Some f) y.4

answered : (text : List ℕ) (r : Result Policies Refusal) → Told text nothing 0 1 r → lines_from (length text) text 0 1 nothing ≡ r
answered text (Ok w) t =
    let p = pass t.0 (length text) text 0 1 nothing w [] (omega arith) t.1 in
    p.3 ∙ at_end p.0 p.1 (1 + length t.0) w
answered text (Err e) t =
    let p = pass t.0 (length text) text 0 1 nothing t.1 t.2 (omega arith) t.3 in
    p.3 ∙ at_fault p.0 t.2 p.1 (1 + length t.0) t.1 e.fault p.2 t.4 ∙ ap (λ n. Err (record { fault = e.fault; line = n })) (sym t.5)

stand : (text : List ℕ) (v : Policies) → Told text nothing 0 1 (Ok v) → Stand text v
stand text v t = lines_stand text t.0 nothing v (t.1.writing ∙ append-nil (lines_bytes t.0)) t.1.good t.1.says (record { names = tt; items = tt })

pub short_read : (text : List ℕ) → length text ≤ 32768 → book_read text ≡ lines_from (length text) text 0 1 nothing
short_read text h = cond-false _ _ _ (le-ltb 32768 (length text) h)

pub read_short : (text : List ℕ) (v : Policies) → book_read text ≡ Ok v → ltb 32768 (length text) ≡ false
read_short text v e = grind arith

ok_short : (text : List ℕ) (v : Policies) → book_read text ≡ Ok v → length text ≤ 32768
ok_short text v e = ltb-false 32768 (length text) (read_short text v e)

told : (text : List ℕ) (r : Result Policies Refusal) → length text ≤ 32768 → book_read text ≡ r → Told text nothing 0 1 r
told text r h e = subst (Told text nothing 0 1) (sym (short_read text h) ∙ e) (outcome (length text) text 0 1 nothing (omega arith))

pub register_law : RegisterLaw
register_law text v e = let t = told text (Ok v) (ok_short text v e) e in orderly v (lines_sorted 0 t.0 nothing v t.1.says none_sorted)

pub book_law : BookLaw
book_law =
    record {
      smallest = smallest_fault;
      long = λ text h. cond-true _ _ _ (lt-ltb 32768 (length text) h);
      short = λ text r h. (told text r h, (λ t. short_read text h ∙ answered text r t));
      places = λ text v e. stand text v (told text (Ok v) (ok_short text v e) e);
    }
