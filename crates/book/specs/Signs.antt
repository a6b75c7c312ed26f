-- For the inner contracts of the reader: the signs ^ . ( , ) > that part an item.
use Rattle.std.specs.Prelude.{ℕ, ◌+◌, cond, List, [], ◌∷◌, length, Some, None, Option, ◌==◌}
use Rattle.book.specs.declared.reader.items.Sign.{Sign}
use Rattle.book.specs.declared.reader.items.Sign.TheVariants.{Caret, Dot, Open, Comma, Close, Arrow}
use Rattle.book.specs.Grammar.{Name, more_terms}
use Rattle.book.specs.Reading.{Parsed}

abbrev pub sign_of : ℕ → Option Sign
sign_of c =
    cond (c == 94) (Some Caret)
    (cond (c == 46) (Some Dot)
    (cond (c == 40) (Some Open)
    (cond (c == 44) (Some Comma)
    (cond (c == 41) (Some Close)
    (cond (c == 62) (Some Arrow) None)))))

abbrev pub sign_code : Sign → ℕ
sign_code Caret = 94
sign_code Dot = 46
sign_code Open = 40
sign_code Comma = 44
sign_code Close = 41
sign_code Arrow = 62

abbrev pub with_rest : {A : Type 0} → Option A → List ℕ → Parsed A
with_rest None rest = None
with_rest (Some a) rest = Some (a, rest)

abbrev pub sign_in : List ℕ → Parsed Sign
sign_in [] = None
sign_in (b ∷ bs) = with_rest (sign_of b) bs

-- the terms behind the first and the closing sign
abbrev pub terms_size : List Name → ℕ
terms_size ts = length (more_terms ts) + 1
