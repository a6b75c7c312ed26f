-- Reading a line: each function answers what stands at the front of the bytes, and the bytes behind it.
use Rattle.std.specs.Prelude.{◌≡◌, ℕ, zero, suc, Bool, false, cond, ◌&&◌, ◌↔◌, List, [], ◌∷◌, ◌++◌, length, Some, None, codes, Option, ◌==◌, nat_le}
use Rattle.book.specs.Grammar.{letter, name_byte, Name, Credential, ItemText, LineText, line_bytes, GoodLine}

abbrev pub Parsed : Type 0 → Type 0
Parsed A = Option (A × List ℕ)

-- go on behind what was read
abbrev pub then : {A B : Type 0} → Parsed A → (A → List ℕ → Parsed B) → Parsed B
then None f = None
then (Some p) f = f p.0 p.1

-- the longest front of name bytes
abbrev pub run : List ℕ → List ℕ × List ℕ
run [] = ([], [])
run (b ∷ bs) = let r = run bs in cond (name_byte b) (b ∷ r.0, r.1) ([], b ∷ bs)

-- of a run of name bytes: a letter first, 1 to 16 bytes
abbrev pub name_start : Name → Bool
name_start [] = false
name_start (b ∷ bs) = letter b && nat_le (length bs) 15

unfoldable pub name_in : List ℕ → Parsed Name
name_in bytes = let r = run bytes in cond (name_start r.0) (Some r) None

-- exactly these bytes
unfoldable pub word_in : List ℕ → List ℕ → Parsed (Unit {0})
word_in [] bytes = Some (tt, bytes)
word_in (w ∷ ws) [] = None
word_in (w ∷ ws) (b ∷ bs) = let r = word_in ws bs in cond (w == b) r None

-- at most `most` terms behind the first, each behind a comma (byte 44), and the closing parenthesis (byte 41)
unfoldable pub terms_in : ℕ → List ℕ → Parsed (List Name)
terms_in most [] = None
terms_in zero (b ∷ bs) = cond (41 == b) (Some ([], bs)) None
terms_in (suc most) (b ∷ bs) =
    let more : Parsed (List Name) = then (name_in bs) λ t rest. then (terms_in most rest) λ ts behind. Some (t ∷ ts, behind) in
    cond (41 == b) (Some ([], bs)) (cond (44 == b) more None)

unfoldable pub credential_in : List ℕ → Parsed Credential
credential_in bytes =
    then (name_in bytes) λ i b1.
    then (word_in (codes ".") b1) λ _ b2.
    then (name_in b2) λ n b3.
    then (word_in (codes "(") b3) λ _ b4.
    then (name_in b4) λ t b5.
    then (terms_in 3 b5) λ ts rest.
    Some (record { issuer = i; name = n; term = t; terms = ts }, rest)

unfoldable pub item_in : List ℕ → Parsed ItemText
item_in bytes =
    then (name_in bytes) λ s b1.
    then (word_in (codes "^") b1) λ _ b2.
    then (credential_in b2) λ c b3.
    then (word_in (codes ">") b3) λ _ b4.
    then (name_in b4) λ d rest.
    Some (record { source = s; credential = c; destination = d }, rest)

-- the other body items, at most `most`, each behind the word `and`; an item takes more than one byte, so a bound of as many
-- as there are bytes never cuts
unfoldable pub more_in : ℕ → List ℕ → Parsed (List ItemText)
more_in zero bytes = Some ([], bytes)
more_in (suc most) bytes =
    elim (word_in (codes " and ") bytes) [
      | None ↦ Some ([], bytes)
      | Some p ↦ then (item_in p.1) λ i rest. then (more_in most rest) λ is behind. Some (i ∷ is, behind)
    ]

-- a name and the line's end
unfoldable pub party_in : List ℕ → Parsed LineText
party_in bytes = then (name_in bytes) λ n b. then (word_in (codes "\n") b) λ _ rest. Some (LineText.party n, rest)

unfoldable pub hold_in : List ℕ → Parsed LineText
hold_in bytes = then (item_in bytes) λ i b. then (word_in (codes "\n") b) λ _ rest. Some (LineText.hold i, rest)

unfoldable pub rule_in : List ℕ → Parsed LineText
rule_in bytes =
    then (item_in bytes) λ h b1.
    then (word_in (codes " if ") b1) λ _ b2.
    then (item_in b2) λ i b3.
    then (more_in (length b3) b3) λ is b4.
    then (word_in (codes "\n") b4) λ _ rest.
    Some (LineText.rule h i is, rest)

unfoldable pub ask_in : List ℕ → Parsed LineText
ask_in bytes = then (item_in bytes) λ i b. then (word_in (codes "\n") b) λ _ rest. Some (LineText.ask i, rest)

-- where the word stands, the form is read behind it; else the other reading
abbrev pub behind : List ℕ → List ℕ → (List ℕ → Parsed LineText) → Parsed LineText → Parsed LineText
behind word bytes form other = elim (word_in word bytes) [ None ↦ other | Some p ↦ form p.1 ]

-- the line at the front of the bytes, with the byte that ends it
unfoldable pub line_in : List ℕ → Parsed LineText
line_in bytes =
    behind (codes "party ") bytes party_in
    (behind (codes "hold ") bytes hold_in
    (behind (codes "rule ") bytes rule_in
    (behind (codes "ask ") bytes ask_in None)))

-- A line is read exactly where a good line is written, and it is that line.
abbrev pub InverseLaw : Type 0
InverseLaw = (bytes : List ℕ) (l : LineText) (rest : List ℕ) → (line_in bytes ≡ Some (l, rest)) ↔ ((bytes ≡ line_bytes l ++ rest) × GoodLine l)
