-- What is printed for a book.
use Rattle.std.specs.Prelude.{◌≡◌, ℕ, ◌+◌, List, [], ◌∷◌, ◌++◌, take, Some, None, Ok, Err, codes, decimal, Option}
use Rattle.std.specs.List.{flat_map}
use Rattle.book.specs.declared.parts.Part.{Part}
use Rattle.book.specs.Faults.{fault_number}
use Rattle.book.specs.Grammar.{item_bytes}
use Rattle.book.specs.Laws.{cut_out}
use Rattle.house.specs.declared.entries.Item.{Item}
use Rattle.house.specs.declared.refusal.Refusal.{Refusal}
use Rattle.house.specs.View.{RuleView, View}
use Rattle.house.specs.Policies.{Enrolled, Written, Policies}
use Rattle.house.specs.Books.{book_read}

-- `party 0 Seal`: a word, a number and a writing
abbrev pub numbered_line : List ℕ → ℕ → List ℕ → List ℕ
numbered_line word n writing = word ++ (codes " " ++ (decimal n ++ (codes " " ++ (writing ++ codes "\n"))))

abbrev pub party_line : ℕ → Enrolled → List ℕ
party_line n e = numbered_line (codes "party") n e.name

abbrev pub item_line : ℕ → Written → List ℕ
item_line n w = numbered_line (codes "item") n (item_bytes w.item)

-- a line for each of a list, numbered from a number on
abbrev pub numbered : {X : Type 0} → (ℕ → X → List ℕ) → ℕ → List X → List ℕ
numbered line n [] = []
numbered line n (x ∷ xs) = line n x ++ numbered line (n + 1) xs

abbrev pub spaced : ℕ → List ℕ
spaced n = codes " " ++ decimal n

-- `hold 0` for a rule with an empty body, else `rule 2 if 1 5`
abbrev pub body_line : ℕ → List ℕ → List ℕ
body_line head [] = codes "hold " ++ (decimal head ++ codes "\n")
body_line head (n ∷ ns) = codes "rule " ++ (decimal head ++ (codes " if" ++ (flat_map spaced (n ∷ ns) ++ codes "\n")))

abbrev pub rule_line : RuleView → List ℕ
rule_line r = body_line r.head r.body

abbrev pub ask_line : Option ℕ → List ℕ
ask_line None = []
ask_line (Some d) = codes "ask " ++ (decimal d ++ codes "\n")

-- all that a book says: its parties, its items in the order of the register, its rules, what it asks for
abbrev pub listing : Policies → List ℕ
listing v = numbered party_line 0 v.parties ++ (numbered item_line 0 v.items ++ (flat_map rule_line v.rules ++ ask_line v.asked))

abbrev pub refusal_line : Refusal → List ℕ
refusal_line e = codes "refusal " ++ (decimal (fault_number e.fault) ++ (codes " line " ++ (decimal e.line ++ codes "\n")))

-- the listing of a book, or its refusal
abbrev pub printed : List ℕ → List ℕ
printed book = elim (book_read book) [ Ok v ↦ listing v | Err e ↦ refusal_line e ]

-- the first 32,769 bytes decide, so no more of a book has to be read
abbrev pub PrefixLaw : Type 0
PrefixLaw = (book : List ℕ) → printed (take 32769 book) ≡ printed book

-- For the inner contracts: the same lines from the view of a house and the text that it was read from.
abbrev pub party_part_line : List ℕ → ℕ → Part → List ℕ
party_part_line book n p = numbered_line (codes "party") n (cut_out book p)

abbrev pub item_part_line : List ℕ → ℕ → Item → List ℕ
item_part_line book n i = numbered_line (codes "item") n (cut_out book i.part)

abbrev pub view_listing : List ℕ → View → List ℕ
view_listing book v = numbered (party_part_line book) 0 v.parties ++ (numbered (item_part_line book) 0 v.items ++ (flat_map rule_line v.rules ++ ask_line v.asked))
