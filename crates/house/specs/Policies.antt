-- What a book says, line by line: the faults of a line that has a form, and what a line without fault adds.
use Rattle.std.specs.Prelude.{ℕ, suc, ◌+◌, Bool, true, false, cond, not, ◌&&◌, ◌||◌, List, [], ◌∷◌, ◌++◌, length, is_some, Some, None, Option, ◌==◌, nat_eq, nat_lt}
use Rattle.book.specs.declared.fault.Fault.{Fault}
use Rattle.book.specs.declared.fault.Fault.TheVariants.{TooLong, NoForm, OneLetter, EnrolledBefore, NotEnrolled, Strange, TooMany, SecondAsk}
use Rattle.book.specs.Grammar.{Name, Credential, credential_bytes, ItemText, LineText}
use Rattle.book.specs.Places.{one_letter, item_one_letter, item_size}
use Rattle.house.specs.View.{RuleView}

-- a party, that is a peer of the negotiation, and where its name is written
pub record Enrolled : Type 0 where
  pub name : Name
  pub place : ℕ

-- an item and where it is written
pub record Written : Type 0 where
  pub item : ItemText
  pub place : ℕ

-- the policies of all parties: who is enrolled, the register of items in the order of first writing, the rules by the
-- numbers of their items, and the asked item
pub record Policies : Type 0 where
  pub parties : List Enrolled
  pub items : List Written
  pub rules : List RuleView
  pub asked : Option ℕ

abbrev pub nothing : Policies
nothing = record { parties = []; items = []; rules = []; asked = None }

abbrev pub same : List ℕ → List ℕ → Bool
same [] [] = true
same [] (b ∷ bs) = false
same (a ∷ more) [] = false
same (a ∷ more) (b ∷ bs) = let r = same more bs in (a == b) && r

abbrev pub any : {X : Type 0} → (X → Bool) → List X → Bool
any p [] = false
any p (x ∷ xs) = let r = any p xs in p x || r

-- the number of the first that passes; the list's length if none does
abbrev pub first_of : {X : Type 0} → (X → Bool) → List X → ℕ
first_of p [] = 0
first_of p (x ∷ xs) = let r = first_of p xs in cond (p x) 0 (suc r)

abbrev pub named : Name → Enrolled → Bool
named n e = same e.name n

abbrev pub same_credential : Credential → Credential → Bool
same_credential a b = same (credential_bytes a) (credential_bytes b)

-- two items are the same if source, credential and destination are
abbrev pub same_item : ItemText → Written → Bool
same_item i w = same w.item.source i.source && (same_credential w.item.credential i.credential && same w.item.destination i.destination)

-- the number of an item in the register
abbrev pub number : List Written → ItemText → ℕ
number items i = first_of (same_item i) items

-- an item that is not in the register yet is put behind the others
abbrev pub register : List Written → Written → List Written
register items w = cond (any (same_item w.item) items) items (items ++ w ∷ [])

abbrev pub register_all : List Written → List Written → List Written
register_all items [] = items
register_all items (w ∷ ws) = register_all (register items w) ws

-- body items with the word ` and ` between them, from a place on
abbrev pub written_from : ℕ → List ItemText → List Written
written_from place [] = []
written_from place (i ∷ is) = let r = written_from (place + item_size i + 5) is in record { item = i; place = place } ∷ r

-- an item that repeats in a body stands in it once
abbrev pub once : List ℕ → List ℕ → List ℕ
once seen [] = seen
once seen (n ∷ ns) = cond (any (nat_eq n) seen) (once seen ns) (once (seen ++ n ∷ []) ns)

-- the numbers of items, in the order of writing
abbrev pub numbers : List Written → List ItemText → List ℕ
numbers items [] = []
numbers items (i ∷ is) = let r = numbers items is in number items i ∷ r

-- a rule whose head is written at a place, its body behind the head and ` if `; a held item has no body
abbrev pub with_rule : Policies → ℕ → ItemText → List ItemText → Policies
with_rule v place head body =
    let items = register_all v.items (record { item = head; place = place } ∷ written_from (place + item_size head + 4) body) in
    record { parties = v.parties; items = items; rules = v.rules ++ record { head = number items head; body = once [] (numbers items body) } ∷ []; asked = v.asked }

-- what the line at a place adds
abbrev pub with : Policies → ℕ → LineText → Policies
with v place (LineText.party n) = record { parties = v.parties ++ record { name = n; place = place + 6 } ∷ []; items = v.items; rules = v.rules; asked = v.asked }
with v place (LineText.hold i) = with_rule v (place + 5) i []
with v place (LineText.rule h b bs) = with_rule v (place + 5) h (b ∷ bs)
with v place (LineText.ask i) =
    let items = register v.items (record { item = i; place = place + 4 }) in
    record { parties = v.parties; items = items; rules = v.rules; asked = Some (number items i) }

-- the party that a line enrols, if it does
abbrev pub enrols : LineText → List Name
enrols (LineText.party n) = n ∷ []
enrols (LineText.hold i) = []
enrols (LineText.rule h b bs) = []
enrols (LineText.ask i) = []

-- the items written in a line
abbrev pub items_of : LineText → List ItemText
items_of (LineText.party n) = []
items_of (LineText.hold i) = i ∷ []
items_of (LineText.rule h b bs) = h ∷ b ∷ bs
items_of (LineText.ask i) = i ∷ []

-- the items written in its body
abbrev pub body_of : LineText → List ItemText
body_of (LineText.party n) = []
body_of (LineText.hold i) = []
body_of (LineText.rule h b bs) = b ∷ bs
body_of (LineText.ask i) = []

-- the owner of its rule: the head's source
abbrev pub owner_of : LineText → Name
owner_of (LineText.party n) = []
owner_of (LineText.hold i) = i.source
owner_of (LineText.rule h b bs) = h.source
owner_of (LineText.ask i) = []

abbrev pub asks : LineText → Bool
asks (LineText.party n) = false
asks (LineText.hold i) = false
asks (LineText.rule h b bs) = false
asks (LineText.ask i) = true

-- the tests for the faults, each of the whole line
abbrev pub has_one_letter : LineText → Bool
has_one_letter l = any one_letter (enrols l) || any item_one_letter (items_of l)

-- whether there is a party of that name
abbrev pub enrolled : Policies → Name → Bool
enrolled v n = any (named n) v.parties

abbrev pub enrolled_before : Policies → LineText → Bool
enrolled_before v l = any (enrolled v) (enrols l)

abbrev pub not_enrolled : Policies → LineText → Bool
not_enrolled v l = any (λ i. not (enrolled v i.source && enrolled v i.destination)) (items_of l)

-- a body item of which the owner is neither source nor destination
abbrev pub strange : LineText → Bool
strange l = any (λ i. not (same i.source (owner_of l) || same i.destination (owner_of l))) (body_of l)

-- with this line there are more than 16 parties, 256 items or 512 rules, or its body has more than 8 items as written
abbrev pub too_many : Policies → LineText → Bool
too_many v l =
    let w = with v 0 l in
    nat_lt 16 (length w.parties) || (nat_lt 256 (length w.items) || (nat_lt 512 (length w.rules) || nat_lt 8 (length (body_of l))))

abbrev pub second_ask : Policies → LineText → Bool
second_ask v l = asks l && is_some v.asked

-- which faults a line has that has a form
abbrev pub has : Policies → LineText → Fault → Bool
has v l TooLong = false
has v l NoForm = false
has v l OneLetter = has_one_letter l
has v l EnrolledBefore = enrolled_before v l
has v l NotEnrolled = not_enrolled v l
has v l Strange = strange l
has v l TooMany = too_many v l
has v l SecondAsk = second_ask v l

abbrev pub first_true : (Fault → Bool) → List Fault → Option Fault
first_true t [] = None
first_true t (f ∷ fs) = let r = first_true t fs in cond (t f) (Some f) r

-- the faults of a line that has a form, in the order of their numbers
abbrev pub line_faults : List Fault
line_faults = OneLetter ∷ EnrolledBefore ∷ NotEnrolled ∷ Strange ∷ TooMany ∷ SecondAsk ∷ []

-- the smallest that the line has
abbrev pub fault_of : Policies → LineText → Option Fault
fault_of v l = first_true (has v l) line_faults
