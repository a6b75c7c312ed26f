-- The four kinds of letters, and the letter that two numbers name.
use Rattle.std.specs.Prelude.{ℕ, Bool, true, false, cond, Some, None, Ok, Err, Option, Result, ◌==◌, nat_lt}
use Rattle.std.specs.Option.{ok_or}
use Rattle.letter.specs.declared.letter.Kind.{Kind}
use Rattle.letter.specs.declared.letter.Kind.TheVariants.{Request, Disclosure, RequestAck, DisclosureAck}
use Rattle.letter.specs.declared.letter.Letter.{Letter}
use Rattle.letter.specs.declared.refusal.Refusal.{Refusal}
use Rattle.letter.specs.declared.refusal.Refusal.TheVariants.{NoSuchKind, ItemTooLarge}

abbrev pub kind_number : Kind → ℕ
kind_number Request = 1
kind_number Disclosure = 2
kind_number RequestAck = 3
kind_number DisclosureAck = 4

-- the kind that has this number, if any
abbrev pub kind_of : ℕ → Option Kind
kind_of n =
    cond (n == 1) (Some Request)
    (cond (n == 2) (Some Disclosure)
    (cond (n == 3) (Some RequestAck)
    (cond (n == 4) (Some DisclosureAck) None)))

-- the kind that has this number, or 43
abbrev pub kind_answer : ℕ → Result Kind Refusal
kind_answer n = ok_or (kind_of n) NoSuchKind

-- requests and disclosures are data letters
abbrev pub is_data : Kind → Bool
is_data Request = true
is_data Disclosure = true
is_data RequestAck = false
is_data DisclosureAck = false

-- requests and acknowledgements of disclosures go to the item's source, the others to its destination
abbrev pub goes_to_source : Kind → Bool
goes_to_source Request = true
goes_to_source Disclosure = false
goes_to_source RequestAck = false
goes_to_source DisclosureAck = true

-- the letter of a kind and an item from outside; 43 if there is no kind, 44 if the item is above 255
abbrev pub named : Option Kind → ℕ → Result Letter Refusal
named None item = Err NoSuchKind
named (Some k) item = cond (nat_lt item 256) (Ok (record { kind = k; item = item })) (Err ItemTooLarge)

-- the letter that two numbers from outside name
abbrev pub letter_of : ℕ → ℕ → Result Letter Refusal
letter_of kind item = named (kind_of kind) item
