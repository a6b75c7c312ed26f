-- Reading a whole book: its lines one after the other, each judged after those before it, and the view of its house.
use Rattle.std.specs.Prelude.{ℕ, zero, suc, ◌+◌, cond, List, [], ◌∷◌, map, length, Some, None, Ok, Err, Option, Result, nat_lt}
use Rattle.book.specs.declared.fault.Fault.{Fault}
use Rattle.book.specs.declared.fault.Fault.TheVariants.{TooLong, NoForm}
use Rattle.book.specs.declared.parts.Part.{Part}
use Rattle.book.specs.Grammar.{LineText}
use Rattle.book.specs.Reading.{Parsed, line_in}
use Rattle.book.specs.Places.{item_size}
use Rattle.book.specs.Lines.{line_size}
use Rattle.house.specs.declared.entries.Item.{Item}
use Rattle.house.specs.declared.refusal.Refusal.{Refusal}
use Rattle.house.specs.View.{View}
use Rattle.house.specs.Policies.{Enrolled, Written, Policies, nothing, first_of, named, same_credential, fault_of, with}

-- go on, or stop with the fault of the line; a refusal is a fault and the number of the line that has it, from 1
abbrev pub unless : Option Fault → ℕ → Result Policies Refusal → Result Policies Refusal
unless None line more = more
unless (Some f) line more = Err (record { fault = f; line = line })

-- the line that stands at a place is judged, and what is behind it read after it
abbrev pub line_then : Parsed LineText → ℕ → ℕ → Policies → (List ℕ → ℕ → Policies → Result Policies Refusal) → Result Policies Refusal
line_then None place line v more = Err (record { fault = NoForm; line = line })
line_then (Some p) place line v more = unless (fault_of v p.0) line (more p.1 (place + line_size p.0) (with v place p.0))

-- the bytes from a place on, where the line with a number begins; at most `most` lines, and a line takes more than one
-- byte, so a bound of as many as there are bytes never cuts
abbrev pub lines_from : ℕ → List ℕ → ℕ → ℕ → Policies → Result Policies Refusal
lines_from zero bytes place line v = Ok v
lines_from (suc most) [] place line v = Ok v
lines_from (suc most) (b ∷ bs) place line v = line_then (line_in (b ∷ bs)) place line v λ rest next w. lines_from most rest next (line + 1) w

-- what a text says, or why it is refused
abbrev pub book_read : List ℕ → Result Policies Refusal
book_read text = cond (nat_lt 32768 (length text)) (Err (record { fault = TooLong; line = 0 })) (lines_from (length text) text 0 1 nothing)

-- where the name of a party is written, and where an item is
abbrev pub party_part : Enrolled → Part
party_part e = record { place = e.place; length = length e.name }

abbrev pub item_part : Written → Part
item_part w = record { place = w.place; length = item_size w.item }

-- the entry of an item: its parties by their numbers, the first item with the same credential, its first writing
abbrev pub entry : Policies → Written → Item
entry v w =
    record {
      source = first_of (named w.item.source) v.parties;
      destination = first_of (named w.item.destination) v.parties;
      credential = first_of (λ u. same_credential u.item.credential w.item.credential) v.items;
      part = item_part w;
    }

-- the view of the house that is read from a text of a length
abbrev pub view_of : ℕ → Policies → View
view_of size v = record { parties = map party_part v.parties; items = map (entry v) v.items; rules = v.rules; asked = v.asked; size = size }

-- the view of the house that a text is read to, or its refusal
abbrev pub house_read : List ℕ → Result View Refusal
house_read text = elim (book_read text) [ Ok v ↦ Ok (view_of (length text) v) | Err f ↦ Err f ]
