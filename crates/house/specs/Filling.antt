-- For the inner contracts of reading: where names, items and lines stand in the text, what the tables hold of the policies
-- so far, and what each step does.
use Rattle.std.specs.Prelude.{◌≡◌, ℕ, ◌+◌, ◌<◌, ◌≤◌, Bool, true, false, cond, ◌&&◌, ◌||◌, List, [], ◌∷◌, ◌++◌, map, length, drop, Some, None, Ok, Err, Option, Result}
use Rattle.std.specs.List.{AllByRecursion}
use Rattle.table.specs.Held.{held}
use Rattle.book.specs.declared.fault.Fault.{Fault}
use Rattle.book.specs.declared.fault.Fault.TheVariants.{NoForm, OneLetter, EnrolledBefore, NotEnrolled, Strange, TooMany}
use Rattle.book.specs.declared.parts.Part.{Part}
use Rattle.book.specs.declared.parts.ItemParts.{ItemParts}
use Rattle.book.specs.declared.parts.Line.{Line}
use Rattle.book.specs.declared.reader.Reader.{Reader}
use Rattle.book.specs.Grammar.{Name, NameEnds, ItemText, GoodItem, item_bytes, LineText, GoodLine, line_bytes}
use Rattle.book.specs.Reading.{Parsed, item_in, line_in}
use Rattle.book.specs.Places.{left, name_part, item_parts, item_size}
use Rattle.book.specs.Lines.{line_parts, line_size}
use Rattle.book.specs.Laws.{cut_out}
use Rattle.house.specs.declared.entries.Item.{Item}
use Rattle.house.specs.declared.refusal.Refusal.{Refusal}
use Rattle.house.specs.declared.tables.Tables.{Tables}
use Rattle.house.specs.declared.reading.body.Body.{Body}
use Rattle.house.specs.View.{rule_views}
use Rattle.house.specs.Soundness.{every, rule_sound, asked_sound, sound}
use Rattle.house.specs.Tables.{tables_view}
use Rattle.house.specs.Policies.{same, Enrolled, Written, Policies, any, first_of, enrolled, number, register, written_from, with, has, first_true, fault_of}
use Rattle.house.specs.Books.{party_part, entry, house_read}

-- Lookups in the tables, by the bytes at the places that they keep.
-- the number of the first that passes
abbrev pub found_in : {X : Type 0} → (X → Bool) → List X → Option ℕ
found_in p xs = cond (any p xs) (Some (first_of p xs)) None

-- the same bytes stand at two parts
abbrev pub alike : List ℕ → Part → Part → Bool
alike text one other = same (cut_out text one) (cut_out text other)

abbrev pub ends_enrolled : List ℕ → List Part → ItemParts → Bool
ends_enrolled text parties i = any (λ p. alike text p i.source) parties && any (λ p. alike text p i.destination) parties

abbrev pub concerns : List ℕ → Part → ItemParts → Bool
concerns text party i = alike text i.source party || alike text i.destination party

-- the item that is written at a place
abbrev pub item_at : List ℕ → ℕ → Option ItemParts
item_at text place = elim (item_in (drop place text)) [ None ↦ None | Some p ↦ Some (item_parts place p.0) ]

abbrev pub like_item : List ℕ → ItemParts → Item → Bool
like_item text written known =
    elim (item_at text known.part.place) [
      | None ↦ false
      | Some first ↦ alike text first.source written.source && (alike text first.credential written.credential && alike text first.destination written.destination)
    ]

abbrev pub like_credential : List ℕ → Part → Item → Bool
like_credential text credential known = elim (item_at text known.part.place) [ None ↦ false | Some first ↦ alike text first.credential credential ]

-- Where things stand in the text.
-- bytes at a place, and what is behind them
pub record StandsAt (text : List ℕ) (place : ℕ) (bytes behind : List ℕ) : Type 0 where
  pub front : List ℕ
  pub writing : text ≡ front ++ (bytes ++ behind)
  pub there : place ≡ length front

pub record NameAt (text : List ℕ) (e : Enrolled) : Type 0 where
  pub behind : List ℕ
  pub stands : StandsAt text e.place e.name behind

pub record ItemAt (text : List ℕ) (w : Written) : Type 0 where
  pub behind : List ℕ
  pub stands : StandsAt text w.place (item_bytes w.item) behind
  pub good : GoodItem w.item
  pub ends : NameEnds behind

pub record LineAt (text : List ℕ) (place : ℕ) (l : LineText) : Type 0 where
  pub behind : List ℕ
  pub stands : StandsAt text place (line_bytes l) behind
  pub good : GoodLine l

-- the items of a body that are still to come
pub record BodyAt (text : List ℕ) (b : Body) (items : List ItemText) : Type 0 where
  pub text_is : b.text.now ≡ text
  pub stand : AllByRecursion (ItemAt text) (written_from b.place items)
  pub counted : b.count ≡ length items

-- Policies that were read from the text without a fault.
pub record Kept (text : List ℕ) (v : Policies) : Type 0 where
  pub names : AllByRecursion (NameAt text) v.parties
  pub items : AllByRecursion (ItemAt text) v.items
  pub ends : AllByRecursion (λ w. (enrolled v w.item.source ≡ true) × (enrolled v w.item.destination ≡ true)) v.items
  pub rules : every (rule_sound (map (entry v) v.items)) v.rules ≡ true
  pub asked : asked_sound (length v.items) v.asked ≡ true

-- and tables that hold them
pub record Filled (text : List ℕ) (t : Tables) (v : Policies) : Type 0 where
  pub parties : held t.parties ≡ map party_part v.parties
  pub items : held t.items ≡ map (entry v) v.items
  pub rules : rule_views (held t.rules) ≡ v.rules
  pub asked : t.asked ≡ v.asked
  pub kept : Kept text v

-- What the steps do to tables that hold policies.
abbrev pub BodyNext : Body → Option ItemParts → Body → Type 0
BodyNext before answer after =
    (text : List ℕ) →
    (BodyAt text before [] → answer ≡ None)
    × ((i : ItemText) (more : List ItemText) → BodyAt text before (i ∷ more) →
    (answer ≡ Some (item_parts before.place i)) × BodyAt text after more × (written_from after.place more ≡ written_from (before.place + item_size i + 5) more))

abbrev pub with_items : Policies → List Written → Policies
with_items v items = record { parties = v.parties; items = items; rules = v.rules; asked = v.asked }

-- the number of the item, which is in the register then; or there is no room
abbrev pub Registered : List ℕ → Policies → Written → Result ℕ Fault → Tables → Type 0
Registered text v w (Ok n) after = (n ≡ number (register v.items w) w.item) × Filled text after (with_items v (register v.items w))
Registered text v w (Err f) after = (f ≡ TooMany) × (256 < length (register v.items w))

abbrev pub Registers : List ℕ → Tables → ItemParts → Result ℕ Fault → Tables → Type 0
Registers text before item answer after =
    (v : Policies) (w : Written) → Filled text before v → item ≡ item_parts w.place w.item → ItemAt text w →
    enrolled v w.item.source ≡ true → enrolled v w.item.destination ≡ true → Registered text v w answer after

-- a line is judged, and without a fault added
abbrev pub Added : List ℕ → Policies → ℕ → LineText → Option Fault → Result (Unit {0}) Fault → Tables → Type 0
Added text v place l (Some f) answer after = answer ≡ Err f
Added text v place l None answer after = (answer ≡ Ok tt) × Filled text after (with v place l)

abbrev pub Adds : List ℕ → Policies → ℕ → LineText → Result (Unit {0}) Fault → Tables → Type 0
Adds text v place l answer after = Added text v place l (fault_of v l) answer after

abbrev pub AddsLine : List ℕ → Tables → Line → Result (Unit {0}) Fault → Tables → Type 0
AddsLine text before line answer after =
    (v : Policies) (place : ℕ) (l : LineText) → Filled text before v → LineAt text place l → line ≡ line_parts place l → Adds text v place l answer after

abbrev pub AddsParty : List ℕ → Tables → Part → Result (Unit {0}) Fault → Tables → Type 0
AddsParty text before name answer after =
    (v : Policies) (place : ℕ) (n : Name) → Filled text before v → LineAt text place (LineText.party n) → name ≡ name_part (place + 6) n → Adds text v place (LineText.party n) answer after

abbrev pub AddsAsk : List ℕ → Tables → ItemParts → Result (Unit {0}) Fault → Tables → Type 0
AddsAsk text before item answer after =
    (v : Policies) (place : ℕ) (i : ItemText) → Filled text before v → LineAt text place (LineText.ask i) → item ≡ item_parts (place + 4) i → Adds text v place (LineText.ask i) answer after

-- a line with a head and a body, which may be empty
abbrev pub headed_line : ItemText → List ItemText → LineText
headed_line h [] = LineText.hold h
headed_line h (b ∷ bs) = LineText.rule h b bs

abbrev pub as_fault : Option Fault → Result (Unit {0}) Fault
as_fault None = Ok tt
as_fault (Some f) = Err f

-- the faults of names
abbrev pub Judges : List ℕ → Tables → ItemParts → Body → Result (Unit {0}) Fault → Type 0
Judges text before head body answer =
    (v : Policies) (w : Written) (items : List ItemText) → Filled text before v → ItemAt text w → head ≡ item_parts w.place w.item → BodyAt text body items →
    answer ≡ as_fault (first_true (has v (headed_line w.item items)) (OneLetter ∷ EnrolledBefore ∷ NotEnrolled ∷ Strange ∷ []))

abbrev pub AddsRule : List ℕ → Tables → ItemParts → Body → Result (Unit {0}) Fault → Tables → Type 0
AddsRule text before head body answer after =
    (v : Policies) (place : ℕ) (h : ItemText) (items : List ItemText) → Filled text before v → LineAt text place (headed_line h items) → head ≡ item_parts (place + 5) h → BodyAt text body items →
    written_from body.place items ≡ written_from (place + 5 + item_size h + 4) items → Adds text v place (headed_line h items) answer after

-- the line at the reader's place, as it is read from there; the reader is then behind it
abbrev pub TakenLine : Parsed LineText → List ℕ → Policies → Reader → Result (Unit {0}) Fault → Tables → Reader → Type 0
TakenLine None text v before answer after behind = answer ≡ Err NoForm
TakenLine (Some p) text v before answer after behind = Adds text v before.place p.0 answer after × (behind.place ≡ before.place + line_size p.0) × (left behind ≡ p.1)

abbrev pub TakesLine : List ℕ → Tables → Reader → Result (Unit {0}) Fault → Tables → Reader → Type 0
TakesLine text before reader answer after behind =
    (v : Policies) → Filled text before v → reader.text.now ≡ text → TakenLine (line_in (left reader)) text v reader answer after behind × (behind.text.now ≡ text)

-- The tables of a whole text.
abbrev pub TablesRead : List ℕ → Result Tables Refusal → Type 0
TablesRead text (Ok t) =
    (house_read text ≡ Ok (tables_view (length text) t))
    × (sound (held t.parties) (held t.items) (rule_views (held t.rules)) t.asked (length text) ≡ true)
    × (length text ≤ 32768)
TablesRead text (Err e) = house_read text ≡ Err (record { fault = e.fault; line = e.line })
