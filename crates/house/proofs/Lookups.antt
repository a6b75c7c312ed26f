-- Lookups in tables that hold policies find what the policies say.
use Rattle.std.proofs.Common.{◌≡◌, ℕ, ◌<◌, ◌≤◌, Bool, ◌&&◌, List, Some, Option, Result, ap, ◌∙◌, arith}
use Rattle.std.specs.List.{AllByRecursion, position}
use Rattle.std.specs.Result.{OkIff, result_ok}
use Rattle.std.proofs.lemmas.Result.{Ok-from_Ok_iff}
use Rattle.table.specs.declared.store.Table.{Table}
use Rattle.table.specs.Held.{held}
use Rattle.table.proofs.Slots.{held_fits}
use Rattle.book.specs.declared.parts.Part.{Part}
use Rattle.book.specs.declared.parts.ItemParts.{ItemParts}
use Rattle.book.specs.Grammar.{Name}
use Rattle.book.specs.Places.{item_parts}
use Rattle.book.specs.Laws.{cut_out}
use Rattle.house.specs.declared.tables.Tables.{Tables}
use Rattle.house.specs.Policies.{same, Written, Policies, any, named, same_item, enrolled}
use Rattle.house.specs.Books.{party_part, entry}
use Rattle.house.specs.Filling.{found_in, alike, ends_enrolled, like_item, like_credential, ItemAt, Filled}
use Rattle.house.proofs.Firsts.{any-map, first_less, position_found, found_some, found_map}
use Rattle.house.proofs.Spots.{name_cut, item_cut, item_read}
use Rattle.house.proofs.Registers.{all_of, credential_of}

-- a place that is found in a table of at most 256 values is a number
pub number_found : {X E : Type 0} {N : ℕ} (t : Table X N) → N ≤ 256 → (p : X → Bool) (place : ℕ) (narrow : Result ℕ E) (answer : Option ℕ) → Some place ≡ position p (held t) → OkIff narrow (place < 256) place →
    answer ≡ result_ok narrow → answer ≡ found_in p (held t)
number_found t few p place narrow answer e k a =
    let f = e ∙ position_found p (held t) in
    let s = found_some p (held t) place f in
    let l = first_less p (held t) s.0 in
    let m = held_fits t in
    let n = t.fits in
    let i = s.1 in
    a ∙ ap result_ok (Ok-from_Ok_iff narrow (place < 256) place k (omega arith)) ∙ f

module _ (text : List ℕ) where
  pub same_cut : (a b : Part) (x y : List ℕ) → cut_out text a ≡ x → cut_out text b ≡ y → alike text a b ≡ same x y
  same_cut a b x y e f = ap (λ z. same z (cut_out text b)) e ∙ ap (same x) f

  abbrev items_alike : ItemParts → ItemParts → Bool
  items_alike first written = alike text first.source written.source && (alike text first.credential written.credential && alike text first.destination written.destination)

  same_items : (w u : Written) → ItemAt text w → ItemAt text u → items_alike (item_parts u.place u.item) (item_parts w.place w.item) ≡ same_item w.item u
  same_items w u a b =
      let written = item_parts w.place w.item in
      let first = item_parts u.place u.item in
      let x = item_cut text w a in
      let y = item_cut text u b in
      let s = same_cut first.source written.source _ _ y.source x.source in
      let c = same_cut first.credential written.credential _ _ y.credential x.credential in
      let d = same_cut first.destination written.destination _ _ y.destination x.destination in
      cc

  module _ (v : Policies) (w : Written) (a : ItemAt text w) where
    like : (u : Written) → ItemAt text u → like_item text (item_parts w.place w.item) (entry v u) ≡ same_item w.item u
    like u b = rw (item_read text u b, like_item) (same_items w u a b)

    like_one : (u : Written) → ItemAt text u → like_credential text (item_parts w.place w.item).credential (entry v u) ≡ credential_of w.item u
    like_one u b = rw (item_read text u b, like_credential) (same_cut (item_parts u.place u.item).credential (item_parts w.place w.item).credential _ _ (item_cut text u b).credential (item_cut text w a).credential)

  module _ (t : Tables) (v : Policies) (f : Filled text t v) where
    named-alike : (p : Part) (n : Name) → cut_out text p ≡ n → AllByRecursion (λ e. alike text (party_part e) p ≡ named n e) v.parties
    named-alike p n c = all_of (λ e a. same_cut (party_part e) p e.name n (name_cut text e a) c) v.parties f.kept.names

    pub found_party : (p : Part) (n : Name) → cut_out text p ≡ n → found_in (λ q. alike text q p) (held t.parties) ≡ found_in (named n) v.parties
    found_party p n c = ap (found_in (λ q. alike text q p)) f.parties ∙ found_map party_part (λ q. alike text q p) (named n) v.parties (named-alike p n c)

    pub enrolled_party : (p : Part) (n : Name) → cut_out text p ≡ n → any (λ q. alike text q p) (held t.parties) ≡ enrolled v n
    enrolled_party p n c = ap (any (λ q. alike text q p)) f.parties ∙ any-map party_part (λ q. alike text q p) (named n) v.parties (named-alike p n c)

    module _ (w : Written) (a : ItemAt text w) where
      abbrev parts : ItemParts
      parts = item_parts w.place w.item

      pub enrolled_ends : ends_enrolled text (held t.parties) parts ≡ (enrolled v w.item.source && enrolled v w.item.destination)
      enrolled_ends =
          let c = item_cut text w a in
          ap (λ b. b && any (λ q. alike text q parts.destination) (held t.parties)) (enrolled_party parts.source w.item.source c.source)
          ∙ ap (λ b. enrolled v w.item.source && b) (enrolled_party parts.destination w.item.destination c.destination)

      pub found_source : found_in (λ q. alike text q parts.source) (held t.parties) ≡ found_in (named w.item.source) v.parties
      found_source = found_party parts.source w.item.source (item_cut text w a).source

      pub found_destination : found_in (λ q. alike text q parts.destination) (held t.parties) ≡ found_in (named w.item.destination) v.parties
      found_destination = found_party parts.destination w.item.destination (item_cut text w a).destination

      pub found_item : found_in (like_item text parts) (held t.items) ≡ found_in (same_item w.item) v.items
      found_item = ap (found_in (like_item text parts)) f.items ∙ found_map (entry v) (like_item text parts) (same_item w.item) v.items (all_of (like v w a) v.items f.kept.items)

      pub found_credential : found_in (like_credential text parts.credential) (held t.items) ≡ found_in (credential_of w.item) v.items
      found_credential = ap (found_in (like_credential text parts.credential)) f.items ∙ found_map (entry v) (like_credential text parts.credential) (credential_of w.item) v.items (all_of (like_one v w a) v.items f.kept.items)
