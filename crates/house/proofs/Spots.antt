-- Where names, items and lines stand in the text, and what is read there.
use Rattle.std.proofs.Common.{◌≡◌, ℕ, ◌+◌, ◌<◌, ◌≤◌, min, List, [], ◌∷◌, ◌++◌, length, drop, Some, None, codes, sym, refl, ap, ◌∙◌, subst, append_assoc, arith, length-append}
use Rattle.std.specs.List.{AllByRecursion}
use Rattle.std.proofs.lemmas.List.{drop_at}
use Rattle.book.specs.Grammar.{Name, NameEnds, ItemText, GoodItem, item_bytes, more_items, LineText}
use Rattle.book.specs.Reading.{item_in}
use Rattle.book.specs.Places.{item_parts, item_size}
use Rattle.book.specs.Laws.{cut_out, ItemCut}
use Rattle.book.proofs.Laws.{item_law, places_law}
use Rattle.house.specs.declared.reading.body.Body.{Body}
use Rattle.house.specs.Policies.{Enrolled, Written, written_from}
use Rattle.house.specs.Books.{party_part}
use Rattle.house.specs.Filling.{StandsAt, NameAt, ItemAt, LineAt, BodyAt, item_at, headed_line}

module _ (text : List ℕ) where
  -- of bytes in two parts, the first stands at the place
  pub first_part : (place : ℕ) (a b behind : List ℕ) → StandsAt text place (a ++ b) behind → StandsAt text place a (b ++ behind)
  first_part place a b behind s = record { front = s.front; writing = s.writing ∙ ap (λ x. s.front ++ x) (append_assoc a b behind); there = s.there }

  -- and the other behind it
  pub next_part : (place : ℕ) (a b behind : List ℕ) → StandsAt text place (a ++ b) behind → StandsAt text (place + length a) b behind
  next_part place a b behind s =
      let k = length-append s.front a in
      let t = s.there in
      record {
        front = s.front ++ a;
        writing = s.writing ∙ ap (λ x. s.front ++ x) (append_assoc a b behind) ∙ sym (append_assoc s.front a (b ++ behind));
        there = omega arith;
      }

  pub stands_within : (place : ℕ) (bytes behind : List ℕ) → StandsAt text place bytes behind → place + length bytes ≤ length text
  stands_within place bytes behind s =
      let e = ap length s.writing in
      let f = length-append s.front (bytes ++ behind) in
      let g = length-append bytes behind in
      let t = s.there in
      omega arith

  drop_there : (place : ℕ) (bytes behind : List ℕ) → StandsAt text place bytes behind → drop place text ≡ bytes ++ behind
  drop_there place bytes behind s = ap (drop place) s.writing ∙ drop_at s.front (bytes ++ behind) place (sym s.there)

  pub name_cut : (e : Enrolled) → NameAt text e → cut_out text (party_part e) ≡ e.name
  name_cut e a =
      let s = a.stands in
      ap (λ x. cut_out x (party_part e)) s.writing
      ∙ ap (λ x. cut_out (s.front ++ (e.name ++ a.behind)) (record { place = x; length = length e.name })) s.there
      ∙ places_law.name s.front e.name a.behind

  pub item_cut : (w : Written) → ItemAt text w → ItemCut text (item_parts w.place w.item) w.item
  item_cut w a =
      let s = a.stands in
      let cut = places_law.item s.front w.item a.behind in
      subst (λ x. ItemCut x (item_parts w.place w.item) w.item) (sym s.writing)
      (subst (λ k. ItemCut (s.front ++ (item_bytes w.item ++ a.behind)) (item_parts k w.item) w.item) (sym s.there) cut)

  pub item_read : (w : Written) → ItemAt text w → item_at text w.place ≡ Some (item_parts w.place w.item)
  item_read w a =
      let e : item_in (drop w.place text) ≡ Some (w.item, a.behind) = (item_law (drop w.place text) w.item a.behind).1 (drop_there _ _ _ a.stands, a.good, a.ends) in
      ap (λ o. (elim o [ None ↦ None | Some p ↦ Some (item_parts w.place p.0) ])) e

  -- the name and the items of a line
  pub line_name : (place : ℕ) (n : Name) → LineAt text place (LineText.party n) → NameAt text (record { name = n; place = place + 6 })
  line_name place n a =
      let s = next_part place (codes "party ") (n ++ codes "\n") a.behind a.stands in
      record { behind = codes "\n" ++ a.behind; stands = first_part (place + 6) n (codes "\n") a.behind s }

  item_front : (place : ℕ) (i : ItemText) (rest behind : List ℕ) → StandsAt text place (item_bytes i ++ rest) behind → GoodItem i → NameEnds (rest ++ behind) → ItemAt text (record { item = i; place = place })
  item_front place i rest behind s g n = record { behind = rest ++ behind; stands = first_part place (item_bytes i) rest behind s; good = g; ends = n }

  pub line_ask : (place : ℕ) (i : ItemText) → LineAt text place (LineText.ask i) → ItemAt text (record { item = i; place = place + 4 })
  line_ask place i a = item_front (place + 4) i (codes "\n") a.behind (next_part place (codes "ask ") (item_bytes i ++ codes "\n") a.behind a.stands) a.good refl

  pub line_head : (place : ℕ) (h : ItemText) (items : List ItemText) → LineAt text place (headed_line h items) → ItemAt text (record { item = h; place = place + 5 })
  line_head place h [] a = item_front (place + 5) h (codes "\n") a.behind (next_part place (codes "hold ") (item_bytes h ++ codes "\n") a.behind a.stands) a.good refl
  line_head place h (b ∷ bs) a =
      let rest = codes " if " ++ (item_bytes b ++ (more_items bs ++ codes "\n")) in
      item_front (place + 5) h rest a.behind (next_part place (codes "rule ") (item_bytes h ++ rest) a.behind a.stands) a.good.0 refl

  body_ends : (bs : List ItemText) (behind : List ℕ) → NameEnds ((more_items bs ++ codes "\n") ++ behind)
  body_ends [] behind = refl
  body_ends (c ∷ cs) behind = refl

  body_items : (place : ℕ) (b : ItemText) (bs : List ItemText) (behind : List ℕ) → StandsAt text place (item_bytes b ++ (more_items bs ++ codes "\n")) behind → GoodItem b → AllByRecursion GoodItem bs → AllByRecursion (ItemAt text) (written_from place (b ∷ bs))
  body_items place b [] behind s g gs = (item_front place b (codes "\n") behind s g refl, tt)
  body_items place b (c ∷ cs) behind s g gs =
      let more = more_items (c ∷ cs) ++ codes "\n" in
      let e : more ≡ codes " and " ++ (item_bytes c ++ (more_items cs ++ codes "\n")) = simp append_assoc in
      let t = next_part place (item_bytes b) more behind s in
      let u = next_part (place + item_size b) (codes " and ") (item_bytes c ++ (more_items cs ++ codes "\n")) behind (subst (λ x. StandsAt text (place + item_size b) x behind) e t) in
      (item_front place b more behind s g (body_ends (c ∷ cs) behind), body_items (place + item_size b + 5) c cs behind u gs.0 gs.1)

  pub line_body : (place : ℕ) (h : ItemText) (items : List ItemText) → LineAt text place (headed_line h items) → AllByRecursion (ItemAt text) (written_from (place + 5 + item_size h + 4) items)
  line_body place h [] a = tt
  line_body place h (b ∷ bs) a =
      let body = item_bytes b ++ (more_items bs ++ codes "\n") in
      let s = next_part place (codes "rule ") (item_bytes h ++ (codes " if " ++ body)) a.behind a.stands in
      let t = next_part (place + 5) (item_bytes h) (codes " if " ++ body) a.behind s in
      let u = next_part (place + 5 + item_size h) (codes " if ") body a.behind t in
      body_items (place + 5 + item_size h + 4) b bs a.behind u a.good.1 a.good.2

  -- the next item of a body, and where the one behind it is
  pub body_next : (b after : Body) (i : ItemText) (more : List ItemText) (sum : ℕ) → length text < 18446744073709551616 → BodyAt text b (i ∷ more) → after.text.now ≡ b.text.now → after.count + 1 ≡ b.count →
      sum ≡ min (b.place + item_size i) 18446744073709551615 → after.place ≡ min (sum + 5) 18446744073709551615 → BodyAt text after more × (written_from after.place more ≡ written_from (b.place + item_size i + 5) more)
  body_next b after i [] sum short s t k e f = let c = s.counted in (record { text_is = t ∙ s.text_is; stand = tt; counted = omega arith }, refl)
  body_next b after i (m ∷ ms) sum short s t k e f =
      let c = s.counted in
      let next = s.stand.1.0 in
      let w = stands_within _ _ _ next.stands in
      let z : after.place ≡ b.place + item_size i + 5 = omega arith in
      (record { text_is = t ∙ s.text_is; stand = subst (λ p. AllByRecursion (ItemAt text) (written_from p (m ∷ ms))) (sym z) s.stand.1; counted = omega arith }, ap (λ p. written_from p (m ∷ ms)) z)
