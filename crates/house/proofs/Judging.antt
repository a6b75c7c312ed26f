-- The names of a rule are judged item by item.
use Rattle.std.proofs.Common.{◌≡◌, ℕ, Bool, false, cond, not, ◌&&◌, ◌||◌, List, [], ◌∷◌, Some, None, Result, sym, refl, ap, ◌∙◌, arith}
use Rattle.table.specs.Held.{held}
use Rattle.book.specs.declared.fault.Fault.{Fault}
use Rattle.book.specs.declared.fault.Fault.TheVariants.{OneLetter, NotEnrolled, Strange}
use Rattle.book.specs.declared.parts.ItemParts.{ItemParts}
use Rattle.book.specs.Grammar.{ItemText}
use Rattle.book.specs.Places.{item_one_letter, item_parts}
use Rattle.house.specs.declared.tables.Tables.{Tables}
use Rattle.house.specs.declared.reading.body.Body.{Body}
use Rattle.house.specs.Policies.{same, Written, Policies, any, enrolled, has_one_letter, enrolled_before, not_enrolled, strange}
use Rattle.house.specs.Filling.{concerns, ends_enrolled, ItemAt, BodyAt, BodyNext, Filled, headed_line, as_fault, Judges}
use Rattle.house.proofs.Spots.{item_cut}
use Rattle.house.proofs.Lookups.{same_cut, enrolled_ends}

-- the tests of one item
abbrev pub unknown : Policies → ItemText → Bool
unknown v i = not (enrolled v i.source && enrolled v i.destination)

abbrev pub foreign : ItemText → ItemText → Bool
foreign h i = not (same i.source h.source || same i.destination h.source)

-- the tests of a line with a head and a body
module _ (v : Policies) (h : ItemText) where
  pub rule_letters : (items : List ItemText) → has_one_letter (headed_line h items) ≡ any item_one_letter (h ∷ items)
  rule_letters [] = refl
  rule_letters (b ∷ bs) = refl

  pub rule_before : (items : List ItemText) → enrolled_before v (headed_line h items) ≡ false
  rule_before [] = refl
  rule_before (b ∷ bs) = refl

  pub rule-unknown : (items : List ItemText) → not_enrolled v (headed_line h items) ≡ any (unknown v) (h ∷ items)
  rule-unknown [] = refl
  rule-unknown (b ∷ bs) = refl

  pub rule-strange : (items : List ItemText) → strange (headed_line h items) ≡ any (foreign h) items
  rule-strange [] = refl
  rule-strange (b ∷ bs) = refl

or_step : (a b c r a2 : Bool) → (a || (b || c)) ≡ r → a2 ≡ (a || b) → (a2 || c) ≡ r
or_step a b c r a2 h k = grind arith

not_step : (a b c r a2 : Bool) → (not a || (not b || c)) ≡ r → a2 ≡ (a && b) → (not a2 || c) ≡ r
not_step a b c r a2 h k = grind arith

-- what is known so far, with what the items to come will add, is what all items say
pub record Tests (v : Policies) (h : ItemText) (all : List ItemText) (single enrolling strange : Bool) (left : List ItemText) : Type 0 where
  pub single_is : (single || any item_one_letter left) ≡ any item_one_letter (h ∷ all)
  pub enrolled_is : (not enrolling || any (unknown v) left) ≡ any (unknown v) (h ∷ all)
  pub strange_is : (strange || any (foreign h) left) ≡ any (foreign h) all

abbrev pub JudgedSoFar : List ℕ → Tables → ItemParts → Body → Bool → Bool → Bool → Body → Type 0
JudgedSoFar text t head body single enrolling strange left =
    (v : Policies) (w : Written) (items : List ItemText) → Filled text t v → ItemAt text w → head ≡ item_parts w.place w.item → BodyAt text body items →
    (more : List ItemText) × BodyAt text left more × Tests v w.item items single enrolling strange more

-- the answer, by the three tests of the whole line
abbrev verdict : Bool → Bool → Bool → Result (Unit {0}) Fault
verdict single enrolling far = as_fault (cond single (Some OneLetter) (cond (not enrolling) (Some NotEnrolled) (cond far (Some Strange) None)))

module _ (text : List ℕ) (t : Tables) (head : ItemParts) (body : Body) where
  pub judged_first : (ends : Bool) → ends ≡ ends_enrolled text (held t.parties) head → JudgedSoFar text t head body head.single ends false body
  judged_first ends is v w items f a e b =
      let k = is ∙ ap (ends_enrolled text (held t.parties)) e ∙ enrolled_ends text t v f w a in
      let s = ap (λ p. p.single) e in
      (items, b, record { single_is = grind arith; enrolled_is = grind arith; strange_is = refl })

  module _ (single enrolling strange : Bool) (left : Body) (inv : JudgedSoFar text t head body single enrolling strange left) (after : Body) where
    pub judged_next : (item : ItemParts) → BodyNext left (Some item) after → (ends own : Bool) → ends ≡ ends_enrolled text (held t.parties) item → own ≡ concerns text head.source item →
        JudgedSoFar text t head body (single || item.single) (enrolling && ends) (strange || not own) after
    judged_next item n ends own hs ho v w items f a e b = go (inv v w items f a e b).0 (inv v w items f a e b).1 (inv v w items f a e b).2
      where
        go : (more : List ItemText) → BodyAt text left more → Tests v w.item items single enrolling strange more → (more2 : List ItemText) × BodyAt text after more2 × Tests v w.item items (single || item.single) (enrolling && ends) (strange || not own) more2
        go [] at s = cc ((n text).0 at)
        go (i ∷ more) at s =
            let k = (n text).1 i more at in
            let p : item ≡ item_parts left.place i = cc k.0 in
            let u : Written = record { item = i; place = left.place } in
            let there : ItemAt text u = at.stand.0 in
            let cut = item_cut text u there in
            let mine = item_cut text w a in
            let s1 = ap (λ q. q.single) p in
            let e1 = hs ∙ ap (ends_enrolled text (held t.parties)) p ∙ enrolled_ends text t v f u there in
            let parts = item_parts left.place i in
            let owner = (item_parts w.place w.item).source in
            let a1 = same_cut text parts.source owner _ _ cut.source mine.source in
            let a2 = same_cut text parts.destination owner _ _ cut.destination mine.source in
            let o1 : own ≡ (same i.source w.item.source || same i.destination w.item.source) = cc in (
              more,
              k.1,
              record {
                single_is = or_step single (item_one_letter i) _ _ _ s.single_is (ap (λ q. single || q) s1);
                enrolled_is = not_step enrolling (enrolled v i.source && enrolled v i.destination) _ _ _ s.enrolled_is (ap (λ q. enrolling && q) e1);
                strange_is = or_step strange (foreign w.item i) _ _ _ s.strange_is (ap (λ q. strange || not q) o1);
              },
            )

    judged_end : BodyNext left None after → (v : Policies) (w : Written) (items : List ItemText) → Filled text t v → ItemAt text w → head ≡ item_parts w.place w.item → BodyAt text body items →
        (single ≡ any item_one_letter (w.item ∷ items)) × (not enrolling ≡ any (unknown v) (w.item ∷ items)) × (strange ≡ any (foreign w.item) items)
    judged_end n v w items f a e b = go (inv v w items f a e b).0 (inv v w items f a e b).1 (inv v w items f a e b).2
      where
        go : (more : List ItemText) → BodyAt text left more → Tests v w.item items single enrolling strange more →
            (single ≡ any item_one_letter (w.item ∷ items)) × (not enrolling ≡ any (unknown v) (w.item ∷ items)) × (strange ≡ any (foreign w.item) items)
        go [] at s = let x = s.single_is in let y = s.enrolled_is in let z = s.strange_is in (grind arith, grind arith, grind arith)
        go (i ∷ more) at s = cc (sym ((n text).1 i more at).0)

    pub judges : BodyNext left None after → Judges text t head body (verdict single enrolling strange)
    judges n v w items f a e b =
        let k = judged_end n v w items f a e b in
        rw (rule_letters v w.item items ∙ sym k.0, rule_before v w.item items, rule-unknown v w.item items ∙ sym k.1, rule-strange v w.item items ∙ sym k.2)
