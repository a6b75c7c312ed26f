-- A line with a head and a body: its items are registered one after the other, then the rule is added.
use Rattle.std.proofs.Common.{◌≡◌, ℕ, ◌+◌, ◌<◌, ◌≤◌, Bool, true, false, cond, eqb, List, [], ◌∷◌, ◌++◌, length, Some, None, Ok, Err, Result, sym, refl, ap, ◌∙◌, subst, arith, length-append}
use Rattle.std.specs.List.{AllByRecursion}
use Rattle.table.specs.Held.{held}
use Rattle.book.specs.declared.fault.Fault.{Fault}
use Rattle.book.specs.declared.fault.Fault.TheVariants.{OneLetter, EnrolledBefore, NotEnrolled, Strange, TooMany, SecondAsk}
use Rattle.book.specs.declared.parts.ItemParts.{ItemParts}
use Rattle.book.specs.Grammar.{ItemText, LineText}
use Rattle.book.specs.Places.{item_parts, item_size}
use Rattle.house.specs.declared.entries.Rule.{Rule}
use Rattle.house.specs.declared.tables.Tables.{Tables}
use Rattle.house.specs.declared.reading.body.Body.{Body}
use Rattle.house.specs.View.{rule_view, rule_views}
use Rattle.house.specs.Policies.{Written, Policies, any, enrolled, same_item, number, numbers, once, register, register_all, written_from, with_rule, body_of, too_many, second_ask, with, has, first_true}
use Rattle.house.specs.Filling.{ItemAt, LineAt, BodyAt, BodyNext, Filled, with_items, Registers, Registered, headed_line, as_fault, Judges, Adds}
use Rattle.house.proofs.Views.{views_push}
use Rattle.house.proofs.Spots.{line_head}
use Rattle.house.proofs.Registers.{registered, number_stays, registers_length}
use Rattle.house.proofs.Keeping.{kept_rule, rule_ok}
use Rattle.house.proofs.Judged.{at_many, at_none, adds_fault, adds_line, many_items, many_rules, many_body, not_many, few_parties, few_items, few_rules}
use Rattle.house.proofs.Judging.{unknown, rule-unknown, rule-strange}
use Rattle.house.proofs.Counts.{same_count}
use Rattle.house.proofs.Views.{length_views}

abbrev four : List Fault
four = OneLetter ∷ EnrolledBefore ∷ NotEnrolled ∷ Strange ∷ []

-- faults of names come before the others
module _ (t : Fault → Bool) where
  fault_first : (xs ys : List Fault) (g : Fault) → Err g ≡ as_fault (first_true t xs) → first_true t (xs ++ ys) ≡ Some g
  fault_first [] ys g e = cc (sym e)
  fault_first (x ∷ xs) ys g e = go (t x) e (fault_first xs ys g)
    where
      go : (b : Bool) → Err g ≡ as_fault (cond b (Some x) (first_true t xs)) → (Err g ≡ as_fault (first_true t xs) → first_true t (xs ++ ys) ≡ Some g) → cond b (Some x) (first_true t (xs ++ ys)) ≡ Some g
      go true e r = grind arith
      go false e r = r e

  none_first : (xs : List Fault) → Ok tt ≡ as_fault (first_true t xs) → AllByRecursion (λ x. t x ≡ false) xs
  none_first [] e = tt
  none_first (x ∷ xs) e = go (t x) refl e (none_first xs)
    where
      go : (b : Bool) → t x ≡ b → Ok tt ≡ as_fault (cond b (Some x) (first_true t xs)) → (Ok tt ≡ as_fault (first_true t xs) → AllByRecursion (λ y. t y ≡ false) xs) → (t x ≡ false) × AllByRecursion (λ y. t y ≡ false) xs
      go true h e r = cc e
      go false h e r = (h, r e)

-- each item is in the register then
registers_have : (items ws : List Written) → AllByRecursion (λ w. any (same_item w.item) (register_all items ws) ≡ true) ws
registers_have items [] = tt
registers_have items (w ∷ ws) = ((number_stays (register items w) ws w.item (registered items w)).1, registers_have (register items w) ws)

of_written : (P : ItemText → Type 0) (place : ℕ) (is : List ItemText) → AllByRecursion (λ w. P w.item) (written_from place is) → AllByRecursion P is
of_written P place [] a = tt
of_written P place (i ∷ is) a = (a.0, of_written P (place + item_size i + 5) is a.1)

with-rule : (v : Policies) (place : ℕ) (h : ItemText) (items : List ItemText) → with v place (headed_line h items) ≡ with_rule v (place + 5) h items
with-rule v place h [] = refl
with-rule v place h (b ∷ bs) = refl

body_of_lem : (h : ItemText) (items : List ItemText) → body_of (headed_line h items) ≡ items
body_of_lem h [] = refl
body_of_lem h (b ∷ bs) = refl

second_ask_lem : (v : Policies) (h : ItemText) (items : List ItemText) → second_ask v (headed_line h items) ≡ false
second_ask_lem v h [] = refl
second_ask_lem v h (b ∷ bs) = refl

pub none_unknown : (v : Policies) (is : List ItemText) → any (unknown v) is ≡ false → AllByRecursion (λ i. (enrolled v i.source ≡ true) × (enrolled v i.destination ≡ true)) is
none_unknown v [] h = tt
none_unknown v (i ∷ is) h = ((grind arith, grind arith), none_unknown v is (grind arith))

-- the register once all items of the line are in it
abbrev final : Policies → ℕ → ItemText → List ItemText → List Written
final v place h items = register_all v.items (record { item = h; place = place + 5 } ∷ written_from (place + 5 + item_size h + 4) items)

-- where the loop over the body stands
pub record Building (text : List ℕ) (v : Policies) (place : ℕ) (h : ItemText) (items : List ItemText) (t : Tables) (rule : Rule) (left : Body) : Type 0 where
  pub more : List ItemText
  pub regs : List Written
  pub at : BodyAt text left more
  pub filled : Filled text t (with_items v regs)
  pub ends : AllByRecursion (λ i. (enrolled v i.source ≡ true) × (enrolled v i.destination ≡ true)) more
  pub to_come : register_all regs (written_from left.place more) ≡ final v place h items
  pub head_is : rule.head ≡ number (final v place h items) h
  pub body_is : once (held rule.body) (numbers (final v place h items) more) ≡ once [] (numbers (final v place h items) items)
  pub room : length (held rule.body) + length more ≤ 8

-- what was built so far goes on from where the loop began
abbrev pub RuleSoFar : List ℕ → Tables → Rule → Body → Tables → Rule → Body → Type 0
RuleSoFar text t0 rule0 left0 t rule left =
    (v : Policies) (place : ℕ) (h : ItemText) (items : List ItemText) → Building text v place h items t0 rule0 left0 → Building text v place h items t rule left

-- the next item of the body
module _ (text : List ℕ) (v : Policies) (place : ℕ) (h : ItemText) (items : List ItemText) where
  module _ (t : Tables) (rule : Rule) (left : Body) (s : Building text v place h items t rule left) (left2 : Body) (item : ItemParts) (n : BodyNext left (Some item) left2) (answer : Result ℕ Fault) (t2 : Tables) (r : Registers text t item answer t2) where
    one_more : (m : List ItemText) → s.more ≡ m → (i : ItemText) × (is : List ItemText) × (s.more ≡ i ∷ is)
    one_more [] e2 = cc ((n text).0 (subst (BodyAt text left) e2 s.at))
    one_more (i ∷ is) e2 = (i, is, e2)

    abbrev next : ItemText
    next = (one_more s.more refl).0

    abbrev rest : List ItemText
    rest = (one_more s.more refl).1

    is_next : s.more ≡ next ∷ rest
    is_next = (one_more s.more refl).2

    abbrev written : Written
    written = record { item = next; place = left.place }

    abbrev regs2 : List Written
    regs2 = register s.regs written

    at_next : BodyAt text left (next ∷ rest)
    at_next = subst (BodyAt text left) is_next s.at

    next_ends : AllByRecursion (λ i. (enrolled v i.source ≡ true) × (enrolled v i.destination ≡ true)) (next ∷ rest)
    next_ends = subst (AllByRecursion (λ i. (enrolled v i.source ≡ true) × (enrolled v i.destination ≡ true))) is_next s.ends

    next-registered : Registered text (with_items v s.regs) written answer t2
    next-registered = r (with_items v s.regs) written s.filled (cc ((n text).1 next rest at_next).0) at_next.stand.0 next_ends.0.0 next_ends.0.1

    still_to_come : register_all regs2 (written_from left2.place rest) ≡ final v place h items
    still_to_come = ap (register_all regs2) ((n text).1 next rest at_next).2 ∙ ap (λ l. register_all s.regs (written_from left.place l)) (sym is_next) ∙ s.to_come

    -- the register gets too long
    pub next_long : (g : Fault) → answer ≡ Err g → (g ≡ TooMany) × (256 < length (final v place h items))
    next_long g is =
        let k = subst (λ x. Registered text (with_items v s.regs) written x t2) is next-registered in
        let x = k.1 in
        let y = registers_length regs2 (written_from left2.place rest) in
        let z = ap length still_to_come in
        (k.0, omega arith)

    -- the rule with the next item's number behind the others, unless it is among them
    pub next-step : (num : ℕ) (rule2 : Rule) → answer ≡ Ok num → rule2.head ≡ rule.head → held rule2.body ≡ cond (any (eqb num) (held rule.body)) (held rule.body) (held rule.body ++ num ∷ []) →
        Building text v place h items t2 rule2 left2
    next-step num rule2 is hh hb =
        let k = subst (λ x. Registered text (with_items v s.regs) written x t2) is next-registered in
        let whole = final v place h items in
        let same : number whole next ≡ num = ap (λ l. number l next) (sym still_to_come) ∙ (number_stays regs2 (written_from left2.place rest) next (registered s.regs written)).0 ∙ sym k.0 in
        let more-is : numbers whole s.more ≡ num ∷ numbers whole rest = ap (numbers whole) is_next ∙ ap (λ x. x ∷ numbers whole rest) same in
        let x = s.room in
        let y = ap length is_next in
        let z = ap length hb in
        record {
          more = rest;
          regs = regs2;
          at = ((n text).1 next rest at_next).1;
          filled = k.1;
          ends = next_ends.1;
          to_come = still_to_come;
          head_is = hh ∙ s.head_is;
          body_is = ap (λ l. once l (numbers whole rest)) hb ∙ pull (any (eqb num) (held rule.body)) ∙ ap (once (held rule.body)) (sym more-is) ∙ s.body_is;
          room = roomy (any (eqb num) (held rule.body)) (length (held rule2.body)) z y;
        }
      where
        pull : (b : Bool) → once (cond b (held rule.body) (held rule.body ++ num ∷ [])) (numbers (final v place h items) rest)
            ≡ cond b (once (held rule.body) (numbers (final v place h items) rest)) (once (held rule.body ++ num ∷ []) (numbers (final v place h items) rest))
        pull true = refl
        pull false = refl

        roomy : (b : Bool) (m : ℕ) → m ≡ length (cond b (held rule.body) (held rule.body ++ num ∷ [])) → length s.more ≡ length (next ∷ rest) → m + length rest ≤ 8
        roomy true m e1 e2 = let x = s.room in omega arith
        roomy false m e1 e2 = let x = s.room in let u = length-append (held rule.body) (num ∷ []) in omega arith

    -- there is room for it
    pub next_room : length (held rule.body) < 8
    next_room = let x = s.room in let y = ap length is_next in omega arith

module _ (text : List ℕ) (before : Tables) (head : ItemParts) (body : Body) where
  module _ (v : Policies) (place : ℕ) (h : ItemText) (items : List ItemText) (f : Filled text before v) (a : LineAt text place (headed_line h items)) (e : head ≡ item_parts (place + 5) h) (b : BodyAt text body items)
      (p : written_from body.place items ≡ written_from (place + 5 + item_size h + 4) items) where
    abbrev line : LineText
    line = headed_line h items

    abbrev first : Written
    first = record { item = h; place = place + 5 }

    there : ItemAt text first
    there = line_head text place h items a

    pub names_at_fault : (after : Tables) (g : Fault) → Judges text before head body (Err g) → Adds text v place line (Err g) after
    names_at_fault after g j = adds_fault v line text place after g (fault_first (has v line) four (TooMany ∷ SecondAsk ∷ []) g (j v first items f there e b))

    module _ (j : Judges text before head body (Ok tt)) where
      clear : AllByRecursion (λ x. has v line x ≡ false) four
      clear = none_first (has v line) four (j v first items f there e b)

      known : AllByRecursion (λ i. (enrolled v i.source ≡ true) × (enrolled v i.destination ≡ true)) (h ∷ items)
      known = none_unknown v (h ∷ items) (sym (rule-unknown v h items) ∙ clear.1.1.0)

      many : (after : Tables) → too_many v line ≡ true → Adds text v place line (Err TooMany) after
      many after k = adds_fault v line text place after TooMany (at_many v line clear.0 clear.1.0 clear.1.1.0 clear.1.1.1.0 k)

      -- the counts that the test for too many looks at
      counted : length (with v 0 line).items ≡ length (final v place h items)
      counted = ap (λ w. length w.items) (with-rule v 0 h items) ∙ same_count v.items h items (0 + 5) (0 + 5 + item_size h + 4) (place + 5) (place + 5 + item_size h + 4)

      rules_counted : length (with v 0 line).rules ≡ length v.rules + 1
      rules_counted = ap (λ w. length w.rules) (with-rule v 0 h items) ∙ length-append v.rules _

      parties_counted : length (with v 0 line).parties ≡ length v.parties
      parties_counted = ap (λ w. length w.parties) (with-rule v 0 h items)

      pub nine : (after : Tables) → 8 < body.count → Adds text v place line (Err TooMany) after
      nine after l = let k = b.counted in let m = ap length (body_of_lem h items) in many after (many_body v line (omega arith))

      items_over : (after : Tables) → 256 < length (final v place h items) → Adds text v place line (Err TooMany) after
      items_over after l = let k = counted in many after (many_items v line (omega arith))

      rules_over : (after : Tables) → length v.rules ≡ 512 → Adds text v place line (Err TooMany) after
      rules_over after l = let k = rules_counted in many after (many_rules v line (omega arith))

      -- the head
      head_registered : (answer : Result ℕ Fault) (t : Tables) → Registers text before head answer t → Registered text v first answer t
      head_registered answer t r = r v first f e there known.0.0 known.0.1

      pub head_over : (after t : Tables) (g : Fault) → Registers text before head (Err g) t → Adds text v place line (Err g) after
      head_over after t g r =
          let k = head_registered (Err g) t r in
          let x = k.1 in
          let y = registers_length (register v.items first) (written_from (place + 5 + item_size h + 4) items) in
          subst (λ u. Adds text v place line (Err u) after) (sym k.0) (items_over after (omega arith))

      pub start : (n : ℕ) (t : Tables) (rule : Rule) → Registers text before head (Ok n) t → body.count ≤ 8 → rule.head ≡ n → held rule.body ≡ [] → Building text v place h items t rule body
      start n t rule r few hn hb =
          let k = head_registered (Ok n) t r in
          let regs = register v.items first in
          let s = (number_stays regs (written_from (place + 5 + item_size h + 4) items) h (registered v.items first)).0 in
          let c = b.counted in
          let m = ap length hb in
          record {
            more = items;
            regs = regs;
            at = b;
            filled = k.1;
            ends = known.1;
            to_come = ap (register_all regs) p;
            head_is = hn ∙ k.0 ∙ sym s;
            body_is = ap (λ l. once l (numbers (final v place h items) items)) hb;
            room = omega arith;
          }

      pub next_over : (after t : Tables) (rule : Rule) (left : Body) → Building text v place h items t rule left → (left2 : Body) (item : ItemParts) → BodyNext left (Some item) left2 → (g : Fault) (t2 : Tables) →
          Registers text t item (Err g) t2 → Adds text v place line (Err g) after
      next_over after t rule left s left2 item n g t2 r =
          let k = next_long text v place h items t rule left s left2 item n (Err g) t2 r g refl in
          subst (λ u. Adds text v place line (Err u) after) (sym k.0) (items_over after k.1)

      -- the end of the body
      module _ (t : Tables) (rule : Rule) (left : Body) (s : Building text v place h items t rule left) (left2 : Body) (n : BodyNext left None left2) where
        no_more : (m : List ItemText) → s.more ≡ m → s.more ≡ []
        no_more [] e2 = e2
        no_more (i ∷ is) e2 = cc (sym ((n text).1 i is (subst (BodyAt text left) e2 s.at)).0)

        all_in : s.regs ≡ final v place h items
        all_in = ap (λ l. register_all s.regs (written_from left.place l)) (sym (no_more s.more refl)) ∙ s.to_come

        filled : Filled text t (with_items v (final v place h items))
        filled = subst (λ l. Filled text t (with_items v l)) all_in s.filled

        rule_is : rule_view rule ≡ record { head = number (final v place h items) h; body = once [] (numbers (final v place h items) items) }
        rule_is =
            let none = no_more s.more refl in
            cc (s.head_is, s.body_is)

        pub rules_full : (after : Tables) → length (held t.rules) ≡ 512 → Adds text v place line (Err TooMany) after
        rules_full after l = let k = ap length filled.rules in let m = length_views (held t.rules) in rules_over after (omega arith)

        pub rule_added : (after : Tables) → body.count ≤ 8 → after.parties ≡ t.parties → after.items ≡ t.items → after.asked ≡ t.asked → held after.rules ≡ held t.rules ++ rule ∷ [] → Adds text v place line (Ok tt) after
        rule_added after few pp pi pa pr =
            let whole = final v place h items in
            let ws = record { item = h; place = place + 5 } ∷ written_from (place + 5 + item_size h + 4) items in
            let have = registers_have v.items ws in
            let v2 = with_items v whole in
            let ok = rule_ok v2 h have.0 items (of_written (λ i. any (same_item i) whole ≡ true) (place + 5 + item_size h + 4) items have.1) (sym (rule-strange v h items) ∙ clear.1.1.1.0) in
            let done : Filled text after (with_rule v (place + 5) h items) =
            record {
              parties = ap held pp ∙ filled.parties;
              items = ap held pi ∙ filled.items;
              rules = ap rule_views pr ∙ views_push (held t.rules) rule ∙ ap (λ l. l ++ rule_view rule ∷ []) filled.rules ∙ ap (λ x. v.rules ++ x ∷ []) rule_is;
              asked = pa ∙ filled.asked;
              kept = kept_rule text v2 filled.kept _ ok;
            } in
            let a1 = few_parties text before v f in
            let a2 = few_items text t v2 filled in
            let a3 = few_rules text after (with_rule v (place + 5) h items) done in
            let c1 = parties_counted in
            let c2 = counted in
            let c3 = rules_counted in
            let c4 = length-append v.rules (record { head = number whole h; body = once [] (numbers whole items) } ∷ []) in
            let c5 = ap length (body_of_lem h items) in
            let c6 = b.counted in
            adds_line v line text place after
            (at_none v line clear.0 clear.1.0 clear.1.1.0 clear.1.1.1.0 (not_many v line (omega arith) (omega arith) (omega arith) (omega arith)) (second_ask_lem v h items))
            (subst (Filled text after) (sym (with-rule v place h items)) done)
