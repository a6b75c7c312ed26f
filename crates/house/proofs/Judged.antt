-- The smallest fault of a line, from its tests.
use Rattle.std.proofs.Common.{◌≡◌, ℕ, ◌<◌, ◌≤◌, true, false, ltb, List, length, Some, None, Ok, Err, sym, refl, ap, subst, arith}
use lib.ListN.{length-map}
use Rattle.std.proofs.lemmas.Bool.{lt-ltb, le-ltb, or_left, or_right, or_from}
use Rattle.table.specs.Held.{held}
use Rattle.table.proofs.Slots.{length-held}
use Rattle.book.specs.declared.fault.Fault.{Fault}
use Rattle.book.specs.declared.fault.Fault.TheVariants.{OneLetter, EnrolledBefore, NotEnrolled, Strange, TooMany, SecondAsk}
use Rattle.book.specs.Grammar.{LineText}
use Rattle.house.specs.declared.tables.Tables.{Tables}
use Rattle.house.specs.Policies.{Policies, has_one_letter, enrolled_before, not_enrolled, strange, too_many, second_ask, body_of, with, fault_of}
use Rattle.house.specs.Books.{party_part, entry}
use Rattle.house.specs.Filling.{Filled, Added, Adds}
use Rattle.house.proofs.Views.{length_views}

module _ (v : Policies) (l : LineText) where
  pub at_letter : has_one_letter l ≡ true → fault_of v l ≡ Some OneLetter
  at_letter h = rw h

  module _ (a : has_one_letter l ≡ false) where
    pub at_twice : enrolled_before v l ≡ true → fault_of v l ≡ Some EnrolledBefore
    at_twice h = rw (a, h)

    module _ (b : enrolled_before v l ≡ false) where
      pub at_unknown : not_enrolled v l ≡ true → fault_of v l ≡ Some NotEnrolled
      at_unknown h = rw (a, b, h)

      pub at_strange : not_enrolled v l ≡ false → strange l ≡ true → fault_of v l ≡ Some Strange
      at_strange c h = rw (a, b, c, h)

      module _ (c : not_enrolled v l ≡ false) (d : strange l ≡ false) where
        pub at_many : too_many v l ≡ true → fault_of v l ≡ Some TooMany
        at_many h = rw (a, b, c, d, h)

        pub at_second : too_many v l ≡ false → second_ask v l ≡ true → fault_of v l ≡ Some SecondAsk
        at_second h k = rw (a, b, c, d, h, k)

        pub at_none : too_many v l ≡ false → second_ask v l ≡ false → fault_of v l ≡ None
        at_none h k = rw (a, b, c, d, h, k)

  module _ (text : List ℕ) (place : ℕ) (after : Tables) where
    pub adds_fault : (f : Fault) → fault_of v l ≡ Some f → Adds text v place l (Err f) after
    adds_fault f e = subst (λ o. Added text v place l o (Err f) after) (sym e) refl

    pub adds_line : fault_of v l ≡ None → Filled text after (with v place l) → Adds text v place l (Ok tt) after
    adds_line e h = subst (λ o. Added text v place l o (Ok tt) after) (sym e) (refl, h)

-- the test for too many, by the counts
module _ (v : Policies) (l : LineText) where
  pub many_parties : 16 < length (with v 0 l).parties → too_many v l ≡ true
  many_parties h = or_left _ _ (lt-ltb _ _ h)

  pub many_items : 256 < length (with v 0 l).items → too_many v l ≡ true
  many_items h = or_right _ _ (or_left _ _ (lt-ltb _ _ h))

  pub many_rules : 512 < length (with v 0 l).rules → too_many v l ≡ true
  many_rules h = or_right _ _ (or_right _ _ (or_left _ _ (lt-ltb _ _ h)))

  pub many_body : 8 < length (body_of l) → too_many v l ≡ true
  many_body h = or_right (ltb 16 (length (with v 0 l).parties)) _ (or_right (ltb 256 (length (with v 0 l).items)) _ (or_right (ltb 512 (length (with v 0 l).rules)) _ (lt-ltb _ _ h)))

  pub not_many : length (with v 0 l).parties ≤ 16 → length (with v 0 l).items ≤ 256 → length (with v 0 l).rules ≤ 512 → length (body_of l) ≤ 8 → too_many v l ≡ false
  not_many a b c d = or_from _ _ (le-ltb _ _ a) (or_from _ _ (le-ltb _ _ b) (or_from _ _ (le-ltb _ _ c) (le-ltb _ _ d)))

-- tables hold no more than they have room for
module _ (text : List ℕ) (t : Tables) (v : Policies) (f : Filled text t v) where
  pub few_parties : length v.parties ≤ 16
  few_parties = let a = length-map v.parties party_part in let b = ap length f.parties in let c = length-held t.parties in let d = t.parties.fits in omega arith

  pub few_items : length v.items ≤ 256
  few_items = let a = length-map v.items (entry v) in let b = ap length f.items in let c = length-held t.items in let d = t.items.fits in omega arith

  pub few_rules : length v.rules ≤ 512
  few_rules = let a = length_views (held t.rules) in let b = ap length f.rules in let c = length-held t.rules in let d = t.rules.fits in omega arith
