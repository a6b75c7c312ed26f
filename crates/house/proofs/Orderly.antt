-- Books that are read enrol and register nothing twice.
use Rattle.std.proofs.Common.{◌≡◌, ℕ, zero, suc, ◌+◌, ◌<◌, Bool, true, false, cond, eqb, List, [], ◌∷◌, ◌++◌, length, get_or, None, sym, refl, ap, ◌∙◌, subst, inl, inr, arith, length-append}
use Rattle.std.specs.List.{AllByRecursion}
use Rattle.std.proofs.lemmas.List.{get_or_append_left, get_or-append-add}
use Rattle.std.proofs.ByRecursion.{All-push, All-get_or}
use Rattle.std.proofs.lemmas.Bool.{cases_lt}
use Rattle.book.specs.declared.fault.Fault.{Fault}
use Rattle.book.specs.declared.fault.Fault.TheVariants.{EnrolledBefore, NotEnrolled}
use Rattle.book.specs.Grammar.{Name, credential_bytes, ItemText, LineText}
use Rattle.book.specs.Places.{item_size}
use Rattle.book.specs.Lines.{line_size}
use Rattle.house.specs.Policies.{same, Enrolled, Written, Policies, any, first_of, named, same_item, once, numbers, register, register_all, written_from, enrolled, with, has, fault_of}
use Rattle.house.specs.Books.{entry}
use Rattle.house.specs.BookLaw.{Says, Smallest}
use Rattle.house.specs.RegisterLaw.{SameItem, SameEntry, Once, Orderly}
use Rattle.house.proofs.Firsts.{first_passes}
use Rattle.house.proofs.Cuts.{same_refl, same_is}
use Rattle.house.proofs.Registers.{Ends, all_of, ends_party, credential_of, credentials}
use Rattle.house.proofs.Stand.{all_registered}
use Rattle.house.proofs.Smallest.{smallest_fault}
use Rattle.house.proofs.Rules.{none_unknown}

-- no element is like an earlier one
abbrev Apart : {X : Type 0} → (X → X → Bool) → List X → Type 0
Apart {X} p xs = (i j : ℕ) (d : X) → i < j → j < length xs → p (get_or xs j d) (get_or xs i d) ≡ false

none_at : {X : Type 0} (p : X → Bool) (xs : List X) (i : ℕ) (d : X) → any p xs ≡ false → i < length xs → p (get_or xs i d) ≡ false
none_at p [] i d h l = absurd (omega arith)
none_at p (x ∷ xs) zero d h l = grind arith
none_at p (x ∷ xs) (suc i) d h l = none_at p xs i d (grind arith) (omega arith)

apart_push : {X : Type 0} (p : X → X → Bool) (xs : List X) (x : X) → Apart p xs → any (p x) xs ≡ false → Apart p (xs ++ x ∷ [])
apart_push p xs x a h i j d l m =
    let n = length-append xs (x ∷ []) in
    elim (cases_lt j (length xs)) [
      | inl k ↦
          ap (λ y. p y (get_or (xs ++ x ∷ []) i d)) (get_or_append_left xs (x ∷ []) d j k) ∙ ap (p (get_or xs j d)) (get_or_append_left xs (x ∷ []) d i (omega arith)) ∙ a i j d l k
      | inr k ↦
          let e : j ≡ length xs + 0 = omega arith in
          let last : get_or (xs ++ x ∷ []) j d ≡ x = ap (λ q. get_or (xs ++ x ∷ []) q d) e ∙ get_or-append-add xs (x ∷ []) 0 d in
          ap (λ y. p y (get_or (xs ++ x ∷ []) i d)) last ∙ ap (p x) (get_or_append_left xs (x ∷ []) d i (omega arith)) ∙ none_at (p x) xs i d h (omega arith)
    ]

-- tests for two parties, two items
abbrev like_party : Enrolled → Enrolled → Bool
like_party e f = named e.name f

abbrev like_written : Written → Written → Bool
like_written w u = same_item w.item u

apart_register : (items ws : List Written) → Apart like_written items → Apart like_written (register_all items ws)
apart_register items [] a = a
apart_register items (w ∷ ws) a = apart_register (register items w) ws (go (any (same_item w.item) items) refl)
  where
    go : (b : Bool) → any (same_item w.item) items ≡ b → Apart like_written (cond b items (items ++ w ∷ []))
    go true e = a
    go false e = apart_push like_written items w a e

apart_once : (seen ns : List ℕ) → Apart eqb seen → Apart eqb (once seen ns)
apart_once seen [] a = a
apart_once seen (n ∷ ns) a = go (any (eqb n) seen) refl (apart_once seen ns a) (λ h. apart_once (seen ++ n ∷ []) ns (apart_push eqb seen n a h))
  where
    go : (b : Bool) → any (eqb n) seen ≡ b → Apart eqb (once seen ns) → (any (eqb n) seen ≡ false → Apart eqb (once (seen ++ n ∷ []) ns)) → Apart eqb (cond b (once seen ns) (once (seen ++ n ∷ []) ns))
    go true e x y = x
    go false e x y = y e

once_of : (xs : List ℕ) → Apart eqb xs → Once xs
once_of xs a i j d l m e = let h = a i j d l m in absurd (let f : ⊥ = grind arith in f)

pub record Sorted (v : Policies) : Type 0 where
  pub parties : Apart like_party v.parties
  pub items : Apart like_written v.items
  pub bodies : AllByRecursion (λ r. Once r.body) v.rules
  pub ends : AllByRecursion (Ends v) v.items

no_fault : (v : Policies) (l : LineText) → fault_of v l ≡ None → (g : Fault) → has v l g ≡ false
no_fault v l e = subst (Smallest (has v l)) e (smallest_fault v l)

written_ends : (v : Policies) (place : ℕ) (is : List ItemText) → AllByRecursion (λ i. (enrolled v i.source ≡ true) × (enrolled v i.destination ≡ true)) is → AllByRecursion (Ends v) (written_from place is)
written_ends v place [] a = tt
written_ends v place (i ∷ is) a = (a.0, written_ends v (place + item_size i + 5) is a.1)

line_sorted : (place : ℕ) (l : LineText) (v : Policies) → fault_of v l ≡ None → Sorted v → Sorted (with v place l)
line_sorted place (LineText.party n) v f s =
    let e : Enrolled = record { name = n; place = place + 6 } in
    let h = no_fault v (LineText.party n) f EnrolledBefore in
    record { parties = apart_push like_party v.parties e s.parties (grind arith); items = s.items; bodies = s.bodies; ends = ends_party v e s.ends }
line_sorted place (LineText.hold i) v f s =
    let known = none_unknown v (i ∷ []) (no_fault v (LineText.hold i) f NotEnrolled) in
    let ws : List Written = record { item = i; place = place + 5 } ∷ [] in
    record {
      parties = s.parties;
      items = apart_register v.items ws s.items;
      bodies = All-push (λ r. Once r.body) v.rules _ s.bodies (once_of [] (λ a b d l m. absurd (omega arith)));
      ends = all_registered (Ends v) v.items ws s.ends (known.0, tt);
    }
line_sorted place (LineText.rule h b bs) v f s =
    let known = none_unknown v (h ∷ b ∷ bs) (no_fault v (LineText.rule h b bs) f NotEnrolled) in
    let q = place + 5 + item_size h + 4 in
    let ws : List Written = record { item = h; place = place + 5 } ∷ written_from q (b ∷ bs) in
    record {
      parties = s.parties;
      items = apart_register v.items ws s.items;
      bodies = All-push (λ r. Once r.body) v.rules _ s.bodies (once_of _ (apart_once [] (numbers (register_all v.items ws) (b ∷ bs)) (λ a c d l m. absurd (omega arith))));
      ends = all_registered (Ends v) v.items ws s.ends (known.0, written_ends v q (b ∷ bs) known.1);
    }
line_sorted place (LineText.ask i) v f s =
    let known = none_unknown v (i ∷ []) (no_fault v (LineText.ask i) f NotEnrolled) in
    let ws : List Written = record { item = i; place = place + 4 } ∷ [] in
    record { parties = s.parties; items = apart_register v.items ws s.items; bodies = s.bodies; ends = all_registered (Ends v) v.items ws s.ends (known.0, tt) }

pub lines_sorted : (place : ℕ) (ls : List LineText) (v w : Policies) → Says v place ls w → Sorted v → Sorted w
lines_sorted place [] v w y s = subst Sorted y s
lines_sorted place (l ∷ ls) v w y s = lines_sorted (place + line_size l) ls (with v place l) w y.1 (line_sorted place l v y.0 s)

pub none_sorted : Sorted (record { parties = []; items = []; rules = []; asked = None })
none_sorted = record { parties = λ i j d l m. absurd (omega arith); items = λ i j d l m. absurd (omega arith); bodies = tt; ends = tt }

module _ (v : Policies) (s : Sorted v) where
  name_at : (d : Enrolled) (n : Name) → enrolled v n ≡ true → (get_or v.parties (first_of (named n) v.parties) d).name ≡ n
  name_at d n h = same_is _ _ (first_passes (named n) v.parties d h)

  of_same : (i j : ItemText) (place : ℕ) → SameItem i j → same_item j (record { item = i; place = place }) ≡ true
  of_same i j place e =
      let a = ap (λ x. same x j.source) e.source ∙ same_refl j.source in
      let b = ap (λ x. same x (credential_bytes j.credential)) e.credential ∙ same_refl (credential_bytes j.credential) in
      let c = ap (λ x. same x j.destination) e.destination ∙ same_refl j.destination in
      grind arith

  same_number : (j k : Written) → (entry v j).credential ≡ (entry v k).credential → any (credential_of j.item) v.items ≡ true → any (credential_of k.item) v.items ≡ true →
      credential_bytes j.item.credential ≡ credential_bytes k.item.credential
  same_number j k e a b =
      let x = same_is _ _ (first_passes (credential_of j.item) v.items j a) in
      let y = same_is _ _ (first_passes (credential_of k.item) v.items j b) in
      sym x ∙ ap (λ n. credential_bytes (get_or v.items n j).item.credential) e ∙ y

  has-credential : (j : ℕ) (d : Written) → j < length v.items → any (credential_of (get_or v.items j d).item) v.items ≡ true
  has-credential j d l = All-get_or (λ w. any (credential_of w.item) v.items ≡ true) v.items j d l (credentials v.items)

  -- equal numbers are those of the same item
  same_entry : (d : Enrolled) (j k : Written) → Ends v j → Ends v k → any (credential_of j.item) v.items ≡ true → any (credential_of k.item) v.items ≡ true → SameEntry (entry v j) (entry v k) → SameItem j.item k.item
  same_entry d j k a b x y e =
      record {
        source = sym (name_at d j.item.source a.0) ∙ ap (λ n. (get_or v.parties n d).name) e.source ∙ name_at d k.item.source b.0;
        destination = sym (name_at d j.item.destination a.1) ∙ ap (λ n. (get_or v.parties n d).name) e.destination ∙ name_at d k.item.destination b.1;
        credential = same_number j k e.credential x y;
      }

  differ : (i j : ℕ) (d : Written) → i < j → j < length v.items → ¬ SameItem (get_or v.items i d).item (get_or v.items j d).item
  differ i j d l m e = cc (sym (s.items i j d l m) ∙ of_same (get_or v.items i d).item (get_or v.items j d).item (get_or v.items i d).place e)

  pub orderly : Orderly v
  orderly =
      record {
        apart = λ j k d l m e.
            let first : j < length v.items = omega arith in
            differ j k d l m
            (same_entry (record { name = []; place = 0 }) (get_or v.items j d) (get_or v.items k d) (All-get_or (Ends v) v.items j d first s.ends) (All-get_or (Ends v) v.items k d m s.ends) (has-credential j d first) (has-credential k d m) e);
        parties = λ i j d l m e. cc (sym (s.parties i j d l m) ∙ (ap (λ x. same x (get_or v.parties j d).name) e ∙ same_refl (get_or v.parties j d).name));
        items = differ;
        bodies = s.bodies;
        sources = λ d. all_of (λ w h. name_at d w.item.source h.0) v.items s.ends;
        destinations = λ d. all_of (λ w h. name_at d w.item.destination h.1) v.items s.ends;
        credentials = λ j k d l m. (
          (λ e. same_number (get_or v.items j d) (get_or v.items k d) e
              (has-credential j d l) (has-credential k d m)),
          (λ e. ap (λ b. first_of (λ u. same (credential_bytes u.item.credential) b) v.items) e),
        );
      }
