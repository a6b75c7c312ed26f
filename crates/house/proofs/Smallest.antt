-- The first true test, in the order of the numbers, is that of the smallest fault.
use Rattle.std.proofs.Common.{◌≡◌, ◌≤◌, Bool, true, false, cond, ◌⊎◌, List, [], ◌∷◌, Some, sym, refl, ap, ◌∙◌, subst, inl, inr, arith}
use Rattle.std.specs.List.{AllByRecursion}
use Rattle.std.proofs.lemmas.Bool.{false_from_ne_true}
use Rattle.book.specs.declared.fault.Fault.{Fault}
use Rattle.book.specs.declared.fault.Fault.TheVariants.{TooLong, NoForm, OneLetter, EnrolledBefore, NotEnrolled, Strange, TooMany, SecondAsk}
use Rattle.book.specs.Faults.{fault_number}
use Rattle.book.specs.Grammar.{LineText}
use Rattle.house.specs.Policies.{Policies, has, first_true, line_faults, fault_of}
use Rattle.house.specs.BookLaw.{Smallest}

abbrev In : Fault → List Fault → Type 0
In g [] = ⊥
In g (f ∷ fs) = (g ≡ f) ⊎ In g fs

abbrev Rising : List Fault → Type 0
Rising [] = Unit {0}
Rising (f ∷ fs) = AllByRecursion (λ g. fault_number f ≤ fault_number g) fs × Rising fs

at_least : (f g : Fault) (fs : List Fault) → AllByRecursion (λ h. fault_number f ≤ fault_number h) fs → In g fs → fault_number f ≤ fault_number g
at_least f g [] a i = absurd i
at_least f g (h ∷ hs) a (inl e) = subst (λ x. fault_number f ≤ fault_number x) (sym e) a.0
at_least f g (h ∷ hs) a (inr i) = at_least f g hs a.1 i

module _ (t : Fault → Bool) where
  least : (f : Fault) (fs : List Fault) → AllByRecursion (λ g. fault_number f ≤ fault_number g) fs → (g : Fault) → In g (f ∷ fs) → fault_number f ≤ fault_number g
  least f fs a g (inl e) = subst (λ x. fault_number f ≤ fault_number x) (sym e) (omega arith)
  least f fs a g (inr i) = at_least f g fs a i

  behind : (f : Fault) (fs : List Fault) → t f ≡ false → (g : Fault) → t g ≡ true → In g (f ∷ fs) → In g fs
  behind f fs n g h (inl e) = cc (sym n ∙ sym (ap t e) ∙ h)
  behind f fs n g h (inr i) = i

  smallest_of : (fs : List Fault) → Rising fs → ((g : Fault) → t g ≡ true → In g fs) → Smallest t (first_true t fs)
  smallest_of [] r c = λ g. false_from_ne_true (t g) (λ e. c g e)
  smallest_of (f ∷ fs) r c = tested (t f) refl (λ n. smallest_of fs r.1 (λ g h. behind f fs n g h (c g h)))
    where
      tested : (b : Bool) → t f ≡ b → (t f ≡ false → Smallest t (first_true t fs)) → Smallest t (cond b (Some f) (first_true t fs))
      tested true e s = (e, (λ g h. least f fs r.0 g (c g h)))
      tested false e s = s e

covered : (v : Policies) (l : LineText) (g : Fault) → has v l g ≡ true → In g line_faults
covered v l TooLong h = cc h
covered v l NoForm h = cc h
covered v l OneLetter h = inl refl
covered v l EnrolledBefore h = inr (inl refl)
covered v l NotEnrolled h = inr (inr (inl refl))
covered v l Strange h = inr (inr (inr (inl refl)))
covered v l TooMany h = inr (inr (inr (inr (inl refl))))
covered v l SecondAsk h = inr (inr (inr (inr (inr (inl refl)))))

rising : Rising line_faults
rising = omega arith

pub smallest_fault : (v : Policies) (l : LineText) → Smallest (has v l) (fault_of v l)
smallest_fault v l = smallest_of (has v l) line_faults rising (covered v l)
