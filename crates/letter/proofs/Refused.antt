-- A refusal is known by its number.
use Rattle.std.proofs.Common.{◌≡◌, Ok, Err, Result, sym, refl, ap, subst, arith}
use Rattle.letter.specs.declared.refusal.Refusal.{Refusal}
use Rattle.letter.specs.Refusals.{refusal_number, Refuses}

pub same_refusal : (e f : Refusal) → refusal_number e ≡ refusal_number f → e ≡ f
same_refusal e f p = grind arith

pub refused : {A : Type 0} (answer : Result A Refusal) (f : Refusal) → Refuses answer (refusal_number f) → answer ≡ Err f
refused (Ok a) f r = absurd r
refused (Err e) f r = ap Err (same_refusal e f r)

pub refuses : {A : Type 0} (answer : Result A Refusal) (f : Refusal) → answer ≡ Err f → Refuses answer (refusal_number f)
refuses answer f e = subst (λ a. Refuses a (refusal_number f)) (sym e) refl
