-- The number of each refusal.
use Rattle.std.specs.Prelude.{◌≡◌, ℕ, Ok, Err, Result}
use Rattle.letter.specs.declared.refusal.Refusal.{Refusal}
use Rattle.letter.specs.declared.refusal.Refusal.TheVariants.{CutShort, Malformed, NoSuchKind, ItemTooLarge, BufferTooShort}

abbrev pub refusal_number : Refusal → ℕ
refusal_number CutShort = 41
refusal_number Malformed = 42
refusal_number NoSuchKind = 43
refusal_number ItemTooLarge = 44
refusal_number BufferTooShort = 45

-- the answer is the refusal with this number
abbrev pub Refuses : {A : Type 0} → Result A Refusal → ℕ → Type 0
Refuses (Ok a) n = ⊥
Refuses (Err e) n = refusal_number e ≡ n
