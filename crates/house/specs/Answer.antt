-- What reading answers, and the view of the house then: the one that the definition gives, or the refusal and an empty house.
use Rattle.std.specs.Prelude.{◌≡◌, Ok, Err, Result}
use Rattle.house.specs.declared.refusal.Refusal.{Refusal}
use Rattle.house.specs.View.{View, empty_view}

abbrev pub Answers : Result View Refusal → Result (Unit {0}) Refusal → View → Type 0
Answers (Ok v) answer after = (answer ≡ Ok tt) × (after ≡ v)
Answers (Err e) answer after = (answer ≡ Err e) × (after ≡ empty_view)
