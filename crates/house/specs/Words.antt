-- A refusal in words: the numbers of its fault and of its line.
use Rattle.std.specs.Prelude.{ℕ, List, ◌++◌, codes, decimal}
use Rattle.book.specs.Faults.{fault_number}
use Rattle.house.specs.declared.refusal.Refusal.{Refusal}

abbrev pub refusal_text : Refusal → List ℕ
refusal_text e = codes "refusal " ++ (decimal (fault_number e.fault) ++ (codes " line " ++ decimal e.line))
