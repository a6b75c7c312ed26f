-- What a table holds: the used slots, in order.
use Rattle.std.specs.Prelude.{◌≡◌, ℕ, ◌<◌, ◌≤◌, cond, List, [], ◌∷◌, ◌++◌, length, take, Some, None, Ok, Err, Option, Result, ◌==◌, slice_index_or}
use Rattle.table.specs.declared.store.Table.{Table}
use Rattle.table.specs.declared.store.Full.{Full}

abbrev pub held : {T : Type 0} {N : ℕ} → Table T N → List T
held t = take t.len t.slots

-- what stands at a place: the value there, or none past the end
abbrev pub Read : {T : Type 0} → List T → ℕ → Option T → Type 0
Read xs place (Some x) = (place < length xs) × (x ≡ slice_index_or xs place x)
Read xs place None = length xs ≤ place

-- what a push answers
abbrev pub push_answer : {T : Type 0} → ℕ → List T → Result (Unit {0}) Full
push_answer n xs = cond (length xs == n) (Err (record {})) (Ok tt)

-- what the table holds then
abbrev pub pushed : {T : Type 0} → ℕ → List T → T → List T
pushed n xs x = cond (length xs == n) xs (xs ++ x ∷ [])
