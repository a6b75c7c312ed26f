-- What waits in the lent places, oldest first.
use Rattle.std.specs.Prelude.{◌≡◌, ℕ, ◌+◌, ◌-◌, ◌<◌, min, cond, List, [], ◌∷◌, ◌++◌, length, take, drop, Some, None, Ok, Err, Option, Result, ◌==◌, nat_lt, slice_set}
use Rattle.waiting.specs.declared.line.Line.{Line}
use Rattle.table.specs.declared.store.Full.{Full}

-- the `count` things from `start` on, going round the end
unfoldable pub around : {X : Type 0} → List X → ℕ → ℕ → List X
around places start count = take count (drop start (places ++ places))

-- a place: 0 stands for one that lies outside
abbrev pub inside : ℕ → ℕ → ℕ
inside size start = cond (nat_lt start size) start 0

-- all that wait, oldest first; no more than there are places
abbrev pub waiting : {X : Type 0} → List X → Line → List X
waiting places line = around places (inside (length places) line.start) (min line.count (length places))

-- a put is turned down exactly if all places are in use
abbrev pub put_answer : {X : Type 0} → List X → Line → Result (Unit {0}) Full
put_answer places line = cond (length (waiting places line) == length places) (Err (record {})) (Ok tt)

-- what is put waits behind the others, and one place alone is changed; a put that is turned down changes nothing
abbrev pub PutAfter : {X : Type 0} → Result (Unit {0}) Full → List X → Line → X → List X → Line → Type 0
PutAfter (Ok u) places line x places2 line2 = (waiting places2 line2 ≡ waiting places line ++ x ∷ []) × ((place : ℕ) × (place < length places) × (places2 ≡ slice_set places place x))
PutAfter (Err f) places line x places2 line2 = (places2 ≡ places) × (line2 ≡ line)

-- what is taken is the oldest, and the others still wait; where none waits nothing changes
abbrev pub Taken : {X : Type 0} → List X → Line → Option X → Line → Type 0
Taken places line (Some x) line2 = waiting places line ≡ x ∷ waiting places line2
Taken places line None line2 = (waiting places line ≡ []) × (line2 ≡ line)

-- For the inner contracts: the place `steps` places behind a place, going round the end.
abbrev pub behind : ℕ → ℕ → ℕ → ℕ
behind size start steps = cond (nat_lt (start + steps) size) (start + steps) (start + steps - size)
