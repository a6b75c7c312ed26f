-- The latest entry with a key.
use Rattle.std.specs.Prelude.{◌≡◌, ℕ, zero, suc, ◌<◌, cond, List, [], ◌∷◌, map, length, take, Some, None, Option, ◌==◌, nat_lt, slice_index}
use Rattle.std.specs.List.{slice_get}
use Rattle.std.specs.Option.{option_or, option_map, option_and_then}
use Rattle.links.specs.declared.chains.link.Link.{Link}
use Rattle.links.specs.declared.chains.Entry.{Entry}

-- the last entry with a key
abbrev pub latest : List ℕ → ℕ → Option ℕ
latest [] k = None
latest (x ∷ xs) k = option_or (option_map suc (latest xs k)) (cond (x == k) (Some 0) None)

-- the last one before an entry that has its key; none past the end
abbrev pub earlier : List ℕ → ℕ → Option ℕ
earlier ks e = cond (nat_lt e (length ks)) (latest (take e ks) (slice_index ks e)) None

abbrev pub keys_of : {T : Type 0} → List (Entry T) → List ℕ
keys_of es = map (λ e. e.key) es

-- the number of an entry and 1, or 0 for none
abbrev pub as_entry : ℕ → Option ℕ
as_entry zero = None
as_entry (suc e) = Some e

-- the entry that a link leads to
abbrev pub target : Link → Option ℕ
target l = as_entry l.0

-- For the type: what stands at each key and in each entry.
abbrev pub HoldLatest : {T : Type 0} → List (Entry T) → List Link → Type 0
HoldLatest es found = (k : ℕ) → k < 256 → option_and_then target (slice_get found k) ≡ latest (keys_of es) k

abbrev pub HoldEarlier : {T : Type 0} → List (Entry T) → Type 0
HoldEarlier es = (e : ℕ) → option_and_then (λ x. target x.earlier) (slice_get es e) ≡ earlier (keys_of es) e
