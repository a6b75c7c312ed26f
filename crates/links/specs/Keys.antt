-- What chains of entries answer.
use Rattle.std.specs.Prelude.{◌≡◌, ℕ, ◌<◌, ◌≤◌, ◌≢◌, ◌⊎◌, List, [], ◌∷◌, ◌++◌, map, length, Some, None, Ok, Err, Option, Result, slice_index}
use Rattle.table.specs.declared.store.Full.{Full}
use Rattle.table.specs.Held.{held}
use Rattle.links.specs.Chain.{latest, keys_of}
use Rattle.links.specs.declared.chains.Links.{Links}

-- the keys of all entries, in order
abbrev pub keys : {T : Type 0} {N : ℕ} → Links T N → List ℕ
keys l = keys_of (held l.entries)

-- the values of all entries, in order
abbrev pub values : {T : Type 0} {N : ℕ} → Links T N → List T
values l = map (λ e. e.value) (held l.entries)

-- a push puts something behind the others, or is turned down and changes nothing: exactly where there are N entries or 65,535
abbrev pub Pushed : {X : Type 0} → ℕ → List X → X → Result (Unit {0}) Full → List X → Type 0
Pushed n before x (Ok u) after = (after ≡ before ++ x ∷ []) × (length before < n) × (length before < 65535)
Pushed n before x (Err f) after = (after ≡ before) × ((length before ≡ n) ⊎ (65535 ≤ length before))

-- the last entry with the key, and none behind it has it; or no entry has it
abbrev pub Latest : List ℕ → ℕ → Option ℕ → Type 0
Latest ks k None = (e : ℕ) → e < length ks → slice_index ks e ≢ k
Latest ks k (Some m) = (m < length ks) × (slice_index ks m ≡ k) × ((e : ℕ) → m < e → e < length ks → slice_index ks e ≢ k)

abbrev pub ChainLaw : Type 0
ChainLaw = (ks : List ℕ) (k : ℕ) → Latest ks k (latest ks k)
