-- How what waits in a ring changes.
use Rattle.std.proofs.Common.{◌≡◌, ℕ, ◌+◌, ◌-◌, ◌<◌, ◌≤◌, min, List, [], ◌∷◌, ◌++◌, length, get_or, set, refl, inl, inr, arith, length-append, length-drop, length-set, length-take}
use Rattle.std.proofs.lemmas.List.{same_lists, get_or-take, get_or-drop, get_or_append_left, get_or-append_right, get_or-set_same, get_or-set_other, get_or_default}
use Rattle.std.proofs.lemmas.Grind.{get_or_tail}
use Rattle.std.proofs.lemmas.Bool.{cases_lt}
use Rattle.waiting.specs.declared.line.Line.{Line}
use Rattle.waiting.specs.Waiting.{around, inside, waiting, behind}

length-around : {X : Type 0} (ps : List X) (s c : ℕ) → s ≤ length ps → c ≤ length ps → length (around ps s c) ≡ c
unfolding around
length-around ps s c hs hc = simp (length-take, length-drop, length-append) (omega arith)

pub length-waiting : {X : Type 0} (ps : List X) (line : Line) → length (waiting ps line) ≡ min line.count (length ps)
length-waiting ps line = length-around ps (inside (length ps) line.start) (min line.count (length ps)) (grind arith) (omega arith)

-- what waits, by its place
element : {X : Type 0} (ps : List X) (n s c k : ℕ) (d : X) → length ps ≡ n → s < n → c ≤ n → k < c → get_or (around ps s c) k d ≡ get_or ps (behind n s k) d
unfolding around
element ps n s c k d e hs hc h = grind (arith, get_or-take, get_or-drop, get_or_append_left, get_or-append_right)

-- the place written is none of those that wait, but the one behind them
put_around : {X : Type 0} (ps : List X) (s c : ℕ) (x : X) → s < length ps → c < length ps → around (set ps (behind (length ps) s c) x) s (c + 1) ≡ around ps s c ++ x ∷ []
put_around ps s c x hs hc =
    let n = length ps in
    let at = behind n s c in
    let now = set ps at x in
    let size : length now ≡ n = length-set ps at x in
    let old : length (around ps s c) ≡ c = length-around ps s c (omega arith) (omega arith) in
    let new : length (around now s (c + 1)) ≡ c + 1 = length-around now s (c + 1) (omega arith) (omega arith) in
    let room : at < n = grind arith in
    same_lists (around now s (c + 1)) (around ps s c ++ x ∷ []) (omega (arith, length-append (around ps s c) (x ∷ []))) (λ k d h.
    let a = element now n s (c + 1) k d size hs (omega arith) (omega arith) in
    elim (cases_lt k c) [
      | inl l ↦ let b = element ps n s c k d refl hs (omega arith) l in grind (arith, get_or-set_other ps at (behind n s k) x d, get_or_append_left (around ps s c) (x ∷ []) d k)
      | inr l ↦ let q : k ≡ c = omega arith in grind (arith, get_or-set_same ps at x d room, get_or-append_right (around ps s c) (x ∷ []) c k d)
    ])

-- the oldest, and those that wait behind it
front_around : {X : Type 0} (ps : List X) (s c : ℕ) (x : X) → s < length ps → 0 < c → c ≤ length ps → x ≡ get_or ps s x → around ps s c ≡ x ∷ around ps (behind (length ps) s 1) (c - 1)
front_around ps s c x hs hc few e =
    let n = length ps in
    let next = behind n s 1 in
    let room : next < n = grind arith in
    let old : length (around ps s c) ≡ c = length-around ps s c (omega arith) few in
    let new : length (around ps next (c - 1)) ≡ c - 1 = length-around ps next (c - 1) (omega arith) (omega arith) in
    same_lists (around ps s c) (x ∷ around ps next (c - 1)) (omega arith) (λ k d h.
    let a = element ps n s c k d refl hs few (omega arith) in
    elim (cases_lt 0 k) [
      | inl l ↦ let b = element ps n next (c - 1) (k - 1) d refl room (omega arith) (omega arith) in grind (arith, get_or_tail x (around ps next (c - 1)) k d)
      | inr l ↦ let q : k ≡ 0 = omega arith in grind (arith, get_or_default ps s d x hs)
    ])

-- from a line to the line over its places, and what then waits
module _ {X : Type 0} (ps : List X) (line : Line) (s c : ℕ) (x : X) (start : s ≡ inside (length ps) line.start) (count : c ≡ min line.count (length ps)) where
  pub put_waiting : (c ≡ length ps → ⊥) → waiting (set ps (behind (length ps) s c) x) (record { start = s; count = c + 1 }) ≡ waiting ps line ++ x ∷ []
  put_waiting room =
      let hs : s < length ps = grind arith in
      let hc : c < length ps = omega arith in
      grind (arith, put_around ps s c x hs hc, length-set ps (behind (length ps) s c) x)

  pub take_waiting : (c ≡ 0 → ⊥) → x ≡ get_or ps s x → waiting ps line ≡ x ∷ waiting ps (record { start = behind (length ps) s 1; count = c - 1 })
  take_waiting some e =
      let few : c ≤ length ps = omega arith in
      let hs : s < length ps = grind arith in
      grind (arith, front_around ps s c x hs (omega arith) few e)
