-- What the rules of a house mean, in the numbers of its items.
use Rattle.std.specs.Prelude.{ℕ, zero, suc, ◌<◌, Bool, not, ◌&&◌, T, ◌≢◌, List, [], ◌∷◌, ◌++◌, map, length, take, filter, ◌==◌, nat_eq, slice_index_or}
use Rattle.std.specs.List.{flat_map}
use Rattle.horn.specs.Horn.{Clause, Set, Follows, Derivation, has, follow}
use Rattle.house.specs.View.{RuleView, View}
use Rattle.house.specs.Soundness.{no_item}

-- the numbers from `first` on, as many as `count`
abbrev pub numbers_from : ℕ → ℕ → List ℕ
numbers_from first zero = []
numbers_from first (suc count) = first ∷ numbers_from (suc first) count

module _ (v : View) where
  -- of an item; a number past the register counts as one of party 0
  abbrev pub source : ℕ → ℕ
  source i = (slice_index_or v.items i no_item).source

  abbrev pub destination : ℕ → ℕ
  destination i = (slice_index_or v.items i no_item).destination

  abbrev pub credential : ℕ → ℕ
  credential i = (slice_index_or v.items i no_item).credential

  -- the numbers of the registered items
  abbrev pub registered : List ℕ
  registered = numbers_from 0 (length v.items)

  -- a rule: its head follows from its whole body
  abbrev pub rule_clause : RuleView → Clause
  rule_clause r = record { body = r.body; head = r.head }

  -- i is B^c>A and j is A^c>A: who has i knows j
  abbrev pub tells : ℕ → ℕ → Bool
  tells i j = source j == destination j && (destination i == destination j && credential i == credential j)

  -- one item follows from another
  abbrev pub step : ℕ → ℕ → Clause
  step i j = record { body = i ∷ []; head = j }

  -- Knowledge: from each registered B^c>A to each registered A^c>A
  abbrev pub knowledge : List Clause
  knowledge = flat_map (λ i. map (step i) (filter (tells i) registered)) registered

  -- the rules of all parties pooled, and Knowledge
  abbrev pub clauses : List Clause
  clauses = map rule_clause v.rules ++ knowledge

  -- what takes part for a party: the clauses whose head has it as source
  abbrev pub clauses_of : ℕ → List Clause
  clauses_of a = filter (λ c. nat_eq (source c.head) a) clauses

  -- unlocked at a party when these items have arrived there
  abbrev pub Unlocked : ℕ → List ℕ → ℕ → Type 0
  Unlocked a arrived d = Follows (clauses_of a) arrived d

  -- a party's clauses turned round: from the head to each item of the body
  abbrev pub back_clauses : ℕ → List Clause
  back_clauses a = flat_map (λ c. map (step c.head) c.body) (clauses_of a)

  -- the back set of d at its source: all that may lead to it there
  abbrev pub BackSet : ℕ → ℕ → Type 0
  BackSet d x = Follows (back_clauses (source d)) (d ∷ []) x

  abbrev pub Relevant : ℕ → ℕ → Type 0
  Relevant d x = BackSet d x × (source x ≢ source d)

  -- reached from d by relevance: in every set that holds d and all items relevant to a member
  abbrev pub Reached : ℕ → ℕ → Type 0
  Reached d x = (S : Set) → T (S d) → ((y z : ℕ) → T (S y) → Relevant y z → T (S z)) → T (S x)

  -- a derivation of d from the pooled rules and Knowledge
  abbrev pub Derivable : ℕ → Type 0
  Derivable d = (ds : List ℕ) × Derivation clauses (ds ++ d ∷ [])

  -- of these items, the ones bound for a party
  abbrev pub bound_for : ℕ → List ℕ → List ℕ
  bound_for a xs = filter (λ i. nat_eq (destination i) a) xs

  -- each item is unlocked at its source when just the earlier ones bound for that source have arrived
  abbrev pub Safe : List ℕ → Type 0
  Safe xs = (k : ℕ) → k < length xs → let d = slice_index_or xs k 0 in Unlocked (source d) (bound_for (source d) (take k xs)) d

  -- The same computed.
  abbrev pub unlocked : ℕ → List ℕ → Set
  unlocked a arrived = has (follow (clauses_of a) arrived)

  abbrev pub back_set : ℕ → Set
  back_set d = has (follow (back_clauses (source d)) (d ∷ []))

  abbrev pub relevant : ℕ → Set
  relevant d x = back_set d x && not (source x == source d)

  abbrev pub derivable : Set
  derivable = has (follow clauses [])

  -- from each registered item to those relevant to it
  abbrev pub relevance_clauses : List Clause
  relevance_clauses = flat_map (λ y. map (step y) (filter (relevant y) registered)) registered

  abbrev pub reached : ℕ → Set
  reached d = has (follow relevance_clauses (d ∷ []))
