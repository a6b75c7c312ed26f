-- Laws of the meanings.
use Rattle.std.specs.Prelude.{◌≡◌, ℕ, ◌<◌, T, ◌⊎◌, ◌↔◌, List, [], ◌∷◌, length}
use Rattle.std.specs.List.{ContainsAt as Has}
use Rattle.horn.specs.Horn.{Clause}
use Rattle.house.specs.View.{RuleView, View}
use Rattle.house.specs.Law.{Sound}
use Rattle.meaning.specs.Meaning.{source, destination, credential, clauses, clauses_of, Unlocked, back_clauses, BackSet, Relevant, Reached, Derivable, Safe, unlocked, back_set, relevant, derivable, reached}

-- i is B^c>A and j is A^c>A, both registered: who has i knows j
pub record Knowledge (v : View) (i j : ℕ) : Type 0 where
  pub known_registered : j < length v.items
  pub registered : i < length v.items
  pub own_item : source v j ≡ destination v j
  pub arrives : destination v i ≡ destination v j
  pub same : credential v i ≡ credential v j

-- a clause is a rule, or it is Knowledge
abbrev pub RuleOrKnowledge : View → Clause → Type 0
RuleOrKnowledge v c =
    ((r : RuleView) × Has v.rules r × (c ≡ record { body = r.body; head = r.head })) ⊎ ((i : ℕ) × (j : ℕ) × Knowledge v i j × (c ≡ record { body = i ∷ []; head = j }))

pub record MeaningLaw : Type 0 where
  -- which clauses there are, which are a party's, and which of these lead back
  pub pooled : (v : View) (c : Clause) → Has (clauses v) c ↔ RuleOrKnowledge v c
  pub own : (v : View) (a : ℕ) (c : Clause) → Has (clauses_of v a) c ↔ (RuleOrKnowledge v c × (source v c.head ≡ a))
  pub back : (v : View) (a : ℕ) (c : Clause) → Has (back_clauses v a) c ↔ ((r : Clause) × (b : ℕ) × Has (clauses_of v a) r × Has r.body b × (c ≡ record { body = r.head ∷ []; head = b }))
  -- the computed sets decide the meanings
  pub unlocked_decided : (v : View) (a : ℕ) (arrived : List ℕ) (d : ℕ) → T (unlocked v a arrived d) ↔ Unlocked v a arrived d
  pub back_decided : (v : View) (d x : ℕ) → T (back_set v d x) ↔ BackSet v d x
  pub relevant_decided : (v : View) (d x : ℕ) → T (relevant v d x) ↔ Relevant v d x
  pub derivable_decided : (v : View) (d : ℕ) → T (derivable v d) ↔ Derivable v d
  pub reached_decided : (v : View) → Sound v → (d x : ℕ) → T (reached v d x) ↔ Reached v d x
  -- unlocked grows with what arrived; what is unlocked from derivable arrivals is derivable, and so is all of a safe list
  pub grows : (v : View) (a : ℕ) (arrived more : List ℕ) → ((x : ℕ) → Has arrived x → Has more x) → (d : ℕ) → Unlocked v a arrived d → Unlocked v a more d
  pub unlocked_derivable : (v : View) (a : ℕ) (arrived : List ℕ) → ((x : ℕ) → Has arrived x → Derivable v x) → (d : ℕ) → Unlocked v a arrived d → Derivable v d
  pub safe_derivable : (v : View) (xs : List ℕ) → Safe v xs → (x : ℕ) → Has xs x → Derivable v x
  -- a relevant item is registered, and bound for the party whose back set it is in
  pub registered : (v : View) → Sound v → (d x : ℕ) → Relevant v d x → (d < length v.items) × (x < length v.items)
  pub bound : (v : View) → Sound v → (d x : ℕ) → Relevant v d x → destination v x ≡ source v d
