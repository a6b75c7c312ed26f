-- The law of the meanings.
use Rattle.std.proofs.Common.{◌≡◌, ℕ, zero, suc, ◌+◌, ◌<◌, Bool, true, false, ◌&&◌, T, eqb, ◌≢◌, ◌⊎◌, ◌↔◌, List, [], ◌∷◌, map, length, get_or, take, filter, sym, refl, ap, ◌∙◌, subst, inl, inr, arith}
use Rattle.std.specs.List.{ContainsAt as Has}
use Rattle.std.proofs.ByRecursion.{has_append_left, has_append_right, all-has}
use Rattle.std.proofs.lemmas.List.{length-take-le, get_or-take}
use Rattle.horn.specs.Horn.{Clause, Follows}
use Rattle.horn.proofs.Law.{horn_law, follows_all}
use Rattle.house.specs.View.{View}
use Rattle.house.specs.Soundness.{no_item}
use Rattle.house.specs.Law.{Sound, GoodRule, Concerns}
use Rattle.meaning.specs.Meaning.{source, destination, registered, rule_clause, tells, step, knowledge, clauses, clauses_of, Unlocked, back_clauses, BackSet, Relevant, Reached, Derivable, bound_for, Safe, back_set, relevant, derivable, relevance_clauses, reached}
use Rattle.meaning.specs.Law.{Knowledge, RuleOrKnowledge, MeaningLaw}
use Rattle.meaning.proofs.Clauses.{has_first, has_none, has_cases, has_parts, has_kept, keeps, has-map, maps, has_joined, joins, has-number, numbered}

three : (a b c : Bool) → (a && (b && c)) ≡ true → (a ≡ true) × (b ≡ true) × (c ≡ true)
three a b c h = (grind arith, grind arith, grind arith)

is_eq : (m n : ℕ) → eqb m n ≡ true → m ≡ n
is_eq m n h = grind arith

eq_is : (m n : ℕ) → m ≡ n → eqb m n ≡ true
eq_is m n h = grind arith

all_three : (a b c : Bool) → a ≡ true → b ≡ true → c ≡ true → (a && (b && c)) ≡ true
all_three a b c x y z = grind arith

module _ (v : View) where
  told_is : (c : Clause) → Has (knowledge v) c → (i : ℕ) × (j : ℕ) × Knowledge v i j × (c ≡ record { body = i ∷ []; head = j })
  told_is c h =
      let r = has_joined (λ i. map (step v i) (filter (tells v i) (registered v))) (registered v) c h in
      let i = r.0 in
      let m = has-map (step v i) (filter (tells v i) (registered v)) c r.2 in
      let j = m.0 in
      let k = has_kept (tells v i) (registered v) j m.1 in
      let t = three _ _ _ k.1 in (
        i,
        j,
        record {
          registered = let a = (has-number 0 (length v.items) i r.1).1 in omega arith;
          known_registered = let a = (has-number 0 (length v.items) j k.0).1 in omega arith;
          own_item = is_eq _ _ t.0;
          arrives = is_eq _ _ t.1;
          same = is_eq _ _ t.2;
        },
        sym m.2,
      )

  is_told : (i j : ℕ) → Knowledge v i j → Has (knowledge v) (record { body = i ∷ []; head = j })
  is_told i j k =
      let from : Has (registered v) i = (let a = k.registered in numbered 0 (length v.items) i (omega arith) (omega arith)) in
      let to : Has (registered v) j = (let a = k.known_registered in numbered 0 (length v.items) j (omega arith) (omega arith)) in
      let t : tells v i j ≡ true = all_three _ _ _ (eq_is _ _ k.own_item) (eq_is _ _ k.arrives) (eq_is _ _ k.same) in
      joins (λ y. map (step v y) (filter (tells v y) (registered v))) (registered v) i (record { body = i ∷ []; head = j }) from
      (maps (step v i) (filter (tells v i) (registered v)) j (keeps (tells v i) (registered v) j to t))

  pooled_is : (c : Clause) → Has (clauses v) c → RuleOrKnowledge v c
  pooled_is c h =
      elim (has_parts (map (rule_clause v) v.rules) (knowledge v) c h) [
        | inl a ↦ let m = has-map (rule_clause v) v.rules c a in inl (m.0, m.1, sym m.2)
        | inr b ↦ inr (told_is c b)
      ]

  is_pooled : (c : Clause) → RuleOrKnowledge v c → Has (clauses v) c
  is_pooled c (inl r) = subst (Has (clauses v)) (sym r.2) (has_append_left (map (rule_clause v) v.rules) (knowledge v) (rule_clause v r.0) (maps (rule_clause v) v.rules r.0 r.1))
  is_pooled c (inr k) = subst (Has (clauses v)) (sym k.3) (has_append_right (map (rule_clause v) v.rules) (knowledge v) (record { body = k.0 ∷ []; head = k.1 }) (is_told k.0 k.1 k.2))

  abbrev mine : ℕ → Clause → Bool
  mine a c = eqb (source v c.head) a

  own_is : (a : ℕ) (c : Clause) → Has (clauses_of v a) c → RuleOrKnowledge v c × (source v c.head ≡ a)
  own_is a c h = let k = has_kept (mine a) (clauses v) c h in (pooled_is c k.0, is_eq _ _ k.1)

  is_own : (a : ℕ) (c : Clause) → RuleOrKnowledge v c × (source v c.head ≡ a) → Has (clauses_of v a) c
  is_own a c h = keeps (mine a) (clauses v) c (is_pooled c h.0) (eq_is _ _ h.1)

  relevant_is : (d x : ℕ) → T (relevant v d x) → Relevant v d x
  relevant_is d x t =
      let b : T (back_set v d x) = grind arith in
      ((horn_law.decided (back_clauses v (source v d)) (d ∷ []) x).0 b, (λ e. let q = eq_is _ _ e in let f : ⊥ = grind arith in f))

  is_relevant : (d x : ℕ) → Relevant v d x → T (relevant v d x)
  is_relevant d x r =
      let b = (horn_law.decided (back_clauses v (source v d)) (d ∷ []) x).1 r.0 in
      let n : eqb (source v x) (source v d) ≡ false = apart _ _ r.1 in
      grind arith
    where
      apart : (m n : ℕ) → m ≢ n → eqb m n ≡ false
      apart m n h = grind arith

  derivable_is : (d : ℕ) → T (derivable v d) ↔ Derivable v d
  derivable_is d = (
    (λ t. (horn_law.derived (clauses v) d).0 ((horn_law.decided (clauses v) [] d).0 t)),
    (λ r. (horn_law.decided (clauses v) [] d).1 ((horn_law.derived (clauses v) d).1 r)),
  )

  from_derivable : (a : ℕ) (arrived : List ℕ) → ((x : ℕ) → Has arrived x → Derivable v x) → (d : ℕ) → Unlocked v a arrived d → Derivable v d
  from_derivable a arrived h d u =
      let all : Follows (clauses v) arrived d = horn_law.grows (clauses_of v a) (clauses v) arrived arrived (λ c k. (has_kept (mine a) (clauses v) c k).0) (λ x k. k) d u in
      (horn_law.derived (clauses v) d).0 (horn_law.chained (clauses v) [] arrived (λ x k. (horn_law.derived (clauses v) x).1 (h x k)) d all)

  -- of an item in the back set at a party, the party is the source or the destination
  abbrev Near : ℕ → ℕ → Type 0
  Near a x = (source v x ≡ a) ⊎ (destination v x ≡ a)

  module _ (s : Sound v) where
    body_near : (a : ℕ) (c : Clause) → RuleOrKnowledge v c × (source v c.head ≡ a) → (b : ℕ) → Has c.body b → Near a b
    body_near a c (inl r, e) b h =
        let good : GoodRule v r.0 = all-has (GoodRule v) v.rules r.0 s.rules r.1 in
        let head_is : c.head ≡ r.0.head = ap (λ x. x.head) r.2 in
        let h2 : Has r.0.body b = subst (λ x. Has x.body b) r.2 h in
        let near = (all-has (Concerns v (get_or v.items r.0.head no_item).source) r.0.body b good.body h2).party in
        let owner : (get_or v.items r.0.head no_item).source ≡ a = ap (source v) (sym head_is) ∙ e in
        elim near [ inl p ↦ inl (p ∙ owner) | inr p ↦ inr (p ∙ owner) ]
    body_near a c (inr k, e) b h =
        let h2 : Has (k.0 ∷ []) b = subst (λ x. Has x.body b) k.3 h in
        let know = k.2 in
        let head_is : source v k.1 ≡ a = ap (λ x. source v x.head) (sym k.3) ∙ e in
        elim (has_cases k.0 [] b h2) [
          | inl q ↦ inr (ap (destination v) (sym q) ∙ know.arrives ∙ sym know.own_item ∙ head_is)
          | inr m ↦ absurd (has_none b m)
        ]

    near : (d x : ℕ) → BackSet v d x → Near (source v d) x
    near d x h =
        let a = source v d in
        follows_all (Near a) (back_clauses v a) (d ∷ [])
        (λ y k. elim (has_cases d [] y k) [ inl e ↦ inl (ap (source v) (sym e)) | inr m ↦ absurd (has_none y m) ])
        (λ c k f.
        let r = has_joined (λ q. map (step v q.head) q.body) (clauses_of v a) c k in
        let m = has-map (step v r.0.head) r.0.body c r.2 in
        subst (λ q. Near a q.head) m.2 (body_near a r.0 (own_is a r.0 r.1) m.0 m.1))
        x h

    comes : (d x : ℕ) → Relevant v d x → destination v x ≡ source v d
    comes d x r = elim (near d x r.0) [ inl e ↦ absurd (r.1 e) | inr e ↦ e ]

test_true : (b : Bool) → b ≡ true → T b
test_true true e = tt
test_true false e = absurd (let f : ⊥ = grind arith in f)

true_test : (b : Bool) → T b → b ≡ true
true_test true t = refl
true_test false t = absurd t

module _ (v : View) where
  back_is : (a : ℕ) (c : Clause) → Has (back_clauses v a) c → (r : Clause) × (b : ℕ) × Has (clauses_of v a) r × Has r.body b × (c ≡ record { body = r.head ∷ []; head = b })
  back_is a c h =
      let j = has_joined (λ q. map (step v q.head) q.body) (clauses_of v a) c h in
      let m = has-map (step v j.0.head) j.0.body c j.2 in
      (j.0, m.0, j.1, m.1, sym m.2)

  is_back : (a : ℕ) (c : Clause) → (r : Clause) × (b : ℕ) × Has (clauses_of v a) r × Has r.body b × (c ≡ record { body = r.head ∷ []; head = b }) → Has (back_clauses v a) c
  is_back a c r =
      subst (Has (back_clauses v a)) (sym r.4)
      (joins (λ q. map (step v q.head) q.body) (clauses_of v a) r.0 (record { body = r.0.head ∷ []; head = r.1 }) r.2 (maps (step v r.0.head) r.0.body r.1 r.3))

  -- each item of a safe list
  safe_each : (xs : List ℕ) → Safe v xs → (n k : ℕ) → k < n → k < length xs → Derivable v (get_or xs k 0)
  safe_each xs s zero k l m = absurd (omega arith)
  safe_each xs s (suc n) k l m =
      let d = get_or xs k 0 in
      from_derivable v (source v d) (bound_for v (source v d) (take k xs))
      (λ y h.
      let q = (has_kept (λ i. eqb (destination v i) (source v d)) (take k xs) y h).0 in
      let few = length-take-le k xs (omega arith) in
      let at = q.1 in
      let less : q.0 < k = omega arith in
      subst (Derivable v) (sym (get_or-take k xs q.0 0 less) ∙ q.2 0) (safe_each xs s n q.0 (omega arith) (omega arith)))
      d (s k m)

  safe_all : (xs : List ℕ) → Safe v xs → (x : ℕ) → Has xs x → Derivable v x
  safe_all xs s x h = let l = h.1 in subst (Derivable v) (h.2 0) (safe_each xs s (h.0 + 1) h.0 (omega arith) h.1)

  module _ (s : Sound v) where
    clause_registered : (c : Clause) → RuleOrKnowledge v c → (c.head < length v.items) × ((b : ℕ) → Has c.body b → b < length v.items)
    clause_registered c (inl r) =
        let good : GoodRule v r.0 = all-has (GoodRule v) v.rules r.0 s.rules r.1 in
        let head_is = ap (λ x. x.head) r.2 in
        let g = good.head in (
          subst (λ n. n < length v.items) (sym head_is) g,
          (λ b h. (all-has (Concerns v (get_or v.items r.0.head no_item).source) r.0.body b good.body (subst (λ x. Has x.body b) r.2 h)).registered),
        )
    clause_registered c (inr k) =
        let know = k.2 in
        let head_is = ap (λ x. x.head) k.3 in (
          subst (λ n. n < length v.items) (sym head_is) know.known_registered,
          (λ b h. elim (has_cases k.0 [] b (subst (λ x. Has x.body b) k.3 h)) [ inl q ↦ subst (λ n. n < length v.items) q know.registered | inr m ↦ absurd (has_none b m) ]),
        )

    abbrev Both : ℕ → ℕ → Type 0
    Both d x = (d < length v.items) × (x < length v.items)

    in_register : (d x : ℕ) → BackSet v d x → (x ≡ d) ⊎ Both d x
    in_register d x h =
        let a = source v d in
        follows_all (λ y. (y ≡ d) ⊎ Both d y) (back_clauses v a) (d ∷ [])
        (λ y k. elim (has_cases d [] y k) [ inl e ↦ inl (sym e) | inr m ↦ absurd (has_none y m) ])
        (λ c k f.
        let r = back_is a c k in
        let g = clause_registered r.0 (own_is v a r.0 r.2).0 in
        let before = f r.0.head (subst (λ q. Has q.body r.0.head) (sym r.4) (has_first r.0.head [])) in
        let b = g.1 r.1 r.3 in
        let d-in : d < length v.items = elim before [ inl e ↦ subst (λ n. n < length v.items) e g.0 | inr w ↦ w.0 ] in
        subst (λ q. (q.head ≡ d) ⊎ Both d q.head) (sym r.4) (inr (d-in, b)))
        x h

    relevant-registered : (d x : ℕ) → Relevant v d x → Both d x
    relevant-registered d x r = elim (in_register d x r.0) [ inl e ↦ absurd (r.1 (ap (source v) e)) | inr w ↦ w ]

    reached_is : (d x : ℕ) → T (reached v d x) → Reached v d x
    reached_is d x t S a f =
        (horn_law.decided (relevance_clauses v) (d ∷ []) x).0 t S
        (λ y k. elim (has_cases d [] y k) [ inl e ↦ subst (λ q. T (S q)) e a | inr m ↦ absurd (has_none y m) ])
        (λ c k g.
        let j = has_joined (λ y. map (step v y) (filter (relevant v y) (registered v))) (registered v) c k in
        let m = has-map (step v j.0) (filter (relevant v j.0) (registered v)) c j.2 in
        let q = has_kept (relevant v j.0) (registered v) m.0 m.1 in
        let y-in : T (S j.0) = g j.0 (subst (λ z. Has z.body j.0) m.2 (has_first j.0 [])) in
        subst (λ z. T (S z.head)) m.2 (f j.0 m.0 y-in (relevant_is v j.0 m.0 (test_true _ q.1))))

    is_reached : (d x : ℕ) → Reached v d x → T (reached v d x)
    is_reached d x r =
        r (reached v d) ((horn_law.decided (relevance_clauses v) (d ∷ []) d).1 (λ S a k. a d (has_first d [])))
        (λ y z t rel.
        let both = relevant-registered y z rel in
        let y-in : Has (registered v) y = (let b = both.0 in numbered 0 (length v.items) y (omega arith) (omega arith)) in
        let z-in : Has (registered v) z = (let b = both.1 in numbered 0 (length v.items) z (omega arith) (omega arith)) in
        let m : Has (relevance_clauses v) (record { body = y ∷ []; head = z }) =
        joins (λ w. map (step v w) (filter (relevant v w) (registered v))) (registered v) y (record { body = y ∷ []; head = z }) y-in
        (maps (step v y) (filter (relevant v y) (registered v)) z (keeps (relevant v y) (registered v) z z-in (true_test _ (is_relevant v y z rel)))) in
        let before = (horn_law.decided (relevance_clauses v) (d ∷ []) y).0 t in
        (horn_law.decided (relevance_clauses v) (d ∷ []) z).1
        (λ S a k. k (record { body = y ∷ []; head = z }) m (λ w h. elim (has_cases y [] w h) [ inl e ↦ subst (λ q. T (S q)) e (before S a k) | inr n ↦ absurd (has_none w n) ])))

pub meaning_law : MeaningLaw
meaning_law =
    record {
      pooled = λ v c. (pooled_is v c, is_pooled v c);
      own = λ v a c. (own_is v a c, is_own v a c);
      back = λ v a c. (back_is v a c, is_back v a c);
      unlocked_decided = λ v a arrived d. horn_law.decided (clauses_of v a) arrived d;
      back_decided = λ v d x. horn_law.decided (back_clauses v (source v d)) (d ∷ []) x;
      relevant_decided = λ v d x. (relevant_is v d x, is_relevant v d x);
      derivable_decided = derivable_is;
      reached_decided = λ v s d x. (reached_is v s d x, is_reached v s d x);
      grows = λ v a arrived more f d u. horn_law.grows (clauses_of v a) (clauses_of v a) arrived more (λ c k. k) f d u;
      unlocked_derivable = from_derivable;
      safe_derivable = safe_all;
      registered = relevant-registered;
      bound = λ v s d x r. comes v s d x r;
    }
