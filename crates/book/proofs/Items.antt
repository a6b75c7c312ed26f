-- Items are read as they are written.
use Rattle.std.proofs.Common.{◌≡◌, ℕ, zero, suc, ◌≤◌, Bool, true, false, cond, eqb, List, [], ◌∷◌, ◌++◌, length, Some, None, codes, sym, refl, ap, ◌∙◌, subst, append_assoc, arith}
use Rattle.std.specs.List.{AllByRecursion}
use Rattle.book.specs.Grammar.{Name, GoodName, Credential, GoodCredential, ItemText, GoodItem, more_terms, credential_bytes, item_bytes}
use Rattle.book.specs.Reading.{Parsed, then, name_in, word_in, terms_in, credential_in, item_in}
use Rattle.book.proofs.Names.{Stop, then_some, some_same, name_at, name_of, word_at, word_of}

terms_stop : (ts : List Name) (rest : List ℕ) → Stop (more_terms ts ++ 41 ∷ rest)
terms_stop [] rest = refl
terms_stop (t ∷ ts) rest = refl

terms_at : (most : ℕ) (ts : List Name) (rest : List ℕ) → AllByRecursion GoodName ts → length ts ≤ most → terms_in most (more_terms ts ++ 41 ∷ rest) ≡ Some (ts, rest)
unfolding terms_in
terms_at zero [] rest g h = refl
terms_at zero (t ∷ ts) rest g h = absurd (omega arith)
terms_at (suc most) [] rest g h = refl
terms_at (suc most) (t ∷ ts) rest g h =
    let ih = terms_at most ts rest g.1 (omega arith) in
    rw (append_assoc t (more_terms ts) (41 ∷ rest), name_at t (more_terms ts ++ 41 ∷ rest) g.0 (terms_stop ts rest), ih) refl

abbrev TermsOf : ℕ → List ℕ → List Name → List ℕ → Type 0
TermsOf most bytes ts rest = (bytes ≡ more_terms ts ++ 41 ∷ rest) × AllByRecursion GoodName ts × (length ts ≤ most)

no_terms : (most b : ℕ) (bs : List ℕ) (ts : List Name) (rest : List ℕ) → eqb 41 b ≡ true → ◌≡◌ {A = Parsed (List Name)} (Some ([], bs)) (Some (ts, rest)) → TermsOf most (b ∷ bs) ts rest
no_terms most b bs ts rest t f =
    let e : 41 ≡ b = grind arith in
    subst (λ q. TermsOf most (b ∷ bs) q.0 q.1) (some_same f) (ap (λ x. x ∷ bs) (sym e), tt, omega arith)

terms_of : (most : ℕ) (bytes : List ℕ) (ts : List Name) (rest : List ℕ) → terms_in most bytes ≡ Some (ts, rest) → TermsOf most bytes ts rest
unfolding terms_in
terms_of most [] ts rest e = absurd cc
terms_of zero (b ∷ bs) ts rest e = go (eqb 41 b) refl e
  where
    go : (t : Bool) → eqb 41 b ≡ t → cond {A = Parsed (List Name)} t (Some ([], bs)) None ≡ Some (ts, rest) → TermsOf 0 (b ∷ bs) ts rest
    go true t f = no_terms 0 b bs ts rest t f
    go false t f = absurd cc
terms_of (suc most) (b ∷ bs) ts rest e = go (eqb 41 b) refl (eqb 44 b) refl e (terms_of most)
  where
    go : (t : Bool) → eqb 41 b ≡ t → (u : Bool) → eqb 44 b ≡ u →
        cond {A = Parsed (List Name)} t (Some ([], bs)) (cond u (then (name_in bs) λ t r. then (terms_in most r) λ us behind. Some (t ∷ us, behind)) None) ≡ Some (ts, rest) →
        ((bytes : List ℕ) (ts : List Name) (rest : List ℕ) → terms_in most bytes ≡ Some (ts, rest) → TermsOf most bytes ts rest) → TermsOf (suc most) (b ∷ bs) ts rest
    go true t u v f ih = no_terms (suc most) b bs ts rest t f
    go false t false v f ih = absurd cc
    go false t true v f ih =
        let p = then_some (name_in bs) _ _ f in
        let q = then_some (terms_in most p.1) _ _ p.3 in
        let n = name_of bs p.0 p.1 p.2 in
        let m = ih p.1 q.0 q.1 q.2 in
        let e : 44 ≡ b = grind arith in
        let k = m.2 in
        subst (λ x. TermsOf (suc most) (b ∷ bs) x.0 x.1) (some_same q.3)
        (ap (λ x. x ∷ bs) (sym e) ∙ ap (λ x. 44 ∷ x) (n.0 ∙ ap (λ x. p.0 ++ x) m.0 ∙ sym (append_assoc p.0 (more_terms q.0) (41 ∷ q.1))), (n.1, m.1), omega arith)

credential_at : (c : Credential) (rest : List ℕ) → GoodCredential c → credential_in (credential_bytes c ++ rest) ≡ Some (c, rest)
unfolding credential_in
credential_at c rest g =
    let b5 = more_terms c.terms ++ 41 ∷ rest in
    let b3 = 40 ∷ (c.term ++ b5) in
    let b1 = 46 ∷ (c.name ++ b3) in
    let e : credential_bytes c ++ rest ≡ c.issuer ++ b1 = simp append_assoc in
    rw (
      e,
      name_at c.issuer b1 g.issuer refl,
      word_at (codes ".") (c.name ++ b3),
      name_at c.name b3 g.name refl,
      word_at (codes "(") (c.term ++ b5),
      name_at c.term b5 g.term (terms_stop c.terms rest),
      terms_at 3 c.terms rest g.terms g.few,
    ) refl

credential_joined : (bytes b1 b2 b3 b4 b5 rest : List ℕ) (c : Credential) → bytes ≡ c.issuer ++ b1 → b1 ≡ 46 ∷ b2 → b2 ≡ c.name ++ b3 → b3 ≡ 40 ∷ b4 → b4 ≡ c.term ++ b5 → b5 ≡ more_terms c.terms ++ 41 ∷ rest → bytes ≡ credential_bytes c ++ rest
credential_joined bytes b1 b2 b3 b4 b5 rest c e1 e2 e3 e4 e5 e6 = rw (e1, e2, e3, e4, e5, e6) (simp append_assoc)

credential_of_lem : (bytes : List ℕ) (c : Credential) (rest : List ℕ) → credential_in bytes ≡ Some (c, rest) → (bytes ≡ credential_bytes c ++ rest) × GoodCredential c
unfolding credential_in
credential_of_lem bytes c rest e =
    let p1 = then_some (name_in bytes) _ _ e in
    let p2 = then_some (word_in (codes ".") p1.1) _ _ p1.3 in
    let p3 = then_some (name_in p2.1) _ _ p2.3 in
    let p4 = then_some (word_in (codes "(") p3.1) _ _ p3.3 in
    let p5 = then_some (name_in p4.1) _ _ p4.3 in
    let p6 = then_some (terms_in 3 p5.1) _ _ p5.3 in
    let made : Credential = record { issuer = p1.0; name = p3.0; term = p5.0; terms = p6.0 } in
    let n1 = name_of bytes p1.0 p1.1 p1.2 in
    let w2 = word_of (codes ".") p1.1 p2.1 p2.2 in
    let n3 = name_of p2.1 p3.0 p3.1 p3.2 in
    let w4 = word_of (codes "(") p3.1 p4.1 p4.2 in
    let n5 = name_of p4.1 p5.0 p5.1 p5.2 in
    let t6 = terms_of 3 p5.1 p6.0 p6.1 p6.2 in
    let whole = credential_joined bytes p1.1 p2.1 p3.1 p4.1 p5.1 p6.1 made n1.0 w2 n3.0 w4 n5.0 t6.0 in
    let good : GoodCredential made = record { issuer = n1.1; name = n3.1; term = n5.1; terms = t6.1; few = t6.2 } in
    subst (λ q. (bytes ≡ credential_bytes q.0 ++ q.1) × GoodCredential q.0) (some_same p6.3) (whole, good)

pub item_at_lem : (i : ItemText) (rest : List ℕ) → GoodItem i → Stop rest → item_in (item_bytes i ++ rest) ≡ Some (i, rest)
unfolding item_in
item_at_lem i rest g s =
    let b3 = 62 ∷ (i.destination ++ rest) in
    let b2 = credential_bytes i.credential ++ b3 in
    let e : item_bytes i ++ rest ≡ i.source ++ 94 ∷ b2 = simp append_assoc in
    rw (
      e,
      name_at i.source (94 ∷ b2) g.source refl,
      word_at (codes "^") b2,
      credential_at i.credential b3 g.credential,
      word_at (codes ">") (i.destination ++ rest),
      name_at i.destination rest g.destination s,
    ) refl

item_joined : (bytes b1 b2 b3 b4 rest : List ℕ) (i : ItemText) → bytes ≡ i.source ++ b1 → b1 ≡ 94 ∷ b2 → b2 ≡ credential_bytes i.credential ++ b3 → b3 ≡ 62 ∷ b4 → b4 ≡ i.destination ++ rest → bytes ≡ item_bytes i ++ rest
item_joined bytes b1 b2 b3 b4 rest i e1 e2 e3 e4 e5 = rw (e1, e2, e3, e4, e5) (simp append_assoc)

pub item_of : (bytes : List ℕ) (i : ItemText) (rest : List ℕ) → item_in bytes ≡ Some (i, rest) → (bytes ≡ item_bytes i ++ rest) × GoodItem i × Stop rest
unfolding item_in
item_of bytes i rest e =
    let p1 = then_some (name_in bytes) _ _ e in
    let p2 = then_some (word_in (codes "^") p1.1) _ _ p1.3 in
    let p3 = then_some (credential_in p2.1) _ _ p2.3 in
    let p4 = then_some (word_in (codes ">") p3.1) _ _ p3.3 in
    let p5 = then_some (name_in p4.1) _ _ p4.3 in
    let made : ItemText = record { source = p1.0; credential = p3.0; destination = p5.0 } in
    let n1 = name_of bytes p1.0 p1.1 p1.2 in
    let w2 = word_of (codes "^") p1.1 p2.1 p2.2 in
    let c3 = credential_of_lem p2.1 p3.0 p3.1 p3.2 in
    let w4 = word_of (codes ">") p3.1 p4.1 p4.2 in
    let n5 = name_of p4.1 p5.0 p5.1 p5.2 in
    let good : GoodItem made = record { source = n1.1; credential = c3.1; destination = n5.1 } in
    let whole = item_joined bytes p1.1 p2.1 p3.1 p4.1 p5.1 made n1.0 w2 c3.0 w4 n5.0 in
    subst (λ q. (bytes ≡ item_bytes q.0 ++ q.1) × GoodItem q.0 × Stop q.1) (some_same p5.3) (whole, good, n5.2)
