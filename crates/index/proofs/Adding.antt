-- What is put into chains, step by step.
use Rattle.std.proofs.Common.{◌≡◌, ℕ, zero, suc, ◌+◌, ◌*◌, ◌<◌, ◌≤◌, List, [], ◌∷◌, ◌++◌, map, length, get_or, take, replicate, Ok, Err, IsOk, Result, sym, refl, ap, ◌∙◌, inl, inr, append_assoc, append-nil, arith, length-append}
use lib.ListN.{length-map}
use Rattle.std.specs.List.{AllByRecursion, flat_map}
use Rattle.std.proofs.lemmas.List.{map_more, take_more, take_all, length-take-le, length-replicate}
use Rattle.std.proofs.lemmas.Grind.{flat_map-append}
use Rattle.table.specs.declared.store.Full.{Full}
use Rattle.table.specs.Held.{held}
use Rattle.table.proofs.Slots.{held_fits}
use Rattle.links.specs.Keys.{Pushed}
use Rattle.house.specs.declared.entries.Rule.{Rule}
use Rattle.house.specs.View.{RuleView, rule_view, rule_views}
use Rattle.house.proofs.Views.{length_views, views_push, short_views}
use Rattle.index.specs.Uses.{rules_from}

-- a push where there is room, behind two parts
pub put : {X : Type 0} (n : ℕ) (start part so_far after : List X) (x : X) (r : Result (Unit {0}) Full) → so_far ≡ start ++ part → length start + length part < n → n ≤ 65535 → Pushed n so_far x r after → IsOk r × (after ≡ start ++ (part ++ x ∷ []))
put n start part so_far after x (Ok u) is room numbers p = (refl, p.0 ∙ ap (λ l. l ++ x ∷ []) is ∙ append_assoc start part (x ∷ []))
put n start part so_far after x (Err f) is room numbers p =
    let size = ap length is ∙ length-append start part in
    elim p.1 [ inl e ↦ absurd (omega arith) | inr l ↦ absurd (omega arith) ]

-- the key of the next entry is put in
pub put_next : {X : Type 0} (f : X → ℕ) (xs : List X) (i : ℕ) (x : X) (n key : ℕ) (before after : List ℕ) (r : Result (Unit {0}) Full) →
    before ≡ map f (take i xs) → i < length xs → x ≡ get_or xs i x → key ≡ f x → length xs ≤ n → n ≤ 65535 → Pushed n before key r after → IsOk r × (after ≡ map f (take (i + 1) xs))
put_next f xs i x n key before after r is l e k room numbers p =
    let size = length-map (take i xs) f ∙ length-take-le i xs (omega arith) in
    let done = put n [] (map f (take i xs)) before after key r is (omega arith) numbers p in
    (done.0, done.1 ∙ ap (λ k. map f (take i xs) ++ k ∷ []) (k ∙ ap f e) ∙ sym (map_more f xs i x l))

joined_push : (rs : List RuleView) (r : RuleView) → flat_map (λ x. x.body) (rs ++ r ∷ []) ≡ flat_map (λ x. x.body) rs ++ r.body
joined_push rs r = flat_map-append (λ x. x.body) rs (r ∷ []) ∙ ap (λ l. flat_map (λ x. x.body) rs ++ l) (append-nil r.body)

rules_push : (n : ℕ) (rs : List RuleView) (r : RuleView) (m : ℕ) → m ≡ n + length rs → rules_from n (rs ++ r ∷ []) ≡ rules_from n rs ++ replicate (length r.body) m
rules_push n [] r m e = let z : n ≡ m = omega arith in append-nil (replicate (length r.body) n) ∙ ap (replicate (length r.body)) z
rules_push n (x ∷ xs) r m e =
    let z : m ≡ suc n + length xs = omega arith in
    ap (λ l. replicate (length x.body) n ++ l) (rules_push (suc n) xs r m z) ∙ sym (append_assoc (replicate (length x.body) n) (rules_from (suc n) xs) (replicate (length r.body) m))

-- bodies of at most eight items, and as many numbers of rules as items
few : (vs : List RuleView) → AllByRecursion (λ v. length v.body ≤ 8) vs → length (flat_map (λ v. v.body) vs) ≤ 8 * length vs
few [] a = omega arith
few (v ∷ vs) a =
    let r = few vs a.1 in
    let s = a.0 in
    let t = length-append v.body (flat_map (λ v. v.body) vs) in
    omega arith

as_many : (n : ℕ) (vs : List RuleView) → length (rules_from n vs) ≡ length (flat_map (λ v. v.body) vs)
as_many n [] = refl
as_many n (v ∷ vs) =
    let r = as_many (suc n) vs in
    let t = length-append v.body (flat_map (λ v. v.body) vs) in
    let u = length-append (replicate (length v.body) n) (rules_from (suc n) vs) in
    let w : length (replicate (length v.body) n) ≡ length v.body = length-replicate (length v.body) n in
    omega arith

replicate_push : (n x : ℕ) → replicate n x ++ x ∷ [] ≡ replicate (n + 1) x
replicate_push zero x = refl
replicate_push (suc n) x = let z : suc (n + 1) ≡ suc n + 1 = omega arith in ap (λ l. x ∷ l) (replicate_push n x) ∙ ap (λ k. replicate k x) z

-- In the loops over rules and the items of their bodies: `i` rules are in, and `j` items of the next.
module _ (rules : List Rule) (i : ℕ) (rule : Rule) (body : List ℕ) (l : i < length rules) (most : length rules ≤ 512) (is : rule ≡ get_or rules i rule) (its : body ≡ held rule.body) where
  next_views : rule_views (take (i + 1) rules) ≡ rule_views (take i rules) ++ rule_view rule ∷ []
  next_views = ap rule_views (take_more rules i rule l ∙ ap (λ x. take i rules ++ x ∷ []) (sym is)) ∙ views_push (take i rules) rule

  size : length (rule_views (take i rules)) ≡ i
  size = length_views (take i rules) ∙ length-take-le i rules (omega arith)

  room : (start part : List ℕ) (j : ℕ) → length start ≡ length (flat_map (λ v. v.body) (rule_views (take i rules))) → length part ≡ j → j < length body → length start + length part < 4096
  room start part j e f more =
      let a = few (rule_views (take i rules)) (short_views (take i rules)) in
      let s = size in
      let b = held_fits rule.body in
      let d = ap length its in
      omega arith

  module _ (start so_far after : List ℕ) (r : Result (Unit {0}) Full) (j : ℕ) (more : j < length body) where
    pub put_item : (d : ℕ) → start ≡ flat_map (λ v. v.body) (rule_views (take i rules)) → so_far ≡ start ++ take j body → Pushed 4096 so_far (get_or body j d) r after → IsOk r × (after ≡ start ++ take (j + 1) body)
    put_item d f g p =
        let done = put 4096 start (take j body) so_far after (get_or body j d) r g (room start (take j body) j (ap length f) (length-take-le j body (omega arith)) more) (omega arith) p in
        (done.0, done.1 ∙ ap (λ l. start ++ l) (sym (take_more body j d more)))

    pub put_number : (n : ℕ) → n ≡ i → start ≡ rules_from 0 (rule_views (take i rules)) → so_far ≡ start ++ replicate j i → Pushed 4096 so_far n r after → IsOk r × (after ≡ start ++ replicate (j + 1) i)
    put_number n e f g p =
        let done = put 4096 start (replicate j i) so_far after n r g (room start (replicate j i) j (ap length f ∙ as_many 0 (rule_views (take i rules))) (length-replicate j i) more) (omega arith) p in
        (done.0, done.1 ∙ ap (λ m. start ++ (replicate j i ++ m ∷ [])) e ∙ ap (λ l. start ++ l) (replicate_push j i))

  module _ (start so_far : List ℕ) (j : ℕ) (done : length body ≤ j) where
    pub items_next : start ≡ flat_map (λ v. v.body) (rule_views (take i rules)) → so_far ≡ start ++ take j body → so_far ≡ flat_map (λ v. v.body) (rule_views (take (i + 1) rules))
    items_next e f =
        f ∙ ap (λ b. start ++ b) (take_all j body done ∙ its) ∙ ap (λ s. s ++ held rule.body) e ∙ sym (joined_push (rule_views (take i rules)) (rule_view rule)) ∙ ap (flat_map (λ v. v.body)) (sym next_views)

    pub numbers_next : j ≤ length body → start ≡ rules_from 0 (rule_views (take i rules)) → so_far ≡ start ++ replicate j i → so_far ≡ rules_from 0 (rule_views (take (i + 1) rules))
    numbers_next m e f =
        let d = ap length its in
        let z : j ≡ length (held rule.body) = omega arith in
        let e0 = size in
        let s : i ≡ 0 + length (rule_views (take i rules)) = omega arith in
        f ∙ ap (λ k. start ++ replicate k i) z ∙ ap (λ s. s ++ replicate (length (held rule.body)) i) e ∙ sym (rules_push 0 (rule_views (take i rules)) (rule_view rule) i s) ∙ ap (rules_from 0) (sym next_views)

-- the heads of rules are those of their views
pub heads_of : (rs : List Rule) → map (λ r. r.head) rs ≡ map (λ v. v.head) (rule_views rs)
heads_of [] = refl
heads_of (r ∷ rs) = ap (λ l. r.head ∷ l) (heads_of rs)
