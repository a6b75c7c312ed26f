-- The latest entry with a key, as entries are put in.
use Rattle.std.proofs.Common.{◌≡◌, ℕ, zero, suc, ◌-◌, ◌<◌, Bool, true, false, cond, eqb, List, [], ◌∷◌, ◌++◌, length, set, replicate, Some, None, Option, Ok, Err, refl, arith, length-append}
use Rattle.std.specs.List.{slice_get}
use Rattle.std.specs.Option.{option_or, option_map, option_and_then}
use Rattle.std.proofs.lemmas.List.{map-append, get_or-replicate, get_or-set_same, get_or-set_other, get_or_append_left, get_or-append_right, take-append-le, take_at, length-set, length-replicate}
use Rattle.std.proofs.lemmas.Option.{slice_get-get_or}
use Rattle.std.proofs.lemmas.Grind.{get_or_head, get_or_tail}
use lib.ListN.{length-map}
use Rattle.table.specs.declared.store.Full.{Full}
use Rattle.table.specs.Held.{push_answer, pushed}
use Rattle.links.specs.declared.chains.link.Link.{Link}
use Rattle.links.specs.declared.chains.Entry.{Entry}
use Rattle.links.specs.Chain.{latest, earlier, keys_of, target, HoldLatest, HoldEarlier}
use Rattle.links.specs.Keys.{Latest, ChainLaw}

last_push : (ks : List ℕ) (x k : ℕ) → latest (ks ++ x ∷ []) k ≡ cond (eqb x k) (Some (length ks)) (latest ks k)
last_push [] x k = refl
last_push (y ∷ ys) x k = rw (last_push ys x k) (step (eqb x k) (latest ys k))
  where
    step : (b : Bool) (m : Option ℕ) → option_or (option_map suc (cond b (Some (length ys)) m)) (cond (eqb y k) (Some 0) None) ≡ cond b (Some (suc (length ys))) (option_or (option_map suc m) (cond (eqb y k) (Some 0) None))
    step true m = refl
    step false m = refl

earlier_more : (ks : List ℕ) (x e : ℕ) → earlier (ks ++ x ∷ []) e ≡ cond (eqb e (length ks)) (latest ks x) (earlier ks e)
earlier_more ks x e = let n = length-append ks (x ∷ []) in grind (arith, take-append-le e ks (x ∷ []), take_at ks (x ∷ []) e, get_or_append_left ks (x ∷ []) 0 e, get_or-append_right ks (x ∷ []) (length ks) e 0)

slice_get_more : {X : Type 0} (xs : List X) (x : X) (i : ℕ) → slice_get (xs ++ x ∷ []) i ≡ cond (eqb i (length xs)) (Some x) (slice_get xs i)
slice_get_more [] x zero = refl
slice_get_more [] x (suc i) = let e : eqb (suc i) 0 ≡ false = grind arith in rw e refl
slice_get_more (y ∷ ys) x zero = let e : eqb 0 (suc (length ys)) ≡ false = grind arith in rw e refl
slice_get_more (y ∷ ys) x (suc i) = let e : eqb (suc i) (suc (length ys)) ≡ eqb i (length ys) = grind arith in rw e (slice_get_more ys x i)

chained : (ks : List ℕ) (k : ℕ) → Latest ks k (latest ks k)
chained [] k = λ e l q. absurd (omega arith)
chained (x ∷ xs) k = go (latest xs k) (chained xs k) (eqb x k) refl
  where
    go : (r : Option ℕ) → Latest xs k r → (b : Bool) → eqb x k ≡ b → Latest (x ∷ xs) k (option_or (option_map suc r) (cond b (Some 0) None))
    go (Some m) f b h = (let a = f.0 in omega arith, f.1, (λ e a l q. let z = f.2 (e - 1) in grind (arith, get_or_tail x xs e 0)))
    go None f true h = (omega arith, grind arith, (λ e a l q. let z = f (e - 1) in grind (arith, get_or_tail x xs e 0)))
    go None f false h = λ e l q. let z = f (e - 1) in grind (arith, get_or_tail x xs e 0, get_or_head x xs e 0)

pub chain_law : ChainLaw
chain_law = chained

-- a push that is done
put : {X : Type 0} (n : ℕ) (xs : List X) (x : X) (u : Unit {0}) → Ok u ≡ push_answer n xs → pushed n xs x ≡ xs ++ x ∷ []
put {X} n xs x u a = step (eqb (length xs) n) a
  where
    full : Full
    full = record {}

    step : (b : Bool) → Ok u ≡ cond b (Err full) (Ok tt) → cond b xs (xs ++ x ∷ []) ≡ xs ++ x ∷ []
    step true e = cc
    step false e = refl

module _ {T : Type 0} (es : List (Entry T)) where
  pub none_latest : (n : ℕ) (l : Link) → es ≡ [] → target l ≡ None → (k : ℕ) → k < n → option_and_then target (slice_get (replicate n l) k) ≡ latest (keys_of es) k
  none_latest n l e f k h =
      let n_links : length (replicate n l) ≡ n = length-replicate n l in
      rw (e, slice_get-get_or (replicate n l) k l (omega arith), get_or-replicate n k l l h) f

  pub none_earlier : es ≡ [] → HoldEarlier es
  none_earlier e k = rw e (grind arith)

  module _ (x : Entry T) where
    keys_more : keys_of (es ++ x ∷ []) ≡ keys_of es ++ x.key ∷ []
    keys_more = map-append (λ e. e.key) es (x ∷ [])

    latest_more : (found : List Link) (l : Link) → length found ≡ 256 → x.key < 256 → target l ≡ Some (length (keys_of es)) → HoldLatest es found → HoldLatest (es ++ x ∷ []) (set found x.key l)
    latest_more found l all small to h k below =
        let a = last_push (keys_of es) x.key k in
        let b = rw (slice_get-get_or found k l (omega arith)) at (h k below) in
        let s = length-set found x.key l in
        rw (keys_more, slice_get-get_or (set found x.key l) k l (omega arith)) (grind (arith, get_or-set_same found x.key l l, get_or-set_other found x.key k l l))

    earlier_more_held : target x.earlier ≡ latest (keys_of es) x.key → HoldEarlier es → HoldEarlier (es ++ x ∷ [])
    earlier_more_held is h e =
        let a = earlier_more (keys_of es) x.key e in
        let b = slice_get_more es x e in
        let c = h e in
        let s = length-map es (λ e. e.key) in
        rw (keys_more, b) (grind arith)

    module _ (n : ℕ) (after : List (Entry T)) (u : Unit {0}) (done : Ok u ≡ push_answer n es) (is : after ≡ pushed n es x) where
      pub latest_push : (found : List Link) (l : Link) → length found ≡ 256 → x.key < 256 → target l ≡ Some (length (keys_of es)) → HoldLatest es found → HoldLatest after (set found x.key l)
      latest_push found l all small to h = rw (is, put n es x u done) (latest_more found l all small to h)

      pub earlier_push : target x.earlier ≡ latest (keys_of es) x.key → HoldEarlier es → HoldEarlier after
      earlier_push e h = rw (is, put n es x u done) (earlier_more_held e h)
