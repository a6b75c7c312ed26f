-- Names and items stand where the policies say.
use Rattle.std.proofs.Common.{◌≡◌, ℕ, ◌+◌, Bool, true, false, cond, List, [], ◌∷◌, ◌++◌, length, sym, refl, ◌∙◌, subst, append_assoc, arith, length-append}
use Rattle.std.specs.List.{AllByRecursion}
use Rattle.std.proofs.ByRecursion.{All-push}
use Rattle.book.specs.Grammar.{LineText, line_bytes, GoodLine}
use Rattle.book.specs.Places.{item_size}
use Rattle.book.specs.Lines.{line_size}
use Rattle.house.specs.Policies.{Written, Policies, any, same_item, register, register_all, written_from, with}
use Rattle.house.specs.BookLaw.{lines_bytes, Says, Stand}
use Rattle.house.specs.Filling.{NameAt, ItemAt, LineAt}
use Rattle.house.proofs.Spots.{name_cut, item_cut, line_name, line_head, line_body, line_ask}
use Rattle.house.proofs.Registers.{all_of}

-- what holds of all items holds of a register made of them
module _ (P : Written → Type 0) where
  put : (b : Bool) (items : List Written) (w : Written) → AllByRecursion P items → P w → AllByRecursion P (cond b items (items ++ w ∷ []))
  put true items w a s = a
  put false items w a s = All-push P items w a s

  pub all_registered : (items ws : List Written) → AllByRecursion P items → AllByRecursion P ws → AllByRecursion P (register_all items ws)
  all_registered items [] a s = a
  all_registered items (w ∷ ws) a s = all_registered (register items w) ws (put (any (same_item w.item) items) items w a s.0) s.1

module _ (text : List ℕ) where
  pub record Placed (v : Policies) : Type 0 where
    pub names : AllByRecursion (NameAt text) v.parties
    pub items : AllByRecursion (ItemAt text) v.items

  line_placed : (place : ℕ) (l : LineText) (v : Policies) → LineAt text place l → Placed v → Placed (with v place l)
  line_placed place (LineText.party n) v a s = record { names = All-push (NameAt text) v.parties (record { name = n; place = place + 6 }) s.names (line_name text place n a); items = s.items }
  line_placed place (LineText.hold i) v a s = record { names = s.names; items = all_registered (ItemAt text) v.items (record { item = i; place = place + 5 } ∷ []) s.items (line_head text place i [] a, tt) }
  line_placed place (LineText.rule h b bs) v a s =
      record {
        names = s.names;
        items = all_registered (ItemAt text) v.items (record { item = h; place = place + 5 } ∷ written_from (place + 5 + item_size h + 4) (b ∷ bs)) s.items (line_head text place h (b ∷ bs) a, line_body text place h (b ∷ bs) a);
      }
  line_placed place (LineText.ask i) v a s = record { names = s.names; items = all_registered (ItemAt text) v.items (record { item = i; place = place + 4 } ∷ []) s.items (line_ask text place i a, tt) }

  lines_placed : (before : List ℕ) (ls : List LineText) (place : ℕ) (v w : Policies) → text ≡ before ++ lines_bytes ls → place ≡ length before → AllByRecursion GoodLine ls → Says v place ls w → Placed v → Placed w
  lines_placed before [] place v w e p g y s = subst Placed y s
  lines_placed before (l ∷ ls) place v w e p g y s =
      let front = before ++ line_bytes l in
      let k = length-append before (line_bytes l) in
      let z : place + line_size l ≡ length front = omega arith in
      let a : LineAt text place l = record { behind = lines_bytes ls; stands = record { front = before; writing = e; there = p }; good = g.0 } in
      lines_placed front ls (place + line_size l) (with v place l) w (e ∙ sym (append_assoc before (line_bytes l) (lines_bytes ls))) z g.1 y.1 (line_placed place l v a s)

  pub lines_stand : (ls : List LineText) (v w : Policies) → text ≡ lines_bytes ls → AllByRecursion GoodLine ls → Says v 0 ls w → Placed v → Stand text w
  lines_stand ls v w e g y s =
      let k = lines_placed [] ls 0 v w e refl g y s in
      record { parties = all_of (name_cut text) w.parties k.names; items = all_of (λ u a. (item_cut text u a).whole) w.items k.items }
