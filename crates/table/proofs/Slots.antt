-- The slots that a table uses.
use Rattle.std.proofs.Common.{◌≡◌, ℕ, ◌≤◌, length, arith}
use Rattle.std.proofs.lemmas.List.{length-take-le}
use Rattle.table.specs.declared.store.Table.{Table}
use Rattle.table.specs.Held.{held}

module _ {X : Type 0} {N : ℕ} (t : Table X N) where
  pub length-held : length (held t) ≡ t.len
  length-held = let e = t.whole in let f = t.fits in length-take-le t.len t.slots (omega arith)

  pub held_fits : length (held t) ≤ N
  held_fits = let e = length-held in let f = t.fits in omega arith
