-- For the inner contracts of the listing.
use Rattle.std.specs.Prelude.{◌≡◌, ℕ, List, ◌++◌}
use Rattle.book_check.specs.declared.listing.Listing.{Listing}

-- a text is put behind what is there; the book stays
pub record Puts (before after : Listing) (text : List ℕ) : Type 0 where
  pub out : after.out.items ≡ before.out.items ++ text
  pub book : after.book ≡ before.book
