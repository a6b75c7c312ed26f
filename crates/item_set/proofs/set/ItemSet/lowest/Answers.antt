use Rattle.std.proofs.Common.{◌≡◌, ◌≢◌, ℕ, ◌<◌, ◌^◌, get_or, rules}
use Rattle.item_set.proofs.Words.{lowest_found}
use Rattle.item_set.proofs.set.ItemSet.lowest.Goals as goal

pub returns : goal.returns
returns c =
    let ws = c.args.self.now.words in
    let i = c.in_ok-place.place in
    let some : get_or ws i 0 ≢ 0 = search rules in
    let fits : get_or ws i 0 < 2 ^ 64 = search rules in
    let none : (q : ℕ) → q < i → get_or ws q 0 ≡ 0 = search rules in
    lowest_found ws i some fits none
