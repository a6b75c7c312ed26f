use Rattle.std.proofs.lemmas.Result.{on_ok_weaker}
use Rattle.book_check.proofs.Putting.{puts_four}
use Rattle.book_check.proofs.listing.Listing.put_house.Goals as goal

pub returns : goal.returns
returns c =
    on_ok_weaker c.put_asked.result (λ e. puts_four c.args.self.now c.put_parts.new.self c.put_parts-2.new.self c.put_rules.new.self c.put_asked.new.self c.args.house.now
    c.parties.result.now c.items.result.now c.rules.result.now c.asked.result c.parties.ensures c.items.ensures c.rules.ensures c.asked.ensures
    c.in_ok-put_parts.ensures c.in_ok-put_parts-2.ensures c.in_ok-put_rules.ensures e) c.put_asked.ensures
