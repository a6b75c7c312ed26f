use Rattle.std.proofs.Common.{ap}
use Rattle.house.proofs.Cuts.{item_there}
use Rattle.house.proofs.reading.bytes.item_at.Goals as goal

pub returns : goal.returns
returns c = item_there c.args.text.now c.args.place c.new.result c.item.result c.item.new.self (ap (λ t. t.now) c.new.ensures.text) c.new.ensures.place c.item.ensures.answer
