use Rattle.std.proofs.Common.{refl}
use Rattle.links.proofs.Latest.{none_latest, none_earlier}
use Rattle.links.proofs.chains.Links.none.Goals as goal

pub invariant_of-result : goal.invariant_of-result
invariant_of-result g c = record { all = refl; latest_held = none_latest _ 256 _ c.new.ensures (cc); earlier_held = none_earlier _ c.new.ensures }
