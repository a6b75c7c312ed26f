use Rattle.std.proofs.Common.{Some, refl}
use Rattle.std.proofs.lemmas.Option.{slice_get-map, slice_get_read}
use Rattle.table.specs.Held.{held, Read}
use Rattle.links.proofs.chains.Links.value.Goals as goal

pub returns : goal.returns
returns g c =
    let es = held c.args.self.now.entries in
    let found : Read es c.args.entry (Some c.in_ok-get.field-0) = c.in_ok-get.ensures in
    rw (slice_get-map, slice_get_read es _ c.args.entry c.in_ok-get.field-0 refl found.0 found.1) refl
