use Rattle.std.proofs.Common.{◌≡◌, ◌<◌, arith}
use Rattle.std.proofs.lemmas.Option.{slice_get-get_or}
use Rattle.table.specs.Held.{held}
use Rattle.links.proofs.Latest.{latest_push, earlier_push}
use Rattle.links.proofs.chains.Links.push.Goals as goal

pub invariant_of-self : goal.invariant_of-self
invariant_of-self g c =
    let self = c.args.self.now in
    let same : held c.push.new.self ≡ held self.entries = grind arith in
    rw same (record { all = self.all; latest_held = self.latest_held; earlier_held = self.earlier_held })

pub invariant_of-self-2-clause-latest_held : goal.invariant_of-self-2-clause-latest_held
invariant_of-self-2-clause-latest_held g c =
    let self = c.args.self.now in
    let small : c.args.key < 256 = let k = c.ranges.key in omega arith in
    latest_push (held self.entries) _ g.row.N (held c.push.new.self) _ c.in_ok-push.ensures.answer c.in_ok-push.ensures.after self.latest _ self.all small (cc) self.latest_held

pub invariant_of-self-2-clause-earlier_held : goal.invariant_of-self-2-clause-earlier_held
invariant_of-self-2-clause-earlier_held g c =
    let self = c.args.self.now in
    let small : c.args.key < 256 = let k = c.ranges.key in omega arith in
    let is = rw (slice_get-get_or self.latest c.args.key (record { 0 = 0 }) (omega arith)) at (self.latest_held c.args.key small) in
    earlier_push (held self.entries) _ g.row.N (held c.push.new.self) _ c.in_ok-push.ensures.answer c.in_ok-push.ensures.after is self.earlier_held
