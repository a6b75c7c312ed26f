use Rattle.std.proofs.Common.{arith}
use Rattle.table.specs.Held.{held}
use Rattle.table.proofs.Slots.{held_fits}
use Rattle.house.specs.House.{view}
use Rattle.house.proofs.Views.{length_views, short_views}
use Rattle.house.proofs.Sound.{sound_view}
use Rattle.house.proofs.store.House.soundness_law.Goals as goal

pub returns : goal.returns
returns c =
    let h = c.args.self.now in
    let t = h.tables in
    let r = held_fits t.rules in
    let n = length_views (held t.rules) in
    record {
      sound = sound_view (view h) h.sound;
      limits =
          record {
            few_parties = held_fits t.parties;
            few_items = held_fits t.items;
            few_rules = omega arith;
            short_text = h.short;
            short_bodies = short_views (held t.rules);
          };
    }
