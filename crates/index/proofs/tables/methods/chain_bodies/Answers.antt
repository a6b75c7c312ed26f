use Rattle.std.proofs.Common.{sym, append-nil, arith}
use Rattle.links.specs.Keys.{keys, values}
use Rattle.index.proofs.Adding.{put_item, put_number, items_next, numbers_next}
use Rattle.index.proofs.tables.methods.chain_bodies.Goals as goal

pub loop-item-init : goal.loop-item-init
loop-item-init c = record { items = sym (append-nil (keys c.loop-number.uses)); numbers = sym (append-nil (values c.loop-number.uses)) }

pub unwrap-requires : goal.unwrap-requires
unwrap-requires c =
    (put_item c.args.rules.now c.loop-number.number c.index-rules-number.result c.as_slice-item-items.result.now c.loop-number-test.true c.requires.few c.index-rules-number.is c.as_slice-item-items.ensures
    (keys c.loop-number.uses) (keys c.loop-item.uses) (keys c.push.new.self) c.push.result c.loop-item.item-index c.loop-item-test.true 0 c.loop-number.invariant.items c.loop-item.invariant.items c.push.ensures.keys).0

pub loop-item-preserved : goal.loop-item-preserved
loop-item-preserved c =
    record {
      items =
          (put_item c.args.rules.now c.loop-number.number c.index-rules-number.result c.as_slice-item-items.result.now c.loop-number-test.true c.requires.few c.index-rules-number.is c.as_slice-item-items.ensures
          (keys c.loop-number.uses) (keys c.loop-item.uses) (keys c.push.new.self) c.push.result c.loop-item.item-index c.loop-item-test.true 0 c.loop-number.invariant.items c.loop-item.invariant.items c.push.ensures.keys).1;
      numbers =
          (put_number c.args.rules.now c.loop-number.number c.index-rules-number.result c.as_slice-item-items.result.now c.loop-number-test.true c.requires.few c.index-rules-number.is c.as_slice-item-items.ensures
          (values c.loop-number.uses) (values c.loop-item.uses) (values c.push.new.self) c.push.result c.loop-item.item-index c.loop-item-test.true _ (omega arith) c.loop-number.invariant.numbers c.loop-item.invariant.numbers c.push.ensures.values).1;
    }

pub loop-number-preserved : goal.loop-number-preserved
loop-number-preserved c =
    record {
      items =
          items_next c.args.rules.now c.loop-number.number c.index-rules-number.result c.as_slice-item-items.result.now c.loop-number-test.true c.requires.few c.index-rules-number.is c.as_slice-item-items.ensures
          (keys c.loop-number.uses) (keys c.loop-item.uses) c.loop-item.item-index (omega arith) c.loop-number.invariant.items c.loop-item.invariant.items;
      numbers =
          numbers_next c.args.rules.now c.loop-number.number c.index-rules-number.result c.as_slice-item-items.result.now c.loop-number-test.true c.requires.few c.index-rules-number.is c.as_slice-item-items.ensures
          (values c.loop-number.uses) (values c.loop-item.uses) c.loop-item.item-index (omega arith) (omega arith) c.loop-number.invariant.numbers c.loop-item.invariant.numbers;
    }
