use Rattle.std.proofs.Common.{◌<◌, ◌≤◌, length, refl, ap, ◌∙◌, subst, arith, rules}
use Rattle.std.proofs.lemmas.Result.{err_from_is_err_and}
use Rattle.book.specs.declared.fault.Fault.{Fault}
use Rattle.book.specs.Places.{left}
use Rattle.house.specs.declared.refusal.Refusal.{Refusal}
use Rattle.house.specs.Filling.{TakesLine}
use Rattle.house.proofs.Pushes.{mapped}
use Rattle.house.proofs.Stepping.{begun, ended, went_on, all_read}
use Rattle.house.proofs.reading.tables_of.Goals as goal

pub loop-reader-init : goal.loop-reader-init
loop-reader-init c =
    record {
      so_far = begun c.args.text.now c.empty.result c.new-reader.result c.empty.ensures (ap (λ t. t.now) c.new-reader.ensures.text) c.new-reader.ensures.place;
      same_text = refl;
    }

pub returns-in_err-map_err : goal.returns-in_err-map_err
returns-in_err-map_err c =
    let h = c.loop-reader-test.ensures in
    let few : length c.args.text.now ≤ 32768 = omega arith in
    let n : 0 < length (left c.loop-reader.reader) = grind arith in
    let at : Fault → Refusal = λ g. record { fault = g; line = c.loop-reader.line } in
    let told = mapped at c.next_line.result c.map_err.result c.map_err.ensures.cases (λ g d r. search rules) in
    let takes = subst (λ t. TakesLine t c.loop-reader.draft.tables c.loop-reader.reader c.next_line.result c.next_line.new.self.tables c.next_line.new.reader) c.loop-reader.invariant.same_text c.next_line.ensures.takes in
    let q = err_from_is_err_and c.from_residual.result c.from_residual.ensures.1 in
    rw (q.1, q.2)
    (ended c.args.text.now few c.loop-reader.draft.tables c.loop-reader.reader c.loop-reader.line c.loop-reader.invariant.so_far n c.next_line.new.reader c.next_line.new.self.tables
    c.next_line.result c.map_err.result told takes _ c.in_err-map_err.was)

pub loop-reader-preserved : goal.loop-reader-preserved
loop-reader-preserved c =
    let h = c.loop-reader-test.ensures in
    let few : length c.args.text.now ≤ 32768 = omega arith in
    let n : 0 < length (left c.loop-reader.reader) = grind arith in
    let at : Fault → Refusal = λ g. record { fault = g; line = c.loop-reader.line } in
    let told = mapped at c.next_line.result c.map_err.result c.map_err.ensures.cases (λ g d r. search rules) in
    let takes = subst (λ t. TakesLine t c.loop-reader.draft.tables c.loop-reader.reader c.next_line.result c.next_line.new.self.tables c.next_line.new.reader) c.loop-reader.invariant.same_text c.next_line.ensures.takes in
    record {
      so_far = (went_on c.args.text.now few c.loop-reader.draft.tables c.loop-reader.reader c.loop-reader.line c.loop-reader.invariant.so_far n c.next_line.new.reader c.next_line.new.self.tables
          c.next_line.result c.map_err.result told takes _ c.in_ok-map_err.was).0;
      same_text = ap (λ t. t.now) c.next_line.ensures.same_text ∙ c.loop-reader.invariant.same_text;
    }

pub returns : goal.returns
returns c =
    let h = c.loop-reader-test.ensures in
    let few : length c.args.text.now ≤ 32768 = omega arith in
    all_read c.args.text.now few c.loop-reader.draft.tables c.loop-reader.reader c.loop-reader.line c.loop-reader.invariant.so_far (grind arith)
