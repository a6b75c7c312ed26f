use Rattle.std.proofs.Common.{◌++◌, string_bytes, refl, ap, ◌∙◌, arith}
use Rattle.std.proofs.lemmas.List.{nil_from_length}
use Rattle.letters.specs.Report.{letter_line, count_line}
use Rattle.letters.proofs.SoFar.{shorter, within, next, all_read, stopped}
use Rattle.letters.proofs.report.report.Goals as goal
use Rattle.letters.proofs.report.report.Goals.{else-loop-rest-test, then-loop-rest-test+in-Err+in_ok-writeln-in-Err}

pub overflow_add-count : goal.overflow_add-count
overflow_add-count c = omega (arith, within c.loop-rest.invariant, shorter ((c.in-Ok.ensures.answer.read _ _).0 refl))

pub loop-rest-smaller : goal.loop-rest-smaller
loop-rest-smaller c = shorter ((c.in-Ok.ensures.answer.read _ _).0 refl)

pub loop-rest-preserved : goal.loop-rest-preserved
loop-rest-preserved c =
    let l = c.in-Ok.letter in
    let line = c.as_str.ensures.value ∙ c.in_ok-writeln-in-Ok.ensures.bytes ∙ ap (λ b. b ++ letter_line l) c.clear.ensures.bytes in
    next c.loop-rest.invariant ((c.in-Ok.ensures.answer.read _ _).0 refl) (c.in_ok-push_str-in-Ok.ensures.bytes ∙ ap (λ b. string_bytes c.loop-rest.text ++ b) line)

pub returns : goal.returns
returns c =
    elim c.loop-rest-test.branch [
      | else-loop-rest-test w ↦
          all_read c.loop-rest.invariant (nil_from_length c.loop-rest.rest.now (grind (arith, w.loop-rest-test.ensures)))
          (c.in_ok-writeln.ensures.bytes ∙ ap (λ t. string_bytes t ++ count_line c.loop-rest.count) w.text-is)
      | then-loop-rest-test+in-Err+in_ok-writeln-in-Err w ↦
          stopped c.loop-rest.invariant (grind (arith, w.loop-rest-test.ensures)) w.in-Err.ensures.answer w.in_ok-writeln-in-Err.ensures.bytes
          (c.in_ok-writeln.ensures.bytes ∙ ap (λ t. string_bytes t ++ count_line c.loop-rest.count) w.text-is)
    ]
