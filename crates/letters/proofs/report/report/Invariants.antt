use Rattle.std.proofs.Common.{length, string_bytes}
use Rattle.letters.proofs.SoFar.{SoFar}
use Rattle.letters.proofs.report.report.Given as goal

abbrev pub invariant-loop-rest : goal.invariant-loop-rest
invariant-loop-rest l = SoFar l.capture l.rest (string_bytes l.text) l.count

abbrev pub decreases-loop-rest : goal.decreases-loop-rest
decreases-loop-rest l = length l.rest
