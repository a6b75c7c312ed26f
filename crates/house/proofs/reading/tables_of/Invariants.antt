use Rattle.std.proofs.Common.{◌≡◌, length}
use Rattle.book.specs.Places.{left}
use Rattle.house.proofs.Stepping.{ReadSoFar}
use Rattle.house.proofs.reading.tables_of.Given as goal

abbrev pub invariant-loop-reader : goal.invariant-loop-reader
invariant-loop-reader l = record { so_far : ReadSoFar l.text l.draft.tables l.reader l.line; same_text : l.draft.text.now ≡ l.text }

abbrev pub decreases-loop-reader : goal.decreases-loop-reader
decreases-loop-reader l = length (left l.reader)
