use Rattle.book.proofs.reader.Reader.+terms.Given as goal

abbrev pub decreases-terms : goal.decreases-terms
decreases-terms l = l.most
