use Rattle.book.proofs.Laws.{places_law, line_places_law}
use Rattle.book.proofs.theorems.places_law.Goals as goal

pub returns : goal.returns
returns c = record { places = places_law; lines = line_places_law }
