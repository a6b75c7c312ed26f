use Rattle.std.proofs.Common.{refl, ap, ◌∙◌, arith}
use Rattle.book.specs.Reading.{name_in}
use Rattle.book.specs.Places.{name_size}
use Rattle.book.proofs.Runs.{name_within}
use Rattle.book.proofs.Steps.{name_moves}
use Rattle.book.proofs.reader.Reader.name.Goals as goal

pub overflow_add-self : goal.overflow_add-self
overflow_add-self c = let n = name_within c.args.self.now c.rest.result.now c.in_ok-length.length c.rest.ensures c.in_ok-length.ensures in omega arith

pub invariant_of-self : goal.invariant_of-self
invariant_of-self c = let n = name_within c.args.self.now c.rest.result.now c.in_ok-length.length c.rest.ensures c.in_ok-length.ensures in record { within = omega arith; fits = c.args.self.now.fits }

pub returns : goal.returns
returns c = name_moves c.args.self.now _ c.in_ok-length.length (c.in_ok-length.ensures ∙ ap (λ b. name_size (name_in b)) c.rest.ensures) refl refl
