-- The worked books, computed.
use Rattle.std.proofs.Common.{refl}
use Rattle.meaning.specs.Worked.{Worked}

pub worked : Worked
worked =
    record {
      chain_derived = refl;
      chain_needs = refl;
      chain_unlocks = refl;
      chain_reached = refl;
      deadlocked = refl;
      known = refl;
      not_known = refl;
      known_derived = refl;
      told_relevant = refl;
      chain_not_reached = refl;
      deep_relevant = refl;
      deep_own = refl;
      others_rule = refl;
    }
