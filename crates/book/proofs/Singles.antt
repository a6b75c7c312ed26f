-- Whether one of several names is a single letter.
use Rattle.std.proofs.Common.{◌≡◌, Bool, false, ◌||◌, arith}

pub any_of_three : (a b c rest : Bool) → ((a || (b || (c || false))) || rest) ≡ (a || (b || (c || rest)))
any_of_three a b c rest = grind arith

pub any_of_two : (a b between : Bool) → ((a || (b || false)) || between) ≡ (a || (between || b))
any_of_two a b between = grind arith
