-- The worked books, computed.
use Rattle.std.proofs.Common.{refl}
use Rattle.book.specs.Reading.{name_in, word_in, terms_in, credential_in, item_in, more_in, party_in, hold_in, rule_in, ask_in, line_in}
use Rattle.house.specs.Worked.{Worked}

pub worked : Worked
unfolding name_in word_in terms_in credential_in item_in more_in party_in hold_in rule_in ask_in line_in
worked =
    record {
      empty = refl;
      seven = refl;
      eight = refl;
      nine = refl;
      ninth_unknown = refl;
      shared = refl;
      repeated = refl;
      no_form = refl;
      no_end = refl;
      one_letter = refl;
      twice = refl;
      unknown = refl;
      strange = refl;
      second = refl;
      most_parties = refl;
      sixteen_parties = refl;
      more_parties = refl;
      one_letter_unknown = refl;
      unknown_strange = refl;
      strange_many = refl;
      twice_many = refl;
      unknown_second = refl;
    }
