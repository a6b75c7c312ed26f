-- Worked books.
use Rattle.std.specs.Prelude.{◌≡◌, ℕ, List, [], ◌∷◌, ◌++◌, length, Some, None, Ok, Err, codes, Option, Result}
use Rattle.book.specs.declared.fault.Fault.{Fault}
use Rattle.book.specs.declared.fault.Fault.TheVariants.{NoForm, OneLetter, EnrolledBefore, NotEnrolled, Strange, TooMany, SecondAsk}
use Rattle.house.specs.declared.refusal.Refusal.{Refusal}
use Rattle.house.specs.View.{View, RuleView}
use Rattle.house.specs.Books.{house_read}

-- a held berth, a consent that needs it, an opening that needs the consent
abbrev pub seven_lines : List ℕ
seven_lines =
    codes "party Seal\n" ++ (codes "party Shipper\n" ++ (codes "party Port\n" ++ (codes "hold Port^Port.berth(Quay4)>Shipper\n" ++ (
    codes "rule Shipper^Shipper.consent(Seal)>Seal if Port^Port.berth(Quay4)>Shipper\n" ++ (
    codes "rule Seal^Seal.open(Port)>Port if Shipper^Shipper.consent(Seal)>Seal\n" ++
    codes "ask Seal^Seal.open(Port)>Port\n")))))

abbrev pub seven_view : View
seven_view =
    record {
      parties = record { place = 6; length = 4 } ∷ record { place = 17; length = 7 } ∷ record { place = 31; length = 4 } ∷ [];
      items =
          record { source = 2; destination = 1; credential = 0; part = record { place = 41; length = 30 } }
          ∷ record { source = 1; destination = 0; credential = 1; part = record { place = 77; length = 34 } }
          ∷ record { source = 0; destination = 2; credential = 2; part = record { place = 151; length = 25 } }
          ∷ [];
      rules = record { head = 0; body = [] } ∷ record { head = 1; body = 0 ∷ [] } ∷ record { head = 2; body = 1 ∷ [] } ∷ [];
      asked = Some 2;
      size = 245;
    }

abbrev pub fault_on : Fault → ℕ → Result View Refusal
fault_on f n = Err (record { fault = f; line = n })

-- the rules of the house that is read
abbrev pub rules_of : Result View Refusal → Option (List RuleView)
rules_of (Ok v) = Some v.rules
rules_of (Err f) = None

-- how many parties it has
abbrev pub parties_of : Result View Refusal → Option ℕ
parties_of (Ok v) = Some (length v.parties)
parties_of (Err f) = None

abbrev pub two : List ℕ
two = codes "party Seal\nparty Port\n"

abbrev pub shared_view : View
shared_view =
    record {
      parties = record { place = 6; length = 4 } ∷ record { place = 17; length = 4 } ∷ [];
      items =
          record { source = 1; destination = 0; credential = 0; part = record { place = 27; length = 24 } }
          ∷ record { source = 0; destination = 1; credential = 0; part = record { place = 56; length = 24 } }
          ∷ [];
      rules = record { head = 0; body = [] } ∷ [];
      asked = Some 1;
      size = 81;
    }

-- an opening that needs eight berths, and what follows the eighth
abbrev pub opening : List ℕ → List ℕ
opening last = two ++ (codes "rule Seal^Seal.open(Box7)>Port if " ++ (
    codes "Port^Port.berth(Q1)>Seal and Port^Port.berth(Q2)>Seal and Port^Port.berth(Q3)>Seal and Port^Port.berth(Q4)>Seal and " ++ (
    codes "Port^Port.berth(Q5)>Seal and Port^Port.berth(Q6)>Seal and Port^Port.berth(Q7)>Seal and Port^Port.berth(Q8)>Seal" ++ last)))

abbrev pub sixteen : List ℕ
sixteen =
    codes "party Pa\nparty Pb\nparty Pc\nparty Pd\nparty Pe\nparty Pf\nparty Pg\nparty Ph\n" ++
    codes "party Pi\nparty Pj\nparty Pk\nparty Pl\nparty Pm\nparty Pn\nparty Po\nparty Pp\n"

pub record Worked : Type 0 where
  pub empty : house_read [] ≡ Ok (record { parties = []; items = []; rules = []; asked = None; size = 0 })
  pub seven : house_read seven_lines ≡ Ok seven_view
  -- eight body items pass, nine do not, though the ninth repeats the first; a party that is not enrolled counts before
  pub eight : rules_of (house_read (opening (codes "\n"))) ≡ Some (record { head = 0; body = 1 ∷ 2 ∷ 3 ∷ 4 ∷ 5 ∷ 6 ∷ 7 ∷ 8 ∷ [] } ∷ [])
  pub nine : house_read (opening (codes " and Port^Port.berth(Q1)>Seal\n")) ≡ fault_on TooMany 3
  pub ninth_unknown : house_read (opening (codes " and Quay^Port.berth(Q1)>Seal\n")) ≡ fault_on NotEnrolled 3
  -- two items with one credential, the second first written behind `ask`
  pub shared : house_read (two ++ codes "hold Port^Port.berth(Q1)>Seal\nask Seal^Port.berth(Q1)>Port\n") ≡ Ok shared_view
  -- a repeated body item stands in the body once
  pub repeated : rules_of (house_read (two ++ codes "rule Seal^Seal.open(Box7)>Port if Port^Port.berth(Q1)>Seal and Port^Port.berth(Q1)>Seal\n")) ≡ Some (record { head = 0; body = 1 ∷ [] } ∷ [])
  -- each fault of a line
  pub no_form : house_read (codes "party Seal\nparty  Port\n") ≡ fault_on NoForm 2
  pub no_end : house_read (codes "party Seal") ≡ fault_on NoForm 1
  pub one_letter : house_read (two ++ codes "hold Seal^Seal.open(x)>Port\n") ≡ fault_on OneLetter 3
  pub twice : house_read (two ++ codes "party Seal\n") ≡ fault_on EnrolledBefore 3
  pub unknown : house_read (two ++ codes "hold Seal^Seal.open(Box7)>Quay\n") ≡ fault_on NotEnrolled 3
  pub strange : house_read (codes "party Quay\n" ++ (two ++ codes "rule Seal^Seal.open(Box7)>Port if Port^Port.berth(Q1)>Quay\n")) ≡ fault_on Strange 4
  pub second : house_read (two ++ codes "ask Seal^Seal.open(Box7)>Port\nask Seal^Seal.open(Box7)>Port\n") ≡ fault_on SecondAsk 4
  -- sixteen parties pass, seventeen do not
  pub most_parties : rules_of (house_read sixteen) ≡ Some []
  pub sixteen_parties : parties_of (house_read sixteen) ≡ Some 16
  pub more_parties : house_read (sixteen ++ codes "party Pq\n") ≡ fault_on TooMany 17
  -- two faults in a line: the smaller counts
  pub one_letter_unknown : house_read (two ++ codes "hold Quay^Seal.open(x)>Port\n") ≡ fault_on OneLetter 3
  pub unknown_strange : house_read (two ++ codes "rule Seal^Seal.open(Box7)>Port if Port^Port.berth(Q1)>Quay\n") ≡ fault_on NotEnrolled 3
  pub strange_many : house_read (opening (codes " and Port^Port.berth(Q1)>Port\n")) ≡ fault_on Strange 3
  pub twice_many : house_read (sixteen ++ codes "party Pp\n") ≡ fault_on EnrolledBefore 17
  pub unknown_second : house_read (two ++ codes "ask Seal^Seal.open(Box7)>Port\nask Seal^Seal.open(Box7)>Quay\n") ≡ fault_on NotEnrolled 4
