-- The number of each fault.
use Rattle.std.specs.Prelude.{ℕ}
use Rattle.book.specs.declared.fault.Fault.{Fault}
use Rattle.book.specs.declared.fault.Fault.TheVariants.{TooLong, NoForm, OneLetter, EnrolledBefore, NotEnrolled, Strange, TooMany, SecondAsk}

abbrev pub fault_number : Fault → ℕ
fault_number TooLong = 1
fault_number NoForm = 2
fault_number OneLetter = 3
fault_number EnrolledBefore = 4
fault_number NotEnrolled = 5
fault_number Strange = 6
fault_number TooMany = 7
fault_number SecondAsk = 8
