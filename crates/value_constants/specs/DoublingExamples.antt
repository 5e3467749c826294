-- The five sums, computed.
use Rattle.std.specs.Prelude.{true, false, ◌≡◌, refl, ◌-◌, ◌/◌, ◌^◌}
use Rattle.value_constants.specs.Doubling.{adding, by_doubling}

-- After 6553 the digit 7.
digit-more : by_doubling (record { low = 6553; passed = false }) 7 ≡ record { low = 65537; passed = false }
unfolding by_doubling adding
digit-more = refl

-- The digit that gives 256 ones, and one more, with which the last sum passes.
largest : by_doubling (record { low = 2 ^ 256 / 10; passed = false }) 5 ≡ record { low = 2 ^ 256 - 1; passed = false }
unfolding by_doubling adding
largest = refl

last-passes : by_doubling (record { low = 2 ^ 256 / 10; passed = false }) 6 ≡ record { low = 0; passed = true }
unfolding by_doubling adding
last-passes = refl

-- Five times the number passes, and no other of the sums.
third-passes : by_doubling (record { low = 2 ^ 254 - 1; passed = false }) 9 ≡ record { low = 2 ^ 255 - 1; passed = true }
unfolding by_doubling adding
third-passes = refl

-- What has passed stays so.
stays-passed : by_doubling (record { low = 0; passed = true }) 1 ≡ record { low = 1; passed = true }
unfolding by_doubling adding
stays-passed = refl
