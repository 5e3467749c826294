-- The ceilings of document 01, each by its name.
use Rattle.std.specs.Prelude.{ℕ}

-- Bytes of a text; columns of a line; letters and digits of a name.
unfoldable pub longest_text : ℕ
longest_text = 32768

unfoldable pub longest_line : ℕ
longest_line = 132

unfoldable pub longest_name : ℕ
longest_name = 132

-- Facilities, operations and states; operators, operands and actions, counted together; what is open at a word.
unfoldable pub most_facilities : ℕ
most_facilities = 256

unfoldable pub most_operations : ℕ
most_operations = 128

unfoldable pub most_states : ℕ
most_states = 256

unfoldable pub most_counted : ℕ
most_counted = 2048

unfoldable pub deepest : ℕ
deepest = 24

-- Bits of a value; a bound; a bare constant; bytes of a store; work of a state.
unfoldable pub longest : ℕ
longest = 256

unfoldable pub largest_bound : ℕ
largest_bound = 65535

unfoldable pub bare_largest : ℕ
bare_largest = 65535

unfoldable pub largest_store : ℕ
largest_store = 16384

unfoldable pub most_work : ℕ
most_work = 65536

-- Returns that a record holds; the last number of a cycle.
unfoldable pub most_returns : ℕ
most_returns = 16

unfoldable pub last_cycle : ℕ
last_cycle = 4294967295
