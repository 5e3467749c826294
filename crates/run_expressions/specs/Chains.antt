-- A chain: operators with one operand, each right behind the record that is its operand.
use Rattle.std.specs.Prelude.{List, ◌≡◌, ℕ, ◌+◌, ◌<◌, ◌≤◌}
use Rattle.std.proofs.Math.Option.{Option, none, some}
use Rattle.language.specs.Decode.{node_of}
use Rattle.language.specs.Description as D
use Rattle.language.specs.Meaning.{Answer, after, missed, worth_or, wrong_count, wrong_length}
use Rattle.language.specs.Operators.{cut_of, is_cut, is_prefix, prefix_of}
use Rattle.language.specs.Value.{Value}

-- The operand of an operator with one.
unfoldable pub operand_of : D.Node → Option ℕ
operand_of (D.constant v) = none
operand_of (D.more m) = none
operand_of (D.whole f) = none
operand_of (D.one f e) = none
operand_of (D.part f b) = none
operand_of (D.two f e g) = none
operand_of (D.word_part f e b) = none
operand_of (D.binary k a b) = none
operand_of (D.prefix k a) = some a
operand_of (D.cut k a c) = some a
operand_of (D.first_arm e) = none
operand_of (D.next_arm a e) = none
operand_of (D.choice e a n) = none
operand_of D.Node.broken = none

-- What a record makes of its operand's value, where it is an operator with one operand; any other record leaves what is in hand.
unfoldable pub operated_on : D.Node → Value → Answer
operated_on (D.constant v) x = Answer.is x
operated_on (D.more m) x = Answer.is x
operated_on (D.whole f) x = Answer.is x
operated_on (D.one f e) x = Answer.is x
operated_on (D.part f b) x = Answer.is x
operated_on (D.two f e g) x = Answer.is x
operated_on (D.word_part f e b) x = Answer.is x
operated_on (D.binary k a b) x = Answer.is x
operated_on (D.prefix k a) x = worth_or (missed (is_prefix k) wrong_length) (prefix_of k x)
operated_on (D.cut k a c) x = worth_or (missed (is_cut k) wrong_count) (cut_of k x c)
operated_on (D.first_arm e) x = Answer.is x
operated_on (D.next_arm a e) x = Answer.is x
operated_on (D.choice e a n) x = Answer.is x
operated_on D.Node.broken x = Answer.is x

-- Behind record b, up to record n, each record's one operand is the record right before it.
abbrev pub Chain : List ℕ → ℕ → ℕ → Type 0
Chain E b n = (i : ℕ) → b ≤ i → i < n → operand_of (node_of E (i + 1)) ≡ some i

-- Behind record b, up to record n, each record's worth is made from that of the record right before it.
abbrev pub Follow : List ℕ → (ℕ → Answer) → ℕ → ℕ → Type 0
Follow E worth b n = (i : ℕ) → b ≤ i → i < n → worth (i + 1) ≡ after (worth i) (operated_on (node_of E (i + 1)))

-- With a in hand for record b, the answer r is the worth of record n.
abbrev pub Climbed : List ℕ → ℕ → ℕ → Answer → Answer → Type 0
Climbed E b n a r = (worth : ℕ → Answer) → b ≤ n → Follow E worth b n → after a (operated_on (node_of E b)) ≡ worth b → r ≡ worth n
