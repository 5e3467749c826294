-- Ranges: their ends as trees, and as the code has them.
use Rattle.std.specs.Prelude.{List, [], ◌∷◌, ◌≡◌, ℕ, Result}
use Rattle.parse_step.specs.declared.State.{State}
use Rattle.parse_step.specs.Course.{Seen, Stack, runs}
use Rattle.parse_step.specs.Taken.{constant_word}
use Rattle.language.specs.Building.{Built, constant_of, with_ends}
use Rattle.language.specs.Describe.{bounds_of}
use Rattle.language.specs.Kinds.{a_constant}
use Rattle.language.specs.Machine.{ask, keep, range_rest}
use Rattle.language.specs.Notions.{one_bound, pair_of}
use Rattle.language.specs.Tree as T
use Rattle.parse_tables.specs.declared.extents.Ends.{Ends}
use Rattle.parse_tables.specs.Facilities.{ends_bounds}
use Rattle.text_words.specs.declared.Word.{Word}
use Rattle.text_words.specs.Meaning.{positioned}
use Rattle.parse_bounds.specs.declared.ranges.Ranged.{Ranged}
use Rattle.parse_bounds.specs.Telling.{Tells, same}
use Rattle.parse_step.specs.declared.Unread.{Unread}

-- The bounds of these ends, as far as any rule tells them apart, and their places.
pub record Bounded (x : T.Ends) (e : Ends) : Type 0 where
  pub bounds : bounds_of x ≡ ends_bounds e
  pub left : x.first_at ≡ positioned e.left
  pub right : x.last_at ≡ positioned e.right

abbrev pub both_ends : Word → Word → T.Ends
both_ends v w = pair_of (constant_of (constant_word v)) (positioned v.at) (constant_of (constant_word w)) (positioned w.at)

abbrev pub last_end : Word → T.Ends
last_end w = pair_of one_bound (positioned w.at) (constant_of (constant_word w)) (positioned w.at)

-- A range waits on its row.
abbrev pub with_range : T.Ends → Built → Built
with_range x b = with_ends b (x ∷ b.ends)

abbrev pub range_stack : Stack
range_stack = keep a_constant ∷ ask range_rest ∷ []

pub record RangeRead (text : List ℕ) (w : Word) (s : State) (r : Ranged) : Type 0 where
  pub tree : T.Ends
  pub course : (K : Stack) (b : Built) → runs text (keep a_constant ∷ ask range_rest ∷ K) w b s ≡ runs text K r.reached.next (with_range tree b) r.reached.state
  pub state : r.reached.state ≡ s
  pub ends : Bounded tree r.ends
  pub seen : Seen text r.reached.next

abbrev pub Ranges : List ℕ → Word → State → Result Ranged Unread → Type 0
Ranges text w s r = Seen text w → Tells text range_stack same w s r (RangeRead text w s)
