-- The stage of grammar as a machine: a stack of what may still come, fed one word after the other. It gives the tree, or the first word at fault: 3 where no legal text goes on with it, 10 where it passes a ceiling (01, "Ceilings").
use Rattle.std.specs.Prelude.{Bool, true, false, cond, List, [], ◌∷◌, ◌++◌, ℕ, suc, ◌-◌, eqb, leb, drop}
use Rattle.language.specs.Ceilings.{deepest, most_counted, most_facilities, most_operations, most_states}
use Rattle.language.specs.Building.{name_of}
use Rattle.language.specs.Kinds.{a_name}
use Rattle.language.specs.declared.refusals.Refusal.TheVariants.{CeilingPassed, NoContinuation}
use Rattle.language.specs.Scan.{same}
use Rattle.language.specs.BuildSteps.{Step, Steps}
use Rattle.language.specs.Words.{Fault, Position, Word, fault, kind_of, position, word_at}
use Rattle.language.specs.Tests.{both}

pub data Tally : Type 0 where
  facility operation state counted : Tally

pub record Counts : Type 0 where
  pub facilities : ℕ
  pub operations : ℕ
  pub states : ℕ
  pub counted : ℕ
  -- brackets, conditionals and prefix operators that are open
  pub nesting : ℕ

abbrev pub no_counts : Counts
no_counts = record { facilities = 0; operations = 0; states = 0; counted = 0; nesting = 0 }

abbrev pub more : Tally → Counts → Counts
more facility c = record { facilities = suc c.facilities; operations = c.operations; states = c.states; counted = c.counted; nesting = c.nesting }
more operation c = record { facilities = c.facilities; operations = suc c.operations; states = c.states; counted = c.counted; nesting = c.nesting }
more state c = record { facilities = c.facilities; operations = c.operations; states = suc c.states; counted = c.counted; nesting = c.nesting }
more counted c = record { facilities = c.facilities; operations = c.operations; states = c.states; counted = suc c.counted; nesting = c.nesting }

unfoldable pub tallied : List Tally → Counts → Counts
tallied [] c = c
tallied (t ∷ ts) c = tallied ts (more t c)

abbrev pub nested : ℕ → Counts → Counts
nested n c = record { facilities = c.facilities; operations = c.operations; states = c.states; counted = c.counted; nesting = n }

unfoldable pub within_ceilings : Counts → Bool
unfolding most_facilities most_operations most_states most_counted deepest
within_ceilings c =
    both (leb c.facilities most_facilities)
    (both (leb c.operations most_operations)
    (both (leb c.states most_states)
    (both (leb c.counted most_counted) (leb c.nesting deepest))))

-- ---- The rules as data.

-- How a word bears on nesting.
pub data Bearing : Type 0 where
  level opens closes : Bearing

-- The machine's notions: the starts and the tails of expressions, references, actions, declarations and sections.
pub data Ask : Type 0 where
  -- expressions, by what may begin there
  expression minterm product complement reduction adjustment arithmetic term : Ask
  or_tail exclusive_tail and_tail con_tail cut_tail relation_tail arithmetic_tail more_arms : Ask
  -- references: after a name, after `[`, after a constant there, after the first subscript
  subscripts subscript after_constant operand_rest after_subscript second_option second after_second_constant second_rest second_end : Ask
  -- actions
  operation_action state_action operation_more state_rest state_more operation_name state_name left_rest store_sign set_sign : Ask
  operation_if_rest state_if_rest operation_arms state_arms : Ask
  -- declarations
  dimensions range_rest dimension_rest : Ask
  register_spec sequencing_spec memory_spec terminal_spec register_more memory_more terminal_more : Ask
  terminal_dimensions terminal_rest terminal_function function_of : Ask
  operation_spec operations_more : Ask
  -- states and sections
  state_start first_name state_body states_more : Ask
  sections after_registers after_memories after_terminals control dollar_option : Ask

-- What may still come: a word of a kind, one that is kept, the declared name once more, what a notion asks for; and steps that take no word: a node is built, or a prefix operator's operand ends.
pub data Sym (B : Type 0) : Type 0 where
  word : ℕ → Bearing → Sym B
  keep : ℕ → Sym B
  again : Sym B
  ask : Ask → Sym B
  make : Step B → Sym B
  ease : Sym B

-- A way in which a notion may begin: the word; a step to take before it; whether it is kept; what it counts as; how it nests; whether it stands instead of the next symbol; and what then comes.
pub record Alternative (B : Type 0) : Type 0 where
  pub on : ℕ
  pub first : Step B
  pub kept : Bool
  pub tallies : List Tally
  pub bearing : Bearing
  pub instead : Bool
  pub to : List (Sym B)

-- What becomes of a notion where the word begins none of its ways: it must come; it may be left out with a step; or it may be left out and the word kept last counts as an operand or action.
pub data Without (B : Type 0) : Type 0 where
  must : Without B
  may : Step B → Without B
  operand : Step B → Without B

pub record Rule (B : Type 0) : Type 0 where
  pub ways : List (Alternative B)
  pub without : Without B

-- ---- One word.

-- What has been read: what was built of it, and the counts.
pub record Reading (B : Type 0) : Type 0 where
  pub built : B
  pub counts : Counts

pub data Fed (B : Type 0) : Type 0 where
  took : List (Sym B) → Reading B → Fed B
  wrong : Fault → Fed B

-- What the whole text gives.
pub data Parsed (B : Type 0) : Type 0 where
  parsed : B → Parsed B
  refused : Fault → Parsed B

abbrev pub bears : Bearing → ℕ → ℕ
bears level n = n
bears opens n = suc n
bears closes n = n - 1

abbrev pub reading : {B : Type 0} → B → Counts → Reading B
reading b c = record { built = b; counts = c }

-- The machine over some steps; `fits` says whether counts are within the ceilings.
module _ {B : Type 0} (S : Steps B) (fits : Counts → Bool) where
  -- The word at p is taken with these counts, unless one passes its ceiling.
  abbrev pub taken : Position → List (Sym B) → B → Counts → Fed B
  taken p K b c = cond (fits c) (took K (reading b c)) (wrong (fault p CeilingPassed))

  abbrev pub kept_if : Bool → Word → B → B
  kept_if true w b = S.keep_word w b
  kept_if false w b = b

  abbrev pub take_way : Alternative B → Word → List (Sym B) → Reading B → Fed B
  take_way a w K r =
      taken (word_at w) (a.to ++ cond a.instead (drop 1 K) K) (kept_if a.kept w (a.first (word_at w) r.built))
      (nested (bears a.bearing r.counts.nesting) (tallied a.tallies r.counts))

  -- The first way that begins with the word, or else `other`.
  unfoldable pub choose : List (Alternative B) → Word → List (Sym B) → Reading B → Fed B → Fed B
  choose [] w K r other = other
  choose (a ∷ rest) w K r other =
      let next = choose rest w K r other in
      let here = take_way a w K r in
      cond (eqb (kind_of w) a.on) here next

  abbrev pub stuck : Word → Fed B
  stuck w = wrong (fault (word_at w) NoContinuation)

  -- The word kept last counts.
  abbrev pub count_kept : Reading B → Counts
  count_kept r = more counted r.counts

  abbrev pub kept_at : Reading B → Position
  kept_at r = word_at (S.last_word r.built)

  -- What becomes of a notion that is left out before w; `on` is how it goes on.
  abbrev pub leave : Without B → Word → Reading B → (Reading B → Fed B) → Fed B
  leave must w r on = stuck w
  leave (may f) w r on = on (reading (f (word_at w) r.built) r.counts)
  leave (operand f) w r on =
      let here = on (reading (f (word_at w) r.built) (count_kept r)) in
      cond (fits (count_kept r)) here (wrong (fault (kept_at r) CeilingPassed))

  -- The same where the text ended.
  abbrev pub leave_at_end : Without B → ℕ → Reading B → (Reading B → Parsed B) → Parsed B
  leave_at_end must end r on = refused (fault (position end) NoContinuation)
  leave_at_end (may f) end r on = on (reading (f (position end) r.built) r.counts)
  leave_at_end (operand f) end r on =
      let here = on (reading (f (position end) r.built) (count_kept r)) in
      cond (fits (count_kept r)) here (refused (fault (kept_at r) CeilingPassed))

  module _ (rules : Ask → Rule B) where
    unfoldable pub feed : List (Sym B) → Word → Reading B → Fed B
    feed [] w r = stuck w
    feed (word k b ∷ K) w r =
        let here = taken (word_at w) K r.built (nested (bears b r.counts.nesting) r.counts) in
        cond (eqb (kind_of w) k) here (stuck w)
    feed (keep k ∷ K) w r =
        let here = took K (reading (S.keep_word w r.built) r.counts) in
        cond (eqb (kind_of w) k) here (stuck w)
    feed (again ∷ K) w r = cond (both (eqb (kind_of w) a_name) (same (name_of w) (S.declared_name r.built))) (took K r) (stuck w)
    feed (make f ∷ K) w r = feed K w (reading (f (word_at w) r.built) r.counts)
    feed (ease ∷ K) w r = feed K w (reading r.built (nested (r.counts.nesting - 1) r.counts))
    feed (ask n ∷ K) w r =
        let other = leave (rules n).without w r (λ q. feed K w q) in
        choose (rules n).ways w K r other

    unfoldable pub finish : List (Sym B) → ℕ → Reading B → Parsed B
    finish [] end r = parsed r.built
    finish (word k b ∷ K) end r = refused (fault (position end) NoContinuation)
    finish (keep k ∷ K) end r = refused (fault (position end) NoContinuation)
    finish (again ∷ K) end r = refused (fault (position end) NoContinuation)
    finish (make f ∷ K) end r = finish K end (reading (f (position end) r.built) r.counts)
    finish (ease ∷ K) end r = finish K end (reading r.built (nested (r.counts.nesting - 1) r.counts))
    finish (ask n ∷ K) end r = leave_at_end (rules n).without end r (λ q. finish K end q)

    abbrev pub after : Fed B → (List (Sym B) → Reading B → Parsed B) → Parsed B
    after (took K r) on = on K r
    after (wrong f) on = refused f

    -- The words of a text of `end` bytes, from a stack on.
    unfoldable pub run : List (Sym B) → List Word → ℕ → Reading B → Parsed B
    run K [] end r = finish K end r
    run K (w ∷ ws) end r = after (feed K w r) (λ L q. run L ws end q)
