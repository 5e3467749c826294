-- What taking a word leaves, and what a refusal says.
use Rattle.std.specs.Prelude.{Bool, true, false, List, [], ◌∷◌, ◌≡◌, ℕ, suc, ◌≤◌, eqb, Err, Ok, Result}
use Rattle.language.specs.Building.{Built, keep_word}
use Rattle.language.specs.Kinds.{a_constant, colon}
use Rattle.language.specs.Machine.{Counts, keep, refused, within_ceilings, word}
use Rattle.language.specs.declared.refusals.Refusal.{Refusal}
use Rattle.language.specs.declared.refusals.Refusal.TheVariants.{CeilingPassed, NoContinuation}
use Rattle.language.specs.Scan.{written}
use Rattle.language.specs.Words as L
use Rattle.value_operators.specs.Meaning.{valued}
use Rattle.text_words.specs.declared.Fault.{Fault}
use Rattle.text_words.specs.declared.Word.{Word}
use Rattle.text_words.specs.Meaning.{faulted, positioned}
use Rattle.parse_step.specs.declared.Bearing.{Bearing}
use Rattle.parse_step.specs.declared.State.{State}
use Rattle.parse_step.specs.Course.{Seen, Stack, ahead, bearing_of, behind, borne, counts5, counts_of, runs, kind_no}
use Rattle.language.specs.Tests.{both}
use Rattle.parse_step.specs.declared.Unread.TheVariants.{Full, Refused}
use Rattle.parse_step.specs.Answers.{Answer}
use Rattle.parse_step.specs.declared.Reached.{Reached}
use Rattle.parse_step.specs.declared.Unread.{Unread}

abbrev pub tally_of : ℕ → Bool → ℕ
tally_of n true = suc n
tally_of n false = n

-- The counts after a word.
abbrev pub after_word : Bool → Bearing → State → Counts
after_word counts b s = counts5 s (tally_of s.counted counts) (borne b s.nesting)

pub record Refuses {T : Type 0} (w : Word) (n : Refusal) (r : Result T Unread) : Type 0 where
  pub fault : Fault
  pub refused : r ≡ Err (Refused fault)
  pub is : faulted fault ≡ L.fault (positioned w.at) n

-- Facilities known and records written are as they were.
pub record Kept (s s' : State) : Type 0 where
  pub nodes : s'.nodes ≡ s.nodes
  pub actions : s'.actions ≡ s.actions
  pub known : s'.known ≡ s.known

-- The word behind w.
pub record Follows (text : List ℕ) (w r : Word) : Type 0 where
  pub words : Seen text w → ahead text r ≡ behind text w
  pub seen : Seen text r

-- The counts c of the word w fit, and the next word is as it was.
pub record WentOn (w next : Word) (c : Counts) (s : State) (r : Reached) : Type 0 where
  pub fits : within_ceilings c ≡ true
  pub counts : counts_of r.state ≡ c
  pub deep : r.state.nesting ≤ 24
  pub kept : Kept s r.state
  pub word : r.next ≡ next

pub record Went (w next : Word) (c : Counts) (s : State) (r : Answer) : Type 0 where
  pub done : {r' : Reached} → r ≡ Ok r' → WentOn w next c s r'
  pub refused : (f : Fault) → r ≡ Err (Refused f) → (within_ceilings c ≡ false) × (faulted f ≡ L.fault (positioned w.at) CeilingPassed)
  pub full : {z : State} → r ≡ Err (Full z) → ⊥

-- The word w was taken with the counts c.
pub record Passed (text : List ℕ) (w : Word) (c : Counts) (s : State) (r : Reached) : Type 0 where
  pub fits : within_ceilings c ≡ true
  pub counts : counts_of r.state ≡ c
  pub deep : r.state.nesting ≤ 24
  pub kept : Kept s r.state
  pub words : Seen text w → ahead text r.next ≡ behind text w
  pub seen : Seen text r.next

pub record Took (text : List ℕ) (w : Word) (c : Counts) (s : State) (r : Answer) : Type 0 where
  pub done : {r' : Reached} → r ≡ Ok r' → Passed text w c s r'
  pub refused : (f : Fault) → r ≡ Err (Refused f) → (within_ceilings c ≡ false) × (faulted f ≡ L.fault (positioned w.at) CeilingPassed)
  pub full : {z : State} → r ≡ Err (Full z) → ⊥

-- A word of a kind that must come.
pub record Expected (text : List ℕ) (kind : ℕ) (b : Bearing) (w : Word) (s : State) (r : Answer) : Type 0 where
  pub came : kind_no w.kind ≡ kind → Took text w (after_word false b s) s r
  pub missed : (kind_no w.kind ≡ kind → ⊥) → Refuses w NoContinuation r
  pub done : {r' : Reached} → r ≡ Ok r' → Seen text w → 3 ≤ kind → Passed text w (after_word false b s) s r' × ((K : Stack) (x : Built) → runs text (word kind (bearing_of b) ∷ K) w x s ≡ runs text K r'.next x r'.state)
  pub refused : (f : Fault) → r ≡ Err (Refused f) → Seen text w → 3 ≤ kind → (K : Stack) (x : Built) → runs text (word kind (bearing_of b) ∷ K) w x s ≡ refused (faulted f)
  pub full : {z : State} → r ≡ Err (Full z) → ⊥

-- A constant as the language's word.
abbrev pub constant_word : Word → L.Word
constant_word w = L.constant (written w.bare (valued w.value)) (positioned w.at)

-- A constant that must come is kept.
pub record KeptOn (text : List ℕ) (w : Word) (s : State) (r : Reached) : Type 0 where
  pub course : (K : Stack) (x : Built) → runs text (keep a_constant ∷ K) w x s ≡ runs text K r.next (keep_word (constant_word w) x) r.state
  pub kind : kind_no w.kind ≡ a_constant
  pub state : r.state ≡ s
  pub seen : Seen text r.next

pub record Keeps (text : List ℕ) (w : Word) (s : State) (r : Answer) : Type 0 where
  pub done : {r' : Reached} → r ≡ Ok r' → Seen text w → KeptOn text w s r'
  pub refused : (f : Fault) → r ≡ Err (Refused f) → Seen text w → (K : Stack) (x : Built) → runs text (keep a_constant ∷ K) w x s ≡ refused (faulted f)
  pub full : {z : State} → r ≡ Err (Full z) → ⊥

-- Whether the words begin with a constant and a colon.
abbrev pub colon_first : List L.Word → Bool
colon_first [] = false
colon_first (v ∷ vs) = eqb (L.kind_of v) colon

abbrev pub ends_ahead : List L.Word → Bool
ends_ahead [] = false
ends_ahead (v ∷ vs) = both (eqb (L.kind_of v) a_constant) (colon_first vs)
