-- The refusals of the stage of grammar, with their places (01, "Refusal numbers"): 3 at the first word with no legal continuation, 10 where a count or the nesting passes its ceiling; 3 goes before 10 at one word, and the smallest place before all.
use Rattle.std.specs.Prelude.{true, false, List, [], ◌∷◌, ◌++◌, ◌≡◌, ℕ, length, take}
use Rattle.language.specs.CountedWords.{WithinCeilings}
use Rattle.language.specs.Grammar.{Is}
use Rattle.language.specs.Machine.{Counts, no_counts, within_ceilings}
use Rattle.language.specs.Ceilings.{deepest}
use Rattle.language.specs.Notions.{text, whole_text}
use Rattle.language.specs.declared.refusals.Refusal.TheVariants.{CeilingPassed, NoContinuation}
use Rattle.language.specs.Tree.{Text}
use Rattle.language.specs.Words.{Fault, Position, Word, fault, position, word_at}
use Rattle.about_grammar.specs.Counting.{counts_behind, marks}

-- The words are a text of the grammar with this tree, within the ceilings.
abbrev pub Legal : List Word → Text → Type 0
Legal ws t = Is whole_text deepest ws (text t) × WithinCeilings t

-- ---- Texts, ceilings apart.

-- The words are a text of the grammar.
pub record IsText (ws : List Word) : Type 0 where
  pub depth : ℕ
  pub tree : Text
  pub derived : Is whole_text depth ws (text tree)

-- Some text of the grammar begins with these words.
pub record Begins (ws : List Word) : Type 0 where
  pub more : List Word
  pub is-text : IsText (ws ++ more)

-- What the first k words of a text count: facilities, operations, states, and operators, operands and actions together; and how many brackets, conditionals and prefix operators are open behind the k-th.
unfoldable pub counts_to : {ws : List Word} → ℕ → IsText ws → Counts
counts_to k t = counts_behind (take k (marks t.derived 0 [])) no_counts

abbrev pub Within : Counts → Type 0
Within c = within_ceilings c ≡ true

-- ---- 3.

-- Behind the words us nothing legal comes: with the next word, at p, no text begins; or the words end, at p, and are no text.
pub data NoWay (us : List Word) (end : ℕ) : List Word → Position → Type 0 where
  with-word : (w : Word) (vs : List Word) → (Begins (us ++ w ∷ []) → ⊥) → NoWay us end (w ∷ vs) (word_at w)
  with_nothing : (IsText us → ⊥) → NoWay us end [] (position end)

-- The first word with no legal continuation, or the end.
pub record FirstFault (ws : List Word) (end : ℕ) (p : Position) : Type 0 where
  -- the words before the fault, and those from it on
  pub us : List Word
  pub left : List Word
  pub split : ws ≡ us ++ left
  pub begun : Begins us
  pub none : NoWay us end left p

-- ---- 10.

-- No text that goes on behind the words us as these do counts within the ceilings up to there.
pub data NoneWithin (us : List Word) : List Word → Type 0 where
  past_word : (w : Word) (vs : List Word) → ((t : Begins (us ++ w ∷ [])) → Within (counts_to (length us) t.is-text) → ⊥) → NoneWithin us (w ∷ vs)
  past_end : ((t : IsText us) → Within (counts_to (length us) t) → ⊥) → NoneWithin us []

-- The word that passes a ceiling. A name or a constant may count or not by the word behind it, so both what some text says and what none denies are asked.
pub record PlaceOfTen (ws : List Word) (p : Position) : Type 0 where
  -- the words before it, the word, and those behind it
  pub us : List Word
  pub here : Word
  pub left : List Word
  pub split : ws ≡ us ++ here ∷ left
  pub place : word_at here ≡ p
  -- some text begins so; it counts within the ceilings at each word before, and passes one here
  pub begun : Begins (us ++ here ∷ [])
  pub within : (vs ws : List Word) → us ≡ vs ++ ws → Within (counts_to (length vs) begun.is-text)
  pub past : within_ceilings (counts_to (length (us ++ here ∷ [])) begun.is-text) ≡ false
  -- and so does every text that goes on as these words do
  pub none : NoneWithin (us ++ here ∷ []) left

-- ---- A refusal, with its number and its place.

pub data RefusalOf (ws : List Word) (end : ℕ) : Fault → Type 0 where
  three : (p : Position) → FirstFault ws end p → ((q : Position) → PlaceOfTen ws q → ⊥) → RefusalOf ws end (fault p NoContinuation)
  ten : (p : Position) → PlaceOfTen ws p → RefusalOf ws end (fault p CeilingPassed)
