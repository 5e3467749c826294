-- Inputs, as the code reads them.
use mathlib.Core.Bool.{Bool, true, false, true≢false}
use mathlib.Core.List.{List, [], ◌∷◌, ◌++◌, map}
use mathlib.Core.Path.{◌≡◌, refl, sym, ap, ◌∙◌}
use Prim.Native.Nat.{ℕ, suc, ◌-◌}
use native.Mathlib.Omega.{arith}
use borrow.Author.Tests.{eqb-false, eqb-true}
use lib.Dec.{eqb}
use lib.ListN.{drop, take}
use Rattle.language.specs.declared.refusals.Refusal.TheVariants.{NoContinuation}
use Rattle.parse_step.proofs.Saying.{makes-it}
use Rattle.parse_step.proofs.TakenWords.{took-done, word-stuck}
use Rattle.parse_step.specs.Answers.{Answer}
use Rattle.parse_step.specs.declared.Reached.{Reached}
use Rattle.parse_step.specs.declared.Unread.{Unread}
use Rattle.std.specs.Prelude.{Err, Ok}
use Rattle.parse_step.specs.declared.Bearing.TheVariants.{Closes, Level, Opens}
use Rattle.parse_step.specs.declared.State.{State}
use Rattle.parse_step.specs.Course.{Seen, Stack, behind, counts_of, kind_no, runs, runs_on}
use Rattle.parse_step.specs.Taken.{Expected, Passed, Refuses, Took, after_word}
use Rattle.parse_facilities.specs.Specs.{declaration_of}
use Rattle.parse_step.proofs.States.{state-of}
use Rattle.parse_bounds.proofs.Telling.{expected, not-expected, not-taken, refuses, through, untold, word-taken}
use Rattle.parse_bounds.specs.Extents.{closed_state}
use Rattle.parse_bounds.specs.Telling.{same}
use Rattle.image_sections.specs.declared.facilities.FacilityKind.TheVariants as F
use Rattle.language.specs.Alternatives.{closing, plain_word}
use Rattle.language.specs.Building.{Built, word_no}
use Rattle.language.specs.Characters.{folded}
use Rattle.language.specs.Declaring.{make_input}
use Rattle.language.specs.Kinds.{a_constant, a_name, close_paren, comma, input_word, open_paren}
use Rattle.language.specs.Machine.{again, ask, function_of, level, make, within_ceilings}
use Rattle.language.specs.Scan as L
use Rattle.language.specs.Tree as T
use Rattle.language.specs.Words.{Position, position}
use Rattle.parse_operands.specs.References.{letters_of}
use Rattle.text_words.specs.declared.Word.{Word}
use Rattle.text_words.specs.Meaning.{positioned}
use Rattle.parse_array.specs.Names.{letters}
use Rattle.parse_terminals.specs.Inputs.{Closing, Constants, InputRead, Inputs, Moved, Repeats, at_function, name_stack, with_one}
use Rattle.parse_terminals.proofs.FunctionWords.{constant-taken, input-taken, input_stack, name-different, name-same, no_name}

-- ---- A constant that is not kept.

module _ {text : List ℕ} {w : Word} {s : State} {a : Answer} where
  constant-read : kind_no w.kind ≡ a_constant → Took text w (counts_of s) s a → Constants text w s a
  constant-read e t z = word-taken t (λ v d. read v (t.done d)) (λ K. K) same (λ K b. constant-taken text w K b s z e)
    where
      read : (v : Reached) → Passed text w (counts_of s) s v → Moved text (plain_word a_constant ∷ []) same w s v
      read v p = record { course = λ K b. constant-taken text w K b s z e ∙ took-done p z K b; state = state-of p.counts p.kept; seen = p.seen }

  constant-not : (kind_no w.kind ≡ a_constant → ⊥) → Refuses w NoContinuation a → Constants text w s a
  constant-not n r z = refuses NoContinuation r (λ K b. word-stuck text w 2 level z n K b (counts_of s))

  constant-told : Expected text a_constant Level w s a → Constants text w s a
  constant-told x = by-test (eqb (kind_no w.kind) a_constant) refl
    where
      by-test : (b : Bool) → eqb (kind_no w.kind) a_constant ≡ b → Constants text w s a
      by-test true t = let e = eqb-true _ _ t in constant-read e (x.came e)
      by-test false t = let n = eqb-false _ _ t in constant-not n (x.missed n)

-- ---- The declared name once more.

-- Words are compared by their letters.
pub letters-alike : (text : List ℕ) (v w : Word) {p q : ℕ} {a b : List ℕ} → position p ≡ positioned v.at → position q ≡ positioned w.at → a ≡ take v.size (drop p text) → b ≡ take w.size (drop q text)
    → L.same (map folded b) (map folded a) ≡ L.same (letters_of text w) (letters_of text v)
unfolding letters
letters-alike text v w {p} {q} e f g h =
    rw (g, h) (ap (λ (x : Position). L.same (letters text x.place w.size) (letters text p v.size)) f ∙ ap (λ (x : Position). L.same (letters_of text w) (letters text x.place v.size)) e)

module _ {text : List ℕ} (name : Word) {w : Word} {s : State} where
  pub repeated : {a : Answer} → kind_no w.kind ≡ a_name → L.same (letters_of text w) (letters_of text name) ≡ true → Took text w (counts_of s) s a → Repeats text name w s a
  unfolding word_no letters
  repeated {a} e h t x equal z f = record { done = λ d. read _ (t.done d); refused = λ i d. absurd (true≢false (sym f ∙ (t.refused i d).0)); full = λ d. absurd (t.full d) }
    where
      step : (K : Stack) (b : Built) → runs text (again ∷ K) w (at_function text name x equal b) s ≡ runs_on text K (behind text w) (at_function text name x equal b) (counts_of s)
      step K b = name-same text w K (at_function text name x equal b) s z e h

      read : (v : Reached) → Passed text w (counts_of s) s v → Moved text (again ∷ []) (at_function text name x equal) w s v
      read v p = record { course = λ K b. step K b ∙ rw (p.words z, p.counts); state = state-of p.counts p.kept; seen = p.seen }

  pub different : {a : Answer} → kind_no w.kind ≡ a_name → L.same (letters_of text w) (letters_of text name) ≡ false → Refuses w NoContinuation a → Repeats text name w s a
  unfolding word_no letters
  different e h r x equal z f = refuses NoContinuation r (λ K b. name-different text w K (at_function text name x equal b) s z e h)

  pub unnamed : {a : Answer} → (kind_no w.kind ≡ a_name → ⊥) → Refuses w NoContinuation a → Repeats text name w s a
  unnamed n r x equal z f = refuses NoContinuation r (λ K b. no_name text w K (at_function text name x equal b) s z n)

  pub closed-not : {e : Unread} → Repeats text name w s (Err e) → Closing text name w s (Err e)
  closed-not t x equal z f = untold (t x equal z f) (λ K. closing close_paren ∷ make make_input ∷ K) (λ b. b) (λ K b. refl)

  pub closed-read : {a : Reached} → Repeats text name w s (Ok a) → {r : Answer} → Expected text close_paren Closes a.next a.state r → Closing text name w s r
  unfolding word_no
  closed-read {a} t {r} u x equal z f = expected u (λ v d. read v (u.done d y.seen (omega arith))) y.seen (omega arith) (λ K. make make_input ∷ K) (at_function text name x equal) to-close
    where
      y : Moved text (again ∷ []) (at_function text name x equal) w s a
      y = (t x equal z f).done refl

      to-close : (K : Stack) (b : Built) → runs text (name_stack ++ K) w (at_function text name x equal b) s ≡ runs text (closing close_paren ∷ make make_input ∷ K) a.next (at_function text name x equal b) a.state
      to-close K b = y.course (closing close_paren ∷ make make_input ∷ K) b

      read : (r' : Reached) → Passed text a.next (after_word false Closes a.state) a.state r'
          × ((K : Stack) (b : Built) → runs text (closing close_paren ∷ K) a.next b a.state ≡ runs text K r'.next b r'.state)
          → InputRead text name x equal name_stack w s (closed_state s) r'
      read r' (p, v) = record {
        course = λ K b. to-close K b ∙ v (make make_input ∷ K) (at_function text name x equal b)
            ∙ makes-it text make_input K r'.next (at_function text name x equal b) (with_one (declaration_of text F.Input name x T.from_input) b) r'.state (λ q. refl);
        state = state-of p.counts p.kept ∙ ap closed_state y.state;
        seen = p.seen;
      }

-- ---- The whole.

module _ {text : List ℕ} (name : Word) {w : Word} {s : State} where
  pub input-not : {i : Unread} → Took text w (counts_of s) s (Err i) → Inputs text name w s (Err i)
  input-not t x equal z e = not-taken t input_stack (at_function text name x equal) (λ K b. input-taken text w K (at_function text name x equal b) s e)

  module _ {a : Reached} (t : Took text w (counts_of s) s (Ok a)) where
    p : Passed text w (counts_of s) s a
    p = t.done refl

    to-open : Seen text w → kind_no w.kind ≡ input_word → (K : Stack) (b : Built) → runs text (ask function_of ∷ K) w b s ≡ runs text (input_stack K) a.next b a.state
    to-open z e K b = input-taken text w K b s e ∙ took-done p z (input_stack K) b

    pub open-not : {i : Unread} → Expected text open_paren Opens a.next a.state (Err i) → Inputs text name w s (Err i)
    open-not u x equal z e = not-expected u p.seen (omega arith) (λ K. plain_word a_constant ∷ plain_word comma ∷ (name_stack ++ K)) (at_function text name x equal) (λ K b. to-open z e K (at_function text name x equal b))

    module _ {o : Reached} (u : Expected text open_paren Opens a.next a.state (Ok o)) where
      q : Passed text a.next (after_word false Opens a.state) a.state o
          × ((K : Stack) (b : Built) → runs text (input_stack K) a.next b a.state ≡ runs text (plain_word a_constant ∷ plain_word comma ∷ (name_stack ++ K)) o.next b o.state)
      q = let x = u.done refl p.seen (omega arith) in (x.0, λ K b. x.1 (plain_word a_constant ∷ plain_word comma ∷ (name_stack ++ K)) b)

      to-constant : Seen text w → kind_no w.kind ≡ input_word → (K : Stack) (b : Built) → runs text (ask function_of ∷ K) w b s ≡ runs text (plain_word a_constant ∷ plain_word comma ∷ (name_stack ++ K)) o.next b o.state
      to-constant z e K b = to-open z e K b ∙ q.1 K b

      pub value_not : {i : Unread} → Expected text a_constant Level o.next o.state (Err i) → Inputs text name w s (Err i)
      value_not v x equal z e = untold (constant-told v q.0.seen) (λ K. plain_word comma ∷ (name_stack ++ K)) (at_function text name x equal) (λ K b. to-constant z e K (at_function text name x equal b))

      module _ {c : Reached} (v : Expected text a_constant Level o.next o.state (Ok c)) where
        y : Moved text (plain_word a_constant ∷ []) same o.next o.state c
        y = (constant-told v q.0.seen).done refl

        to-comma : Seen text w → kind_no w.kind ≡ input_word → (K : Stack) (b : Built) → runs text (ask function_of ∷ K) w b s ≡ runs text (plain_word comma ∷ (name_stack ++ K)) c.next b c.state
        to-comma z e K b = to-constant z e K b ∙ y.course (plain_word comma ∷ (name_stack ++ K)) b

        pub comma-not : {i : Unread} → Expected text comma Level c.next c.state (Err i) → Inputs text name w s (Err i)
        comma-not j x equal z e = not-expected j y.seen (omega arith) (λ K. name_stack ++ K) (at_function text name x equal) (λ K b. to-comma z e K (at_function text name x equal b))

        module _ {m : Reached} (j : Expected text comma Level c.next c.state (Ok m)) where
          g : Passed text c.next (counts_of c.state) c.state m
          g = (j.done refl y.seen (omega arith)).0

          to-name : Seen text w → kind_no w.kind ≡ input_word → (K : Stack) (b : Built) → runs text (ask function_of ∷ K) w b s ≡ runs text (name_stack ++ K) m.next b m.state
          to-name z e K b = to-comma z e K b ∙ (j.done refl y.seen (omega arith)).1 (name_stack ++ K) b

          back : closed_state m.state ≡ s
          back =
              ap closed_state (state-of g.counts g.kept ∙ y.state ∙ state-of q.0.counts q.0.kept)
              ∙ let h : suc a.state.nesting - 1 ≡ a.state.nesting = omega arith in rw h (state-of p.counts p.kept)

          pub input-read : {r : Answer} → Closing text name m.next m.state r → Inputs text name w s r
          input-read l x equal z e = through (l x equal g.seen (ap within_ceilings g.counts ∙ g.fits)) (λ K. K) (λ b. b) (λ K b. to-name z e K (at_function text name x equal b)) read
            where
              read : (v : Reached) → InputRead text name x equal name_stack m.next m.state (closed_state m.state) v → InputRead text name x equal (ask function_of ∷ []) w s s v
              read v i = record { course = λ K b. to-name z e K (at_function text name x equal b) ∙ i.course K b; state = i.state ∙ back; seen = i.seen }
