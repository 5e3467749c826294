-- Terminals, as the code reads them.
use mathlib.Core.List.{List, [], ◌∷◌, ◌++◌}
use mathlib.Core.Path.{◌≡◌, refl, sym, ap, ◌∙◌, subst}
use Prim.Native.Nat.{ℕ, ◌*◌, ◌≤◌}
use Rattle.parse_step.specs.declared.Reached.{Reached}
use Rattle.parse_step.specs.declared.Unread.{Unread}
use Rattle.std.specs.Prelude.{Err, Ok, Result}
use Rattle.parse_bounds.proofs.Telling.{tells-ok, untold}
use Rattle.parse_step.specs.declared.State.{State}
use Rattle.parse_step.specs.Course.{Seen, Stack, counts_of, runs}
use Rattle.parse_facilities.proofs.StoredLaws.{others-then}
use Rattle.parse_facilities.proofs.Unexpressed.{said, said_of}
use Rattle.parse_facilities.specs.declared.Progress.{Progress}
use Rattle.parse_facilities.specs.Declares.{OneRead, OthersKept, Standing}
use Rattle.parse_facilities.specs.Listed.{Added, Adds, known_state}
use Rattle.parse_facilities.specs.Lists.{Ones, terminals}
use Rattle.parse_facilities.specs.Specs.{NameRead, Names, declaration_of, more_state, named_word}
use Rattle.parse_bounds.specs.declared.extents.Measured.{Measured}
use Rattle.parse_bounds.specs.Extents.{ExtentRead, Measures, of_terminal, to_come}
use Rattle.parse_bounds.specs.Telling.{same}
use Rattle.image_sections.specs.declared.facilities.FacilityKind.TheVariants as F
use Rattle.language.specs.Building.{Built, keep_word}
use Rattle.language.specs.DescribeText.{function_sizes}
use Rattle.language.specs.Machine.{ask, terminal_dimensions, terminal_spec, within_ceilings}
use Rattle.language.specs.Tree.{Declaration}
use Rattle.text_words.specs.declared.Word.{Word}
use Rattle.parse_terminals.specs.declared.Defined.{Defined}
use Rattle.parse_terminals.specs.Functions.{Begun, Defines, FunctionRead, Functions}
use Rattle.parse_terminals.specs.Inputs.{at_dimensions, with_one}

-- A facility that becomes known counts nothing.
known_on : (text : List ℕ) (K : Stack) (b : Built) {w w' : Word} {s s' : State} → w' ≡ w → s' ≡ known_state s → runs text K w b s ≡ runs text K w' b s'
known_on text K b p q = rw (p, q)

module _ {text : List ℕ} {w : Word} {s : State} where
  pub terminal-unnamed : {place : ℕ} {work work' : List ℕ} {e : Unread} → Names text w s (Err e) → Ones terminals text w s place work work' (Err e)
  terminal-unnamed x ds st = untold (x F.Plain tt st.seen st.within) (λ K. K) (λ b. b) (λ K b. refl)

  module _ {a : Reached} (x : Names text w s (Ok a)) where
    pub terminal-unmeasured : {place : ℕ} {work work' : List ℕ} {e : Unread} → Measures text a.next a.state (Err e) → Ones terminals text w s place work work' (Err e)
    terminal-unmeasured g ds st =
        let y = (x F.Plain tt st.seen st.within).done refl in
        untold (g of_terminal y.seen) (λ K. K) (keep_word (named_word text w)) y.course

    module _ {m : Measured} (g : Measures text a.next a.state (Ok m)) {place : ℕ} {work : List ℕ} (ds : List Declaration) (st : Standing text ds place w s work) where
      y : NameRead text F.Plain w s a
      y = (x F.Plain tt st.seen st.within).done refl

      z : ExtentRead text of_terminal (ask terminal_dimensions ∷ []) same a.next a.state a.state m
      z = (g of_terminal y.seen).done refl

      counted : m.reached.state ≡ more_state s
      counted = z.state ∙ y.state

      begun : Begun text ds place m.reached.next m.reached.state work
      begun = record {
        before = s;
        listed = st.listed;
        room = y.room;
        state = counted;
        seen = z.seen;
        within = ap (λ (j : State). within_ceilings (counts_of j)) counted ∙ y.within;
        paid = subst (λ (j : State). j.nodes ≤ 7 * j.counted) (sym counted) st.paid;
      }

      to_function : (K : Stack) (b : Built) → runs text (ask terminal_spec ∷ K) w b s ≡ runs text (to_come of_terminal z.tree ++ K) m.reached.next (at_dimensions text w z.tree b) m.reached.state
      to_function K b = y.course K b ∙ z.course K (keep_word (named_word text w) b)

      -- What is said of the function.
      abbrev Said : List ℕ → Result Defined Unread → Type 0
      Said work₁ r = Functions text w m.extent.dimensions m.reached.next m.reached.state work work₁ r

      told : {work₁ : List ℕ} {r : Result Defined Unread} → Said work₁ r → Defines text ds place w z.tree (to_come of_terminal z.tree) (at_dimensions text w z.tree) m.reached.next m.reached.state work₁ r
      told h = h ds place z.tree z.extent.dimensions begun

      module _ {r : Defined} {work₁ : List ℕ} (h : Said work₁ (Ok r)) {q : Progress} {work₂ : List ℕ} (f : Adds r.reached.next r.reached.state place (said_of r.kind w m.extent r.expression r.equals) work₁ work₂ q) where
        v : FunctionRead text ds place w z.tree (to_come of_terminal z.tree) (at_dimensions text w z.tree) m.reached.next m.reached.state work₁ r
        v = (told h).done refl

        abbrev d : Declaration
        d = declaration_of text r.kind w z.tree v.function

        u : Added text (ds ++ d ∷ []) r.reached.next r.reached.state work₂ q
        u = f text ds d v.awaiting (said text r.kind w z.tree v.function (function_sizes ds) st.seen st.short z.extent v.number v.equals)

        begins : OthersKept s m.reached.state
        begins = record { operations = ap (λ (j : State). j.operations) counted; states = ap (λ (j : State). j.states) counted; nesting = ap (λ (j : State). j.nesting) counted; actions = ap (λ (j : State). j.actions) counted }

        ends : OthersKept r.reached.state q.reached.state
        ends = record { operations = ap (λ (j : State). j.operations) u.state; states = ap (λ (j : State). j.states) u.state; nesting = ap (λ (j : State). j.nesting) u.state; actions = ap (λ (j : State). j.actions) u.state }

        read : OneRead text ds (ask terminal_spec ∷ []) F.Plain w s work₂ q
        read = record {
          tree = d;
          course = λ K b. to_function K b ∙ v.course K b ∙ known_on text K (with_one d b) u.word u.state;
          standing = record {
            seen = subst (Seen text) (sym u.word) v.seen;
            short = st.short;
            within = ap (λ (j : State). within_ceilings (counts_of j)) u.state ∙ v.within;
            listed = u.listed;
            paid = subst (λ (j : State). j.nodes ≤ 7 * j.counted) (sym u.state) v.paid;
          };
          others = others-then begins (others-then v.others ends);
        }

    module _ {m : Measured} (g : Measures text a.next a.state (Ok m)) {place : ℕ} {work work₁ : List ℕ} where
      pub terminal-undefined : {e : Unread} → Functions text w m.extent.dimensions m.reached.next m.reached.state work work₁ (Err e) → Ones terminals text w s place work work₁ (Err e)
      terminal-undefined h ds st = untold (told g ds st h) (λ K. K) (λ b. b) (to_function g ds st)

      pub terminal-read : {r : Defined} → Functions text w m.extent.dimensions m.reached.next m.reached.state work work₁ (Ok r)
          → {q : Progress} {work₂ : List ℕ} → Adds r.reached.next r.reached.state place (said_of r.kind w m.extent r.expression r.equals) work₁ work₂ q → Ones terminals text w s place work work₂ (Ok q)
      terminal-read h f ds st = tells-ok (read g ds st h f)
