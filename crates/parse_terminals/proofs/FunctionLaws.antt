-- The functions of terminals, as the code reads them.
use mathlib.Core.List.{List, [], ◌∷◌}
use mathlib.Core.Path.{◌≡◌, refl, sym, ap, ◌∙◌, subst}
use Prim.Native.Nat.{ℕ, ◌*◌, ◌≤◌}
use native.Mathlib.Omega.{arith}
use Rattle.parse_step.proofs.Saying.{makes-it}
use Rattle.parse_step.proofs.TakenWords.{took-done}
use Rattle.parse_step.specs.declared.Reached.{Reached}
use Rattle.parse_step.specs.declared.Unread.{Unread}
use Rattle.std.specs.Prelude.{Err, Ok, Result}
use Rattle.parse_step.specs.declared.State.{State}
use Rattle.parse_step.specs.Course.{Seen, Stack, counts_of, kind_no, runs}
use Rattle.parse_step.specs.Taken.{Passed, Took}
use Rattle.parse_facilities.proofs.StoredLaws.{others_same, others-then}
use Rattle.parse_facilities.proofs.Unexpressed.{Bare, bare-awaits}
use Rattle.parse_facilities.specs.Listed.{Awaiting}
use Rattle.parse_facilities.specs.Specs.{declaration_of}
use Rattle.parse_step.proofs.States.{state-of}
use Rattle.parse_bounds.proofs.Telling.{not-taken, tells-ok, through, untold}
use Rattle.parse_bounds.specs.Extents.{of_terminal, to_come}
use Rattle.image_sections.specs.declared.facilities.FacilityKind.{FacilityKind}
use Rattle.image_sections.specs.declared.facilities.FacilityKind.TheVariants as F
use Rattle.language.specs.Building.{Built, word_no}
use Rattle.language.specs.Declaring.{make_plain}
use Rattle.language.specs.DescribeText.{dimensions_of}
use Rattle.language.specs.Description.{nowhere}
use Rattle.language.specs.Kinds.{equal_sign, input_word}
use Rattle.language.specs.Machine.{ask, function_of, make, terminal_function, within_ceilings}
use Rattle.language.specs.Tree as T
use Rattle.language.specs.Tree.{Declaration, Extent, Function}
use Rattle.text_words.specs.declared.Position as P
use Rattle.text_words.specs.declared.Word.{Word}
use Rattle.text_words.specs.Meaning.{positioned}
use Rattle.parse_terminals.specs.declared.Defined.{Defined}
use Rattle.parse_terminals.specs.Functions.{Begun, Computes, Defines, Follows, FunctionRead, Functions, Plains}
use Rattle.parse_terminals.specs.Inputs.{InputRead, Inputs, at_dimensions, at_function, with_one}
use Rattle.parse_terminals.proofs.FunctionWords.{equal-taken, no-function}

-- ---- Where reading stands, when the state is the same.

begun-same : {text : List ℕ} {ds : List Declaration} {place : ℕ} {w next : Word} {s s' : State} {work : List ℕ} → Begun text ds place w s work → s' ≡ s → Seen text next → Begun text ds place next s' work
begun-same g e z = record {
  before = g.before;
  listed = g.listed;
  room = g.room;
  state = e ∙ g.state;
  seen = z;
  within = ap (λ (j : State). within_ceilings (counts_of j)) e ∙ g.within;
  paid = subst (λ (j : State). j.nodes ≤ 7 * j.counted) (sym e) g.paid;
}

-- A function without records, behind which the state is the same.
bare-waits : {text : List ℕ} {ds : List Declaration} {place : ℕ} {w : Word} {s s' : State} {work : List ℕ} → Begun text ds place w s work → s' ≡ s → (k : FacilityKind) (name : Word) (x : Extent) (f : Function) → Bare f
    → Awaiting text ds (declaration_of text k name x f) place s' work
bare-waits {text} {ds} {place} {work = work} g e k name x f h =
    subst (λ (j : State). Awaiting text ds (declaration_of text k name x f) place j work) (sym (e ∙ g.state)) (bare-awaits text k name x f h ds place g.before work g.listed g.room)

-- ---- None.

pub plain-read : {w : Word} {s : State} {e : P.Position} → positioned e ≡ nowhere → Plains w s (record { reached = record { next = w; state = s }; kind = F.Plain; expression = 0; equals = e })
unfolding word_no
plain-read {w} {s} {e} q text ds place name x P work g clears = tells-ok (record {
  function = T.unspecified;
  course = λ K b. clears K (at_dimensions text name x b) (with_one (declaration_of text F.Plain name x T.unspecified) b) (λ p. refl);
  number = refl;
  equals = sym q;
  awaiting = bare-waits g refl F.Plain name x T.unspecified tt;
  seen = g.seen;
  within = g.within;
  paid = g.paid;
  others = others_same refl;
})

-- ---- An input.

module _ (name equal : Word) {text : List ℕ} {w : Word} {s : State} {work : List ℕ} (k : kind_no w.kind ≡ input_word) where
  pub input-undefined : {i : Unread} → Inputs text name w s (Err i) → Follows text name equal w s work work (Err i)
  input-undefined f ds place x g = untold (f x equal g.seen k) (λ K. K) (λ b. b) (λ K b. refl)

  pub input-defined : {a : Reached} → Inputs text name w s (Ok a) → {e : P.Position} → positioned e ≡ nowhere
      → Follows text name equal w s work work (Ok (record { reached = a; kind = F.Input; expression = 0; equals = e }))
  input-defined {a} f {e} q ds place x g = tells-ok (read ((f x equal g.seen k).done refl))
    where
      read : InputRead text name x equal (ask function_of ∷ []) w s s a
          → FunctionRead text ds place name x (ask function_of ∷ []) (at_function text name x equal) w s work (record { reached = a; kind = F.Input; expression = 0; equals = e })
      read y =
          let h : Begun text ds place a.next a.state work = begun-same g y.state y.seen in
          record {
            function = T.from_input;
            course = y.course;
            number = refl;
            equals = sym q;
            awaiting = bare-waits g y.state F.Input name x T.from_input tt;
            seen = y.seen;
            within = h.within;
            paid = h.paid;
            others = others_same y.state;
          }

-- ---- An expression.

pub computed-defined : (name equal : Word) {text : List ℕ} {w : Word} {s : State} {work work' : List ℕ} {r : Result Defined Unread} → (kind_no w.kind ≡ input_word → ⊥) → Computes text equal w s work work' r
    → Follows text name equal w s work work' r
computed-defined name equal n f ds place x g = f n ds place name x g

-- ---- Behind dimensions.

table-plain : (x : Extent) → dimensions_of x ≡ 2 → to_come of_terminal x ≡ make make_plain ∷ []
table-plain T.single e = absurd (omega arith)
table-plain (T.row y) e = absurd (omega arith)
table-plain (T.table y z) e = refl

may-follow : (x : Extent) → (dimensions_of x ≡ 2 → ⊥) → to_come of_terminal x ≡ ask terminal_function ∷ []
may-follow T.single n = refl
may-follow (T.row y) n = refl
may-follow (T.table y z) n = absurd (n refl)

module _ {text : List ℕ} (name : Word) {n : ℕ} {w : Word} {s : State} where
  -- A terminal of two dimensions has no function.
  pub table-read : {work : List ℕ} {r : Defined} → n ≡ 2 → Plains w s r → Functions text name n w s work work (Ok r)
  table-read {work} {r} e f ds place x h g =
      subst (λ (P : Stack). Defines text ds place name x P (at_dimensions text name x) w s work (Ok r)) (sym (table-plain x (h ∙ e)))
      (f text ds place name x (make make_plain ∷ []) work g (λ K b d m. makes-it text make_plain K w b d s m))

  module _ (two : n ≡ 2 → ⊥) where
    as_function : {work work' : List ℕ} {r : Result Defined Unread}
        → ((ds : List Declaration) (place : ℕ) (x : Extent) → Begun text ds place w s work → Defines text ds place name x (ask terminal_function ∷ []) (at_dimensions text name x) w s work' r)
        → Functions text name n w s work work' r
    as_function {work} {work'} {r} f ds place x h g =
        subst (λ (P : Stack). Defines text ds place name x P (at_dimensions text name x) w s work' r) (sym (may-follow x (λ e. two (sym h ∙ e)))) (f ds place x g)

    pub none_read : {work : List ℕ} {r : Defined} → (kind_no w.kind ≡ equal_sign → ⊥) → Plains w s r → Functions text name n w s work work (Ok r)
    none_read {work} m f = as_function (λ ds place x g. f text ds place name x (ask terminal_function ∷ []) work g (λ K b d l. no-function text w K b s g.seen m d l))

    module _ (equal : kind_no w.kind ≡ equal_sign) where
      pub equal-not : {work : List ℕ} {e : Unread} → Took text w (counts_of s) s (Err e) → Functions text name n w s work work (Err e)
      equal-not t = as_function (λ ds place x g. not-taken t (λ K. ask function_of ∷ K) (at_function text name x w) (λ K b. equal-taken text w K (at_dimensions text name x b) s equal))

      pub function-read : {a : Reached} → Took text w (counts_of s) s (Ok a) → {work work' : List ℕ} {r : Result Defined Unread} → Follows text name w a.next a.state work work' r → Functions text name n w s work work' r
      function-read {a} t {work} {work'} {r} f = as_function read
        where
          p : Passed text w (counts_of s) s a
          p = t.done refl

          same : a.state ≡ s
          same = state-of p.counts p.kept

          read : (ds : List Declaration) (place : ℕ) (x : Extent) → Begun text ds place w s work → Defines text ds place name x (ask terminal_function ∷ []) (at_dimensions text name x) w s work' r
          read ds place x g = through (f ds place x (begun-same g same p.seen)) (λ K. K) (λ b. b) to_function behind
            where
              to_function : (K : Stack) (b : Built) → runs text (ask terminal_function ∷ K) w (at_dimensions text name x b) s ≡ runs text (ask function_of ∷ K) a.next (at_function text name x w b) a.state
              to_function K b = equal-taken text w K (at_dimensions text name x b) s equal ∙ took-done p g.seen (ask function_of ∷ K) (at_function text name x w b)

              behind : (v : Defined) → FunctionRead text ds place name x (ask function_of ∷ []) (at_function text name x w) a.next a.state work' v
                  → FunctionRead text ds place name x (ask terminal_function ∷ []) (at_dimensions text name x) w s work' v
              behind v y = record {
                function = y.function;
                course = λ K b. to_function K b ∙ y.course K b;
                number = y.number;
                equals = y.equals;
                awaiting = y.awaiting;
                seen = y.seen;
                within = y.within;
                paid = y.paid;
                others = others-then (others_same same) y.others;
              }
