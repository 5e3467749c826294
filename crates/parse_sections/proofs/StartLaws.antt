-- The start of a text: nothing counted, nothing written, and the first word ahead.
use mathlib.Core.List.{List, [], ◌∷◌}
use mathlib.Core.Path.{◌≡◌, refl, sym, ap, ◌∙◌, subst}
use Prim.Native.Nat.{ℕ, ◌<◌}
use native.Mathlib.Omega.{arith}
use lib.ListN.{length}
use Rattle.language.specs.declared.refusals.Refusal.TheVariants.{NoContinuation}
use Rattle.parse_actions.specs.Lists.{Told}
use Rattle.parse_step.proofs.Looking.{next-seen}
use Rattle.parse_step.specs.Answers.{Answer}
use Rattle.parse_step.specs.declared.Reached.{Reached}
use Rattle.parse_step.specs.declared.State.{State}
use Rattle.parse_step.specs.Course.{ahead, kind_no, runs, runs_on}
use Rattle.parse_step.specs.Taken.{Refuses}
use Rattle.parse_facilities.specs.Listed.{besides}
use Rattle.parse_facilities.specs.Lists.{Listing}
use Rattle.language.specs.Building.{nothing_built}
use Rattle.language.specs.Decode.{up_to}
use Rattle.language.specs.DescribeText.{facilities_of, facility_nodes, function_sizes}
use Rattle.language.specs.Encode.{concat, facility_records}
use Rattle.language.specs.Kinds.{memory_word, register_word, terminal_word}
use Rattle.language.specs.Layout.{store_size_of}
use Rattle.language.specs.Machine.{ask, no_counts, sections, within_ceilings}
use Rattle.language.specs.Ceilings.{deepest, most_counted, most_facilities, most_operations, most_states}
use Rattle.language.specs.SectionWays.{parse, parse_with}
use Rattle.language.specs.Words as L
use Rattle.language.specs.WordStage.{scan, words_from}
use Rattle.parse_sections.proofs.Telling.{refuses}
use Rattle.parse_tables.specs.Names.{names_in, names_of}
use Rattle.parse_tables.specs.Rows.{rows}
use Rattle.text_words.specs.declared.Word.{Word}
use Rattle.text_words.specs.Meaning.{Next}
use Rattle.parse_array.specs.Held.{held, with_nodes}
use Rattle.parse_sections.proofs.SectionWords.{nothing-first}
use Rattle.parse_sections.specs.Sections.{AllRead, Between, From, Opened, Preamble, Starts, at_start, start_state, word_in}

-- Parsing the words of a text is what the machine makes of them from the first one on.
pub parse-runs : {text : List ℕ} {w : Word} → Next text 0 w → parse (scan text).words (length text) ≡ runs text (ask sections ∷ []) w nothing_built start_state
unfolding parse parse_with runs_on scan words_from ahead
parse-runs {text} n = ap (λ (vs : List L.Word). runs_on text (ask sections ∷ []) vs nothing_built no_counts) (sym n.words)

between-nothing : {text : List ℕ} {w : Word} (work : List ℕ) → Next text 0 w → length text < 65536 → Between text [] 0 w start_state work
unfolding rows besides facilities_of facility_records facility_nodes function_sizes store_size_of names_in names_of up_to held with_nodes concat within_ceilings most_facilities most_operations most_states most_counted deepest
between-nothing work n h = record {
  standing = record {
    seen = next-seen 0 n;
    short = h;
    within = refl;
    listed = record {
      counted = refl;
      tabled = record { known = refl; records = refl; places = refl; names = refl; store = refl };
      expressed = record { nodes = refl; few = omega arith; records = refl };
    };
    paid = omega arith;
  };
  operations = refl;
  states = refl;
  level = refl;
  actions = refl;
}

module _ {text : List ℕ} {w : Word} {s : State} (n : Next text 0 w) (e : s ≡ start_state) (h : length text < 65536) where
  between_start : (work : List ℕ) → Between text [] 0 w s work
  between_start work = subst (λ (j : State). Between text [] 0 w j work) (sym e) (between-nothing work n h)

  pub starts : (l : Listing) (work : List ℕ) → kind_no w.kind ≡ word_in l → Starts l text 0 w s work
  starts l work k = record { word = k; somewhere = record { declared = []; between = between_start work } }

  to_start : parse (scan text).words (length text) ≡ runs text (ask sections ∷ []) w nothing_built s
  to_start = parse-runs n ∙ ap (λ (j : State). runs text (ask sections ∷ []) w nothing_built j) (sym e)

  pub opened : (l : Listing) {work work' : List ℕ} {r : Answer} → From l text w s 0 work work' r → Preamble text work' r
  opened l {work} {work'} {r} f = record { done = λ d. read _ (t.done d); refused = λ i d. to_start ∙ t.refused i d [] nothing_built; full = λ d. t.full d }
    where
      t : Told text (ask sections ∷ []) w s r (AllRead text [] l (ask sections ∷ []) w s work')
      t = f sections (at_start l) [] (between_start work)

      read : (z : Reached) → AllRead text [] l (ask sections ∷ []) w s work' z → Opened text work' z
      read z y = record {
        registers = y.registers;
        memories = y.memories;
        terminals = y.terminals;
        operations = y.operations;
        course = to_start ∙ y.course [] nothing_built;
        ready = y.ready;
      }

  pub not_opened : (kind_no w.kind ≡ register_word → ⊥) → (kind_no w.kind ≡ memory_word → ⊥) → (kind_no w.kind ≡ terminal_word → ⊥) → {a : Answer} → Refuses w NoContinuation a → {work : List ℕ} → Preamble text work a
  not_opened i j k {a} x {work} = record { done = λ d. t.done d; refused = λ f d. to_start ∙ t.refused f d [] nothing_built; full = λ d. t.full d }
    where
      t : Told text (ask sections ∷ []) w s a (Opened text work)
      t = refuses NoContinuation x (λ K b. nothing-first text w K b s (next-seen 0 n) i j k)
