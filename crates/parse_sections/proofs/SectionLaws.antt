-- A section of declarations and what follows, as the code reads them.
use mathlib.Core.List.{List, [], ◌∷◌, ◌++◌, append_assoc}
use mathlib.Core.Path.{◌≡◌, refl, sym, ap, ◌∙◌, subst}
use Prim.Native.Nat.{ℕ}
use Rattle.parse_actions.specs.Lists.{Told}
use Rattle.parse_step.specs.Answers.{Answer}
use Rattle.parse_step.specs.declared.Reached.{Reached}
use Rattle.parse_step.specs.declared.Unread.{Unread}
use Rattle.std.specs.Prelude.{Err, Ok}
use Rattle.parse_sections.proofs.Telling.{through, untold}
use Rattle.parse_step.specs.declared.State.{State}
use Rattle.parse_step.specs.Course.{Stack, kind_no, runs}
use Rattle.parse_facilities.specs.declared.Progress.{Progress}
use Rattle.parse_facilities.specs.Lists.{Listing, memories, put_all, registers, terminals}
use Rattle.language.specs.Building.{Built, with_text}
use Rattle.language.specs.Declaring.{with_memory, with_register, with_terminal}
use Rattle.language.specs.Kinds.{memory_word, terminal_word}
use Rattle.language.specs.Machine.{Ask, after_memories, after_registers, ask, sections}
use Rattle.language.specs.Tree.{Declaration, Operation, Text}
use Rattle.parse_sections.specs.Heads.{control_stack}
use Rattle.text_words.specs.declared.Word.{Word}
use Rattle.parse_sections.proofs.SectionWords.{no-memories, no-terminals}
use Rattle.parse_sections.specs.Sections.{AllRead, From, Goes, Ready, Section, SectionRead, Since, Somewhere, Starts, after_in, at_start, behind_memories, behind_registers, from_memories, from_registers, from_terminals, with_sections}

-- ---- A list in front of what follows.

registers-put : (t : Text) (ds rs ms ts : List Declaration) (os : List Operation) → with_sections (put_all registers ds t) rs ms ts os ≡ with_sections t (ds ++ rs) ms ts os
unfolding put_all
registers-put t [] rs ms ts os = refl
registers-put t (d ∷ ds) rs ms ts os = registers-put (with_register t d) ds rs ms ts os ∙ rw (append_assoc t.registers (d ∷ []) (ds ++ rs))

memories-put : (t : Text) (ds rs ms ts : List Declaration) (os : List Operation) → with_sections (put_all memories ds t) rs ms ts os ≡ with_sections t rs (ds ++ ms) ts os
unfolding put_all
memories-put t [] rs ms ts os = refl
memories-put t (d ∷ ds) rs ms ts os = memories-put (with_memory t d) ds rs ms ts os ∙ rw (append_assoc t.memories (d ∷ []) (ds ++ ms))

terminals-put : (t : Text) (ds rs ms ts : List Declaration) (os : List Operation) → with_sections (put_all terminals ds t) rs ms ts os ≡ with_sections t rs ms (ds ++ ts) os
unfolding put_all
terminals-put t [] rs ms ts os = refl
terminals-put t (d ∷ ds) rs ms ts os = terminals-put (with_terminal t d) ds rs ms ts os ∙ rw (append_assoc t.terminals (d ∷ []) (ds ++ ts))

-- From what is asked to the states, with the text t; and there with the facilities v.
abbrev Leads : List ℕ → Ask → Word → State → Reached → Stack → Built → Text → Type 0
Leads text p w s r K b t = runs text (ask p ∷ K) w b s ≡ runs text (control_stack ++ K) r.next (with_text b t) r.state

abbrev ReadyWith : List ℕ → List ℕ → Reached → List Operation → List Declaration → Type 0
ReadyWith text work' r os v = Ready text v os r.next r.state work'

module _ {text : List ℕ} {ds : List Declaration} {p : Ask} {w : Word} {s : State} {work' : List ℕ} {r : Reached} where
  joined : {l : Listing} {rs ms ts : List Declaration} (trees : List Declaration) (os : List Operation) → Since l rs ms ts → ((K : Stack) (b : Built) → Leads text p w s r K b (with_sections (put_all l trees b.text) rs ms ts os))
      → ReadyWith text work' r os ((ds ++ trees) ++ (rs ++ (ms ++ ts))) → AllRead text ds l (ask p ∷ []) w s work' r
  joined trees os (from_registers rs ms ts) c y = record {
    registers = trees ++ rs;
    memories = ms;
    terminals = ts;
    operations = os;
    since = from_registers (trees ++ rs) ms ts;
    course = λ K b. subst (Leads text p w s r K b) (registers-put b.text trees rs ms ts os) (c K b);
    ready = subst (ReadyWith text work' r os) (append_assoc ds trees (rs ++ (ms ++ ts)) ∙ ap (λ (v : List Declaration). ds ++ v) (sym (append_assoc trees rs (ms ++ ts)))) y;
  }
  joined trees os (from_memories ms ts) c y = record {
    registers = [];
    memories = trees ++ ms;
    terminals = ts;
    operations = os;
    since = from_memories (trees ++ ms) ts;
    course = λ K b. subst (Leads text p w s r K b) (memories-put b.text trees [] ms ts os) (c K b);
    ready = subst (ReadyWith text work' r os) (append_assoc ds trees (ms ++ ts) ∙ ap (λ (v : List Declaration). ds ++ v) (sym (append_assoc trees ms ts))) y;
  }
  joined trees os (from_terminals ts) c y = record {
    registers = [];
    memories = [];
    terminals = trees ++ ts;
    operations = os;
    since = from_terminals (trees ++ ts);
    course = λ K b. subst (Leads text p w s r K b) (terminals-put b.text trees [] [] ts os) (c K b);
    ready = subst (ReadyWith text work' r os) (append_assoc ds trees ts) y;
  }

-- ---- A section, and what follows.

module _ {text : List ℕ} (l : Listing) {w : Word} {s : State} {place : ℕ} {work work₁ : List ℕ} where
  pub from-not : {e : Unread} → Section l text w s place work work₁ (Err e) → From l text w s place work work₁ (Err e)
  from-not f p c ds x = untold (f p c ds x) (λ K. K) (λ b. b) (λ K b. refl)

  module _ {r : Progress} (f : Section l text w s place work work₁ (Ok r)) where
    pub from-stands : Starts l text place w s work → Somewhere text r.place r.reached.next r.reached.state work₁
    from-stands i =
        let x = i.somewhere in
        let y = (f sections (at_start l) x.declared x.between).done refl in
        record { declared = x.declared ++ y.trees; between = y.between }

    pub from-read : {q : Answer} {work₂ : List ℕ} → Goes l (after_in l) text r.reached.next r.reached.state r.place work₁ work₂ q → From l text w s place work work₂ q
    from-read {q} {work₂} g p c ds x = through (g (ds ++ y.trees) y.between) (λ K. K) (λ b. with_text b (put_all l y.trees b.text)) y.course read
      where
        y : SectionRead text ds l p w s work₁ r
        y = (f p c ds x).done refl

        read : (z : Reached) → AllRead text (ds ++ y.trees) l (ask (after_in l) ∷ []) r.reached.next r.reached.state work₂ z → AllRead text ds l (ask p ∷ []) w s work₂ z
        read z v = joined y.trees v.operations v.since (λ K b. y.course K b ∙ v.course K (with_text b (put_all l y.trees b.text))) v.ready

-- ---- A section that may come.

sooner : (rs ms ts : List Declaration) → Since terminals rs ms ts → Since memories rs ms ts
sooner rs ms ts (from_terminals us) = from_memories [] us

module _ {text : List ℕ} {w : Word} {s : State} {work' : List ℕ} {r : Answer} where
  -- Where the machine asks p as it would ask q.
  sooner-read : {ds : List Declaration} {l k : Listing} {p q : Ask} → ((K : Stack) (b : Built) → runs text (ask p ∷ K) w b s ≡ runs text (ask q ∷ K) w b s)
      → ((rs ms ts : List Declaration) → Since l rs ms ts → Since k rs ms ts) → Told text (ask q ∷ []) w s r (AllRead text ds l (ask q ∷ []) w s work')
      → Told text (ask p ∷ []) w s r (AllRead text ds k (ask p ∷ []) w s work')
  sooner-read {ds} {l} {k} {p} {q} e f t = through t (λ K. K) (λ b. b) e read
    where
      read : (z : Reached) → AllRead text ds l (ask q ∷ []) w s work' z → AllRead text ds k (ask p ∷ []) w s work' z
      read z y = record {
        registers = y.registers;
        memories = y.memories;
        terminals = y.terminals;
        operations = y.operations;
        since = f y.registers y.memories y.terminals y.since;
        course = λ K b. e K b ∙ y.course K b;
        ready = y.ready;
      }

module _ {text : List ℕ} {w : Word} {s : State} {place : ℕ} {work work' : List ℕ} {r : Answer} where
  pub with-terminals : From terminals text w s place work work' r → Goes memories after_memories text w s place work work' r
  with-terminals f ds x = sooner-read (λ K b. refl) sooner (f after_memories behind_memories ds x)

  pub without-terminals : (kind_no w.kind ≡ terminal_word → ⊥) → Goes terminals (after_in terminals) text w s place work work' r → Goes memories after_memories text w s place work work' r
  without-terminals n g ds x = sooner-read (λ K b. no-terminals text w K b s x.standing.seen n) sooner (g ds x)

  pub with-memories : From memories text w s place work work' r → Goes registers after_registers text w s place work work' r
  with-memories f ds x = sooner-read (λ K b. refl) (λ rs ms ts h. from_registers rs ms ts) (f after_registers behind_registers ds x)

  pub without-memories : (kind_no w.kind ≡ memory_word → ⊥) → Goes memories after_memories text w s place work work' r → Goes registers after_registers text w s place work work' r
  without-memories n g ds x = sooner-read (λ K b. no-memories text w K b s x.standing.seen n) (λ rs ms ts h. from_registers rs ms ts) (g ds x)
