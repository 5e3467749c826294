-- Declarations in accepted words, and the lists of a section with its ending.
use Rattle.std.specs.Prelude.{true, false, ◌⊎◌, ◌≡◌, refl, length}
use mathlib.Core.List.{List, [], ◌∷◌, ◌++◌, append_assoc}
use Rattle.std.proofs.Common.{inl, inr, subst, arith}
use Prim.Native.Nat.{ℕ, zero, suc}
use Rattle.language.specs.Alternatives.{lead, no_step, way}
use Rattle.language.specs.Building.{Built, keep_word, with_text, word_no}
use Rattle.language.specs.CountedWords.{counted_terminals}
use Rattle.language.specs.Declaring.{make_memory, make_register, make_sequencing}
use Rattle.language.specs.Grammar as G
use Rattle.language.specs.Grammar.{Is}
use Rattle.language.specs.Kinds.{a_name, comma, end_word, hash, period}
use Rattle.language.specs.Machine as M
use Rattle.language.specs.Machine.{Alternative, Counts, ask, level, make, more, tallied}
use Rattle.language.specs.Notions as N
use Rattle.language.specs.Notions.{Notion, as_declared, ends_section, facilities, facility}
use Rattle.language.specs.SectionWays.{rule_of}
use Rattle.language.specs.Tree.{Declaration, Name, Text, memory, register, sequencing, unspecified}
use Rattle.language.specs.Words as W
use Rattle.language.specs.Words.{Position, Word, sign}
use Rattle.about_grammar.specs.Accepting.{Accepts, Judge, Leaves, Picks, at_name, at_sign_lem, chosen, made, weaken}
use Rattle.about_grammar.specs.Courses.{Stack}
use Rattle.about_grammar.specs.Declared.{count-more}
use Rattle.about_grammar.specs.FindingActions.{Next}
use Rattle.about_grammar.specs.FoundDimensions.{DimensionsFound, a-dimension, sized}
use Rattle.about_grammar.specs.FoundTerminals.{TerminalFound, a-terminal, terminal}
use Rattle.about_grammar.specs.Reaching.{Gained, Shelf, amount, count_filed, filed, filed-more, memories, more_of, registers, spec_of, terminals}

-- The grammar's notions of a section's declarations.
abbrev pub one_of : Shelf → Notion
one_of registers = N.register_spec
one_of memories = N.memory_spec
one_of terminals = N.terminal_spec

abbrev pub list_of : Shelf → Notion
list_of registers = N.register_specs
list_of memories = N.memory_specs
list_of terminals = N.terminal_specs

pub data SpecFound (J : Judge) (x : Shelf) (K : Stack) (n h : ℕ) (b : Built) (c : Counts) : List Word → Type 0 where
  spec : (us vs : List Word) (t : Declaration) (d : Counts) → Is (one_of x) h us (facility t) → Gained (amount 1 0 0 (count_filed x (t ∷ []))) c d → Accepts J K n h (with_text b (filed x b.text (t ∷ []))) d vs → SpecFound J x K n h b c (us ++ vs)

-- With the ending, which leads on to K.
pub data ListFound (J : Judge) (x : Shelf) (K : Stack) (n h : ℕ) (b : Built) (c : Counts) : List Word → Type 0 where
  listed : (us vs : List Word) (k : ℕ) (p : Position) (ts : List Declaration) (d : Counts) → Is (list_of x) h us (facilities ts) → ends_section k ≡ true → Gained (amount (length ts) 0 0 (count_filed x ts)) c d → Accepts J K n h (with_text b (filed x b.text ts)) d vs
      → ListFound J x K n h b c (us ++ sign k p ∷ vs)

abbrev named : List (M.Sym Built) → Alternative Built
named to = way a_name no_step true (M.facility ∷ []) level false to

-- ---- One declaration.

module _ (J : Judge) (K : Stack) (n h : ℕ) (b : Built) (c : Counts) where
  sequenced : (q : Position) (m : ℕ) → n ≡ suc m → {ws : List Word} → Picks J (named (ask M.dimensions ∷ make make_sequencing ∷ []) ∷ []) K m h b c ws ⊎ Leaves J M.must K m h b c ws → SpecFound J registers K n h b c (sign hash q ∷ ws)
  unfolding tallied word_no
  sequenced q m e (inl (inl (at_name x p vs z))) = go (a-dimension J (make make_sequencing ∷ K) z.0 h (keep_word (W.name x p) b) (more M.facility c) vs z.2)
    where
      go : {vs : List Word} → DimensionsFound J (make make_sequencing ∷ K) z.0 h (keep_word (W.name x p) b) (more M.facility c) vs → SpecFound J registers K n h b c (sign hash q ∷ W.name x p ∷ vs)
      go (sized us vs y d i g a) = spec (sign hash q ∷ W.name x p ∷ us) vs (as_declared sequencing x p y unspecified) d (G.a-sequencing i) (omega arith) (made vs (weaken e (weaken z.1 a))).1
  sequenced q m e (inl (inr x)) = elim x [ ]
  sequenced q m e (inr x) = elim x [ ]

  a-spec : (x : Shelf) (ws : List Word) → Accepts J (ask (spec_of x) ∷ K) n h b c ws → SpecFound J x K n h b c ws
  unfolding rule_of tallied word_no counted_terminals
  a-spec registers ws a = go (chosen J M.register_spec ws a)
    where
      registered : {x : Name} {p : Position} {m : ℕ} → n ≡ suc m → {vs : List Word} → DimensionsFound J (make make_register ∷ K) m h (keep_word (W.name x p) b) (more M.facility c) vs → SpecFound J registers K n h b c (W.name x p ∷ vs)
      registered {x} {p} e (sized us vs y d i g a) = spec (W.name x p ∷ us) vs (as_declared register x p y unspecified) d (G.a-register i) (omega arith) (made vs (weaken e a)).1

      go : {ws : List Word} → Picks J (named (ask M.dimensions ∷ make make_register ∷ []) ∷ lead hash (ask M.sequencing_spec ∷ []) ∷ []) K n h b c ws ⊎ Leaves J M.must K n h b c ws → SpecFound J registers K n h b c ws
      go (inl (inl (at_name x p vs z))) = registered z.1 (a-dimension J (make make_register ∷ K) z.0 h (keep_word (W.name x p) b) (more M.facility c) vs z.2)
      go (inl (inr (inl (at_sign_lem q vs z)))) = sequenced q z.0 z.1 (chosen J M.sequencing_spec vs z.2)
      go (inl (inr (inr x))) = elim x [ ]
      go (inr x) = elim x [ ]
  a-spec memories ws a = go (chosen J M.memory_spec ws a)
    where
      remembered : {x : Name} {p : Position} {m : ℕ} → n ≡ suc m → {vs : List Word} → DimensionsFound J (make make_memory ∷ K) m h (keep_word (W.name x p) b) (more M.facility c) vs → SpecFound J memories K n h b c (W.name x p ∷ vs)
      remembered {x} {p} e (sized us vs y d i g a) = spec (W.name x p ∷ us) vs (as_declared memory x p y unspecified) d (G.a_memory i) (omega arith) (made vs (weaken e a)).1

      go : {ws : List Word} → Picks J (named (ask M.dimensions ∷ make make_memory ∷ []) ∷ []) K n h b c ws ⊎ Leaves J M.must K n h b c ws → SpecFound J memories K n h b c ws
      go (inl (inl (at_name x p vs z))) = remembered z.1 (a-dimension J (make make_memory ∷ K) z.0 h (keep_word (W.name x p) b) (more M.facility c) vs z.2)
      go (inl (inr x)) = elim x [ ]
      go (inr x) = elim x [ ]
  a-spec terminals ws a = go (chosen J M.terminal_spec ws a)
    where
      connected : {x : Name} {p : Position} {m : ℕ} → n ≡ suc m → {vs : List Word} → TerminalFound J K m h x p b (more M.facility c) vs → SpecFound J terminals K n h b c (W.name x p ∷ vs)
      connected {x} {p} e (terminal us vs t d i g a) = spec (W.name x p ∷ us) vs t d i (omega arith) (weaken e a)

      go : {ws : List Word} → Picks J (named (ask M.terminal_dimensions ∷ []) ∷ []) K n h b c ws ⊎ Leaves J M.must K n h b c ws → SpecFound J terminals K n h b c ws
      go (inl (inl (at_name x p vs z))) = connected z.1 (a-terminal J K z.0 h x p b (more M.facility c) vs z.2)
      go (inl (inr x)) = elim x [ ]
      go (inr x) = elim x [ ]

-- ---- Lists.

-- A comma and one more, or an ending.
split : (J : Judge) (x : Shelf) (K : Stack) (n h : ℕ) (b : Built) (c : Counts) (ws : List Word) → Accepts J (ask (more_of x) ∷ K) n h b c ws
    → Next comma n (λ m vs. Accepts J (ask (spec_of x) ∷ ask (more_of x) ∷ K) m h b c vs) ws ⊎ (Next period n (λ m vs. Accepts J K m h b c vs) ws ⊎ Next end_word n (λ m vs. Accepts J K m h b c vs) ws)
unfolding rule_of tallied
split J registers K n h b c ws a = go (chosen J M.register_more ws a)
  where
    go : {ws : List Word} → Picks J (lead comma (ask M.register_spec ∷ ask M.register_more ∷ []) ∷ lead period [] ∷ lead end_word [] ∷ []) K n h b c ws ⊎ Leaves J M.must K n h b c ws
        → Next comma n (λ m vs. Accepts J (ask M.register_spec ∷ ask M.register_more ∷ K) m h b c vs) ws ⊎ (Next period n (λ m vs. Accepts J K m h b c vs) ws ⊎ Next end_word n (λ m vs. Accepts J K m h b c vs) ws)
    go (inl (inl z)) = inl z
    go (inl (inr (inl z))) = inr (inl z)
    go (inl (inr (inr (inl z)))) = inr (inr z)
    go (inl (inr (inr (inr x)))) = elim x [ ]
    go (inr x) = elim x [ ]
split J memories K n h b c ws a = go (chosen J M.memory_more ws a)
  where
    go : {ws : List Word} → Picks J (lead comma (ask M.memory_spec ∷ ask M.memory_more ∷ []) ∷ lead period [] ∷ lead end_word [] ∷ []) K n h b c ws ⊎ Leaves J M.must K n h b c ws
        → Next comma n (λ m vs. Accepts J (ask M.memory_spec ∷ ask M.memory_more ∷ K) m h b c vs) ws ⊎ (Next period n (λ m vs. Accepts J K m h b c vs) ws ⊎ Next end_word n (λ m vs. Accepts J K m h b c vs) ws)
    go (inl (inl z)) = inl z
    go (inl (inr (inl z))) = inr (inl z)
    go (inl (inr (inr (inl z)))) = inr (inr z)
    go (inl (inr (inr (inr x)))) = elim x [ ]
    go (inr x) = elim x [ ]
split J terminals K n h b c ws a = go (chosen J M.terminal_more ws a)
  where
    go : {ws : List Word} → Picks J (lead comma (ask M.terminal_spec ∷ ask M.terminal_more ∷ []) ∷ lead period [] ∷ lead end_word [] ∷ []) K n h b c ws ⊎ Leaves J M.must K n h b c ws
        → Next comma n (λ m vs. Accepts J (ask M.terminal_spec ∷ ask M.terminal_more ∷ K) m h b c vs) ws ⊎ (Next period n (λ m vs. Accepts J K m h b c vs) ws ⊎ Next end_word n (λ m vs. Accepts J K m h b c vs) ws)
    go (inl (inl z)) = inl z
    go (inl (inr (inl z))) = inr (inl z)
    go (inl (inr (inr (inl z)))) = inr (inr z)
    go (inl (inr (inr (inr x)))) = elim x [ ]
    go (inr x) = elim x [ ]

specs-one : (x : Shelf) {h : ℕ} {us : List Word} {t : Declaration} → Is (one_of x) h us (facility t) → Is (list_of x) h us (facilities (t ∷ []))
specs-one registers i = G.registers-one i
specs-one memories i = G.memories-one i
specs-one terminals i = G.terminals-one i

specs-more : (x : Shelf) {h : ℕ} {us vs : List Word} {t : Declaration} {ts : List Declaration} (p : Position) → Is (one_of x) h us (facility t) → Is (list_of x) h vs (facilities ts) → Is (list_of x) h (us ++ sign comma p ∷ vs) (facilities (t ∷ ts))
specs-more registers p i j = G.registers-more p i j
specs-more memories p i j = G.memories-more p i j
specs-more terminals p i j = G.terminals-more p i j

abbrev Lists : Judge → Shelf → ℕ → Type 0
Lists J x n = (K : Stack) (h : ℕ) (b : Built) (c : Counts) (ws : List Word) → Accepts J (ask (spec_of x) ∷ ask (more_of x) ∷ K) n h b c ws → ListFound J x K n h b c ws

list-by : (J : Judge) (x : Shelf) (n : ℕ) → ((m : ℕ) → n ≡ suc m → Lists J x m) → Lists J x n
list-by J x n ih K h b c ws a = go (a-spec J (ask (more_of x) ∷ K) n h b c x ws a)
  where
    go : {ws : List Word} → SpecFound J x (ask (more_of x) ∷ K) n h b c ws → ListFound J x K n h b c ws
    go (spec us vs t d i g a) = ends (split J x K n h (with_text b (filed x b.text (t ∷ []))) d vs a)
      where
        longer : (p : Position) {m : ℕ} {ws : List Word} → n ≡ suc m → ListFound J x K m h (with_text b (filed x b.text (t ∷ []))) d ws → ListFound J x K n h b c (us ++ sign comma p ∷ ws)
        longer p {m} e (listed us₁ vs₁ k q ts d₁ j f g₁ a₁) =
            let s = count-more x t ts in
            subst (ListFound J x K n h b c) (append_assoc us (sign comma p ∷ us₁) (sign k q ∷ vs₁))
            (listed (us ++ sign comma p ∷ us₁) vs₁ k q (t ∷ ts) d₁ (specs-more x p i j) f (omega arith) (weaken e (subst (λ (y : Text). Accepts J K m h (with_text b y) d₁ vs₁) (filed-more x b.text t ts) a₁)))

        ends : {vs : List Word} → Next comma n (λ m vs. Accepts J (ask (spec_of x) ∷ ask (more_of x) ∷ K) m h (with_text b (filed x b.text (t ∷ []))) d vs) vs
            ⊎ (Next period n (λ m vs. Accepts J K m h (with_text b (filed x b.text (t ∷ []))) d vs) vs ⊎ Next end_word n (λ m vs. Accepts J K m h (with_text b (filed x b.text (t ∷ []))) d vs) vs) → ListFound J x K n h b c (us ++ vs)
        ends (inl (at_sign_lem p vs z)) = longer p z.1 (ih z.0 z.1 K h (with_text b (filed x b.text (t ∷ []))) d vs z.2)
        ends (inr (inl (at_sign_lem p vs z))) = listed us vs period p (t ∷ []) d (specs-one x i) refl (omega arith) (weaken z.1 z.2)
        ends (inr (inr (at_sign_lem p vs z))) = listed us vs end_word p (t ∷ []) d (specs-one x i) refl (omega arith) (weaken z.1 z.2)

pub a-list : (J : Judge) (x : Shelf) (n : ℕ) → Lists J x n
a-list J x zero = list-by J x zero (λ m e. absurd (omega arith))
a-list J x (suc n) = list-by J x (suc n) (λ m e. subst (Lists J x) (omega arith) (a-list J x n))
