-- Words for a whole text, from those of its sections. Assumes nothing.
use Rattle.std.specs.Prelude.{List, [], ◌∷◌, ◌++◌, ◌≡◌, refl, ℕ, ◌≤◌, max}
use Rattle.std.proofs.Common.{arith}
use Rattle.language.specs.Grammar as G
use Rattle.language.specs.Grammar.{Is}
use Rattle.language.specs.Image.{WordsRight}
use Rattle.language.specs.Kinds.{control_word, memory_word, operation_word, period, register_word, terminal_word}
use Rattle.language.specs.Notions as N
use Rattle.language.specs.Tree.{Declaration, Operation, State}
use Rattle.language.specs.Words.{Word, sign}
use Rattle.about_texts.specs.Derivations.{here}
use Rattle.about_texts.specs.Facilities.{Some, Specs}
use Rattle.about_texts.specs.Rebuilt.{words-both}

some-cons : {A : Type 0} {x : A} {xs : List A} → Some (x ∷ xs)
some-cons q = let z : ◌≡◌ {A = ℕ} 0 1 = cc in omega arith

-- Words that are right, and how deep they open.
pub record Said (Derives : ℕ → List Word → Type 0) : Type 0 where
  pub words : List Word
  pub right : WordsRight words
  pub depth : ℕ
  pub derived : (h : ℕ) → depth ≤ h → Derives h words

abbrev ended : List Word → List Word
ended us = us ++ sign period here ∷ []

-- ---- Declarations.

registers-said : (x : Declaration) (xs : List Declaration) → Specs 0 (x ∷ xs) → Said (λ h ws. Is N.register_section h ws (N.facilities (x ∷ xs)))
registers-said x xs S = record {
  words = sign register_word here ∷ ended S.words;
  right = (tt, words-both S.words _ S.right (tt, tt));
  depth = S.depth;
  derived = λ h l. G.register-section (S.derived some-cons h l) (G.an-ending refl);
}

memories-said : (x : Declaration) (xs : List Declaration) → Specs 1 (x ∷ xs) → Said (λ h ws. Is N.memory_section h ws (N.facilities (x ∷ xs)))
memories-said x xs S = record {
  words = sign memory_word here ∷ ended S.words;
  right = (tt, words-both S.words _ S.right (tt, tt));
  depth = S.depth;
  derived = λ h l. G.memory-section (S.derived some-cons h l) (G.an-ending refl);
}

terminals-said : (x : Declaration) (xs : List Declaration) → Specs 2 (x ∷ xs) → Said (λ h ws. Is N.terminal_section h ws (N.facilities (x ∷ xs)))
terminals-said x xs S = record {
  words = sign terminal_word here ∷ ended S.words;
  right = (tt, words-both S.words _ S.right (tt, tt));
  depth = S.depth;
  derived = λ h l. G.terminal-section (S.derived some-cons h l) (G.an-ending refl);
}

memory-option : (ms : List Declaration) → Specs 1 ms → Said (λ h ws. Is N.memory_option h ws (N.facilities ms))
memory-option [] S = record { words = []; right = tt; depth = 0; derived = λ h l. G.no-memories }
memory-option (x ∷ xs) S = let y = memories-said x xs S in record { words = y.words; right = y.right; depth = y.depth; derived = λ h l. G.some-memories (y.derived h l) }

terminal-option : (ts : List Declaration) → Specs 2 ts → Said (λ h ws. Is N.terminal_option h ws (N.facilities ts))
terminal-option [] S = record { words = []; right = tt; depth = 0; derived = λ h l. G.no-terminals }
terminal-option (x ∷ xs) S = let y = terminals-said x xs S in record { words = y.words; right = y.right; depth = y.depth; derived = λ h l. G.some-terminals (y.derived h l) }

pub declaration-said : (rs ms ts : List Declaration) → Some (rs ++ (ms ++ ts)) → Specs 0 rs → Specs 1 ms → Specs 2 ts → Said (λ h ws. Is N.declaration h ws (N.declared rs ms ts))
declaration-said (r ∷ rs) ms ts some R M T =
    let x = registers-said r rs R in
    let y = memory-option ms M in
    let z = terminal-option ts T in
    record {
      words = x.words ++ (y.words ++ z.words);
      right = words-both x.words _ x.right (words-both y.words _ y.right z.right);
      depth = max x.depth (max y.depth z.depth);
      derived = λ h l. G.with-registers (x.derived h (omega (arith, l))) (y.derived h (omega (arith, l))) (z.derived h (omega (arith, l)));
    }
declaration-said [] (m ∷ ms) ts some R M T =
    let y = memories-said m ms M in
    let z = terminal-option ts T in
    record {
      words = y.words ++ z.words;
      right = words-both y.words _ y.right z.right;
      depth = max y.depth z.depth;
      derived = λ h l. G.with-memories (y.derived h (omega (arith, l))) (z.derived h (omega (arith, l)));
    }
declaration-said [] [] (t ∷ ts) some R M T = let z = terminals-said t ts T in record { words = z.words; right = z.right; depth = z.depth; derived = λ h l. G.with-terminals (z.derived h l) }
declaration-said [] [] [] some R M T = absurd (some refl)

-- ---- Operations and states.

pub operations-said : (os : List Operation) (ws : List Word) → WordsRight ws → (n : ℕ) → (Some os → (h : ℕ) → n ≤ h → Is N.operation_defs h ws (N.operations os)) → Said (λ h us. Is N.operation_section h us (N.operations os))
operations-said [] ws w n f = record { words = []; right = tt; depth = 0; derived = λ h l. G.no-operations }
operations-said (o ∷ os) ws w n f = record {
  words = sign operation_word here ∷ (ws ++ []);
  right = (tt, words-both ws [] w tt);
  depth = n;
  derived = λ h l. G.some-operations (f some-cons h l) G.no-ending;
}

pub states-said : (ss : List State) (ws : List Word) → Some ss → WordsRight ws → (n : ℕ) → (Some ss → (h : ℕ) → n ≤ h → Is N.state_defs h ws (N.states ss)) → Said (λ h us. Is N.control_section h us (N.states ss))
states-said ss ws some w n f = record {
  words = sign control_word here ∷ ended ws;
  right = (tt, words-both ws _ w (tt, tt));
  depth = n;
  derived = λ h l. G.control-section (f some h l) (G.an-ending refl);
}

-- ---- The whole.

pub text-said : (rs ms ts : List Declaration) (os : List Operation) (ss : List State) → Said (λ h ws. Is N.declaration h ws (N.declared rs ms ts)) → Said (λ h ws. Is N.operation_section h ws (N.operations os)) → Said (λ h ws. Is N.control_section h ws (N.states ss))
    → Said (λ h ws. Is N.whole_text h ws (N.text (record { registers = rs; memories = ms; terminals = ts; operations = os; states = ss })))
text-said rs ms ts os ss x y z = record {
  words = x.words ++ (y.words ++ (z.words ++ []));
  right = words-both x.words _ x.right (words-both y.words _ y.right (words-both z.words [] z.right tt));
  depth = max x.depth (max y.depth z.depth);
  derived = λ h l. G.whole-text (x.derived h (omega (arith, l))) (y.derived h (omega (arith, l))) (z.derived h (omega (arith, l))) G.no-dollar;
}
