-- The declared names of a text are words of it, one after the other: together they are no longer than the text. Assumes nothing.
use Rattle.std.specs.Prelude.{Bool, cond, ◌≡◌, ℕ, zero, suc, ◌+◌, ◌^◌, ◌≤◌, eqb, leb, ltb, get_or, take}
use Rattle.std.proofs.Math.Bool.{true, false}
use mathlib.Core.List.{List, [], ◌∷◌, ◌++◌, map}
use Rattle.std.proofs.Math.Option.{Option}
use native.Mathlib.Omega.{arith}
use Rattle.std.proofs.Math.ListN.{drop, length}
use Rattle.std.proofs.Common.{length-drop, length-take}
use Rattle.std.proofs.lemmas.List.{length-map}
use Rattle.language.specs.Canonical.{total}
use Rattle.language.specs.Characters.{blank_class, class_of, digit_class, folded, letter_class, quote_class, symbol_class}
use Rattle.language.specs.Constants.{binary_constant, decimal_constant, digits_number}
use Rattle.language.specs.DescribeText.{label_of}
use Rattle.language.specs.Grammar as G
use Rattle.language.specs.Grammar.{Is}
use Rattle.language.specs.Kinds.{close_bracket, comma, slash}
use Rattle.language.specs.Notions as N
use Rattle.language.specs.Scan as S
use Rattle.language.specs.Scan.{Found, Item, bare_at, based, based_item, binary_at, comment_at, constant_at, decimal_at, digit_bits, digits_of, is_decimal_base, is_name_part, item_at, name_at, name_item, reserved_kind, same, span, spelled_symbols, symbol_among, written}
use Rattle.language.specs.Ceilings.{bare_largest, longest, longest_name}
use Rattle.language.specs.Tree.{Declaration, Label, Operation, State, StateValue, Text}
use Rattle.language.specs.WordStage.{Scanned, noted, scan, scan_from}
use Rattle.language.specs.Words as W
use Rattle.language.specs.Words.{Constant, Position, Word, position}

-- The letters of all names among words.
unfoldable pub letters : List Word → ℕ
letters [] = 0
letters (W.name n p ∷ ws) = length n + letters ws
letters (W.constant c p ∷ ws) = letters ws
letters (W.sign k p ∷ ws) = letters ws

letters-append : (us vs : List Word) → letters (us ++ vs) ≡ letters us + letters vs
unfolding letters
letters-append [] vs = omega arith
letters-append (W.name n p ∷ us) vs = omega (arith, letters-append us vs)
letters-append (W.constant c p ∷ us) vs = letters-append us vs
letters-append (W.sign k p ∷ us) vs = letters-append us vs

-- ---- A text has no more letters in names than bytes.

abbrev letters_of : Item → ℕ
letters_of S.gap = 0
letters_of (S.named n) = length n
letters_of (S.constant c) = 0
letters_of (S.sign k) = 0
letters_of (S.wrong r) = 0

record AtMost (m : ℕ) (i : Item) : Type 0 where
  so-many : letters_of i ≤ m

one_of : {i j : Item} {m : ℕ} (z : Bool) → AtMost m i → AtMost m j → AtMost m (cond z i j)
one_of true x y = x
one_of false x y = y

-- What is found at the start of a text of so many bytes has no more letters than it takes bytes, nor than there are.
record Short (bytes : ℕ) (f : Found) : Type 0 where
  taken : letters_of f.item ≤ f.size
  there : letters_of f.item ≤ bytes

module _ (bytes : ℕ) where
  either : {f g : Found} (z : Bool) → Short bytes f → Short bytes g → Short bytes (cond z f g)
  either true x y = x
  either false x y = y

  no_name : (f : Found) → AtMost 0 f.item → Short bytes f
  no_name f e = record { taken = omega (arith, e.so-many); there = omega (arith, e.so-many) }

  based-none : (l : ℕ) (ds : List ℕ) (c : Constant) → AtMost 0 (based_item l ds c)
  based-none l ds c = one_of (ltb 0 (length ds)) (one_of (ltb 0 l) (one_of (leb l longest) (record { so-many = omega arith }) (record { so-many = omega arith })) (record { so-many = omega arith })) (record { so-many = omega arith })

  based-short : (l : ℕ) (ds : List ℕ) (c : Constant) (start : ℕ) → Short bytes (based l ds c start)
  based-short l ds c start = no_name (based l ds c start) (based-none l ds c)

  binary-short : (k l n : ℕ) (s : List ℕ) → Short bytes (binary_at k l n s)
  unfolding binary_at
  binary-short k l n s =
      let pointed = digits_of (2 ^ k) (drop 1 s) in
      let plain = digits_of (2 ^ k) s in
      either (eqb (get_or s 0 0) 46) (based-short l pointed (written false (binary_constant k true l pointed)) (n + 2)) (based-short l plain (written false (binary_constant k false l plain)) (n + 1))

  bare-short : (ds : List ℕ) → Short bytes (bare_at ds)
  unfolding bare_at
  bare-short ds = no_name _ (one_of (leb (digits_number 10 ds) bare_largest) (record { so-many = omega arith }) (record { so-many = omega arith }))

  constant-short : (s : List ℕ) → Short bytes (constant_at s)
  unfolding constant_at decimal_at
  constant-short s =
      let ds = digits_of 10 s in
      let l = digits_number 10 ds in
      let n = length ds in
      let rest = drop (suc n) s in
      let decimal = digits_of 10 rest in
      either (ltb 0 (digit_bits (get_or s n 0))) (binary-short (digit_bits (get_or s n 0)) l n rest)
      (either (is_decimal_base (get_or s n 0)) (based-short l decimal (written false (decimal_constant l decimal)) (n + 1)) (bare-short ds))

  symbol-short : (xs : List S.Spelled) (s : List ℕ) → Short bytes (symbol_among xs s)
  unfolding symbol_among
  symbol-short [] s = no_name _ (record { so-many = omega arith })
  symbol-short (x ∷ xs) s = either (same x.spelling (take (length x.spelling) s)) (no_name _ (record { so-many = omega arith })) (symbol-short xs s)

name-letters : (s : List ℕ) → AtMost (length s) (name_item s)
name-letters s = one_of (eqb (reserved_kind s) 0) (one_of (leb (length s) longest_name) (record { so-many = omega arith }) (record { so-many = omega arith })) (record { so-many = omega arith })

name-short : (s : List ℕ) → Short (length s) (name_at s)
unfolding name_at
name-short s =
    let n = span is_name_part s in
    let a = name-letters (map folded (take n s)) in
    let b = length-map (take n s) folded in
    let c = length-take n s in
    record { taken = omega (arith, a.so-many, b, c); there = omega (arith, a.so-many, b, c) }

item-short : (b : ℕ) (s : List ℕ) → Short (suc (length s)) (item_at b s)
unfolding item_at comment_at
item-short b s =
    let n = suc (length s) in
    either n (eqb (class_of b) letter_class) (name-short (b ∷ s))
    (either n (eqb (class_of b) digit_class) (constant-short n (b ∷ s))
    (either n (eqb (class_of b) blank_class) (no_name n _ (record { so-many = omega arith }))
    (either n (eqb (class_of b) quote_class) (no_name n _ (record { so-many = omega arith }))
    (either n (eqb (class_of b) symbol_class) (symbol-short n spelled_symbols (b ∷ s)) (no_name n _ (record { so-many = omega arith }))))))

noted-letters : (p : Position) (i : Item) (r : Scanned) → letters (noted p i r).words ≡ letters_of i + letters r.words
unfolding letters
noted-letters p S.gap r = omega arith
noted-letters p (S.named n) r = omega arith
noted-letters p (S.constant c) r = omega arith
noted-letters p (S.sign k) r = omega arith
noted-letters p (S.wrong n) r = omega arith

from-letters : (k at : ℕ) (s : List ℕ) → letters (scan_from k at s).words ≤ length s
unfolding scan_from letters
from-letters zero at s = omega arith
from-letters (suc k) at [] = omega arith
from-letters (suc k) at (b ∷ s) =
    let f = item_at b s in
    let r = scan_from k (at + f.size) (drop f.size (b ∷ s)) in
    let h = item-short b s in
    omega (arith, h.taken, h.there, noted-letters (position at) f.item r, from-letters k (at + f.size) (drop f.size (b ∷ s)), length-drop f.size (b ∷ s))

pub scan-letters : (s : List ℕ) → letters (scan s).words ≤ length s
unfolding scan
scan-letters s = from-letters (length s) 0 s

-- ---- What a text declares.

abbrev pub declared_letters : List Declaration → ℕ
declared_letters ds = total (λ d. length d.name) ds

abbrev pub operation_letters : List Operation → ℕ
operation_letters os = total (λ o. length o.name) os

abbrev pub label_letters : List State → ℕ
label_letters ss = total (λ s. length (label_of s.label)) ss

module _ {h : ℕ} where
  register-letters : {us : List Word} {d : Declaration} → Is N.register_spec h us (N.facility d) → length d.name ≤ letters us
  unfolding letters
  register-letters (G.a-register x) = omega arith
  register-letters (G.a-sequencing x) = omega arith

  memory-letters : {us : List Word} {d : Declaration} → Is N.memory_spec h us (N.facility d) → length d.name ≤ letters us
  unfolding letters
  memory-letters (G.a_memory x) = omega arith

terminal-letters : {h : ℕ} {us : List Word} {d : Declaration} → Is N.terminal_spec h us (N.facility d) → length d.name ≤ letters us
unfolding letters
terminal-letters (G.a-terminal x) = omega arith
terminal-letters (G.an-input q r s t u v w c one x) = omega arith
terminal-letters (G.a-computed one x y) = omega arith

registers-letters : {h : ℕ} {us : List Word} {ds : List Declaration} → Is N.register_specs h us (N.facilities ds) → declared_letters ds ≤ letters us
unfolding letters total
registers-letters (G.registers-one x) = omega (arith, register-letters x)
registers-letters (G.registers-more {us = us} {vs = vs} p x y) = omega (arith, register-letters x, registers-letters y, letters-append us (W.sign comma p ∷ vs))

memories-letters : {h : ℕ} {us : List Word} {ds : List Declaration} → Is N.memory_specs h us (N.facilities ds) → declared_letters ds ≤ letters us
unfolding letters total
memories-letters (G.memories-one x) = omega (arith, memory-letters x)
memories-letters (G.memories-more {us = us} {vs = vs} p x y) = omega (arith, memory-letters x, memories-letters y, letters-append us (W.sign comma p ∷ vs))

terminals-letters : {h : ℕ} {us : List Word} {ds : List Declaration} → Is N.terminal_specs h us (N.facilities ds) → declared_letters ds ≤ letters us
unfolding letters total
terminals-letters (G.terminals-one x) = omega (arith, terminal-letters x)
terminals-letters (G.terminals-more {us = us} {vs = vs} p x y) = omega (arith, terminal-letters x, terminals-letters y, letters-append us (W.sign comma p ∷ vs))

register-section-letters : {h : ℕ} {us : List Word} {ds : List Declaration} → Is N.register_section h us (N.facilities ds) → declared_letters ds ≤ letters us
unfolding letters
register-section-letters (G.register-section {us = us} {vs = vs} x y) = omega (arith, registers-letters x, letters-append us vs)

memory-section-letters : {h : ℕ} {us : List Word} {ds : List Declaration} → Is N.memory_section h us (N.facilities ds) → declared_letters ds ≤ letters us
unfolding letters
memory-section-letters (G.memory-section {us = us} {vs = vs} x y) = omega (arith, memories-letters x, letters-append us vs)

terminal-section-letters : {h : ℕ} {us : List Word} {ds : List Declaration} → Is N.terminal_section h us (N.facilities ds) → declared_letters ds ≤ letters us
unfolding letters
terminal-section-letters (G.terminal-section {us = us} {vs = vs} x y) = omega (arith, terminals-letters x, letters-append us vs)

memory-option-letters : {h : ℕ} {us : List Word} {ds : List Declaration} → Is N.memory_option h us (N.facilities ds) → declared_letters ds ≤ letters us
unfolding total
memory-option-letters G.no-memories = omega arith
memory-option-letters (G.some-memories x) = memory-section-letters x

terminal-option-letters : {h : ℕ} {us : List Word} {ds : List Declaration} → Is N.terminal_option h us (N.facilities ds) → declared_letters ds ≤ letters us
unfolding total
terminal-option-letters G.no-terminals = omega arith
terminal-option-letters (G.some-terminals x) = terminal-section-letters x

declaration-letters : {h : ℕ} {us : List Word} {rs ms ts : List Declaration} → Is N.declaration h us (N.declared rs ms ts) → declared_letters rs + declared_letters ms + declared_letters ts ≤ letters us
unfolding total
declaration-letters (G.with-registers {us = us} {vs = vs} {ws = ws} x y z) =
    omega (arith, register-section-letters x, memory-option-letters y, terminal-option-letters z, letters-append us (vs ++ ws), letters-append vs ws)
declaration-letters (G.with-memories {us = us} {vs = vs} x y) = omega (arith, memory-section-letters x, terminal-option-letters y, letters-append us vs)
declaration-letters (G.with-terminals x) = omega (arith, terminal-section-letters x)

operations-letters : {h : ℕ} {us : List Word} {os : List Operation} → Is N.operation_defs h us (N.operations os) → operation_letters os ≤ letters us
unfolding letters total
operations-letters (G.operations-one q r s x) = omega arith
operations-letters (G.operations-more {us = us} {vs = vs} q r s t x y) = omega (arith, operations-letters y, letters-append us (W.sign close_bracket s ∷ W.sign comma t ∷ vs))

operation-section-letters : {h : ℕ} {us : List Word} {os : List Operation} → Is N.operation_section h us (N.operations os) → operation_letters os ≤ letters us
unfolding letters total
operation-section-letters G.no-operations = omega arith
operation-section-letters (G.some-operations {us = us} {vs = vs} x y) = omega (arith, operations-letters x, letters-append us vs)

label-letters : {h : ℕ} {us : List Word} {l : Option Label} {v : Option StateValue} → Is N.state_label h us (N.label l v) → length (label_of l) ≤ letters us
unfolding letters
label-letters G.no_label = omega arith
label-letters G.plain_label = omega arith
label-letters G.label-with-value = omega arith

state-letters : {h : ℕ} {us : List Word} {ss : List State} → Is N.state_def h us (N.states ss) → label_letters ss ≤ letters us
unfolding letters total
state-letters (G.state-idle {us = us} p x) = omega (arith, label-letters x, letters-append us (W.sign slash p ∷ []))
state-letters (G.state-acting {us = us} {vs = vs} p x y) = omega (arith, label-letters x, letters-append us (vs ++ W.sign slash p ∷ []))

states-letters : {h : ℕ} {us : List Word} {ss : List State} → Is N.state_defs h us (N.states ss) → label_letters ss ≤ letters us
unfolding total
states-letters (G.states-one x) = state-letters x
states-letters (G.states-more {us = us} {vs = vs} x y) = omega (arith, state-letters x, states-letters y, letters-append us vs)

control-letters : {h : ℕ} {us : List Word} {ss : List State} → Is N.control_section h us (N.states ss) → label_letters ss ≤ letters us
unfolding letters
control-letters (G.control-section {us = us} {vs = vs} x y) = omega (arith, states-letters x, letters-append us vs)

-- The declared names of a whole text.
abbrev pub text_letters : Text → ℕ
text_letters t = declared_letters t.registers + declared_letters t.memories + declared_letters t.terminals + operation_letters t.operations + label_letters t.states

pub names-within : {h : ℕ} {us : List Word} {t : Text} → Is N.whole_text h us (N.text t) → text_letters t ≤ letters us
names-within (G.whole-text {us = us} {vs = vs} {ws = ws} {xs = xs} x y z d) =
    omega (arith, declaration-letters x, operation-section-letters y, control-letters z, letters-append us (vs ++ (ws ++ xs)), letters-append vs (ws ++ xs), letters-append ws xs)
