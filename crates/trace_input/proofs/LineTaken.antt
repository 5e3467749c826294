-- A line is taken terminal by terminal: what is in the stimulus and what is left give the whole. Assumes nothing.
use mathlib.Core.Bool.{Bool, true, false, cond}
use mathlib.Core.List.{List, [], ◌∷◌, ◌++◌, append_assoc, append-nil}
use mathlib.Core.Option.{Option, none, some}
use mathlib.Core.Path.{◌≡◌, refl, sym, ap, ap₂, ◌∙◌}
use Prim.Native.Nat.{ℕ, suc, ◌+◌, ◌-◌, ◌*◌, ◌≤◌, ◌<◌}
use native.Mathlib.Nat.{mul-le-mul}
use native.Mathlib.Omega.{arith}
use lib.Dec.{eqb, leb}
use lib.ListN.{drop, drop_of_length-le, length, length-append, length-drop, replicate, take}
use lib.Seq.{drop_at, drop-cons, drop-drop, take_at}
use Rattle.language.specs.Calls.{stimulus_size}
use Rattle.language.specs.Description.{Bounds, Description, Facility, facility_at, span_of, word_count, word_length}
use Rattle.language.specs.Layout.{bytes_of, store_size_of, word_bytes, word_to_bytes}
use Rattle.language.specs.Reading.{zeroes}
use Rattle.language.specs.Store.{StoreWords, inputs_of, is_input, to_bytes, words_to}
use Rattle.language.specs.Trace.{bits_number, cons_word, line_words}
use Rattle.store_layout.proofs.ByteOrder.{length-word}
use Rattle.store_layout.specs.Layout.{with_word}
use Rattle.run_begin.proofs.SizeLaws.{input-stored, stored_bytes}
use Rattle.run_begin.proofs.StimulusLaws.{facility-here}
use Rattle.trace_input.specs.Stimulus.{Words', Worded, bytes_for, input_bits, line_bytes, took, took_meant}
use Rattle.std.specs.Prelude.{None, Some}

-- ---- Bytes in front of those that a line gives.

abbrev before : List ℕ → Option (List ℕ) → Option (List ℕ)
before X none = none
before X (some t) = some (X ++ t)

before-nothing : (o : Option (List ℕ)) → before [] o ≡ o
before-nothing none = refl
before-nothing (some t) = refl

before-both : (X Y : List ℕ) (o : Option (List ℕ)) → before X (before Y o) ≡ before (X ++ Y) o
before-both X Y none = refl
before-both X Y (some t) = ap some (sym (append_assoc X Y t))

-- ---- One facility.

module _ (f : Facility) (fs : List Facility) (bs : List ℕ) where
  -- An input.
  first_some : (x : ℕ) → bits_number (word_length f) 0 bs ≡ some x → line_bytes (f ∷ fs) bs ≡ before (word_to_bytes (word_length f) x) (line_bytes fs (drop (word_length f) bs))
  unfolding line_bytes line_words to_bytes words_to
  first_some x e = rw e (go (line_words fs (drop (word_length f) bs)))
    where
      go : (o : Option StoreWords) → bytes_for (f ∷ fs) (cons_word (some x) o) ≡ before (word_to_bytes (word_length f) x) (bytes_for fs o)
      go none = refl
      go (some s) = ap (λ (t : List ℕ). some (t ++ to_bytes fs s)) (append-nil (word_to_bytes (word_length f) x))

  first-none : bits_number (word_length f) 0 bs ≡ none → line_bytes (f ∷ fs) bs ≡ none
  unfolding line_bytes line_words
  first-none e = rw e refl

-- Any facility has at least one word.
span-some : (b : Bounds) → 1 ≤ span_of b
unfolding span_of
span-some b = go (leb b.first b.last)
  where
    go : (t : Bool) → 1 ≤ cond t (b.last - b.first + 1) (b.first - b.last + 1)
    go true = omega arith
    go false = omega arith

words-some : (f : Facility) → 1 ≤ word_count f
unfolding word_count
words-some f = go (eqb f.dimensions 2)
  where
    go : (t : Bool) → 1 ≤ cond t (span_of f.words) 1
    go true = span-some f.words
    go false = omega arith

pub bits-input : (f : Facility) (l : ℕ) → is_input f.kind ≡ true → l ≡ word_length f → l ≡ input_bits f
unfolding input_bits
bits-input f l e h = rw e h

pub bits-other : (f : Facility) → is_input f.kind ≡ false → 0 ≡ input_bits f
unfolding input_bits
bits-other f e = rw e refl

-- A word of no bits.
no_bytes : (x : ℕ) → word_to_bytes 0 x ≡ []
unfolding word_to_bytes word_bytes bytes_of
no_bytes x = refl

no-bits-some : (bs : List ℕ) → bits_number 0 0 bs ≡ none → ⊥
unfolding bits_number
no-bits-some bs q = let z : ◌≡◌ {A = ℕ} 0 1 = cc in omega arith

module _ (f : Facility) (fs : List Facility) where
  pub is-input : is_input f.kind ≡ true → input_bits f ≡ word_length f
  unfolding input_bits
  is-input e = rw e refl

  is-other : is_input f.kind ≡ false → input_bits f ≡ 0
  unfolding input_bits
  is-other e = rw e refl

  pub with-input : is_input f.kind ≡ true → inputs_of (f ∷ fs) ≡ f ∷ inputs_of fs
  unfolding inputs_of
  with-input e = rw e refl

  pub with-other : is_input f.kind ≡ false → inputs_of (f ∷ fs) ≡ inputs_of fs
  unfolding inputs_of
  with-other e = rw e refl

  facility-some : (bs : List ℕ) (x : ℕ) → bits_number (input_bits f) 0 bs ≡ some x
      → line_bytes (inputs_of (f ∷ fs)) bs ≡ before (word_to_bytes (input_bits f) x) (line_bytes (inputs_of fs) (drop (input_bits f) bs))
  facility-some bs x h = go (is_input f.kind) refl
    where
      go : (t : Bool) → is_input f.kind ≡ t → line_bytes (inputs_of (f ∷ fs)) bs ≡ before (word_to_bytes (input_bits f) x) (line_bytes (inputs_of fs) (drop (input_bits f) bs))
      go true e =
          ap (λ (gs : List Facility). line_bytes gs bs) (with-input e)
          ∙ (first_some f (inputs_of fs) bs x (ap (λ (l : ℕ). bits_number l 0 bs) (sym (is-input e)) ∙ h)
          ∙ ap (λ (l : ℕ). before (word_to_bytes l x) (line_bytes (inputs_of fs) (drop l bs))) (sym (is-input e)))
      go false e =
          ap (λ (gs : List Facility). line_bytes gs bs) (with-other e)
          ∙ (sym (ap (λ (X : List ℕ). before X (line_bytes (inputs_of fs) bs)) (no_bytes x) ∙ before-nothing (line_bytes (inputs_of fs) bs))
          ∙ ap (λ (l : ℕ). before (word_to_bytes l x) (line_bytes (inputs_of fs) (drop l bs))) (sym (is-other e)))

  facility-none : (bs : List ℕ) → bits_number (input_bits f) 0 bs ≡ none → line_bytes (inputs_of (f ∷ fs)) bs ≡ none
  facility-none bs h = go (is_input f.kind) refl
    where
      go : (t : Bool) → is_input f.kind ≡ t → line_bytes (inputs_of (f ∷ fs)) bs ≡ none
      go true e = ap (λ (gs : List Facility). line_bytes gs bs) (with-input e) ∙ first-none f (inputs_of fs) bs (ap (λ (l : ℕ). bits_number l 0 bs) (sym (is-input e)) ∙ h)
      go false e = absurd (no-bits-some bs (ap (λ (l : ℕ). bits_number l 0 bs) (sym (is-other e)) ∙ h))

  pub facility-room : word_bytes (input_bits f) + store_size_of (inputs_of fs) ≤ store_size_of (inputs_of (f ∷ fs))
  unfolding store_size_of word_bytes
  facility-room = go (is_input f.kind) refl
    where
      some_bytes : (n b : ℕ) → 1 ≤ n → b ≤ n * b
      some_bytes n b h = let m = mul-le-mul {n₁ = 1} {m₁ = b} {n₂ = n} {m₂ = b} h (omega arith) in omega (arith, m)

      go : (t : Bool) → is_input f.kind ≡ t → word_bytes (input_bits f) + store_size_of (inputs_of fs) ≤ store_size_of (inputs_of (f ∷ fs))
      go true e =
          let b = stored_bytes f (input-stored f.kind e) in
          let m = some_bytes (word_count f) (word_bytes (word_length f)) (words-some f) in
          rw (with-input e, is-input e) (omega (arith, b, m))
      go false e = rw (with-other e, is-other e) (omega arith)

-- ---- The loop: n facilities have been gone through, and the stimulus stands before `place` of the buffer C.

pub record Laid (d : Description) (line B C : List ℕ) (at place n : ℕ) : Type 0 where
  pub front : List ℕ
  pub bytes : C ≡ front ++ drop place B
  pub long : length front ≡ place
  pub same : line_bytes (inputs_of d.facilities) line ≡ before front (line_bytes (inputs_of (drop n d.facilities)) (drop at line))
  pub room : place + store_size_of (inputs_of (drop n d.facilities)) ≤ length B

pub laid-first : (d : Description) (line B : List ℕ) → stimulus_size d ≤ length B → Laid d line B B 0 0 0
unfolding stimulus_size
laid-first d line B h = record {
  front = [];
  bytes = refl;
  long = refl;
  same = sym (before-nothing (line_bytes (inputs_of d.facilities) line));
  room = omega (arith, h);
}

module _ {d : Description} {line B C : List ℕ} {at place n : ℕ} (p : Laid d line B C at place n) where
  laid-long : length C ≡ length B
  laid-long = omega (arith, ap length p.bytes, length-append p.front (drop place B), length-drop place B, p.long, p.room)

  module _ (f : Facility) (h : n < length d.facilities) (e : facility_at d n ≡ f) (l : ℕ) (g : l ≡ input_bits f) where
    abbrev fs : List Facility
    fs = drop (suc n) d.facilities

    here : drop n d.facilities ≡ f ∷ fs
    here = facility-here d n f h e

    room-here : place + word_bytes l + store_size_of (inputs_of fs) ≤ length B
    room-here =
        let r : place + store_size_of (inputs_of (f ∷ fs)) ≤ length B = rw here at p.room in
        let q : word_bytes l + store_size_of (inputs_of fs) ≤ store_size_of (inputs_of (f ∷ fs)) = rw g (facility-room f fs) in
        omega (arith, r, q)

    -- One facility more.
    pub laid_more : {C' : List ℕ} → Words' l line at C place C' → Laid d line B C' (at + l) (place + word_bytes l) (suc n)
    unfolding with_word
    laid_more {C'} w =
        let x : ℕ = w.number in
        let X : List ℕ = word_to_bytes l x in
        let a : take place C ≡ p.front = ap (take place) p.bytes ∙ take_at p.front (drop place B) place p.long in
        let b : drop (place + word_bytes l) C ≡ drop (place + word_bytes l) B =
        sym (drop-drop (word_bytes l) place C)
        ∙ (ap (drop (word_bytes l)) (ap (drop place) p.bytes ∙ drop_at p.front (drop place B) place p.long) ∙ drop-drop (word_bytes l) place B) in
        let m : bits_number (input_bits f) 0 (drop at line) ≡ some x = ap (λ (k : ℕ). bits_number k 0 (drop at line)) (sym g) ∙ w.is in
        record {
          front = p.front ++ X;
          bytes = w.bytes ∙ (ap₂ (λ (Y Z : List ℕ). Y ++ (X ++ Z)) a b ∙ sym (append_assoc p.front X (drop (place + word_bytes l) B)));
          long = length-append p.front X ∙ omega (arith, p.long, length-word l x);
          same =
              p.same
              ∙ (ap (before p.front) (ap (λ (gs : List Facility). line_bytes (inputs_of gs) (drop at line)) here
              ∙ (facility-some f fs (drop at line) x m
              ∙ (ap (λ (k : ℕ). before (word_to_bytes k x) (line_bytes (inputs_of fs) (drop k (drop at line)))) (sym g) ∙ ap (λ (bs : List ℕ). before X (line_bytes (inputs_of fs) bs)) (drop-drop l at line))))
              ∙ before-both p.front X (line_bytes (inputs_of fs) (drop (at + l) line)));
          room = room-here;
        }

    -- No word here.
    pub laid_stop : (C' : List ℕ) → Worded l line at C place false C' → line_bytes (inputs_of d.facilities) line ≡ none
    laid_stop C' w =
        let m : bits_number (input_bits f) 0 (drop at line) ≡ none = ap (λ (k : ℕ). bits_number k 0 (drop at line)) (sym g) ∙ w.1 (omega (arith, laid-long, room-here)) in
        p.same ∙ ap (before p.front) (ap (λ (gs : List Facility). line_bytes (inputs_of gs) (drop at line)) here ∙ facility-none f fs (drop at line) m)

  module _ (h : length d.facilities ≤ n) where
    last : line_bytes (inputs_of d.facilities) line ≡ before p.front (line_bytes [] (drop at line))
    unfolding inputs_of
    last = p.same ∙ ap (λ (gs : List Facility). before p.front (line_bytes (inputs_of gs) (drop at line))) (drop_of_length-le d.facilities h)

    -- The line ends where its last word does.
    pub laid-all : at ≡ length line → took_meant (Some place) C ≡ took (line_bytes (inputs_of d.facilities) line) B
    unfolding line_bytes line_words to_bytes
    laid-all q =
        let z : drop at line ≡ [] = drop_of_length-le line {i = at} (omega arith) in
        let s : line_bytes (inputs_of d.facilities) line ≡ some p.front = last ∙ (ap (λ (bs : List ℕ). before p.front (line_bytes [] bs)) z ∙ ap some (append-nil p.front)) in
        sym (ap (λ (o : Option (List ℕ)). took o B) s ∙ rw (p.long, p.bytes) refl)

    -- It goes on.
    pub laid-over : at < length line → line_bytes (inputs_of d.facilities) line ≡ none
    unfolding line_bytes line_words
    laid-over q = last ∙ ap (λ (bs : List ℕ). before p.front (line_bytes [] bs)) (drop-cons line at 0 q)

pub took-none : (B : List ℕ) (n : ℕ) {o : Option (List ℕ)} → n ≡ length B → o ≡ none → took_meant None (replicate n 0) ≡ took o B
took-none B n e h = sym (ap (λ (o : Option (List ℕ)). took o B) h ∙ ap (λ (m : ℕ). took_meant None (zeroes m)) (sym e))
