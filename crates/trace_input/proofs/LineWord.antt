-- A word put into the stimulus byte by byte. Assumes nothing.
use mathlib.Core.Bool.{false}
use mathlib.Core.List.{List, [], ◌∷◌, ◌++◌, append_assoc}
use mathlib.Core.Logic.{◌⊎◌, inl, inr, ⊎_elim}
use mathlib.Core.Option.{none, some}
use mathlib.Core.Path.{◌≡◌, refl, sym, ap, ap₂, ◌∙◌}
use Prim.Native.Nat.{ℕ, suc, ◌+◌, ◌-◌, ◌*◌, ◌/◌, ◌%◌, ◌^◌, ◌≤◌, ◌<◌}
use native.Mathlib.Nat.{zero-mul}
use native.Mathlib.Omega.{arith}
use lib.ListN.{drop, length, length-append, length-drop, set, take, take-append-drop}
use lib.Seq.{drop_at, drop-drop, length-take-le, set_split, take_at}
use Rattle.language.specs.Layout.{bytes_of, word_bytes, word_to_bytes}
use Rattle.language.specs.Trace.{bits_number}
use Rattle.store_layout.proofs.Words.{length-with}
use Rattle.store_layout.specs.Layout.{with_word}
use Rattle.trace_input.specs.Stimulus.{Words', Worded}
use Rattle.trace_input.proofs.LineBits.{run_long, run_none, run-some}

two_digits : (n b x : ℕ) → x ≡ n * 256 + b → b < 256 → (x / 256 ≡ n) × (x % 256 ≡ b)
two_digits n b x e h = (omega arith, omega arith)

pub words_long : {l : ℕ} {line : List ℕ} {at : ℕ} {B : List ℕ} {place : ℕ} {C : List ℕ} → Words' l line at B place C → length C ≡ length B
words_long {l} {line} {at} {B} {place} {C} w = ap length w.bytes ∙ length-with B place l w.room w.number

-- After j bytes of the word: the number of the bits so far, those that are left, and the buffer C.
pub record Put (l : ℕ) (line : List ℕ) (at : ℕ) (B : List ℕ) (place : ℕ) (C : List ℕ) (rest left from to : ℕ) : Type 0 where
  pub number : ℕ
  pub j : ℕ
  pub bits : bits_number l 0 (drop at line) ≡ bits_number left number (drop from line)
  pub front : C ≡ take place B ++ (bytes_of j number ++ drop to B)
  pub size : length (bytes_of j number) ≡ j
  pub to_is : to ≡ place + j
  pub all : j + rest ≡ word_bytes l
  pub line-left : from + left ≡ at + l
  pub in-line : from ≤ length line
  pub enough : left ≤ 8 * rest
  pub little : 8 * rest < left + 8
  pub whole : (number ≡ 0) ⊎ (left ≡ 8 * rest)
  pub room : place + word_bytes l ≤ length B

module _ (l : ℕ) (line : List ℕ) (at : ℕ) (B : List ℕ) (place : ℕ) where
  pub put_first : at ≤ length line → place + word_bytes l ≤ length B → Put l line at B place B (word_bytes l) l at place
  unfolding bytes_of word_bytes
  put_first h r = record {
    number = 0;
    j = 0;
    bits = refl;
    front = sym (take-append-drop place B);
    size = refl;
    to_is = omega arith;
    all = omega arith;
    line-left = refl;
    in-line = h;
    enough = omega arith;
    little = omega arith;
    whole = inl refl;
    room = r;
  }

  module _ {C : List ℕ} {rest left from to : ℕ} (p : Put l line at B place C rest left from to) where
    pub put-long : length C ≡ length B
    put-long =
        let x = ap length p.front in
        let y = length-append (take place B) (bytes_of p.j p.number ++ drop to B) in
        let z = length-append (bytes_of p.j p.number) (drop to B) in
        let t = length-take-le place B (omega (arith, p.room)) in
        omega (arith, x, y, z, t, length-drop to B, p.size, p.to_is, p.all, p.room)

    -- The word is whole.
    pub put_all : rest ≤ 0 → Words' l line at B place C
    unfolding with_word word_to_bytes bits_number
    put_all h =
        let n : left ≡ 0 = omega (arith, p.enough) in
        let i : p.j ≡ word_bytes l = omega (arith, p.all) in
        let k : to ≡ place + word_bytes l = omega (arith, p.to_is) in
        record {
          number = p.number;
          is = p.bits ∙ ap (λ (m : ℕ). bits_number m p.number (drop from line)) n;
          bytes = p.front ∙ ap₂ (λ (m q : ℕ). take place B ++ (bytes_of m p.number ++ drop q B)) i k;
          in-line = omega (arith, p.line-left, p.in-line);
          room = p.room;
        }

    module _ (h : 0 < rest) where
      abbrev count : ℕ
      count = left - 8 * (rest - 1)

      split : left ≡ count + 8 * (rest - 1)
      split = omega (arith, p.enough, p.little)

      pub count_small : count ≤ 8
      count_small = omega (arith, p.enough)

      pub to_inside : to < length C
      to_inside = omega (arith, put-long, p.to_is, p.all, p.room, h)

      -- A byte has no bits.
      pub put-none : none ≡ bits_number count 0 (drop from line) → Worded l line at B place false C
      put-none e =
          (put-long, λ _. p.bits ∙ (ap (λ (n : ℕ). bits_number n p.number (drop from line)) split ∙ run_none count (8 * (rest - 1)) p.number 0 (drop from line) (sym e)))

      -- One byte more.
      module _ (b : ℕ) (e : some b ≡ bits_number count 0 (drop from line)) (small : b < 256) where
        pub put-in-line : from + count ≤ length line
        put-in-line = omega (arith, run_long count 0 (drop from line) (sym e), length-drop from line, p.in-line)

        abbrev new : ℕ
        new = p.number * 2 ^ count + b

        shifted : p.number * 2 ^ count ≡ p.number * 256
        shifted =
            ⊎_elim (λ z. ap (λ (n : ℕ). n * 2 ^ count) z ∙ (zero-mul (2 ^ count) ∙ ap (λ (n : ℕ). n * 256) (sym z)))
            (λ w. let k : count ≡ 8 = omega arith in ap (λ (n : ℕ). p.number * 2 ^ n) k)
            p.whole

        last_byte : bytes_of (suc p.j) new ≡ bytes_of p.j p.number ++ b ∷ []
        unfolding bytes_of
        last_byte =
            let q = two_digits p.number b new (ap (λ (n : ℕ). n + b) shifted) small in
            ap₂ (λ (n m : ℕ). bytes_of p.j n ++ m ∷ []) q.0 q.1

        stored : set C to b ≡ take place B ++ (bytes_of p.j p.number ++ (b ∷ drop (to + 1) B))
        stored =
            let X : List ℕ = take place B ++ bytes_of p.j p.number in
            let f : C ≡ X ++ drop to B = p.front ∙ sym (append_assoc (take place B) (bytes_of p.j p.number) (drop to B)) in
            let t = length-take-le place B (omega (arith, p.room)) in
            let n : length X ≡ to = length-append (take place B) (bytes_of p.j p.number) ∙ omega (arith, t, p.size, p.to_is) in
            let s : suc to ≡ to + 1 = omega arith in
            let a : take to C ≡ X = ap (take to) f ∙ take_at X (drop to B) to n in
            let d : drop (suc to) C ≡ drop (to + 1) B =
            ap (λ (m : ℕ). drop m C) s ∙ (sym (drop-drop 1 to C) ∙ (ap (λ (D : List ℕ). drop 1 D) (ap (drop to) f ∙ drop_at X (drop to B) to n) ∙ drop-drop 1 to B)) in
            set_split C to b to_inside
            ∙ (ap₂ (λ (Y Z : List ℕ). Y ++ b ∷ Z) a d ∙ append_assoc (take place B) (bytes_of p.j p.number) (b ∷ drop (to + 1) B))

        pub put-more : Put l line at B place (set C to b) (rest - 1) (8 * (rest - 1)) (from + count) (to + 1)
        put-more = record {
          number = new;
          j = suc p.j;
          bits =
              let z : p.number ≡ p.number + 0 = omega arith in
              p.bits
              ∙ (ap₂ (λ (n x : ℕ). bits_number n x (drop from line)) split z
              ∙ (run-some count (8 * (rest - 1)) p.number 0 (drop from line) (sym e) ∙ ap (bits_number (8 * (rest - 1)) new) (drop-drop count from line)));
          front =
              stored
              ∙ ap (λ (Y : List ℕ). take place B ++ Y) (sym (append_assoc (bytes_of p.j p.number) (b ∷ []) (drop (to + 1) B)) ∙ ap (λ (Y : List ℕ). Y ++ drop (to + 1) B) (sym last_byte));
          size = ap length last_byte ∙ (length-append (bytes_of p.j p.number) (b ∷ []) ∙ omega (arith, p.size));
          to_is = omega (arith, p.to_is);
          all = omega (arith, p.all);
          line-left = omega (arith, p.line-left, split);
          in-line = put-in-line;
          enough = omega arith;
          little = omega arith;
          whole = inr refl;
          room = p.room;
        }
