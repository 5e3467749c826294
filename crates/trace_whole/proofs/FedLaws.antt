-- A byte of standard input is one byte more of a line, or its end; the end of the input ends the last line. Assumes nothing.
use Rattle.std.proofs.Common.{◌≡◌, ℕ, suc, ◌+◌, ◌*◌, ◌%◌, ◌^◌, ◌<◌, ◌≤◌, Bool, true, false, List, [], ◌∷◌, ◌++◌, length, get_or, take, drop, sym, refl, ap, ◌∙◌, append_assoc, append-nil, add-one, arith, length-append, take-append-drop, length-take-le, take_all, take-suc}
use Rattle.language.specs.Calls.{stimulus_size}
use Rattle.language.specs.Characters.{line_feed}
use Rattle.language.specs.Decode.{decode}
use Rattle.language.specs.Image.{passes}
use Rattle.language.specs.InputLines.{lines_of}
use Rattle.language.specs.Layout.{store_size_of}
use Rattle.language.specs.Scan.{bytes}
use Rattle.language.specs.Store.{inputs_of}
use Rattle.language.specs.Trace.{end_line, line_words, run_lines}
use Rattle.trace_input.proofs.LineCut.{alone, held-count, held-nothing, line-ends, line-left}
use Rattle.trace_input.proofs.LongLines.{ended_same, left-same}
use Rattle.trace_input.specs.Lines.{Held, held_room, without_return}
use Rattle.trace_line.proofs.TurnLaws.{numbered-short}
use Rattle.trace_line.specs.Turns.{Turned, goes_on, turn_room}
use Rattle.trace_output.proofs.AddsLaws.{adds-as, adds-both, adds_none}
use Rattle.trace_output.specs.Adds.{Adds}
use Rattle.trace_whole.proofs.LineLaws.{small-stimulus}
use Rattle.trace_whole.specs.Fed.{Ended, Fed, Ran}
use Rattle.trace_whole.specs.declared.input.State.{State}

-- A line counts for the words that it has.
module _ {image l m : List ℕ} {number : ℕ} {S R : List ℕ} {on : Bool} {S' R' B : List ℕ} {at : ℕ} {C : List ℕ} {end : ℕ} where
  turned_as : line_words (inputs_of (decode image).facilities) l ≡ line_words (inputs_of (decode image).facilities) m → Turned image l number S R on S' R' B at C end → Turned image m number S R on S' R' B at C end
  unfolding run_lines
  turned_as e t = record {
    text = t.text;
    adds = t.adds;
    short = t.short;
    same = λ done ls h. rw (← e) (t.same done ls h);
  }

-- A line buffer of this size has room for every stimulus.
enough : (image L : List ℕ) → passes image ≡ true → held_room ≤ length L → 8 * store_size_of (inputs_of (decode image).facilities) + 2 ≤ length L
unfolding stimulus_size
enough image L passed room = omega (arith, small-stimulus image passed)

next-number : (number done : ℕ) → number ≡ (done + 1) % 2 ^ 64 → suc done < 2 ^ 64 → number ≡ suc done
next-number number done is h = omega arith

-- ---- A byte.

module _ {image l : List ℕ} (s : State) where
  -- It is part of the line.
  pub fed-more : {b n : ℕ} {S R L B : List ℕ} → Held (l ++ b ∷ []) L n → Fed image l b s S R B (record { held = n; done = s.done; on = true; end = s.end }) S R L B
  fed-more {b} {n} {S} {R} {L} {B} e = record {
    text = [];
    adds = adds_none B s.end;
    short = omega arith;
    line = l ++ b ∷ [];
    held = e;
    count = λ h. omega (arith, length-append l (b ∷ []));
    same = λ h rest. ap (λ (X : List ℕ). run_lines image (decode image) (lines_of X) s.done S R) (sym (append_assoc l (b ∷ []) rest));
  }

  -- It ends the line.
  pub fed-line : passes image ≡ true → {b n : ℕ} {L m : List ℕ} → b ≡ line_feed → Held l L n → held_room ≤ length L → m ≡ without_return (take n L) → (r : State) → r.held ≡ 0 → r.done ≡ (s.done + 1) % 2 ^ 64 → {S R S' R' B C : List ℕ}
      → Turned image m r.done S R r.on S' R' B s.end C r.end → Fed image l b s S R B r S' R' L C
  fed-line passed {b} {n} {L} {m} at-end e room whole r none is {S} {R} x =
      let t = turned_as (ap (line_words (inputs_of (decode image).facilities)) whole ∙ ended_same (decode image).facilities e (enough image L passed room)) x in
      record {
        text = t.text;
        adds = t.adds;
        short = t.short;
        line = [];
        held = rw none (held-nothing L);
        count = λ h. omega (arith, next-number r.done s.done is h);
        same = λ h rest.
            ap (λ (c : ℕ). run_lines image (decode image) (lines_of (l ++ c ∷ rest)) s.done S R) at-end
            ∙ (ap (λ (ls : List (List ℕ)). run_lines image (decode image) ls s.done S R) (line-ends rest e.unended) ∙ t.same s.done (lines_of rest) (next-number r.done s.done is h));
      }

-- ---- The end of the input.

none_of : (m : List ℕ) → length m ≡ 0 → m ≡ []
none_of [] q = refl
none_of (b ∷ m) q = absurd (omega arith)

alone-so : (m : List ℕ) → 0 < length m → alone m ≡ m ∷ []
alone-so [] q = absurd (omega arith)
alone-so (b ∷ m) q = refl

module _ {image l : List ℕ} (s : State) where
  -- After an LF, or at the first byte.
  pub ended-none : {L S R B C : List ℕ} {n end : ℕ} → Held l L n → n ≡ 0 → held_room ≤ length L → s.done < 2 ^ 64 → Adds (end_line s.done) B s.end C end → Ended image l s S R B C end
  unfolding run_lines lines_of turn_room bytes
  ended-none {L} {S} {R} e z room h a =
      let nothing : l ≡ [] = none_of l (omega (arith, held-count e)) in
      record {
        text = end_line s.done;
        adds = a;
        short = omega (arith, numbered-short (bytes "end ") s.done h);
        same = λ _. ap (λ (X : List ℕ). run_lines image (decode image) (lines_of X) s.done S R) nothing;
      }

  module _ (passed : passes image ≡ true) {L m : List ℕ} {n : ℕ} (e : Held l L n) (some : 0 < n) (room : held_room ≤ length L) (whole : m ≡ take n L) (r : State) (is : r.done ≡ (s.done + 1) % 2 ^ 64) {S R S' R' B C : List ℕ} (t : Turned image m r.done S R r.on S' R' B s.end C r.end) where
    last_line : s.done + length l < 2 ^ 64 → run_lines image (decode image) (lines_of l) s.done S R ≡ t.text ++ goes_on r.on (end_line r.done)
    unfolding run_lines turned_as
    last_line h =
        let u = turned_as (ap (line_words (inputs_of (decode image).facilities)) whole ∙ left-same (decode image).facilities e (enough image L passed room)) t in
        ap (λ (ls : List (List ℕ)). run_lines image (decode image) ls s.done S R) (line-left e.unended ∙ alone-so l (omega (arith, held-count e))) ∙ u.same s.done [] (next-number r.done s.done is (omega (arith, held-count e)))

    -- The run ends with the last line.
    pub ended-last : r.on ≡ false → Ended image l s S R B C r.end
    ended-last o = record {
      text = t.text;
      adds = t.adds;
      short = omega (arith, t.short);
      same = λ h. last_line h ∙ rw o (append-nil t.text);
    }

    -- It goes on to the end.
    pub ended-on : {D : List ℕ} {end : ℕ} → r.on ≡ true → r.done < 2 ^ 64 → Adds (end_line r.done) C r.end D end → Ended image l s S R B D end
    unfolding bytes
    ended-on o h a = record {
      text = t.text ++ end_line r.done;
      adds = adds-both t.adds a;
      short = omega (arith, t.short, length-append t.text (end_line r.done), numbered-short (bytes "end ") r.done h);
      same = λ k. last_line k ∙ rw o refl;
    }

-- ---- All bytes, one after the other.

pub ran-none : {image S R B L : List ℕ} {s : State} → s.held ≡ 0 → s.done ≡ 0 → s.on ≡ true → s.end ≡ 0 → Ran image [] S R B s S R L B
ran-none {image} {S} {R} {B} {L} {s} h d o e = record {
  text = [];
  adds = rw e (adds_none B 0);
  line = [];
  held = rw h (held-nothing L);
  count = omega arith;
  same = λ rest. rw (o, d) refl;
}

ran-more : {image X S R B S' R' L C S'' R'' L'' C'' : List ℕ} {b : ℕ} (s : State) {r : State} → (p : Ran image X S R B s S' R' L C) → s.on ≡ true → suc (length X) < 2 ^ 64
    → Fed image p.line b s S' R' C r S'' R'' L'' C'' → Ran image (X ++ b ∷ []) S R B r S'' R'' L'' C''
ran-more {image} {X} {S} {R} {S' = S'} {R' = R'} {b = b} s p o h f = record {
  text = p.text ++ f.text;
  adds = adds-both p.adds f.adds;
  line = f.line;
  held = f.held;
  count = omega (arith, f.count small, p.count, length-append X (b ∷ []));
  same = λ rest.
      ap (λ (Y : List ℕ). run_lines image (decode image) (lines_of Y) 0 S R) (append_assoc X (b ∷ []) rest)
      ∙ (p.same (b ∷ rest)
      ∙ (ap (λ (on : Bool). p.text ++ goes_on on (run_lines image (decode image) (lines_of (p.line ++ b ∷ rest)) s.done S' R')) o
      ∙ (ap (λ (Y : List ℕ). p.text ++ Y) (f.same small rest) ∙ sym (append_assoc p.text f.text _))));
}
  where
    small : suc s.done < 2 ^ 64
    small = omega (arith, p.count, h)

module _ (image input : List ℕ) {S R B S' R' L C : List ℕ} (i : ℕ) (s : State) (p : Ran image (take i input) S R B s S' R' L C) where
  pub ran-next : {S'' R'' L'' C'' : List ℕ} {r : State} → i < length input → length input < 2 ^ 64 → s.on ≡ true → Fed image p.line (get_or input i 0) s S' R' C r S'' R'' L'' C'' → Ran image (take (i + 1) input) S R B r S'' R'' L'' C''
  ran-next h k o f =
      let q = ran-more s p o (omega (arith, length-take-le i input (omega arith))) f in
      rw (add-one i, take-suc input i 0 h) q

  -- The run ended before the input.
  pub ran-off : s.on ≡ false → Adds (run_lines image (decode image) (lines_of input) 0 S R) B 0 C s.end
  ran-off o =
      adds-as p.adds
      (sym (ap (λ (Y : List ℕ). run_lines image (decode image) (lines_of Y) 0 S R) (sym (take-append-drop i input)) ∙ (p.same (drop i input) ∙ rw o (append-nil p.text))))

  -- It went on to the end of the input.
  pub ran_on : {D : List ℕ} {end : ℕ} → length input ≤ i → length input < 2 ^ 64 → s.on ≡ true → Ended image p.line s S' R' C D end → Adds (run_lines image (decode image) (lines_of input) 0 S R) B 0 D end
  ran_on h k o e =
      let all = take_all i input h in
      adds-as (adds-both p.adds e.adds)
      (sym (ap (λ (Y : List ℕ). run_lines image (decode image) (lines_of Y) 0 S R) (sym (append-nil (take i input) ∙ all))
      ∙ (p.same []
      ∙ (ap (λ (on : Bool). p.text ++ goes_on on (run_lines image (decode image) (lines_of (p.line ++ [])) s.done S' R')) o
      ∙ (ap (λ (Y : List ℕ). p.text ++ run_lines image (decode image) (lines_of Y) s.done S' R') (append-nil p.line) ∙ ap (λ (Y : List ℕ). p.text ++ Y) (e.same (omega (arith, p.count, ap length all))))))))
