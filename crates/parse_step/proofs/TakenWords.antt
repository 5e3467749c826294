-- A word taken by the machine.
use mathlib.Core.Bool.{Bool, true, false, cond}
use mathlib.Core.List.{List, ◌∷◌}
use mathlib.Core.Path.{◌≡◌, refl, sym, ap, ◌∙◌, subst}
use Prim.Native.Nat.{ℕ, ◌+◌, ◌≤◌}
use borrow.Author.Tests.{eq-eqb, ne_eqb}
use lib.Dec.{eqb}
use lib.ListN.{length}
use Rattle.language.specs.Building.{Built, keep_word}
use Rattle.language.specs.Declaring.{tree_steps}
use Rattle.language.specs.Kinds.{a_constant, colon}
use Rattle.language.specs.Machine.{Bearing, Counts, Parsed, after, bears, feed, finish, keep, nested, reading, refused, run, taken, took, within_ceilings, word, wrong}
use Rattle.language.specs.declared.refusals.Refusal.TheVariants.{CeilingPassed, NoContinuation}
use Rattle.language.specs.SectionWays.{rule_of}
use Rattle.language.specs.Words as L
use Rattle.language.specs.Words.{fault}
use Rattle.text_words.specs.declared.Fault.{Fault}
use Rattle.text_words.specs.declared.Word.{Word}
use Rattle.text_words.specs.Meaning.{Next, faulted, positioned}
use Rattle.parse_step.specs.declared.Bearing as B
use Rattle.parse_step.specs.declared.State.{State}
use Rattle.parse_step.specs.Course.{Seen, Stack, ahead, bearing_of, behind, counts5, counts_of, kind_no, runs, runs_on}
use Rattle.parse_step.specs.Taken.{Expected, Follows, Keeps, KeptOn, Passed, Refuses, Took, Went, WentOn, after_word, colon_first, constant_word, ends_ahead}
use Rattle.parse_step.proofs.Looking.{View, begun, constant-ahead, ended, next-ahead, next-seen, sign-ahead, view}
use Rattle.parse_step.specs.declared.Unread.TheVariants.{Refused}
use Rattle.parse_step.specs.Answers.{Answer}
use Rattle.parse_step.specs.declared.Reached.{Reached}
use Rattle.parse_step.proofs.Answers.{at_ok, ok_err, refused_full, same-fault}
use Rattle.std.specs.Prelude.{Err, Ok}

-- The machine has taken the word with these counts, unless they pass a ceiling.
abbrev pub on_taken : List ℕ → Word → Stack → Built → Counts → Parsed Built
on_taken text w K b c = cond (within_ceilings c) (runs_on text K (behind text w) b c) (refused (fault (positioned w.at) CeilingPassed))

pub taken-on : (text : List ℕ) (p : L.Position) (K : Stack) (vs : List L.Word) (b : Built) (c : Counts)
    → after tree_steps within_ceilings (rule_of tree_steps) (taken tree_steps within_ceilings p K b c) (λ M q. run tree_steps within_ceilings (rule_of tree_steps) M vs (length text) q)
    ≡ cond (within_ceilings c) (runs_on text K vs b c) (refused (fault p CeilingPassed))
unfolding runs_on
taken-on text p K vs b c = go (within_ceilings c)
  where
    go : (z : Bool) → after tree_steps within_ceilings (rule_of tree_steps) (cond z (took K (reading b c)) (wrong (fault p CeilingPassed))) (λ M q. run tree_steps within_ceilings (rule_of tree_steps) M vs (length text) q)
        ≡ cond z (run tree_steps within_ceilings (rule_of tree_steps) K vs (length text) (reading b c)) (refused (fault p CeilingPassed))
    go true = refl
    go false = refl

module _ {text : List ℕ} {w : Word} {c : Counts} {s : State} where
  pub took-done : {r : Reached} → Passed text w c s r → Seen text w → (K : Stack) (b : Built) → on_taken text w K b c ≡ runs text K r.next b r.state
  took-done p z K b = rw (p.fits, p.words z, p.counts)

  pub took-refused : {r : Answer} → Took text w c s r → (f : Fault) → r ≡ Err (Refused f) → (K : Stack) (b : Built) → on_taken text w K b c ≡ refused (faulted f)
  took-refused t f e K b = rw ((t.refused f e).0, (t.refused f e).1)

-- ---- A word of a kind that must come.

pub word-taken : (text : List ℕ) (w : Word) (k : ℕ) (g : Bearing) → kind_no w.kind ≡ k → 3 ≤ k → (K : Stack) (b : Built) (c : Counts)
    → runs_on text (word k g ∷ K) (ahead text w) b c ≡ on_taken text w K b (nested (bears g c.nesting) c)
unfolding runs_on run feed
word-taken text w k g e h K b c =
    rw (sign-ahead text w k e h, eq-eqb k k refl) (taken-on text (positioned w.at) K (behind text w) b (nested (bears g c.nesting) c))

pub word-stuck : (text : List ℕ) (w : Word) (k : ℕ) (g : Bearing) → Seen text w → (kind_no w.kind ≡ k → ⊥) → (K : Stack) (b : Built) (c : Counts)
    → runs_on text (word k g ∷ K) (ahead text w) b c ≡ refused (fault (positioned w.at) NoContinuation)
unfolding runs_on run feed finish
word-stuck text w k g z h K b c = go (view text w z)
  where
    go : View text w → runs_on text (word k g ∷ K) (ahead text w) b c ≡ refused (fault (positioned w.at) NoContinuation)
    go (ended e p q) = rw (e, p)
    go (begun v e q p) = rw (e, q, ne_eqb (kind_no w.kind) k h, p)

-- ---- What the code makes of it.

pub followed : {text : List ℕ} {w n : Word} (end : ℕ) → (w.at.place + w.size ≤ length text → end ≡ w.at.place + w.size) → Next text end n → Follows text w n
followed {w = w} end g x = record { words = λ z. next-ahead w end (g z.next.within) x; seen = next-seen end x }

pub went_on : {w n : Word} {s : State} {c : Counts} (counted nesting : ℕ) → within_ceilings c ≡ true → c ≡ counts5 s counted nesting → nesting ≤ 24
    → Went w n c s (Ok (record { next = n; state = record { facilities = s.facilities; operations = s.operations; states = s.states; counted = counted; nesting = nesting; nodes = s.nodes; actions = s.actions; known = s.known } }))
went_on {w} {n} {s} {c} counted nesting f e d = record {
  done = λ q. at_ok (WentOn w n c s) q (record { fits = f; counts = sym e; deep = d; kept = record { nodes = refl; actions = refl; known = refl }; word = refl });
  refused = λ g q. ok_err q;
  full = λ q. ok_err q;
}

pub went-not : {w n : Word} {c : Counts} {s : State} {r : Answer} → Refuses w CeilingPassed r → within_ceilings c ≡ false → Went w n c s r
went-not x e = record {
  done = λ d. ok_err (sym d ∙ x.refused);
  refused = λ f d. (e, ap faulted (same-fault (sym d ∙ x.refused)) ∙ x.is);
  full = λ d. refused_full (sym x.refused ∙ d);
}

pub took-next : {text : List ℕ} {w n : Word} {c : Counts} {s : State} {r : Answer} → Went w n c s r → Follows text w n → Took text w c s r
took-next {text} {w} {n} {c} {s} {r} x y = record { done = λ d. passes (x.done d); refused = x.refused; full = x.full }
  where
    passes : {r' : Reached} → WentOn w n c s r' → Passed text w c s r'
    passes p = record {
      fits = p.fits;
      counts = p.counts;
      deep = p.deep;
      kept = p.kept;
      words = λ z. ap (ahead text) p.word ∙ y.words z;
      seen = subst (Seen text) (sym p.word) y.seen;
    }

pub expected-taken : {text : List ℕ} {w : Word} {s : State} {r : Answer} (kind : ℕ) (g : B.Bearing) → kind_no w.kind ≡ kind → Took text w (after_word false g s) s r → Expected text kind g w s r
expected-taken {text} {w} {s} kind g e t = record {
  came = λ h. t;
  missed = λ h. absurd (h e);
  done = λ d z h. (t.done d, λ K x. word-taken text w kind (bearing_of g) e h K x (counts_of s) ∙ took-done (t.done d) z K x);
  refused = λ f d z h K x. word-taken text w kind (bearing_of g) e h K x (counts_of s) ∙ took-refused t f d K x;
  full = t.full;
}

pub expected-not : {text : List ℕ} {w : Word} {s : State} {r : Answer} (kind : ℕ) (g : B.Bearing) → (kind_no w.kind ≡ kind → ⊥) → Refuses w NoContinuation r → Expected text kind g w s r
expected-not {text} {w} {s} kind g h x = record {
  came = λ e. absurd (h e);
  missed = λ k. x;
  done = λ d z l. ok_err (sym d ∙ x.refused);
  refused = λ f d z l K b. word-stuck text w kind (bearing_of g) z h K b (counts_of s) ∙ ap refused (sym (ap faulted (same-fault (sym d ∙ x.refused)) ∙ x.is));
  full = λ d. refused_full (sym x.refused ∙ d);
}

pub same-counts : (s : State) {a b m n : ℕ} → a ≡ m → b ≡ n → counts5 s a b ≡ counts5 s m n
same-counts s p q = rw (p, q)

-- ---- A constant that is kept.

keep-stuck : (text : List ℕ) (w : Word) → Seen text w → (kind_no w.kind ≡ a_constant → ⊥) → (K : Stack) (b : Built) (c : Counts)
    → runs_on text (keep a_constant ∷ K) (ahead text w) b c ≡ refused (fault (positioned w.at) NoContinuation)
unfolding runs_on run feed finish
keep-stuck text w z h K b c = go (view text w z)
  where
    go : View text w → runs_on text (keep a_constant ∷ K) (ahead text w) b c ≡ refused (fault (positioned w.at) NoContinuation)
    go (ended e p q) = rw (e, p)
    go (begun v e q p) = rw (e, q, ne_eqb (kind_no w.kind) a_constant h, p)

pub keeps : {text : List ℕ} {w n : Word} {s : State} → kind_no w.kind ≡ a_constant → Follows text w n → Keeps text w s (Ok (record { next = n; state = s }))
unfolding runs_on run feed
keeps {text} {w} {n} {s} e x = record {
  done = λ d z. at_ok (KeptOn text w s) d (record { course = course z; kind = e; state = refl; seen = x.seen });
  refused = λ f d. ok_err d;
  full = λ d. ok_err d;
}
  where
    course : Seen text w → (K : Stack) (b : Built) → runs text (keep a_constant ∷ K) w b s ≡ runs text K n (keep_word (constant_word w) b) s
    course z K b = rw (constant-ahead text w z e, x.words z)

pub keeps-not : {text : List ℕ} {w : Word} {s : State} {r : Answer} → (kind_no w.kind ≡ a_constant → ⊥) → Refuses w NoContinuation r → Keeps text w s r
keeps-not {text} {w} {s} {r} h x = record {
  done = λ d z. ok_err (sym d ∙ x.refused);
  refused = λ f d z K b. keep-stuck text w z h K b (counts_of s) ∙ ap refused (sym (ap faulted (same-fault (sym d ∙ x.refused)) ∙ x.is));
  full = λ d. refused_full (sym x.refused ∙ d);
}

-- ---- A constant and a colon.

pub ends-come : (text : List ℕ) (w n : Word) → kind_no w.kind ≡ a_constant → Follows text w n → Seen text w → eqb (kind_no n.kind) colon ≡ ends_ahead (ahead text w)
ends-come text w n e x z = rw (constant-ahead text w z e, ← x.words z) (go (view text n x.seen))
  where
    go : View text n → eqb (kind_no n.kind) colon ≡ colon_first (ahead text n)
    go (ended p q k) = rw (p, k)
    go (begun v p k q) = rw (p, k)

pub ends-not : (text : List ℕ) (w : Word) → (kind_no w.kind ≡ a_constant → ⊥) → Seen text w → false ≡ ends_ahead (ahead text w)
ends-not text w h z = go (view text w z)
  where
    go : View text w → false ≡ ends_ahead (ahead text w)
    go (ended p q k) = rw p
    go (begun v p k q) = rw (p, k, ne_eqb (kind_no w.kind) a_constant h)
