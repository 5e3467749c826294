-- Payments one after the other, and what words and records cost.
use mathlib.Core.Bool.{true}
use mathlib.Core.List.{List}
use mathlib.Core.Path.{◌≡◌, refl, sym, ap, ◌∙◌, subst}
use Prim.Native.Nat.{ℕ, suc, ◌+◌, ◌*◌, ◌≤◌}
use native.Mathlib.Omega.{arith}
use Rattle.language.specs.Describe.{Noted}
use Rattle.language.specs.Machine.{Counts, within_ceilings}
use Rattle.language.specs.declared.refusals.Refusal.{Refusal}
use Rattle.text_words.specs.declared.Word.{Word}
use Rattle.parse_step.specs.declared.Bearing.{Bearing}
use Rattle.parse_step.specs.declared.State.{State}
use Rattle.parse_step.specs.Course.{Seen, counts5, counts_of}
use Rattle.parse_step.specs.Gained.{Gained, Written, eased_state}
use Rattle.parse_step.specs.Pays.{Comes, Pays, Spends}
use Rattle.parse_step.specs.Taken.{Expected, Keeps, Kept, Passed, Refuses, Took, Went}
use Rattle.parse_step.proofs.Ceilings.{few-counted}
use Rattle.std.specs.Prelude.{Err, IsErr, Ok, is_err}
use Rattle.parse_step.specs.declared.Unread.TheVariants.{Full}
use Rattle.parse_step.specs.Answers.{Answer}
use Rattle.parse_step.specs.declared.Reached.{Reached}
use Rattle.parse_step.proofs.Answers.{at_full, at_ok, not_ok, ok_err, refused_full}

pub pays-refl : (s : State) → Pays 0 0 s s
pays-refl s = record { facilities = refl; operations = refl; states = refl; actions = refl; known = refl; counted = omega arith; ceiling = λ h. h; nodes = omega arith }

-- What the first leaves over helps to pay for the second.
pub pays-on : {a b c d p l : ℕ} {s t u : State} → Pays a b s t → Pays c d t u → a + c + l ≤ b + d + p → Pays p l s u
pays-on x y h = record {
  facilities = y.facilities ∙ x.facilities;
  operations = y.operations ∙ x.operations;
  states = y.states ∙ x.states;
  actions = y.actions ∙ x.actions;
  known = y.known ∙ x.known;
  counted = omega (arith, x.counted, y.counted);
  ceiling = λ k. y.ceiling (x.ceiling k);
  nodes = omega (arith, x.nodes, y.nodes, h);
}

-- A state that differs in nesting and in what was written.
pub nodes-paid : {s s' : State} {m n p l : ℕ} → s' ≡ record { facilities = s.facilities; operations = s.operations; states = s.states; counted = s.counted; nesting = m; nodes = n; actions = s.actions; known = s.known }
    → n + l ≤ s.nodes + p → Pays p l s s'
nodes-paid {s} e h = rw e (record { facilities = refl; operations = refl; states = refl; actions = refl; known = refl; counted = omega arith; ceiling = λ k. k; nodes = omega (arith, h) })

-- ---- Parsing that goes on.

module _ {text : List ℕ} {w : Word} {s : State} where
  pub begins : Seen text w → Comes text 0 0 s w s
  begins z = record { pays = pays-refl s; seen = z }

  pub goes_on : {a b c d : ℕ} {w₁ w₂ : Word} {s₁ s₂ : State} → (Seen text w → Comes text a b s w₁ s₁) → (Seen text w₁ → Comes text c d s₁ w₂ s₂) → Seen text w → Comes text (a + c) (b + d) s w₂ s₂
  goes_on f g z = let x = f z in let y = g x.seen in record { pays = pays-on x.pays y.pays (omega arith); seen = y.seen }

  -- With another sum that is enough.
  pub comes-as : {a b p l : ℕ} {w₁ : Word} {s₁ : State} → (Seen text w → Comes text a b s w₁ s₁) → a + l ≤ b + p → Seen text w → Comes text p l s w₁ s₁
  comes-as {s₁ = s₁} f h z = let x = f z in record { pays = pays-on x.pays (pays-refl s₁) (omega (arith, h)); seen = x.seen }

  -- Another nesting costs nothing.
  pub nests : {n : ℕ} {s' : State} → s' ≡ record { facilities = s.facilities; operations = s.operations; states = s.states; counted = s.counted; nesting = n; nodes = s.nodes; actions = s.actions; known = s.known }
      → Seen text w → Comes text 0 0 s w s'
  nests e z = record { pays = nodes-paid e (omega arith); seen = z }

  pub eases : Seen text w → Comes text 0 0 s w (eased_state s)
  eases z = nests refl z

-- ---- Answers.

module _ {text : List ℕ} {p : ℕ} {w : Word} {s : State} where
  pub spends-ok : {x : Reached} → (Seen text w → Comes text p 1 s x.next x.state) → Spends text p w s (Ok x)
  spends-ok f = record { done = λ d. at_ok (λ x. Seen text w → Comes text p 1 s x.next x.state) d f; full = λ d. ok_err d }

  pub spends-full : {z : State} → Pays p 0 s z → Spends text p w s (Err (Full z))
  spends-full f = record { done = λ d. ok_err (sym d); full = λ d h. at_full (Pays p 0 s) d f }

module _ {text : List ℕ} {p : ℕ} {w : Word} {s : State} {r : Answer} where
  -- An answer behind what came before it.
  pub spent : {a b c : ℕ} {w₁ : Word} {s₁ : State} → (Seen text w → Comes text a b s w₁ s₁) → Spends text c w₁ s₁ r → a + c ≤ b + p → Spends text p w s r
  spent f x h = record {
    done = λ d z. let y = f z in let v = x.done d y.seen in record { pays = pays-on y.pays v.pays (omega (arith, h)); seen = v.seen };
    full = λ d z. let y = f z in pays-on y.pays (x.full d y.seen) (omega (arith, h));
  }

  pub spent_seen : (Seen text w → Spends text p w s r) → Spends text p w s r
  spent_seen f = record { done = λ d z. (f z).done d z; full = λ d z. (f z).full d z }

  -- A refusal.
  pub unspent : IsErr r → ((z : State) → r ≡ Err (Full z) → ⊥) → Spends text p w s r
  unspent n m = record { done = λ d. not_ok n d; full = λ d. absurd (m _ d) }

  pub refusal-unspent : {n : Refusal} {w₁ : Word} → Refuses w₁ n r → Spends text p w s r
  refusal-unspent x = unspent (ap is_err x.refused) (λ z d. refused_full (sym x.refused ∙ d))

  pub not-took : {c : Counts} {w₁ : Word} {s₁ : State} → Took text w₁ c s₁ r → IsErr r → Spends text p w s r
  not-took t n = unspent n (λ z d. t.full d)

  pub unexpected : {k : ℕ} {g : Bearing} {w₁ : Word} {s₁ : State} → Expected text k g w₁ s₁ r → IsErr r → Spends text p w s r
  unexpected t n = unspent n (λ z d. t.full d)

-- ---- Words.

passes : {s s' : State} {m n l : ℕ} → within_ceilings (counts5 s m n) ≡ true → counts_of s' ≡ counts5 s m n → Kept s s' → s.counted ≤ m → l + 7 * s.counted ≤ 7 * m → Pays 0 l s s'
passes {s} {s'} {m} {n} f e k g h =
    let q : s'.counted ≡ m = ap (λ (c : Counts). c.counted) e in
    record {
      facilities = ap (λ (c : Counts). c.facilities) e;
      operations = ap (λ (c : Counts). c.operations) e;
      states = ap (λ (c : Counts). c.states) e;
      actions = k.actions;
      known = k.known;
      counted = omega (arith, q, g);
      ceiling = λ x. omega (arith, few-counted (counts5 s m n) f, q);
      nodes = omega (arith, q, k.nodes, h);
    }

module _ {text : List ℕ} {w : Word} {s : State} {n : ℕ} where
  passed-comes : {r : Reached} → Passed text w (counts5 s s.counted n) s r → Comes text 0 0 s r.next r.state
  passed-comes x = record { pays = passes x.fits x.counts x.kept (omega arith) (omega arith); seen = x.seen }

module _ {text : List ℕ} {w : Word} {s : State} {r : Answer} {n : ℕ} where
  -- A word that counts pays for seven records, another for none.
  pub counted-comes : Took text w (counts5 s (suc s.counted) n) s r → {r' : Reached} → r ≡ Ok r' → Seen text w → Comes text 0 7 s r'.next r'.state
  counted-comes t d z = let x = t.done d in record { pays = passes x.fits x.counts x.kept (omega arith) (omega arith); seen = x.seen }

  pub took-comes : Took text w (counts5 s s.counted n) s r → {r' : Reached} → r ≡ Ok r' → Seen text w → Comes text 0 0 s r'.next r'.state
  took-comes t d z = passed-comes (t.done d)

pub went-pays : {w next : Word} {s : State} {r : Answer} {n : ℕ} → Went w next (counts5 s (suc s.counted) n) s r → {r' : Reached} → r ≡ Ok r' → Pays 0 7 s r'.state
went-pays t d = let x = t.done d in passes x.fits x.counts x.kept (omega arith) (omega arith)

module _ {text : List ℕ} {w : Word} {s : State} {r : Answer} where
  pub expected-comes : {k : ℕ} {g : Bearing} → Expected text k g w s r → 3 ≤ k → {r' : Reached} → r ≡ Ok r' → Seen text w → Comes text 0 0 s r'.next r'.state
  expected-comes t l d z = passed-comes (t.done d z l).0

  pub expected-spends : {k : ℕ} {g : Bearing} → Expected text k g w s r → 3 ≤ k → Spends text 1 w s r
  expected-spends t l = record { done = λ d. comes-as (expected-comes t l d) (omega arith); full = λ d. absurd (t.full d) }

  pub kept-comes : Keeps text w s r → {r' : Reached} → r ≡ Ok r' → Seen text w → Comes text 0 0 s r'.next r'.state
  kept-comes t d z = let x = t.done d z in record { pays = subst (Pays 0 0 s) (sym x.state) (pays-refl s); seen = x.seen }

  -- Nothing more was read, or no room is left.
  pub stays-spends : r ≡ Ok (record { next = w; state = s }) → Spends text 1 w s r
  stays-spends e = rw e (spends-ok (comes-as {p = 1} begins (omega arith)))

  pub full-spends : r ≡ Err (Full s) → Spends text 0 w s r
  full-spends e = rw e (spends-full (pays-refl s))

-- ---- Records.

module _ {text : List ℕ} {next : Word} {s : State} {w w' : List ℕ} {r : Answer} where
  pub gained-spends : {bs ps : List ℕ} → Gained next s bs ps w w' r → Spends text 2 next s r
  gained-spends g = record {
    done = λ d z. let x = g.done d in record { pays = nodes-paid x.state (omega arith); seen = subst (Seen text) (sym x.word) z };
    full = λ d z. nodes-paid (g.kept d) (omega arith);
  }

  pub written-spends : {ns : List Noted} {size : ℕ} → Written ns size next s w w' r → size ≤ 6 → Spends text 7 next s r
  written-spends g h = record {
    done = λ d z. record { pays = nodes-paid (g.state d) (omega (arith, h)); seen = subst (Seen text) (sym (g.word d)) z };
    full = λ d z. nodes-paid (g.kept d) (omega (arith, g.most d, h));
  }
