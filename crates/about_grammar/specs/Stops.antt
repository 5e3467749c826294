-- Where the machine stops: the words that it took, and why the next one ends it.
use Rattle.std.specs.Prelude.{Bool, true, ℕ, ◌-◌}
use mathlib.Core.List.{List, [], ◌∷◌, ◌++◌}
use Rattle.std.proofs.Math.Path.{◌≡◌, ap, refl, subst}
use Rattle.std.proofs.Common.{◌∙◌, arith}
use Rattle.language.specs.Machine.{Ask, Counts, Fed, Parsed, Reading, Rule, Sym, after, feed, finish, nested, parsed, refused, run, took, wrong}
use Rattle.language.specs.declared.refusals.Refusal.TheVariants.{CeilingPassed, NoContinuation}
use Rattle.language.specs.BuildSteps.{Steps}
use Rattle.language.specs.Words.{Position, Fault, Word, fault, position, word_at}
use Rattle.about_grammar.specs.Ceilingless.{Alike, AlikeAtEnd, Passes, all, feed-alike, finish-alike, parsed-both, past, past-at-end, refused-both, stuck-both, taken-both}

pub refused-one : {B : Type 0} {f g : Fault} → ◌≡◌ {A = Parsed B} (refused f) (refused g) → f ≡ g
refused-one e = cc

pub not-refused : {B : Type 0} {b : B} {f : Fault} {A : Type 0} → ◌≡◌ {A = Parsed B} (parsed b) (refused f) → A
not-refused {A = A} e = absurd (let z : ◌≡◌ {A = ℕ} 0 1 = cc in omega arith)

module _ {B : Type 0} (S : Steps B) (fits : Counts → Bool) (Good : Counts → Type 0) (good : (c : Counts) → fits c ≡ true → Good c) (eased : (c : Counts) → Good c → Good (nested (c.nesting - 1) c)) (rules : Ask → Rule B) (Nice : List (Sym B) → Type 0) (nice : (K : List (Sym B)) (w : Word) (r : Reading B) (L : List (Sym B)) (q : Reading B) → feed S all rules K w r ≡ took L q → Nice K → Nice L) where
  -- With the stack L and the reading q, before the words that are left.
  pub data Why (L : List (Sym B)) (q : Reading B) (end : ℕ) : List Word → Fault → Type 0 where
    -- the word cannot stand
    no_way : (w : Word) (vs : List Word) → feed S all rules L w q ≡ wrong (fault (word_at w) NoContinuation) → Why L q end (w ∷ vs) (fault (word_at w) NoContinuation)
    -- the words are too few
    too_short : finish S all rules L end q ≡ refused (fault (position end) NoContinuation) → Why L q end [] (fault (position end) NoContinuation)
    -- a ceiling is passed
    too_much : (vs : List Word) (p : Position) → Passes S fits rules end L q vs p → Why L q end vs (fault p CeilingPassed)

  -- The words are taken one after the other without ceilings, and their counts are good.
  pub data Chain : List (Sym B) → Reading B → List Word → List (Sym B) → Reading B → Type 0 where
    no_word : {K : List (Sym B)} {r : Reading B} → Chain K r [] K r
    a_word : {K L M : List (Sym B)} {r q s : Reading B} {us : List Word} (w : Word) → feed S all rules K w r ≡ took L q → Good q.counts → Chain L q us M s → Chain K r (w ∷ us) M s

  pub record Stopped (K : List (Sym B)) (r : Reading B) (ws : List Word) (end : ℕ) (f : Fault) : Type 0 where
    pub us : List Word
    pub left : List Word
    pub split : ws ≡ us ++ left
    pub stack : List (Sym B)
    pub sofar : Reading B
    pub within : Good sofar.counts
    pub reach : (vs : List Word) (end₁ : ℕ) → run S fits rules K (us ++ vs) end₁ r ≡ run S fits rules stack vs end₁ sofar
    pub reach-all : (vs : List Word) (end₁ : ℕ) → run S all rules K (us ++ vs) end₁ r ≡ run S all rules stack vs end₁ sofar
    pub chain : Chain K r us stack sofar
    pub why : Why stack sofar end left f
    pub nice-stack : Nice stack

  here : {K : List (Sym B)} {r : Reading B} {ws : List Word} {end : ℕ} {f : Fault} → Good r.counts → Nice K → Why K r end ws f → Stopped K r ws end f
  here {K} {r} {ws} i v y = record { us = []; left = ws; split = refl; stack = K; sofar = r; within = i; reach = λ vs end₁. refl; reach-all = λ vs end₁. refl; chain = no_word; why = y; nice-stack = v }

  at-end : (K : List (Sym B)) (r : Reading B) → Good r.counts → Nice K → (end : ℕ) (f : Fault) (x y : Parsed B) → finish S all rules K end r ≡ y
      → AlikeAtEnd S fits rules Good good eased K r end x y → x ≡ refused f → Stopped K r [] end f
  at-end K r i v end f x y e (parsed-both s g) h = not-refused h
  at-end K r i v end f x y e refused-both h = subst (λ (g : Fault). Stopped K r [] end g) (refused-one h) (here i v (too_short e))
  at-end K r i v end f x y e (past-at-end p z o) h = subst (λ (g : Fault). Stopped K r [] end g) (refused-one h) (here i v (too_much [] p o))

  pub find : (ws : List Word) (K : List (Sym B)) (r : Reading B) → Good r.counts → Nice K → (end : ℕ) (f : Fault) → run S fits rules K ws end r ≡ refused f → Stopped K r ws end f
  unfolding run
  find [] K r i v end f h = at-end K r i v end f (finish S fits rules K end r) (finish S all rules K end r) refl (finish-alike S fits rules Good good eased K end r i) h
  find (w ∷ ws) K r i v end f h = go (find ws) (feed S fits rules K w r) (feed S all rules K w r) refl refl (feed-alike S fits rules Good good eased w ws end K r i) h
    where
      go : ((K : List (Sym B)) (r : Reading B) → Good r.counts → Nice K → (end : ℕ) (f : Fault) → run S fits rules K ws end r ≡ refused f → Stopped K r ws end f)
          → (x y : Fed B) → feed S fits rules K w r ≡ x → feed S all rules K w r ≡ y → Alike S fits rules Good good eased K r w ws end x y → after S fits rules x (λ L q. run S fits rules L ws end q) ≡ refused f → Stopped K r (w ∷ ws) end f
      go rec x y d e (taken-both L q g) t =
          let s = rec L q g (nice K w r L q e v) end f t in
          record {
            us = w ∷ s.us;
            left = s.left;
            split = ap (λ (l : List Word). w ∷ l) s.split;
            stack = s.stack;
            sofar = s.sofar;
            within = s.within;
            reach = λ vs end₁. ap (λ (z : Fed B). after S fits rules z (λ L q. run S fits rules L (s.us ++ vs) end₁ q)) d ∙ s.reach vs end₁;
            reach-all = λ vs end₁. ap (λ (z : Fed B). after S all rules z (λ L q. run S all rules L (s.us ++ vs) end₁ q)) e ∙ s.reach-all vs end₁;
            chain = a_word w e g s.chain;
            why = s.why;
            nice-stack = s.nice-stack;
          }
      go rec x y d e stuck-both t = subst (λ (g : Fault). Stopped K r (w ∷ ws) end g) (refused-one t) (here i v (no_way w ws e))
      go rec x y d e (past p z o) t = subst (λ (g : Fault). Stopped K r (w ∷ ws) end g) (refused-one t) (here i v (too_much (w ∷ ws) p o))

  -- Where the words are accepted.
  pub record Finished (K : List (Sym B)) (r : Reading B) (ws : List Word) (end : ℕ) (b : B) : Type 0 where
    pub stack : List (Sym B)
    pub sofar : Reading B
    pub within : Good sofar.counts
    pub chain : Chain K r ws stack sofar
    pub finished : finish S fits rules stack end sofar ≡ parsed b

  pub finishes : (ws : List Word) (K : List (Sym B)) (r : Reading B) → Good r.counts → (end : ℕ) (b : B) → run S fits rules K ws end r ≡ parsed b → Finished K r ws end b
  unfolding run
  finishes [] K r i end b h = record { stack = K; sofar = r; within = i; chain = no_word; finished = h }
  finishes (w ∷ ws) K r i end b h = go (finishes ws) (feed S fits rules K w r) (feed S all rules K w r) refl (feed-alike S fits rules Good good eased w ws end K r i) h
    where
      never : {f : Fault} {A : Type 0} → ◌≡◌ {A = Parsed B} (refused f) (parsed b) → A
      never e = absurd (let z : ◌≡◌ {A = ℕ} 0 1 = cc in omega arith)

      go : ((K : List (Sym B)) (r : Reading B) → Good r.counts → (end : ℕ) (b : B) → run S fits rules K ws end r ≡ parsed b → Finished K r ws end b)
          → (x y : Fed B) → feed S all rules K w r ≡ y → Alike S fits rules Good good eased K r w ws end x y → after S fits rules x (λ L q. run S fits rules L ws end q) ≡ parsed b → Finished K r (w ∷ ws) end b
      go rec x y e (taken-both L q g) t = let s = rec L q g end b t in record { stack = s.stack; sofar = s.sofar; within = s.within; chain = a_word w e g s.chain; finished = s.finished }
      go rec x y e stuck-both t = never t
      go rec x y e (past p z o) t = never t
