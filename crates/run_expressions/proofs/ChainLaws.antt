-- What the records of a chain are worth, and where it begins.
use mathlib.Core.Bool.{Bool, false, true}
use mathlib.Core.List.{List}
use mathlib.Core.Option.{none, some}
use mathlib.Core.Path.{◌≡◌, refl, sym, ap, ◌∙◌}
use Prim.Native.Nat.{ℕ, zero, suc, ◌+◌, ◌-◌, ◌<◌, ◌≤◌}
use native.Mathlib.Omega.{arith}
use borrow.Author.Tests.{eqb-true, ltb-false, ltb-true}
use denote.Enum.Declared.{tag_of}
use lib.Dec.{eqb, ltb}
use types.Run.{OneOf}
use Rattle.language.specs.Decode.{node_of}
use Rattle.language.specs.Description as D
use Rattle.language.specs.Description.{Description, node_at}
use Rattle.language.specs.Meaning.{Answer, Stores, after, eval_at, eval_below, eval_node}
use Rattle.language.specs.Value.{Value}
use Rattle.image_records.specs.contracts.nodes.Node.{the_type}
use Rattle.image_records.specs.Nodes.{meant}
use Rattle.image_records.specs.declared.nodes.Node.{Node}
use Rattle.image_records.specs.declared.nodes.Node.TheVariants as N
use Rattle.run_references.specs.Described.{Nodes}
use Rattle.run_references.proofs.EvalLaws.{eval-before, eval-node}
use Rattle.run_references.specs.Worth.{unanswered}
use Rattle.run_references.specs.declared.worth.Halted.{Halted}
use Rattle.run_references.specs.declared.worth.Halted.TheVariants as H
use Rattle.run_expressions.specs.Chains.{Chain, Follow, operand_of, operated_on}

none-some : {A : Type 0} {b : ℕ} → none ≡ some b → A
none-some e = absurd (let z : ◌≡◌ {A = ℕ} 0 1 = cc in omega arith)

-- Record n, whose operand is the record right before it.
pub link : (E : List ℕ) (n : ℕ) (nd : D.Node) (a : ℕ) → node_of E n ≡ nd → operand_of nd ≡ some a → eqb (a + 1) n ≡ true
    → (0 < n) × (operand_of (node_of E n) ≡ some (n - 1))
link E n nd a q o t =
    let e = eqb-true (a + 1) n t in
    let p : a ≡ n - 1 = omega arith in
    (omega arith, ap operand_of q ∙ (o ∙ ap some p))

-- With such a record a chain begins a record lower.
pub chain-lower : (E : List ℕ) (b n : ℕ) → Chain E b n → (0 < b) × (operand_of (node_of E b) ≡ some (b - 1)) → Chain E (b - 1) n
chain-lower E b n c l i h k = go (ltb i b) refl
  where
    go : (t : Bool) → ltb i b ≡ t → operand_of (node_of E (i + 1)) ≡ some i
    go true e =
        let u = ltb-true i b e in
        let z = l.0 in
        let p : i + 1 ≡ b = omega arith in
        let q : b - 1 ≡ i = omega arith in
        ap (λ (m : ℕ). operand_of (node_of E m)) p ∙ (l.1 ∙ ap some q)
    go false e = c i (ltb-false i b e) k

-- A record that is no such operator leaves what is in hand.
pub left-value : (ts : List ℕ) → (OneOf ts 8 → ⊥) → (OneOf ts 9 → ⊥) → (c : ℕ) (r : Node) → OneOf ts (tag_of the_type r) → (x : Value) → operated_on (meant c r) x ≡ Answer.is x
unfolding operated_on
left-value ts p q c (N.Constant l) k x = refl
left-value ts p q c (N.More m) k x = refl
left-value ts p q c (N.Whole f) k x = refl
left-value ts p q c (N.One f e) k x = refl
left-value ts p q c (N.Part f a b) k x = refl
left-value ts p q c (N.Two f e g) k x = refl
left-value ts p q c (N.WordPart f e a b) k x = refl
left-value ts p q c (N.Binary o a b) k x = refl
left-value ts p q c (N.Prefix o a) k x = absurd (p k)
left-value ts p q c (N.Cut o a m) k x = absurd (q k)
left-value ts p q c (N.FirstArm e) k x = refl
left-value ts p q c (N.NextArm a e) k x = refl
left-value ts p q c (N.Choice e a n) k x = refl
left-value ts p q c N.Broken k x = refl

left-worth : (f : Value → Answer) → ((x : Value) → f x ≡ Answer.is x) → (a : Answer) → after a f ≡ a
left-worth f h (Answer.is x) = h x
left-worth f h (Answer.stops s) = refl
left-worth f h (Answer.stuck s) = refl

module _ {X : Type 0} (S : Stores X) (d : Description) (x : X) where
  -- An operator with one operand makes its worth from the operand's.
  operator-worth : (ev : ℕ → Answer) (nd : D.Node) (a : ℕ) → operand_of nd ≡ some a → eval_node S d x ev nd ≡ after (ev a) (operated_on nd)
  unfolding operand_of operated_on eval_node
  operator-worth ev (D.constant v) a e = none-some e
  operator-worth ev (D.more m) a e = none-some e
  operator-worth ev (D.whole f) a e = none-some e
  operator-worth ev (D.one f g) a e = none-some e
  operator-worth ev (D.part f b) a e = none-some e
  operator-worth ev (D.two f g h) a e = none-some e
  operator-worth ev (D.word_part f g b) a e = none-some e
  operator-worth ev (D.binary k b c) a e = none-some e
  operator-worth ev (D.prefix k b) a e = let p : b ≡ a = cc in rw p
  operator-worth ev (D.cut k b c) a e = let p : b ≡ a = cc in rw p
  operator-worth ev (D.first_arm g) a e = none-some e
  operator-worth ev (D.next_arm b g) a e = none-some e
  operator-worth ev (D.choice g b n) a e = none-some e
  operator-worth ev D.Node.broken a e = none-some e

  -- Record n gives its worth from what is in hand: from its operand's worth, where it is such an operator, and from its own otherwise.
  pub operand-worth : (E : List ℕ) (n : ℕ) (nd : D.Node) → node_at d n ≡ node_of E n → node_at d n ≡ nd → (o : ℕ) → operand_of nd ≡ some o → (a : Answer) → a ≡ eval_below S d x n o
      → after a (operated_on (node_of E n)) ≡ eval_at S d x n
  operand-worth E n nd h q o e a p =
      ap (λ (m : D.Node). after a (operated_on m)) (sym h ∙ q)
      ∙ (ap (λ (w : Answer). after w (operated_on nd)) p ∙ (sym (operator-worth (eval_below S d x n) nd o e) ∙ sym (eval-node S d x n nd q)))

  pub kept-worth : (E : List ℕ) (n : ℕ) (nd : D.Node) → node_at d n ≡ node_of E n → node_at d n ≡ nd → ((y : Value) → operated_on nd y ≡ Answer.is y) → (a : Answer) → a ≡ eval_node S d x (eval_below S d x n) nd
      → after a (operated_on (node_of E n)) ≡ eval_at S d x n
  kept-worth E n nd h q l a p =
      ap (λ (m : D.Node). after a (operated_on m)) (sym h ∙ q) ∙ (left-worth (operated_on nd) l a ∙ (p ∙ sym (eval-node S d x n nd q)))

  pub chain-follows : (E : List ℕ) (b n : ℕ) → Nodes d E → Chain E b n → Follow E (eval_at S d x) b n
  chain-follows E b n h c i g k =
      eval-node S d x (i + 1) (node_of E (i + 1)) (h (i + 1))
      ∙ (operator-worth (eval_below S d x (i + 1)) (node_of E (i + 1)) i (c i g k) ∙ ap (λ (a : Answer). after a (operated_on (node_of E (i + 1)))) (eval-before S d x (i + 1) i (omega arith)))

-- A halt stays so, whatever was to follow.
pub halt-stays : (h : Halted) (f : Value → Answer) → after (unanswered h) f ≡ unanswered h
halt-stays (H.Stopped n) f = refl
halt-stays (H.Stuck s) f = refl

-- A worth that is no value is that of every record above it in the chain.
module _ (E : List ℕ) (worth : ℕ → Answer) (b n i : ℕ) (follow : Follow E worth b n) (g : b ≤ i) (h : Halted) (w : unanswered h ≡ worth i) where
  above : (k m : ℕ) → m ≡ i + k → m ≤ n → worth m ≡ unanswered h
  above zero m e l = let p : m ≡ i = omega arith in ap worth p ∙ sym w
  above (suc k) m e l =
      let p : m ≡ i + k + 1 = omega arith in
      ap worth p
      ∙ (follow (i + k) (omega arith) (omega arith) ∙ (ap (λ (v : Answer). after v (operated_on (node_of E (i + k + 1)))) (above k (i + k) refl (omega arith)) ∙ halt-stays h _))

  pub stays : i ≤ n → unanswered h ≡ worth n
  stays l = sym (above (n - i) n (omega arith) (omega arith))
