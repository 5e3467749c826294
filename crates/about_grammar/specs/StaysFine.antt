-- The machine comes from a stack that can be completed to no other.
use Rattle.std.specs.Prelude.{Bool, true, false, cond, List, [], ◌∷◌, ◌++◌, ◌≡◌, refl, ℕ, eqb, drop}
use Rattle.std.proofs.Common.{subst}
use Rattle.language.specs.Building.{Built, name_of}
use Rattle.language.specs.Declaring.{tree_steps}
use Rattle.language.specs.Kinds.{a_name}
use Rattle.language.specs.Machine.{Alternative, Fed, Reading, Without, again, ask, choose, ease, feed, keep, leave, make, may, must, operand, took, word, wrong}
use Rattle.language.specs.Scan.{same}
use Rattle.language.specs.SectionWays.{rule_of}
use Rattle.language.specs.Words.{Fault, Word, kind_of}
use Rattle.about_grammar.specs.Ceilingless.{all}
use Rattle.about_grammar.specs.Courses.{Stack}
use Rattle.about_grammar.specs.Fine.{Fine, bad, head_of}
use Rattle.about_grammar.specs.FineWays.{all_pass_lem, all_pass, both_first, both-second, passed, passes}
use Rattle.about_grammar.specs.Following.{among}
use Rattle.language.specs.Tests.{both}

data FineFed : Fed Built → Type 0 where
  fine-took : (K : Stack) (r : Reading Built) → Fine K → FineFed (took K r)
  fine-wrong : (f : Fault) → FineFed (wrong f)

pub fine-drop : (K : Stack) → Fine K → Fine (drop 1 K)
fine-drop [] x = tt
fine-drop (word k g ∷ K) x = x
fine-drop (keep k ∷ K) x = x
fine-drop (again ∷ K) x = x
fine-drop (make f ∷ K) x = x
fine-drop (ease ∷ K) x = x
fine-drop (ask n ∷ K) x = x.1

none-among : (k : ℕ) → among k [] ≡ false
unfolding among
none-among k = refl

way-fine : (z : Bool) (P K : Stack) (bs : List ℕ) → passes P (cond z [] bs) ≡ true → among (head_of K) bs ≡ false → Fine K → Fine (P ++ cond z (drop 1 K) K)
way-fine true P K bs e f x = passed P (drop 1 K) [] e (none-among (head_of (drop 1 K))) (fine-drop K x)
way-fine false P K bs e f x = passed P K bs e f x

tested : {x y : Fed Built} (z : Bool) → FineFed x → FineFed y → FineFed (cond z x y)
tested true a b = a
tested false a b = b

choose-fine : (ways : List (Alternative Built)) (bs : List ℕ) → all_pass ways bs ≡ true → (w : Word) (K : Stack) (r : Reading Built) (o : Fed Built) → among (head_of K) bs ≡ false → Fine K → FineFed o → FineFed (choose tree_steps all ways w K r o)
unfolding choose all_pass
choose-fine [] bs e w K r o f x y = y
choose-fine (a ∷ ways) bs e w K r o f x y =
    tested (eqb (kind_of w) a.on) (fine-took _ _ (way-fine a.instead a.to K bs (both_first (passes a.to (cond a.instead [] bs)) (all_pass ways bs) e) f x)) (choose-fine ways bs (both-second (passes a.to (cond a.instead [] bs)) (all_pass ways bs) e) w K r o f x y)

leave-fine : (o : Without Built) (w : Word) (r : Reading Built) (f : Reading Built → Fed Built) → ((q : Reading Built) → FineFed (f q)) → FineFed (leave tree_steps all o w r f)
leave-fine must w r f x = fine-wrong _
leave-fine (may s) w r f x = x _
leave-fine (operand s) w r f x = x _

feed-fine : (K : Stack) → Fine K → (w : Word) (r : Reading Built) → FineFed (feed tree_steps all (rule_of tree_steps) K w r)
unfolding feed
feed-fine [] x w r = fine-wrong _
feed-fine (word k g ∷ K) x w r = tested (eqb (kind_of w) k) (fine-took _ _ x) (fine-wrong _)
feed-fine (keep k ∷ K) x w r = tested (eqb (kind_of w) k) (fine-took _ _ x) (fine-wrong _)
feed-fine (again ∷ K) x w r = tested (both (eqb (kind_of w) a_name) (same (name_of w) (tree_steps.declared_name r.built))) (fine-took _ _ x) (fine-wrong _)
feed-fine (make f ∷ K) x w r = feed-fine K x w _
feed-fine (ease ∷ K) x w r = feed-fine K x w _
feed-fine (ask n ∷ K) x w r = choose-fine (rule_of tree_steps n).ways (bad n) (all_pass_lem n) w K r _ x.0 x.1 (leave-fine (rule_of tree_steps n).without w r (λ q. feed tree_steps all (rule_of tree_steps) K w q) (λ q. feed-fine K x.1 w q))

taken_fine : {K : Stack} {r : Reading Built} → FineFed (took K r) → Fine K
taken_fine (fine-took K r x) = x

pub stays-fine : (K : Stack) (w : Word) (r : Reading Built) (L : Stack) (q : Reading Built) → feed tree_steps all (rule_of tree_steps) K w r ≡ took L q → Fine K → Fine L
stays-fine K w r L q e x = taken_fine (subst FineFed e (feed-fine K x w r))
