-- With a sequencing register every state bears a value, and it fits the register. Assumes nothing.
use Rattle.std.specs.Prelude.{Bool, true, false, cond, List, [], ◌∷◌, ◌≡◌, eqb, leb, get_or, length}
use Rattle.std.proofs.Math.Option.{Option, none, some}
use Rattle.std.proofs.Math.Path.{refl, ap}
use Rattle.std.proofs.Common.{◌∙◌, arith, eqb-true, pow_pos}
use Prim.Native.Nat.{ℕ, suc, ◌+◌, ◌-◌, ◌^◌, ◌<◌}
use Rattle.language.specs.Description as D
use Rattle.language.specs.Description.{Description, Facility, Node, constant_in, constant_value, facility_at, is_sequencing, no_facility, no_places, node_at, number_in, or_no_bits, sequencing_from, sequencing_of, span_of, state_at, word_count, word_length}
use Rattle.language.specs.Order.{start_at, start_below, start_node}
use Rattle.language.specs.declared.refusals.Refusal.TheVariants.{BadSequencing}
use Rattle.language.specs.Rules.{missing, repeated, sequencing_length, value_faults}
use Rattle.language.specs.Step.{into, number_of, set_register, state_number}
use Rattle.language.specs.Store.{StoreWords, set_word}
use Rattle.language.specs.Value.{Value}
use Rattle.language.specs.Words.{Position}
use Rattle.about_running.specs.Entering.{takes}
use Rattle.about_running.specs.Judged.{unless-none}
use Rattle.about_running.specs.LegalForm.{Legal, left-of}
use Rattle.about_running.specs.Starts.{constant-fits}
use Rattle.language.specs.Tests.{both}

-- A facility has a word at least.
pub some_word : (f : Facility) → 0 < word_count f
unfolding word_count span_of
some_word f = go (eqb f.dimensions 2) (leb f.words.first f.words.last)
  where
    go : (a b : Bool) → 0 < cond a (cond b (f.words.last - f.words.first + 1) (f.words.first - f.words.last + 1)) 1
    go true true = omega arith
    go true false = omega arith
    go false b = omega arith

-- A word has a bit at least.
pub some_bits : (f : Facility) → 0 < word_length f
unfolding word_length span_of
some_bits f = go (eqb f.dimensions 0) (leb f.bits.first f.bits.last)
  where
    go : (a b : Bool) → 0 < cond a 1 (cond b (f.bits.last - f.bits.first + 1) (f.bits.first - f.bits.last + 1))
    go true b = omega arith
    go false true = omega arith
    go false false = omega arith

-- A record whose value has bits is a constant.
pub constant-there : (x : Node) → 0 < (constant_value x).length → constant_in x ≡ some (constant_value x)
constant-there x h = go (constant_in x) h
  where
    go : (c : Option Value) → 0 < (or_no_bits c).length → c ≡ some (or_no_bits c)
    go none k = absurd (omega arith)
    go (some v) k = refl

-- The sequencing register is one of the facilities.
pub record Found (fs : List Facility) (k : ℕ) : Type 0 where
  pub inside : k < length fs
  pub sequencing : is_sequencing (get_or fs k no_facility).kind ≡ true

pub found_from : (n m : ℕ) (fs : List Facility) → sequencing_from n fs ≡ some m → (k : ℕ) × (m ≡ n + k) × Found fs k
unfolding sequencing_from
found_from n m [] e = absurd (let z : ◌≡◌ {A = ℕ} 0 1 = cc in omega arith)
found_from n m (f ∷ fs) e = go (λ q. found_from (suc n) m fs q) (is_sequencing f.kind) refl e
  where
    go : (sequencing_from (suc n) fs ≡ some m → (k : ℕ) × (m ≡ suc n + k) × Found fs k) → (b : Bool) → is_sequencing f.kind ≡ b → cond b (some n) (sequencing_from (suc n) fs) ≡ some m
        → (k : ℕ) × (m ≡ n + k) × Found (f ∷ fs) k
    go later true q k = let z : n ≡ m = cc in (0, omega arith, record { inside = omega arith; sequencing = q })
    go later false q k =
        let y = later k in
        (suc y.0, omega (arith, y.1), record { inside = omega (arith, y.2.inside); sequencing = y.2.sequencing })

-- A constant in order fits its length.
node-fits : (d : Description) (n s : ℕ) (x : Node) → start_node d (start_below d n) n x ≡ some s → (constant_value x).number < 2 ^ (constant_value x).length
unfolding start_node
node-fits d n s (D.constant v) e = constant-fits d n v.length v.number s e
node-fits d n s (D.more m) e = pow_pos 0
node-fits d n s (D.whole f) e = pow_pos 0
node-fits d n s (D.one f a) e = pow_pos 0
node-fits d n s (D.part f b) e = pow_pos 0
node-fits d n s (D.two f a b) e = pow_pos 0
node-fits d n s (D.word_part f a b) e = pow_pos 0
node-fits d n s (D.binary k a b) e = pow_pos 0
node-fits d n s (D.prefix k a) e = pow_pos 0
node-fits d n s (D.cut k a c) e = pow_pos 0
node-fits d n s (D.first_arm a) e = pow_pos 0
node-fits d n s (D.next_arm a b) e = pow_pos 0
node-fits d n s (D.choice a b c) e = pow_pos 0
node-fits d n s D.Node.broken e = pow_pos 0

module _ (d : Description) (L : Legal d) (f : ℕ) (is-register : sequencing_of d ≡ some f) where
  length-so : sequencing_length d no_places ≡ some (word_length (facility_at d f))
  unfolding sequencing_length
  length-so = rw is-register refl

  -- The value of a state without fault is there and as long as the register.
  there-so : (v : Option ℕ) (before : List ℕ) (at : Position) (l : Option ℕ) → l ≡ some (word_length (facility_at d f)) → missing d no_places l v ≡ false
      → value_faults d no_places l before at v ≡ [] → (n : ℕ) × (v ≡ some n) × ((constant_value (node_at d n)).length ≡ word_length (facility_at d f))
  there-so v before at none q m e = absurd (let z : ◌≡◌ {A = ℕ} 0 1 = cc in omega arith)
  there-so none before at (some l) q m e = absurd (let z : ◌≡◌ {A = ℕ} 0 1 = cc in omega arith)
  there-so (some n) before at (some l) q m e =
      let v : Value = constant_value (node_at d n) in
      let z : l ≡ word_length (facility_at d f) = cc in
      let y = unless-none (both (eqb v.length l) (cond (repeated d no_places v.number before) false true)) at BadSequencing e in
      (n, refl, eqb-true v.length l (left-of (eqb v.length l) _ y) ∙ z)

  -- The value that state s bears.
  pub record Bears (s : ℕ) : Type 0 where
    pub at : ℕ
    pub stands : (state_at d s).value ≡ some at
    pub number : ℕ
    pub is : (constant_value (node_at d at)).number ≡ number
    pub borne : state_number d s ≡ some number
    pub fits : number < 2 ^ word_length (facility_at d f)
    pub enters : (u : StoreWords) → set_register d (some f) (state_at d s).value u ≡ into (set_word u f 0 number)

  pub bears-value : (s : ℕ) → s < length d.states → Bears s
  unfolding state_number start_at
  bears-value s h =
      let r = L.states s h in
      let v = there-so (state_at d s).value r.0 r.1.0.value (sequencing_length d no_places) length-so r.1.1.there r.1.1.value-right in
      let n : ℕ = v.0 in
      let o = L.values s n h v.1 in
      let x : Value = constant_value (node_at d n) in
      let b : x.number < 2 ^ x.length = node-fits d n o.0 (node_at d n) o.1 in
      let c : constant_in (node_at d n) ≡ some x = constant-there (node_at d n) (omega (arith, v.2, some_bits (facility_at d f))) in
      record {
        at = n;
        stands = v.1;
        number = x.number;
        is = refl;
        borne = ap (number_of d) v.1 ∙ ap number_in c;
        fits = rw v.2 at b;
        enters = λ u. ap (λ (y : Option ℕ). set_register d (some f) y u) v.1 ∙ takes d f n x u c v.2 b;
      }

-- Without a sequencing register no state bears one.
pub none-borne : (d : Description) (L : Legal d) (s : ℕ) → s < length d.states → sequencing_of d ≡ none → (state_at d s).value ≡ none
unfolding sequencing_length
none-borne d L s h q = let r = L.states s h in go r.0 r.1.0.value (state_at d s).value (rw q at r.1.1.value-right)
  where
    go : (before : List ℕ) (at : Position) (v : Option ℕ) → value_faults d no_places none before at v ≡ [] → v ≡ none
    go before at none e = refl
    go before at (some n) e = absurd (let z : ◌≡◌ {A = ℕ} 0 1 = cc in omega arith)
