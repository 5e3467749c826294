-- The sequencing register takes the value of the state entered: what that asks of the value, and what it leaves. Assumes nothing.
use Rattle.std.specs.Prelude.{Bool, true, false, cond, ◌≡◌, refl, ℕ, ◌^◌, ◌<◌, eqb}
use Rattle.std.proofs.Math.Option.{Option, none, some}
use Rattle.std.proofs.Common.{ap, arith}
use borrow.Author.Tests.{eq-eqb, lt-ltb}
use Rattle.language.specs.Description.{Description, constant_in, facility_at, node_at, number_in, word_length}
use Rattle.language.specs.Meaning.{fitting, sides_differ, too_large}
use Rattle.language.specs.Step.{Entered, into, number_of, set_register, taking}
use Rattle.language.specs.Store.{StoreWords, set_word}
use Rattle.language.specs.Value.{Value}

module _ (d : Description) where
  -- A constant that is as long as the register, and whose number fits, is taken.
  pub takes : (f n : ℕ) (v : Value) (u : StoreWords) → constant_in (node_at d n) ≡ some v → v.length ≡ word_length (facility_at d f) → v.number < 2 ^ v.length
      → set_register d (some f) (some n) u ≡ into (set_word u f 0 v.number)
  unfolding fitting
  takes f n v u e l h = rw (e, eq-eqb v.length (word_length (facility_at d f)) l, lt-ltb v.number (2 ^ v.length) h)

  -- What the register took: the number that the state bears.
  pub record Took (f : ℕ) (v : Option ℕ) (u t : StoreWords) : Type 0 where
    pub number : ℕ
    pub borne : number_of d v ≡ some number
    pub same : set_word u f 0 number ≡ t

  pub took : (f : ℕ) (v : Option ℕ) (u t : StoreWords) → set_register d (some f) v u ≡ into t → Took f v u t
  took f none u t e = absurd (let z : ◌≡◌ {A = ℕ} 0 1 = cc in omega arith)
  took f (some n) u t e = go (constant_in (node_at d n)) refl e
    where
      by : (v : Value) → constant_in (node_at d n) ≡ some v → (a b : Bool)
          → cond a (cond b (into (set_word u f 0 v.number)) (Entered.stuck too_large)) (Entered.stuck sides_differ) ≡ into t → Took f (some n) u t
      by v q true true k = record { number = v.number; borne = ap number_in q; same = cc }
      by v q true false k = absurd (let z : ◌≡◌ {A = ℕ} 0 1 = cc in omega arith)
      by v q false b k = absurd (let z : ◌≡◌ {A = ℕ} 0 1 = cc in omega arith)

      go : (c : Option Value) → constant_in (node_at d n) ≡ c → taking d f u c ≡ into t → Took f (some n) u t
      go none q k = absurd (let z : ◌≡◌ {A = ℕ} 0 1 = cc in omega arith)
      go (some v) q k = by v q (eqb v.length (word_length (facility_at d f))) (fitting v) k
